use Rattle.iloc_lint.proofs.Common.{◌≡◌, ℕ, ◌≤◌, List, length, take, sym, arith, length-take-le, take_all}
use Rattle.iloc_lint.proofs.listing.front_of.Goals as goal

-- What is shown of a line.
whole_shown : (bytes : List ℕ) → length bytes ≤ 64 → bytes ≡ take 64 bytes
whole_shown bytes short = sym (take_all 64 bytes short)

pub slice_bounds-result-end : goal.slice_bounds-result-end
slice_bounds-result-end c =
    let long = c.if-bytes-gt-MOST_SHOWN.true in sym (length-take-le 64 c.args.bytes.now (omega arith))

pub returns : goal.returns
returns c = whole_shown c.args.bytes.now c.if-bytes-gt-MOST_SHOWN.false
