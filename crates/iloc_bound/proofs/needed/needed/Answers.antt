use Rattle.iloc_bound.proofs.Common.{◌≡◌, ℕ, ◌+◌, ◌-◌, ◌/◌, List, length, drop, ap, ◌∙◌, ap₂, arith, get_or_read, IsNonDecreasingBy-from_sort, needed}
use Rattle.iloc_bound.proofs.SortedTails.{needed_from, needed_moved}
use Rattle.iloc_bound.proofs.needed.needed.Goals as goal

pub loop-i-preserved : goal.loop-i-preserved
loop-i-preserved c =
    let first : ℕ = c.args.first in
    let width : ℕ = c.args.width in
    let xs : List ℕ = c.sort_unstable.new.self.items in
    let k : ℕ = c.loop-i.i - 1 in
    let step = needed_from first width c.requires.width xs k
    (IsNonDecreasingBy-from_sort (λ x. x) xs c.sort_unstable.ensures.sorted) (omega arith) in
    let back : c.loop-i.i ≡ k + 1 = omega arith in
    let so_far = c.loop-i.invariant ∙ ap (λ n. needed first width (drop n xs)) back in
    let read = get_or_read xs k c.index.result.now (omega arith) c.index.ensures 0 in
    let size : c.len.result ≡ length xs = omega arith in
    let rows : (c.len.result - 1 - k) / c.from.result ≡ (length xs - 1 - k) / width =
    ap₂ (λ n w. (n - 1 - k) / w) size c.from.ensures in
    omega (arith, c.max-most.ensures, c.from-in-loop-i.ensures)

pub returns : goal.returns
returns c =
    let first : ℕ = c.args.first in
    let width : ℕ = c.args.width in
    let end : c.loop-i.i ≡ 0 = omega arith in
    c.loop-i.invariant ∙ ap (λ n. needed first width (drop n c.sort_unstable.new.self.items)) end
    ∙ needed_moved first width c.args.tails.now.items c.sort_unstable.new.self.items c.sort_unstable.ensures.permutation
