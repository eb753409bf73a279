use Rattle.std.proofs.Common.{◌≡◌, length, max, arith}
use Rattle.iloc_comparison.proofs.Places.{same_outputs}
use Rattle.iloc_comparison.proofs.difference.first_output.Goals as goal

pub returns : goal.returns
returns c =
    let count : c.loop-index.index ≡ max (length c.args.got.now) (length c.args.wanted.now) = omega arith in
    same_outputs c.args.got.now c.args.wanted.now c.loop-index.index count c.loop-index.invariant
