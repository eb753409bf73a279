use Rattle.std.proofs.Common.{◌≡◌, length, arith}
use Rattle.iloc_comparison.proofs.Places.{same_memories}
use Rattle.iloc_comparison.proofs.difference.lowest_word.Goals as goal

pub returns : goal.returns
returns c =
    let count : c.loop-number.number ≡ length c.args.got.now = omega arith in
    let size : length c.args.got.now ≡ length c.args.wanted.now = omega arith in
    same_memories c.args.got.now c.args.wanted.now c.loop-number.number count size c.loop-number.invariant
