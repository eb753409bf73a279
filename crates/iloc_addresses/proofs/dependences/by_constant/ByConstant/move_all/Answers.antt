use Rattle.iloc_addresses.proofs.ByConstants.{left_at, moves_more}
use Rattle.iloc_addresses.proofs.dependences.by_constant.ByConstant.move_all.Goals as goal

pub loop-ops-preserved : goal.loop-ops-preserved
loop-ops-preserved c = record {
  moves = moves_more c.args.self.now c.loop-ops.self _ c.in-Some.field-0-0 c.in-Some.ops _ _ _ c.loop-ops.invariant.moves
      c.loop-ops.invariant.left c.in-Some.ensures.value c.in-Some.ensures.removal c.in_ok-append.ensures.items;
  left = λ q i there. c.loop-ops.invariant.left q i
      (left_at c.loop-ops.self.ops c.pop_first.new.self c.in-Some.field-0-0 (c.in-Some.ensures.updates.0) q i there);
}
