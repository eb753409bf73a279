use Rattle.iloc_sched.proofs.Common.{length, ap, refl, ◌+◌, ◌∙◌, arith, take_all}
use Rattle.iloc_sched.proofs.KeptEdges.OneMoreInTables.{more_renamed, more_taken, size_more}
use Rattle.iloc_sched.proofs.KeptEdges.SoundGraphs.{book_is_sound, filled_by_the_book}
use Rattle.iloc_sched.proofs.tables.Tables.open_renamed.Goals as goal

pub push-requires-clause-renamed : goal.push-requires-clause-renamed
push-requires-clause-renamed c =
    more_renamed c.args.ops.now _ c.loop-op.op-index _ c.requires.renamed c.loop-op.invariant.ops c.loop-op-test.true

pub loop-op-preserved : goal.loop-op-preserved
loop-op-preserved c = record {
  filling = c.in_ok-push.ensures.filling;
  ops = more_taken c.args.ops.now _ _ c.loop-op.op-index _ c.loop-op.invariant.ops c.loop-op-test.true c.in_ok-push.ensures.ops;
  size = ap length c.in_ok-push.ensures.ops ∙ size_more _ _ ∙ ap (λ n. n + 1) c.loop-op.invariant.size;
  latencies = c.push.ensures.latencies ∙ c.loop-op.invariant.latencies;
  capacity = c.push.ensures.capacity _ c.loop-op.invariant.capacity;
}

pub returns-clause-sound : goal.returns-clause-sound
returns-clause-sound c =
    let is = filled_by_the_book _ _ c.loop-op.invariant.filling in
    book_is_sound _ refl (record { kinds = is.kinds; own = is.own; graph = is.graph })

pub returns-clause-ops : goal.returns-clause-ops
returns-clause-ops c = c.loop-op.invariant.ops ∙ take_all c.loop-op.op-index c.args.ops.now (omega arith)
