use Rattle.std.proofs.Common.{◌∙◌}
use Rattle.iloc_text.proofs.stream.parts.PartedText.take_all.Goals as goal

pub loop-alloc-preserved : goal.loop-alloc-preserved
loop-alloc-preserved g c = record {
  rest = c.take_first.ensures.rest ∙ c.loop-alloc.invariant.rest;
  begun = λ text begun. c.in_ok-take_first.ensures.begun text (c.loop-alloc.invariant.begun text begun);
}
