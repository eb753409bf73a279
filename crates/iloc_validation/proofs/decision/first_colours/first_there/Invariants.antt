use Rattle.iloc_validation.proofs.Common.{length, issued_before, ArePlaces, first_there, AreNotedBefore}
use Rattle.iloc_validation.proofs.decision.first_colours.first_there.Given as goal

abbrev pub invariant-loop-row : goal.invariant-loop-row
invariant-loop-row l = record {
  noted : AreNotedBefore (length l.schedule.ops) (first_there l.labels l.schedule.ops l.schedule.rows) l.schedule.rows l.row-index
      l.colours.items;
  places : ArePlaces l.schedule.ops (issued_before l.schedule.rows l.row-index) l.places;
}
