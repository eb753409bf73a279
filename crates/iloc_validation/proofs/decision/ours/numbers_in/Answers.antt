use Rattle.iloc_validation.proofs.Common.{◌≤◌, length, refl, ap, ◌∙◌, one_known, zero_known, row_at, number_in}
use Rattle.iloc_facts.proofs.ReadingRows.{slot_known}
use Rattle.iloc_validation.proofs.NotedSlots.{length-with_number, all_noted}
use Rattle.iloc_validation.proofs.SlotNumbers.{row_numbered}
use Rattle.iloc_validation.proofs.decision.ours.numbers_in.Goals as goal

pub note-requires : goal.note-requires
note-requires c = record {
  known = slot_known _ _ _ c.loop-c.invariant.size (rw c.rows-row-items.ensures.rows
      (zero_known c.args.schedule.now.ops c.args.schedule.now.rows c.loop-c.c c.ops.ensures.table));
}

pub note-requires-in-loop-c : goal.note-requires-in-loop-c
note-requires-in-loop-c c = record {
  known = slot_known _ _ _ (ap length c.note.ensures ∙ length-with_number _ _ _ ∙ c.loop-c.invariant.size)
      (rw c.rows-row-items.ensures.rows
      (one_known c.args.schedule.now.ops c.args.schedule.now.rows c.loop-c.c c.ops.ensures.table));
}

pub loop-c-preserved : goal.loop-c-preserved
loop-c-preserved c = record {
  size =
      ap length c.note-in-loop-c.ensures ∙ length-with_number _ _ _ ∙ ap length c.note.ensures ∙ length-with_number _ _ _
      ∙ c.loop-c.invariant.size;
  noted = λ same.
      row_numbered c.args.others.now.ops c.args.schedule.now.ops c.args.others.now.rows c.args.schedule.now.rows
      c.ops.ensures.table same c.loop-c.c c.rows-row-items.result.now (row_at c.rows-row-items.result.now c.loop-c.c)
      c.row_at-other.result c.loop-c.numbers.items c.note.new.numbers.items c.note-in-loop-c.new.numbers.items
      c.rows-row-items.ensures.rows refl
      (c.row_at-other.ensures ∙ ap (λ rs. row_at rs c.loop-c.c) c.rows.ensures.rows)
      (c.loop-c.invariant.noted same) c.note.ensures c.note-in-loop-c.ensures;
}

pub returns-clause-each : goal.returns-clause-each
returns-clause-each c = λ same.
    let past : length c.args.schedule.now.rows ≤ c.loop-c.c = rw c.rows-row-items.ensures.rows at c.loop-c-test.false in
    all_noted c.args.schedule.now.ops c.args.schedule.now.rows c.ops.ensures.table
    (number_in c.args.others.now.rows c.args.schedule.now.rows) c.loop-c.c c.loop-c.numbers.items past
    (c.loop-c.invariant.noted same)
