use Rattle.iloc_validation.proofs.Common.{◌≤◌, length, one_known, zero_known, first_there}
use Rattle.iloc_validation.proofs.NotedSlots.{all_noted}
use Rattle.iloc_validation.proofs.PlacesKept.{row_coloured, row_placed}
use Rattle.iloc_validation.proofs.decision.first_colours.first_there.Goals as goal

pub colour_slot-requires-clause-known : goal.colour_slot-requires-clause-known
colour_slot-requires-clause-known c =
    rw (c.rows-row-items.ensures.rows, c.ops-ops.ensures.ops) (zero_known _ _ c.loop-row.row-index c.ops-ops.ensures.table)

pub colour_slot-requires-in-loop-row-clause-known : goal.colour_slot-requires-in-loop-row-clause-known
colour_slot-requires-in-loop-row-clause-known c =
    rw (c.rows-row-items.ensures.rows, c.ops-ops.ensures.ops) (one_known _ _ c.loop-row.row-index c.ops-ops.ensures.table)

pub note_slot-requires : goal.note_slot-requires
note_slot-requires c = record {
  known = rw (c.rows-row-items.ensures.rows, c.ops-ops.ensures.ops)
      (zero_known _ _ c.loop-row.row-index c.ops-ops.ensures.table);
}

pub note_slot-requires-in-loop-row : goal.note_slot-requires-in-loop-row
note_slot-requires-in-loop-row c = record {
  known = rw (c.rows-row-items.ensures.rows, c.ops-ops.ensures.ops)
      (one_known _ _ c.loop-row.row-index c.ops-ops.ensures.table);
}

pub loop-row-preserved : goal.loop-row-preserved
loop-row-preserved c =
    let schedule = c.args.schedule.now in
    record {
      noted = row_coloured schedule.ops schedule.rows c.ops-ops.ensures.table c.loop-row.row-index c.ops-ops.result.now
          c.rows-row-items.result.now c.loop-row.places c.ops-ops.ensures.ops c.rows-row-items.ensures.rows
          c.loop-row.invariant.places c.args.labels.now c.loop-row.colours.items c.colour_slot.new.colours.items
          c.colour_slot-in-loop-row.new.colours.items c.loop-row.invariant.noted c.colour_slot.ensures
          c.colour_slot-in-loop-row.ensures;
      places = row_placed schedule.ops schedule.rows c.ops-ops.ensures.table c.loop-row.row-index c.ops-ops.result.now
          c.rows-row-items.result.now c.loop-row.places c.ops-ops.ensures.ops c.rows-row-items.ensures.rows
          c.loop-row.invariant.places c.note_slot.new.self c.note_slot-in-loop-row.new.self c.note_slot.ensures
          c.note_slot-in-loop-row.ensures;
    }

pub returns-clause-each : goal.returns-clause-each
returns-clause-each c =
    let past : length c.args.schedule.now.rows ≤ c.loop-row.row-index = rw c.rows-row-items.ensures.rows at c.loop-row-test.false in
    all_noted c.args.schedule.now.ops c.args.schedule.now.rows c.ops-ops.ensures.table
    (first_there c.args.labels.now c.args.schedule.now.ops c.args.schedule.now.rows) c.loop-row.row-index c.loop-row.colours.items past
    c.loop-row.invariant.noted
