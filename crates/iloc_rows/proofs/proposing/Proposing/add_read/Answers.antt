use Rattle.std.proofs.Common.{◌∙◌, sym, ap, length, inl, inr}
use Rattle.iloc_rows.proofs.Growing.{length-proposals, row_adds, cycles_add, head_turns, nothing_adds, total_adds, rows_few}
use Rattle.iloc_rows.proofs.proposing.Proposing.add_read.Goals as goal

pub add_row-requires : goal.add_row-requires
add_row-requires c = rows_few c.requires.1 c.requires.2

pub turn_to-requires : goal.turn_to-requires
turn_to-requires c = sym (ap length c.requires.1.proposals ∙ length-proposals (length c.args.blocks.now) c.requires.0)

pub returns-in-Empty : goal.returns-in-Empty
returns-in-Empty c = λ lines h. elim c.in-Empty.is [
  | inl e ↦ rw e (nothing_adds c.args.number h)
  | inr t ↦ rw t.1 (total_adds t.0 c.args.number h)
]

pub returns-in-Row : goal.returns-in-Row
returns-in-Row c = λ lines h. rw c.in-Row.is (row_adds c.in-Row.zero c.in-Row.one c.args.number c.add_row.new.self c.add_row.result h c.add_row.ensures)

pub returns-in-Head : goal.returns-in-Head
returns-in-Head c = λ lines h. rw c.in-Head.is (head_turns c.in-Head.block _ c.args.number c.turn_to.new.self c.turn_to.result h c.turn_to.ensures)

pub returns-in-Cycles : goal.returns-in-Cycles
returns-in-Cycles c = λ lines h. rw c.in-Cycles.is (cycles_add c.in-Cycles.cycles c.args.number c.add_cycles.new.self c.add_cycles.result h c.add_cycles.ensures)
