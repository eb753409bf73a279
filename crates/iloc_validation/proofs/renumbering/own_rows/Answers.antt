use Rattle.iloc_validation.proofs.Common.{◌≡◌, List, map, slice_index, ◌∙◌, arith, get_or-map, length-map, Op, op_at, IsTable, Table, Latencies, Row, length-renamed_by, renamed, without_nops, IsScheduleBy, AreOwnRows, renumber, Pairing}
use Rattle.iloc_validation.proofs.Outcomes.{own_lawful}
use Rattle.iloc_validation.proofs.renumbering.own_rows.Goals as goal

-- Rows by the book in the block's own numbers are a table; for `own_rows`.
module _ (lat : Latencies) (block ops : List Op) (rows : List Row) (pairing : Pairing)
    (by : IsScheduleBy lat (without_nops block) ops rows pairing) where
  own_rows_table : IsTable (renamed block) (map (renumber (slice_index pairing.origin.items)) rows)
  own_rows_table =
      (own_lawful lat block ops rows (slice_index pairing.origin.items, slice_index pairing.partner.items, by.under)).table

  are_own_rows : (own : Table) (issued : List Op) → own.ops ≡ renamed block
      → own.rows ≡ map (renumber (slice_index pairing.origin.items)) rows
      → issued ≡ map (op_at ops) pairing.partner.items → AreOwnRows lat block ops rows own issued
  are_own_rows own issued names slots is = grind (arith, get_or-map, length-map, length-renamed_by)

pub of_table-requires-clause-table : goal.of_table-requires-clause-table
of_table-requires-clause-table c =
    rw (c.in_ok-ops.ensures.items, c.requires.names, c.in_ok-rows.ensures, c.deref-2.ensures.value, c.rows.ensures.rows)
    (own_rows_table c.requires.right.0 c.args.block.now.ops c.args.theirs.now.ops c.args.theirs.now.rows
    c.args.pairing.now c.requires.right.1)

pub returns : goal.returns
returns c = λ lat by.
    are_own_rows lat c.args.block.now.ops c.args.theirs.now.ops c.args.theirs.now.rows c.args.pairing.now by
    c.of_table.result c.in_ok-issued.issued.items
    (c.of_table.ensures.ops ∙ c.in_ok-ops.ensures.items ∙ c.requires.names)
    (c.of_table.ensures.rows ∙ rw (c.deref-2.ensures.value, c.rows.ensures.rows) at c.in_ok-rows.ensures)
    (rw (c.deref.ensures.value, c.ops.ensures.ops) at c.in_ok-issued.ensures)
