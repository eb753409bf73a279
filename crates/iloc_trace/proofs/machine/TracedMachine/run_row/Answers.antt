use Rattle.iloc_trace.proofs.Common.{◌≡◌, ℕ, ◌||◌, not, List, ◌++◌, Option, sym, refl, ap, ◌∙◌, append_assoc, Op, Latencies, Row, row_at, one_known, zero_known}
use Rattle.iloc_trace.specs.declared.machine.Executed.{Executed}
use Rattle.iloc_trace.specs.declared.machine.TracedMachine.{TracedMachine}
use Rattle.iloc_trace.specs.Steps.Rows.{in_slot, row_faults, row_lines, sent_after, sent_from, slot_faults, slot_line}
use Rattle.iloc_trace.proofs.Landing.{after_landing}
use Rattle.iloc_trace.proofs.RowsOn.{after_row, row_listed}
use Rattle.iloc_trace.proofs.machine.TracedMachine.run_row.Goals as goal
use Rattle.iloc_trace.proofs.machine.TracedMachine.run_row.Goals.{then-faults, else-faults}

-- Both slots of a row, by what was read of it.
module _ (lat : Latencies) (m : TracedMachine) (ops lent : List Op) (row read : Row) (c : ℕ) (zero one : Option Executed)
    (same : lent ≡ ops) (is : read ≡ row) (first : zero ≡ in_slot lat m lent c read.zero)
    (second : one ≡ in_slot lat m lent c read.one) where
  both_listed : (start half whole : List ℕ) → half ≡ start ++ slot_line m 0 zero one
      → whole ≡ half ++ slot_line m 1 one zero → whole ≡ start ++ row_lines lat m ops row c
  both_listed start half whole by_zero by_one =
      by_one ∙ (ap (λ xs. xs ++ slot_line m 1 one zero) by_zero
      ∙ (append_assoc start (slot_line m 0 zero one) (slot_line m 1 one zero) ∙ ap (λ xs. start ++ xs) lines))
    where
      lines : slot_line m 0 zero one ++ slot_line m 1 one zero ≡ row_lines lat m ops row c
      lines = rw (first, second, same, is) refl

  both_sent : (half whole : TracedMachine) → half ≡ sent_after m zero → whole ≡ sent_after half one
      → whole ≡ sent_from lat m ops row c
  both_sent half whole by_zero by_one =
      by_one ∙ (ap (λ x. sent_after x one) by_zero ∙ rw (first, second, same, is) refl)

  both_fault : (slot_faults zero || slot_faults one) ≡ row_faults lat m ops row c
  both_fault = rw (first, second, same, is) refl

pub execute-zero-requires-clause-known : goal.execute-zero-requires-clause-known
execute-zero-requires-clause-known c =
    rw (c.row_at-row.ensures, c.ops-ops.ensures.ops, c.rows.ensures.rows) (zero_known _ _ c.args.cycle c.ops-ops.ensures.table)

pub execute-one-requires-clause-known : goal.execute-one-requires-clause-known
execute-one-requires-clause-known c =
    rw (c.row_at-row.ensures, c.ops-ops.ensures.ops, c.rows.ensures.rows) (one_known _ _ c.args.cycle c.ops-ops.ensures.table)

pub returns-clause-lists : goal.returns-clause-lists
returns-clause-lists c = λ memory log follows.
    let lat = c.args.latencies.now in
    let ops = c.args.schedule.now.ops in
    let row = row_at c.args.schedule.now.rows c.args.cycle in
    let landed = c.land.new.self in
    let read : c.row_at-row.result ≡ row = c.row_at-row.ensures ∙ ap (λ rows. row_at rows c.args.cycle) c.rows.ensures.rows in
    row_listed lat memory ops row c.args.cycle log c.args.self.now landed
    c.args.text.now.items c.land.new.text.items c.list-2.new.text.items follows
    (after_landing lat memory c.args.cycle log c.args.self.now landed follows
    c.in_ok-land.ensures.registers c.in_ok-land.ensures.words c.in_ok-land.ensures.under_way)
    c.land.ensures.can_arrive c.in_ok-land.ensures.lists
    (both_listed lat landed ops _ row _ c.args.cycle _ _ c.ops-ops.ensures.ops read c.execute-zero.ensures.executed
    c.execute-one.ensures.executed _ _ _ c.in_ok-list.ensures c.in_ok-list-2.ensures)

pub returns-clause-after : goal.returns-clause-after
returns-clause-after c = λ memory log follows.
    let lat = c.args.latencies.now in
    let ops = c.args.schedule.now.ops in
    let row = row_at c.args.schedule.now.rows c.args.cycle in
    let landed = c.land.new.self in
    let read : c.row_at-row.result ≡ row = c.row_at-row.ensures ∙ ap (λ rows. row_at rows c.args.cycle) c.rows.ensures.rows in
    let fault : c.if-faults.result ≡ (slot_faults c.execute-zero.result || slot_faults c.execute-one.result) =
    elim c.if-faults.branch [
      | then-faults w ↦ w.result-is ∙ rw (sym c.faults.ensures ∙ w.if-faults.true) w.if-faults.true
      | else-faults w ↦ w.result-is ∙ (w.faults-else-faults.ensures ∙ rw (sym c.faults.ensures ∙ w.if-faults.false) refl)
    ] in
    after_row lat memory ops row c.args.cycle log landed c.send-2.new.self (not c.if-faults.result)
    (after_landing lat memory c.args.cycle log c.args.self.now landed follows
    c.in_ok-land.ensures.registers c.in_ok-land.ensures.words c.in_ok-land.ensures.under_way)
    (both_sent lat landed ops _ row _ c.args.cycle _ _ c.ops-ops.ensures.ops read c.execute-zero.ensures.executed
    c.execute-one.ensures.executed _ _ c.in_ok-send.ensures.sent c.in_ok-send-2.ensures.sent)
    (ap not (fault ∙ both_fault lat landed ops _ row _ c.args.cycle _ _ c.ops-ops.ensures.ops read
    c.execute-zero.ensures.executed c.execute-one.ensures.executed))
