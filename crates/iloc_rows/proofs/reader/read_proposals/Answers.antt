use Rattle.iloc_rows.proofs.Common.{◌+◌, length, Some, None, Err, sym, ap, ◌∙◌, subst, arith, err_from_is_err_and, lines_left, HaveFirstFault, Propose, told_of}
use Rattle.iloc_rows.proofs.Reading.{Progress, progress_begins, progress_step, progress_number, progress_room, progress_ends, fault_here, added_faulty, err_is}
use Rattle.iloc_rows.proofs.Within.{proposed_numbered}
use Rattle.iloc_rows.proofs.reader.read_proposals.Goals as goal

pub loop-rest-init : goal.loop-rest-init
loop-rest-init c = progress_begins c.args.blocks.now c.args.lines c.in_ok-proposing.proposing c.args.rows
    c.in_ok-proposing.ensures.proposals c.in_ok-proposing.ensures.last

pub overflow_add-number : goal.overflow_add-number
overflow_add-number c = omega (arith, progress_number c.loop-rest.invariant, c.requires)

pub add-requires : goal.add-requires
add-requires c =
    (c.loop-rest.invariant.told, c.loop-rest.invariant.proposed, progress_room c.loop-rest.invariant c.requires)

pub returns-in_err-add-clause-err : goal.returns-in_err-add-clause-err
returns-in_err-add-clause-err c =
    let here : Progress c.args.blocks.now c.args.lines (lines_left c.args.rows) c.loop-rest.proposing
    c.loop-rest.number (Some c.in-Some.text) = rw c.in-Some.is at c.loop-rest.invariant in
    let exit = err_from_is_err_and c.from_residual-in_err-add.result c.from_residual-in_err-add.ensures.1 in
    err_is (HaveFirstFault c.args.blocks.now c.args.lines (lines_left c.args.rows)) c.from_residual-in_err-add.result
    c.in_err-add.field-0.0 (exit.1 ∙ ap (λ e. Err e) exit.2)
    (λ memory. fault_here here c.split_line.result.0.now c.split_line.result.1 c.in_err-add.field-0.0
    c.split_line.ensures
    (added_faulty c.args.blocks.now here.told c.split_line.result.0.now (told_of (c.loop-rest.number + 1) c.read_told_line.result)
    (c.loop-rest.number + 1) c.add.new.self c.in_err-add.field-0.0
    (c.read_told_line.ensures (c.loop-rest.number + 1))
    (c.in_err-add.ensures here.told here.proposed) memory))

pub loop-rest-preserved : goal.loop-rest-preserved
loop-rest-preserved c =
    let here : Progress c.args.blocks.now c.args.lines (lines_left c.args.rows) c.loop-rest.proposing
    c.loop-rest.number (Some c.in-Some.text) = rw c.in-Some.is at c.loop-rest.invariant in
    progress_step here c.split_line.result.0.now c.split_line.result.1 (told_of (c.loop-rest.number + 1) c.read_told_line.result) c.add.new.self
    c.split_line.ensures (c.read_told_line.ensures (c.loop-rest.number + 1)) (c.in_ok-add.ensures here.told here.proposed)

pub loop-rest-smaller : goal.loop-rest-smaller
loop-rest-smaller c =
    omega (arith, ap length c.split_line.ensures, ap (λ rest. length (lines_left rest)) c.in-Some.is)

pub of-requires : goal.of-requires
of-requires c =
    let here : Progress c.args.blocks.now c.args.lines (lines_left c.args.rows) c.loop-rest.proposing
    c.loop-rest.number None = rw c.in_default.is at c.loop-rest.invariant in
    proposed_numbered c.args.blocks.now c.args.lines (lines_left c.args.rows) _ (progress_ends here)

pub returns-clause-ok : goal.returns-clause-ok
returns-clause-ok c =
    let here : Progress c.args.blocks.now c.args.lines (lines_left c.args.rows) c.loop-rest.proposing
    c.loop-rest.number None = rw c.in_default.is at c.loop-rest.invariant in
    subst (Propose c.args.blocks.now c.args.lines (lines_left c.args.rows)) (sym c.in_ok-of.ensures) (progress_ends here)
