use Rattle.iloc_rows.proofs.Common.{◌≡◌, ◌<◌, ◌≤◌, Bool, true, false, List, [], ◌∷◌, length, nat_eq, Err, sym, ap, ◌∙◌, subst, arith, eqb-true, err_from_is_err_and, Block, lines_left, HaveFirstFault, IsRefused, Propose, Read}
use Rattle.iloc_rows.proofs.Reading.{err_is, cut_number, no_blocks, denoted, blocks_refused, rows_refused}
use Rattle.iloc_rows.proofs.reader.read_submission.Goals as goal

some_block : (empty : Bool) (blocks lent : List Block) → empty ≡ nat_eq (length lent) 0 → empty ≡ false → lent ≡ blocks
    → 0 < length blocks
some_block empty [] lent is not same = absurd (let no : true ≡ false = sym (rw same at is) ∙ not in cc)
some_block empty (b ∷ bs) lent is not same = omega arith

none_left : (empty : Bool) (blocks lent : List Block) → empty ≡ nat_eq (length lent) 0 → empty ≡ true → lent ≡ blocks
    → length blocks ≤ 0
none_left empty blocks lent is so same =
    let none : length lent ≡ 0 = eqb-true (length lent) 0 (sym is ∙ so) in
    let level : length lent ≡ length blocks = ap length same in
    omega arith

pub returns-then-is_empty-clause-err : goal.returns-then-is_empty-clause-err
returns-then-is_empty-clause-err c = λ memory.
    no_blocks c.cut_before_rows-cut.ensures c.in_ok-file.file.blocks c.if-input-gt-MAX_INPUT.false c.in_ok-file.ensures.ok
    (none_left c.is_empty.result c.in_ok-file.file.blocks c.as_slice-blocks.result.now c.is_empty.ensures c.if-is_empty.true
    c.as_slice-blocks.ensures)

pub returns-in_err-file-clause-err : goal.returns-in_err-file-clause-err
returns-in_err-file-clause-err c =
    let exit = err_from_is_err_and c.from_residual.result c.from_residual.ensures.1 in
    err_is (IsRefused c.args.input.now) c.from_residual.result (Read c.in_err-file.field-0.0)
    (exit.1 ∙ ap (λ e. Err e) exit.2)
    (λ memory. blocks_refused c.cut_before_rows-cut.ensures c.in_err-file.field-0.0 c.if-input-gt-MAX_INPUT.false
    (c.in_err-file.ensures.err (λ e. memory (ap Read e))))

pub read_proposals-requires : goal.read_proposals-requires
read_proposals-requires c = omega (arith, cut_number c.cut_before_rows-cut.ensures, c.if-input-gt-MAX_INPUT.false)

pub returns-in_err-proposals-clause-err : goal.returns-in_err-proposals-clause-err
returns-in_err-proposals-clause-err c =
    let exit = err_from_is_err_and c.from_residual-in_err-proposals.result
    c.from_residual-in_err-proposals.ensures.1 in
    err_is (IsRefused c.args.input.now) c.from_residual-in_err-proposals.result c.in_err-proposals.field-0.0
    (exit.1 ∙ ap (λ e. Err e) exit.2)
    (λ memory. rows_refused c.cut_before_rows-cut.ensures c.in_ok-file.file.blocks c.in_err-proposals.field-0.0
    c.if-input-gt-MAX_INPUT.false c.in_ok-file.ensures.ok
    (some_block c.is_empty.result c.in_ok-file.file.blocks c.as_slice-blocks.result.now c.is_empty.ensures c.if-is_empty.false
    c.as_slice-blocks.ensures)
    (subst (λ blocks. HaveFirstFault blocks c.cut_before_rows-cut.result.lines (lines_left c.cut_before_rows-cut.result.rows)
    c.in_err-proposals.field-0.0) c.as_slice-blocks.ensures (c.in_err-proposals.ensures.err memory)))

pub returns-clause-ok : goal.returns-clause-ok
returns-clause-ok c =
    denoted c.cut_before_rows-cut.ensures c.in_ok-file.file.blocks c.in_ok-proposals.proposals
    c.if-input-gt-MAX_INPUT.false c.in_ok-file.ensures.ok
    (some_block c.is_empty.result c.in_ok-file.file.blocks c.as_slice-blocks.result.now c.is_empty.ensures c.if-is_empty.false
    c.as_slice-blocks.ensures)
    (subst (λ blocks. Propose blocks c.cut_before_rows-cut.result.lines (lines_left c.cut_before_rows-cut.result.rows) c.in_ok-proposals.proposals)
    c.as_slice-blocks.ensures c.in_ok-proposals.ensures.ok)
