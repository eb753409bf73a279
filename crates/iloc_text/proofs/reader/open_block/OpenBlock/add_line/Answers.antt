use Rattle.iloc_text.proofs.Common.{◌≡◌, Some, None, Err, option_map, sym, refl, ap, ◌∙◌, err_from_is_err_and, with_optional_label, label_of, HasTaken}
use Rattle.iloc_text.proofs.Growing.{label_fails}
use Rattle.iloc_text.proofs.reader.open_block.OpenBlock.add_line.Goals as goal
use Rattle.iloc_text.proofs.reader.open_block.OpenBlock.add_line.Goals.{in-Some+in_ok-open, in_default}

pub returns-in_err-open : goal.returns-in_err-open
returns-in_err-open g c = λ start blocks h.
    let exit = err_from_is_err_and c.from_residual.result c.from_residual.ensures.1 in
    let label : label_of c.args.line ≡ Some c.text_of.result.now = ap (option_map (λ name. name.now)) c.in-Some.is
    ∙ ap (λ n. Some n) (sym c.text_of.ensures) in
    label_fails (HasTaken g.T.TakeBlocks.took start c.open.new.taker c.open.new.self) (label_of c.args.line)
    (Some c.text_of.result.now) c.args.line.op blocks
    c.args.number c.from_residual.result c.in_err-open.field-0.0 label refl (exit.1 ∙ ap (λ e. Err e) exit.2)
    (c.in_err-open.ensures start blocks h)

pub returns : goal.returns
returns g c = λ start blocks h.
    let took = g.T.TakeBlocks.took in
    let labelled : HasTaken took start c.match-line.taker c.match-line.self
    (with_optional_label (label_of c.args.line) blocks) =
    elim c.match-line.branch [
      | in-Some+in_ok-open w ↦ (let label : label_of c.args.line ≡ Some w.text_of.result.now = ap
          (option_map (λ name. name.now)) w.in-Some.is ∙ ap (λ n. Some n) (sym w.text_of.ensures) in
          rw (w.self-is, w.taker-is, label) (w.in_ok-open.ensures start blocks h))
      | in_default w ↦ (let label : label_of c.args.line ≡ None = ap (option_map (λ name. name.now)) w.in_default.is in
          rw (w.self-is, w.taker-is, label) h)
    ] in
    c.add_op.ensures start (with_optional_label (label_of c.args.line) blocks) labelled
