use Rattle.iloc_text.proofs.Common.{sym, subst, OptionalLabel}
use Rattle.iloc_text.proofs.Parts.{Before}
use Rattle.iloc_text.proofs.Tokens.{blanks_read}
use Rattle.iloc_text.proofs.Labels.{label_read}
use Rattle.iloc_text.proofs.OnePass.{line_first}
use Rattle.iloc_text.proofs.line.one_pass.fast_line.Goals as goal

pub returns : goal.returns
returns c =
    let text = c.args.text.now in
    let start = c.after_blanks.result.now in
    let found = c.optional_label_at.ensures in
    line_first _ _ (rw c.after_blanks.ensures (blanks_read text))
    (subst (λ p. Before (OptionalLabel p.0) p.1 start) (sym found) (label_read start))
    (rw c.after_blanks-2.ensures (blanks_read c.optional_label_at.result.1.now))
    c.in_ok-op.ensures
