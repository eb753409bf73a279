use Rattle.iloc_text.proofs.Common.{option_map, sym, ap, ◌∙◌, label_of}
use Rattle.iloc_text.proofs.Lines.{line_bad, line_good, line_large}
use Rattle.iloc_text.proofs.line.read_line.Goals as goal

pub returns-in_default : goal.returns-in_default
returns-in_default c = line_bad c.args.bytes.now (sym c.line_at.ensures
    ∙ ap (option_map (λ line. (label_of line, line.op))) c.in_default.is)

pub returns-then-is_within : goal.returns-then-is_within
returns-then-is_within c =
    line_good c.args.bytes.now (label_of c.in-Some.line) c.in-Some.line.op
    (sym c.line_at.ensures ∙ ap (option_map (λ line. (label_of line, line.op))) c.in-Some.is)
    (sym c.is_within.ensures ∙ c.if-is_within.true)

pub returns-else-is_within : goal.returns-else-is_within
returns-else-is_within c =
    line_large c.args.bytes.now (label_of c.in-Some.line) c.in-Some.line.op
    (sym c.line_at.ensures ∙ ap (option_map (λ line. (label_of line, line.op))) c.in-Some.is)
    (sym c.is_within.ensures ∙ c.if-is_within.false)
