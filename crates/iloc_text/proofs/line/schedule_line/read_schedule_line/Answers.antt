use Rattle.iloc_text.proofs.Common.{option_map, sym, ap, ◌∙◌, said_of}
use Rattle.iloc_text.proofs.ScheduleLines.Says.{said_bad, said_good, said_large}
use Rattle.iloc_text.proofs.line.schedule_line.read_schedule_line.Goals as goal

pub returns-in_default : goal.returns-in_default
returns-in_default c = said_bad c.args.line.now (sym c.schedule_line_at.ensures ∙ ap (option_map said_of) c.in_default.is)

pub returns-then-is_said_within : goal.returns-then-is_said_within
returns-then-is_said_within c =
    said_good c.args.line.now (said_of c.in-Some.found)
    (sym c.schedule_line_at.ensures ∙ ap (option_map said_of) c.in-Some.is)
    (sym c.is_said_within.ensures ∙ c.if-is_said_within.true)

pub returns-else-is_said_within : goal.returns-else-is_said_within
returns-else-is_said_within c =
    said_large c.args.line.now (said_of c.in-Some.found)
    (sym c.schedule_line_at.ensures ∙ ap (option_map said_of) c.in-Some.is)
    (sym c.is_said_within.ensures ∙ c.if-is_said_within.false)
