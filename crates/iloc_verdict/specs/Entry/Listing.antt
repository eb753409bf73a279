-- What is listed of a block's rows, behind the block's head.
use Rattle.std.specs.Prelude.{ℕ, ◌==◌, if◌then◌else◌, List, [], ◌∷◌, ◌++◌, Option, Some, None, codes}
use Rattle.std.specs.List.{flat_map}
use Rattle.std.specs.Fmt.{decimal}
use Rattle.iloc_ops.specs.declared.op.Op.{Op}
use Rattle.iloc_timed.specs.declared.row.Row.{Row}
use Rattle.iloc_rules.specs.declared.sought.Sought.{Sought}
use Rattle.iloc_comparison.specs.declared.comparison.Comparison.{Comparison}
use Rattle.iloc_comparison.specs.declared.comparison.Comparison.TheVariants as of
use Rattle.iloc_comparison.specs.declared.task.Form.{Form}
use Rattle.iloc_comparison.specs.declared.task.Form.TheVariants.{Lines, Table, Json}
use Rattle.iloc_comparison.specs.declared.refutation.probe.Probe.{Probe}
use Rattle.iloc_verdict.specs.declared.verdict.Verdict.{Verdict}
use Rattle.iloc_verdict.specs.declared.verdict.Verdict.TheVariants.{Refused, Lawful, Unlawful, Undecided}
use Rattle.iloc_verdict.specs.declared.verdict.kind.VerdictKind.{VerdictKind}
use Rattle.iloc_verdict.specs.declared.verdict.kind.VerdictKind.TheVariants as kind
use Rattle.iloc_verdict.specs.declared.checked.Checked.{Checked}
use Rattle.iloc_verdict.specs.Entry.Reasons.{reasons_told}
use Rattle.iloc_verdict.specs.Obstacle.{obstacle_told}
use Rattle.iloc_verdict.specs.Remarks.{difference_remark, void_remark}

-- The line of the verdict

abbrev pub kind_word : VerdictKind → List ℕ
kind_word kind.Unread = codes "unread"
kind_word kind.Units = codes "units"
kind_word kind.Lawful = codes "lawful"
kind_word kind.Undecided = codes "undecided"
kind_word kind.Void = codes "void"
kind_word kind.Same = codes "same"
kind_word kind.Prints = codes "prints"
kind_word kind.Differs = codes "differs"
kind_word kind.Agrees = codes "agrees"

-- ` NAME N`, in a table `,N`, in JSON a member
abbrev pub count_as : Form → List ℕ → ℕ → List ℕ
count_as Lines name n = codes " " ++ name ++ codes " " ++ decimal n
count_as Table name n = codes "," ++ decimal n
count_as Json name n = codes ",\"" ++ name ++ codes "\":" ++ decimal n

-- the best cycles and the bound that a search found, if there was one
abbrev pub sought_as : Form → Option Sought → List ℕ
sought_as form None = []
sought_as form (Some s) = count_as form (codes "best") s.best ++ count_as form (codes "bound") s.bound

-- the cycles of the rows and ours, what was sought, and the least
abbrev pub counts_as : Form → Checked → List ℕ
counts_as form checked =
    count_as form (codes "cycles") checked.cycles ++ count_as form (codes "ours") checked.ours ++ sought_as form checked.sought
    ++ count_as form (codes "least") checked.least

-- ` claimed X`, where a number of cycles is claimed and isn't this one
abbrev pub wrong_claim : ℕ → Option ℕ → List ℕ
wrong_claim cycles None = []
wrong_claim cycles (Some claim) = if claim == cycles then [] else codes " claimed " ++ decimal claim

-- ` WORD cycles C ours O least L`, with what was sought before the least, and where a claim is wrong ` claimed X`
abbrev pub line_of : Checked → List ℕ
line_of checked =
    codes " " ++ kind_word checked.kind ++ counts_as Lines checked ++ wrong_claim checked.cycles checked.claimed ++ codes "\n"

-- the number of cycles that is claimed, right or wrong; `none` where none is
abbrev pub claim_or : List ℕ → Option ℕ → List ℕ
claim_or none None = none
claim_or none (Some claim) = decimal claim

-- the row of a table: `,WORD,C,O,L,X`, with what was sought before the least, where X is the claim
abbrev pub row_of : Checked → List ℕ
row_of checked =
    codes "," ++ kind_word checked.kind ++ counts_as Table checked ++ codes "," ++ claim_or (codes "") checked.claimed
    ++ codes "\n"

-- The line of how rows compare with their block

-- ` with --at A W W ..`: the arguments with which the command `run` starts with that memory
abbrev pub probe_told : Probe → List ℕ
probe_told probe =
    codes " with --at " ++ decimal probe.at ++ flat_map (λ word. codes " " ++ decimal word) probe.words.items

abbrev pub comparison_told : Comparison → List ℕ
comparison_told (of.Void why) = void_remark Lines why ++ codes "\n"
comparison_told (of.Differs difference) = difference_remark Lines difference ++ codes "\n"
comparison_told (of.DiffersOn probe difference) = difference_remark Lines difference ++ probe_told probe ++ codes "\n"
comparison_told _ = []

-- All of a verdict

-- that there are no rows, where there are none
abbrev pub no_rows_told : List Row → List ℕ
no_rows_told [] = codes "  no rows\n"
no_rows_told (row ∷ rows) = []

-- What is said of the operations `ops` in `rows` below the line of the verdict: where it comes from, and why they
-- aren't lawful.
abbrev pub detail : List Op → List Row → Verdict → List ℕ
detail ops rows (Refused obstacle changes) = obstacle_told ops rows obstacle
detail ops rows Lawful = []
detail ops rows (Unlawful reasons found) = no_rows_told rows ++ comparison_told found ++ reasons_told reasons
detail ops rows (Undecided found) = no_rows_told rows ++ comparison_told found ++ codes "  undecided\n"

-- the line of the verdict, with what is said below it
abbrev pub lines_of : List Op → List Row → Verdict → Checked → List ℕ
lines_of ops rows verdict checked = line_of checked ++ detail ops rows verdict
