-- Remarks, which say where rows go wrong: each is a line below a verdict, without its end, or an object of JSON.
use Rattle.std.specs.Prelude.{ℕ, ℤ, ◌+◌, nat_lt, if◌then◌else◌, List, [], ◌∷◌, ◌++◌, Option, Some, None, codes}
use Rattle.std.specs.Fmt.{decimal, signed_decimal}
use Rattle.iloc_ops.specs.Spelling.{spelling}
use Rattle.iloc_ops.specs.declared.op.Op.{Op}
use Rattle.iloc_pieces.specs.Pieces.{piece_text}
use Rattle.iloc_timed.specs.declared.row.Row.{Row}
use Rattle.iloc_timed.specs.Rows.{row_at}
use Rattle.iloc_timed.specs.Spelling.{row_spelling}
use Rattle.iloc_facts.specs.declared.lawfulness.Issue.{Issue}
use Rattle.iloc_facts.specs.declared.fact.Fact.{Fact}
use Rattle.iloc_facts.specs.declared.fact.Fact.TheVariants.{UnderWay, Brings, Replaced, NeverRead, Order, For, LikeNone, See}
use Rattle.iloc_comparison.specs.declared.difference.Difference.{Difference}
use Rattle.iloc_comparison.specs.declared.difference.Difference.TheVariants.{Output, Word, Fault, NoFault}
use Rattle.iloc_comparison.specs.declared.task.Form.{Form}
use Rattle.iloc_comparison.specs.declared.task.Form.TheVariants.{Json}
use Rattle.iloc_comparison.specs.declared.void.Void.{Void}
use Rattle.iloc_comparison.specs.declared.void.Void.TheVariants.{Faults, ShowsNothing}
use Rattle.iloc_verdict.specs.declared.checked.unit_rule.UnitRule.{UnitRule}
use Rattle.iloc_verdict.specs.declared.remark.Part.{Part}
use Rattle.iloc_verdict.specs.declared.remark.Part.TheVariants as part
use Rattle.iloc_verdict.specs.UnitRule.{broken_rule, rule_words}

-- The parts of a remark. A line has words and no names, and an object has names and no words.

-- a remark of a kind that has `parts`
abbrev pub remark : Form → List ℕ → List ℕ → List ℕ
remark Json kind parts = codes "{\"kind\":\"" ++ kind ++ codes "\"" ++ parts ++ codes "}"
remark form kind parts = codes "  " ++ parts

-- what is in a line, or in JSON
abbrev pub either : Form → List ℕ → List ℕ → List ℕ
either Json in_line in_json = in_json
either form in_line in_json = in_line

abbrev pub words_as : Form → List ℕ → List ℕ
words_as form words = either form words []

abbrev pub plain_as : Form → List ℕ → List ℕ → List ℕ → List ℕ
plain_as Json words name text = codes ",\"" ++ name ++ codes "\":" ++ text
plain_as form words name text = words ++ text

abbrev pub quoted_as : Form → List ℕ → List ℕ → List ℕ → List ℕ
quoted_as Json words name text = codes ",\"" ++ name ++ codes "\":\"" ++ text ++ codes "\""
quoted_as form words name text = words ++ text

-- the operation whose result is lost, or what a register had at the start
abbrev pub lost_as : Form → Option Issue → List ℕ
lost_as Json None = codes ",\"lost_row\":null,\"lost_operation\":null"
lost_as Json (Some lost) =
    codes ",\"lost_row\":" ++ decimal lost.cycle ++ codes ",\"lost_operation\":\"" ++ spelling lost.op ++ codes "\""
lost_as form None = codes ", no longer of the start"
lost_as form (Some lost) = codes ", no longer of row " ++ decimal lost.cycle ++ codes ": " ++ spelling lost.op

abbrev pub part_as : Form → Part → List ℕ
part_as form (part.Words words) = words_as form words.now
part_as form (part.Plain words name piece) = plain_as form words.now name.now (piece_text piece)
part_as form (part.Quoted words name piece) = quoted_as form words.now name.now (piece_text piece)
part_as form (part.Lost lost) = lost_as form lost
part_as form (part.Row words name ops row) = quoted_as form words.now name.now (row_spelling ops.now row)

-- a text with parts appended
abbrev pub appended_as : Form → List ℕ → List Part → List ℕ
appended_as form text [] = text
appended_as form text (p ∷ rest) = appended_as form (text ++ part_as form p) rest

-- parts, one after another
abbrev pub parts_as : Form → List Part → List ℕ
parts_as form [] = []
parts_as form (p ∷ rest) = appended_as form (part_as form p) rest

-- Why rows aren't a schedule of their block by the book

-- a fact that says some words of an operation in a row, counted from 0 as cycles are
abbrev pub alone_remark : Form → List ℕ → Issue → List ℕ → List ℕ
alone_remark form kind issue words =
    remark form kind (plain_as form (codes "row ") (codes "row") (decimal issue.cycle)
    ++ quoted_as form (codes ": ") (codes "operation") (spelling issue.op) ++ words_as form words)

-- on which side of `other` the rows have `issue`, which has to be on the other side; in one row it has to come after
abbrev pub side : Issue → Issue → List ℕ
side issue other = if nat_lt issue.cycle other.cycle then codes "before"
    else if nat_lt other.cycle issue.cycle then codes "after" else codes "not after"

abbrev pub fact_remark : Form → Fact → List ℕ
fact_remark form (UnderWay issue store due) =
    remark form (codes "under_way") (plain_as form (codes "row ") (codes "row") (decimal issue.cycle)
    ++ quoted_as form (codes ": ") (codes "operation") (spelling issue.op)
    ++ plain_as form (codes " while row ") (codes "other_row") (decimal store.cycle)
    ++ quoted_as form (codes ": ") (codes "other_operation") (spelling store.op)
    ++ plain_as form (codes " is under way to row ") (codes "due") (decimal due))
fact_remark form (Brings issue register late due) =
    remark form (codes "brings") (plain_as form (codes "row ") (codes "row") (decimal issue.cycle)
    ++ quoted_as form (codes ": ") (codes "operation") (spelling issue.op)
    ++ plain_as form (codes " reads r") (codes "register") (decimal register.0)
    ++ plain_as form (codes ", which row ") (codes "other_row") (decimal late.cycle)
    ++ quoted_as form (codes ": ") (codes "other_operation") (spelling late.op)
    ++ plain_as form (codes " brings in row ") (codes "due") (decimal due))
fact_remark form (Replaced issue register from lost) =
    remark form (codes "replaced") (plain_as form (codes "row ") (codes "row") (decimal issue.cycle)
    ++ quoted_as form (codes ": ") (codes "operation") (spelling issue.op)
    ++ plain_as form (codes " reads r") (codes "register") (decimal register.0)
    ++ plain_as form (codes " of row ") (codes "other_row") (decimal from.cycle)
    ++ quoted_as form (codes ": ") (codes "other_operation") (spelling from.op)
    ++ lost_as form lost)
fact_remark form (NeverRead issue) =
    alone_remark form (codes "never_read") issue (codes ", whose result is never read")
fact_remark form (Order issue other) =
    remark form (codes "order") (plain_as form (codes "row ") (codes "row") (decimal issue.cycle)
    ++ quoted_as form (codes ": ") (codes "operation") (spelling issue.op)
    ++ quoted_as form (codes " ") (codes "side") (side issue other)
    ++ plain_as form (codes " row ") (codes "other_row") (decimal other.cycle)
    ++ quoted_as form (codes ": ") (codes "other_operation") (spelling other.op))
fact_remark form (For issue number op) =
    remark form (codes "for") (plain_as form (codes "row ") (codes "row") (decimal issue.cycle)
    ++ quoted_as form (codes ": ") (codes "operation") (spelling issue.op)
    ++ plain_as form (codes " for operation ") (codes "number") (decimal number)
    ++ quoted_as form (codes ": ") (codes "wanted") (spelling op))
fact_remark form (LikeNone issue) = alone_remark form (codes "like_none") issue (codes " like none of the block")
fact_remark form (See issue) =
    remark form (codes "see") (plain_as form (codes "see row ") (codes "row") (decimal issue.cycle)
    ++ quoted_as form (codes ": ") (codes "operation") (spelling issue.op))

-- the rule that a row breaks, if it does
abbrev pub rule_as : Form → Option UnitRule → List ℕ
rule_as form None = words_as form (codes "")
rule_as form (Some rule) = quoted_as form (codes ": ") (codes "rule") (rule_words rule)

-- a row, counted from 0 as cycles are, that breaks the rules of the units, and the first rule that it breaks
abbrev pub units_remark : Form → List Op → List Row → ℕ → List ℕ
units_remark form ops rows c =
    remark form (codes "units") (plain_as form (codes "row ") (codes "row") (decimal c)
    ++ quoted_as form (codes ": ") (codes "text") (row_spelling ops (row_at rows c))
    ++ rule_as form (broken_rule ops (row_at rows c)))

-- How rows compare with their block

-- the operation at which a block faults, or that it shows nothing
abbrev pub void_remark : Form → Void → List ℕ
void_remark form (Faults op) =
    remark form (codes "faults") (quoted_as form (codes "the block faults: ") (codes "operation") (spelling op))
void_remark form ShowsNothing = remark form (codes "shows_nothing") (words_as form (codes "the block shows nothing"))

-- a word of 32 bits, `none` or null where there is none
abbrev pub value_text : Form → Option ℤ → List ℕ
value_text form None = either form (codes "none") (codes "null")
value_text form (Some word) = signed_decimal word

-- what came and what was wanted
abbrev pub both_as : Form → Option ℤ → Option ℤ → List ℕ
both_as form got wanted =
    plain_as form (codes ": ") (codes "got") (value_text form got)
    ++ plain_as form (codes " for ") (codes "wanted") (value_text form wanted)

-- an output, counted from 1, or the word at an address, with what came and what was wanted; or who faults
abbrev pub difference_remark : Form → Difference → List ℕ
difference_remark form (Output index got wanted) =
    remark form (codes "output") (plain_as form (codes "output ") (codes "number") (decimal (index + 1)) ++ both_as form got wanted)
difference_remark form (Word address got wanted) =
    remark form (codes "word") (plain_as form (codes "word ") (codes "address") (decimal address)
    ++ both_as form (Some got) (Some wanted))
difference_remark form Fault = remark form (codes "fault") (words_as form (codes "fault"))
difference_remark form NoFault = remark form (codes "no_fault") (words_as form (codes "no fault"))
