-- What is listed of a block's rows as a line of JSON, after the block's number and name.
use Rattle.std.specs.Prelude.{ℕ, nat_lt, if◌then◌else◌, Bool, false, length, take, slice_index_or, List, [], ◌∷◌, ◌++◌, Option, Some, None, codes}
use Rattle.std.specs.List.{flat_map}
use Rattle.std.specs.Fmt.{decimal}
use Rattle.iloc_ops.specs.Spelling.{spelling}
use Rattle.iloc_ops.specs.declared.op.Op.{Op}
use Rattle.iloc_pieces.specs.Escaped.{escaped}
use Rattle.iloc_timed.specs.declared.row.Row.{Row}
use Rattle.iloc_rows.specs.declared.proposal.unread.Unread as line
use Rattle.iloc_facts.specs.declared.lawfulness.Added.{Added}
use Rattle.iloc_facts.specs.declared.lawfulness.LeftOut.{LeftOut}
use Rattle.iloc_facts.specs.declared.fact.Fact.{Fact}
use Rattle.iloc_facts.specs.declared.fact.Reasons.{Reasons}
use Rattle.iloc_verdict.specs.declared.checked.Checked.{Checked}
use Rattle.iloc_verdict.specs.declared.checked.changes.Changes.{Changes}
use Rattle.iloc_comparison.specs.declared.comparison.Comparison.{Comparison}
use Rattle.iloc_comparison.specs.declared.comparison.Comparison.TheVariants as of
use Rattle.iloc_comparison.specs.declared.difference.Difference.{Difference}
use Rattle.iloc_comparison.specs.declared.refutation.probe.Probe.{Probe}
use Rattle.iloc_verdict.specs.declared.verdict.Verdict.{Verdict}
use Rattle.iloc_verdict.specs.declared.verdict.kind.VerdictKind.{VerdictKind}
use Rattle.iloc_verdict.specs.declared.verdict.Verdict.TheVariants.{Refused, Lawful, Unlawful, Undecided}
use Rattle.iloc_verdict.specs.declared.obstacle.Obstacle.{Obstacle}
use Rattle.iloc_verdict.specs.declared.obstacle.Obstacle.TheVariants.{Unread, Units}
use Rattle.iloc_comparison.specs.declared.task.Form.TheVariants.{Json}
use Rattle.iloc_verdict.specs.Entry.Listing.{claim_or, counts_as, kind_word}
use Rattle.iloc_verdict.specs.Remarks.{difference_remark, fact_remark, units_remark, void_remark}

-- The verdict

abbrev pub kind_member : VerdictKind → List ℕ
kind_member kind = codes ",\"verdict\":\"" ++ kind_word kind

-- the end of that, whether the rows pass, and how many there are
abbrev pub passing_members : Bool → ℕ → List ℕ
passing_members passing rows =
    codes "\",\"passes\":" ++ (if passing then codes "true" else codes "false") ++ codes ",\"rows\":" ++ decimal rows

-- the number of cycles that is claimed, right or wrong; null where none is
abbrev pub claim_member : Option ℕ → List ℕ
claim_member claimed = codes ",\"claimed\":" ++ claim_or (codes "null") claimed

-- the word for the verdict, whether the `rows` rows pass, and the numbers that go with it
abbrev pub verdict_members : Bool → ℕ → Checked → List ℕ
verdict_members passing rows checked =
    kind_member checked.kind ++ passing_members passing rows ++ counts_as Json checked ++ claim_member checked.claimed

-- How rows compare with their block

-- numbers with commas between them
abbrev pub numbers : List ℕ → List ℕ
numbers [] = []
numbers (n ∷ rest) = decimal n ++ flat_map (λ m. codes "," ++ decimal m) rest

-- a memory that is made up: the words from an address on
abbrev pub memory_value : Probe → List ℕ
memory_value probe =
    codes "{\"at\":" ++ decimal probe.at ++ codes ",\"words\":[" ++ numbers probe.words.items ++ codes "]}"

abbrev pub no_difference : List ℕ
no_difference = codes ",\"void\":null,\"difference\":null,\"memory\":null"

abbrev pub difference_member : Difference → List ℕ
difference_member difference = codes ",\"void\":null,\"difference\":" ++ difference_remark Json difference

-- why nothing can be said of rows; where they differ from their block, and on which memory, null for the one handed in
abbrev pub comparison_members : Comparison → List ℕ
comparison_members (of.Void why) =
    codes ",\"void\":" ++ void_remark Json why ++ codes ",\"difference\":null,\"memory\":null"
comparison_members (of.Differs difference) = difference_member difference ++ codes ",\"memory\":null"
comparison_members (of.DiffersOn probe difference) =
    difference_member difference ++ codes ",\"memory\":" ++ memory_value probe
comparison_members _ = no_difference

-- Why rows aren't a schedule of their block by the book

abbrev pub left_out_member : Option LeftOut → List ℕ
left_out_member None = codes ",\"left_out\":null"
left_out_member (Some it) =
    codes ",\"left_out\":{\"count\":" ++ decimal it.count ++ codes ",\"operation\":\"" ++ spelling it.op ++ codes "\"}"

abbrev pub added_member : Option Added → List ℕ
added_member None = codes ",\"added\":null"
added_member (Some it) =
    codes ",\"added\":{\"count\":" ++ decimal it.count ++ codes ",\"row\":" ++ decimal it.issue.cycle
    ++ codes ",\"operation\":\"" ++ spelling it.issue.op ++ codes "\"}"

-- what is left out and added
abbrev pub changes_members : Changes → List ℕ
changes_members it = left_out_member it.left_out ++ added_member it.added

-- facts with commas between them
abbrev pub facts_values : List Fact → List ℕ
facts_values [] = []
facts_values (fact ∷ rest) = fact_remark Json fact ++ flat_map (λ f. codes "," ++ fact_remark Json f) rest

-- what is left out and added, the facts, and how many more there are
abbrev pub reasons_members : Reasons → List ℕ
reasons_members it =
    changes_members (record { left_out = it.left_out; added = it.added }) ++ codes ",\"reasons\":["
    ++ facts_values it.facts.items ++ codes "],\"more\":" ++ decimal it.more

-- All of a verdict

-- the first 64 bytes of a line within a string, and `..` where more follow
unfoldable pub start_of : List ℕ → List ℕ
start_of text =
    if nat_lt 64 (length text) then flat_map escaped (take 64 text) ++ codes ".." else flat_map escaped text

-- where the line is, from 1, and which row it would be, from 0, with the start of its text and some words
abbrev pub unread_value : line.Unread → List ℕ → List ℕ
unread_value unread words =
    codes "{\"kind\":\"unread\",\"line\":" ++ decimal unread.line ++ codes ",\"row\":" ++ decimal unread.row
    ++ codes ",\"text\":\"" ++ start_of unread.text ++ (codes "\",\"problem\":\"" ++ flat_map escaped words ++ codes "\"}")

-- what keeps rows from being a schedule
abbrev pub obstacle_value : List Op → List Row → Obstacle → List ℕ
obstacle_value ops rows (Unread unread words) = unread_value unread.now words.items
obstacle_value ops rows (Units c) = units_remark Json ops rows c

-- what comes before a reason that is alone: that nothing is compared, and what is left out and added
abbrev pub before : Changes → List ℕ
before changes = no_difference ++ changes_members changes ++ codes ",\"reasons\":["

abbrev pub refused_members : List Op → List Row → Obstacle → Changes → List ℕ
refused_members ops rows obstacle changes = before changes ++ obstacle_value ops rows obstacle ++ codes "],\"more\":0"

abbrev pub undecided_members : List ℕ
undecided_members = codes ",\"left_out\":null,\"added\":null" ++ codes ",\"reasons\":[{\"kind\":\"undecided\"}],\"more\":0"

-- what is said of operations and rows after the verdict
abbrev pub detail_members : List Op → List Row → Verdict → List ℕ
detail_members ops rows (Refused obstacle changes) = refused_members ops rows obstacle changes
detail_members ops rows Lawful = no_difference ++ codes ",\"left_out\":null,\"added\":null,\"reasons\":[],\"more\":0"
detail_members ops rows (Unlawful reasons found) = comparison_members found ++ reasons_members reasons
detail_members ops rows (Undecided found) = comparison_members found ++ undecided_members

-- Which operation of the block each is

abbrev pub number_or_null : Option ℕ → List ℕ
number_or_null None = codes "null"
number_or_null (Some n) = decimal n

-- the number that is noted for the operation in a slot, null where none is, or where none is there
abbrev pub slot_value : List (Option ℕ) → Option ℕ → List ℕ
slot_value origins None = codes "null"
slot_value origins (Some k) = number_or_null (slice_index_or origins k None)

-- the values of the two slots of a row
abbrev pub row_value : List (Option ℕ) → Row → List ℕ
row_value origins row = codes "[" ++ slot_value origins row.zero ++ codes "," ++ slot_value origins row.one ++ codes "]"

-- rows with commas between them
abbrev pub rows_values : List (Option ℕ) → List Row → List ℕ
rows_values origins [] = []
rows_values origins (row ∷ rest) = row_value origins row ++ flat_map (λ r. codes "," ++ row_value origins r) rest

abbrev pub operations_member : List (Option ℕ) → List Row → List ℕ
operations_member origins rows = codes ",\"operations\":[" ++ rows_values origins rows ++ codes "]"

-- null where a line can't be read
abbrev pub origins_member : Verdict → List (Option ℕ) → List Row → List ℕ
origins_member (Refused (Unread unread words) changes) origins rows = codes ",\"operations\":null"
origins_member verdict origins rows = operations_member origins rows

-- All of it

abbrev pub json_of : (passing : Bool) → List Op → List Row → Verdict → List (Option ℕ) → Checked → List ℕ
json_of passing ops rows verdict origins checked =
    verdict_members passing (length rows) checked ++ detail_members ops rows verdict ++ origins_member verdict origins rows
    ++ codes "}\n"
