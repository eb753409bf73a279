-- The listing of what is said of the schedules that others proposed for a file's blocks.
use Rattle.std.specs.Prelude.{ℕ, ◌≡◌, ◌≤◌, ℤ, Bool, true, false, Option, Some, None, List, [], ◌++◌, sum_by, codes}
use Rattle.std.specs.Option.{option_map_or}
use Rattle.std.specs.List.{flat_map}
use Rattle.std.specs.Fmt.{decimal}
use Rattle.iloc_ops.specs.declared.file.Block.{Block}
use Rattle.iloc_timed.specs.declared.latencies.Latencies.{Latencies}
use Rattle.iloc_timed.specs.Schedule.{Table}
use Rattle.iloc_rows.specs.declared.proposal.Proposed.{Proposed}
use Rattle.iloc_rules.specs.declared.heuristic.Heuristic.TheVariants.{Chain}
use Rattle.iloc_rules.specs.declared.memory_rule.MemoryRule.{MemoryRule}
use Rattle.iloc_rules.specs.Heuristics.{priorities_under}
use Rattle.iloc_bound.specs.Bound.{least_under}
use Rattle.iloc_verdict.specs.declared.checked.Checked.{Checked}
use Rattle.iloc_comparison.specs.declared.task.CheckOptions.{CheckOptions}
use Rattle.iloc_comparison.specs.declared.task.Form.{Form}
use Rattle.iloc_comparison.specs.declared.task.Form.TheVariants as forms
use Rattle.iloc_judge.specs.Checked.{IsCheck}
use Rattle.iloc_verdict.specs.Checked.{passes}
use Rattle.iloc_pieces.specs.Escaped.{escaped}
use Rattle.iloc_listing.specs.Limits.{most_cycles, most_proposed_cycles}
use Rattle.iloc_listing.specs.Listing.{head_as}
use Rattle.iloc_driver.specs.Rows.{ListsRows}
use Rattle.iloc_listing.specs.Schedules.{IsCountUnder, IsTheGreedy}
use Rattle.iloc_driver.specs.declared.commands.Finding.{Finding}
use Rattle.iloc_args.specs.Flags.{has}
use Rattle.iloc_args.specs.declared.flag.Flag.{Flag}
use Rattle.iloc_args.specs.declared.flag.Flag.TheVariants.{Csv, EitherSlot, Json, Lawful, Operations, Outputs}
use Rattle.iloc_args.specs.declared.request.Request.{Request}
use Rattle.iloc_args.specs.Rule.{memory_rule}
use Rattle.iloc_rows.specs.EitherSlot.{placed}
use Rattle.iloc_driver.specs.Command.{Command, of_rows, initial_memory}
use Rattle.iloc_optimum.specs.Optimum.{IsSoughtIf}

-- the form of a listing for which a table is asked, or JSON
abbrev pub form_as : (csv json : Bool) → Form
form_as csv true = forms.Json
form_as true false = forms.Table
form_as false false = forms.Lines

abbrev pub form_of : Request → Form
form_of request = form_as (has request.flags Csv) (has request.flags Json)

-- what flags ask of rows, by whether each is given
abbrev pub options_by : (Flag → Bool) → CheckOptions
options_by is_given = record {
  lawful = is_given Lawful;
  operations = is_given Operations;
  outputs_alone = is_given Outputs;
  form = form_as (is_given Csv) (is_given Json);
}

-- what a request asks of them
abbrev pub options_of : Request → CheckOptions
options_of request = options_by (has request.flags)

-- the name of a block as a member of JSON, null for a block without a name
abbrev pub name_member : Option (List ℕ) → List ℕ
name_member None = codes "\"name\":null"
name_member (Some name) = codes "\"name\":\"" ++ flat_map escaped name ++ codes "\""

-- `{"block":K,"name":NAME`
abbrev pub json_head : ℕ → Option (List ℕ) → List ℕ
json_head k name = codes "{\"block\":" ++ decimal k ++ codes "," ++ name_member name

-- how the entry of a block begins
abbrev pub check_head : Form → ℕ → Option (List ℕ) → List ℕ
check_head forms.Lines k name = head_as false k name
check_head forms.Table k name = head_as true k name
check_head forms.Json k name = json_head k name

-- The entry of block k and its proposal: the block's number and its name, and what is said of the proposal, which is judged
-- beside the block's greedy schedule by the book. By this rule of memory are the cycles of our schedule, what a search finds, if it
-- has nodes, and the least.
pub record IsCheckEntry (options : CheckOptions) (nodes : Option ℕ) (rule : MemoryRule) (lat : Latencies) (memory : List ℤ)
    (k : ℕ) (of : Block × Proposed) (entry : List ℕ) (checked : Checked) : Type 0 where
  pub ours : Table
  pub greedy : IsTheGreedy Chain lat of.0 ours
  pub counted : IsCountUnder rule (priorities_under rule Chain lat) lat of.0 checked.ours
  pub sought : IsSoughtIf nodes rule lat of.0.ops checked.sought
  pub least : checked.least ≡ least_under rule lat of.0.ops
  pub text : List ℕ
  pub right : IsCheck options lat memory of.0.ops ours of.1 checked text
  pub listed : entry ≡ check_head options.form k of.0.name ++ text

-- the numbers of one proposal are small
pub record IsSmall (c : Checked) : Type 0 where
  pub cycles : c.cycles ≤ most_proposed_cycles
  pub ours : c.ours ≤ most_cycles
  pub least : c.least ≤ most_cycles

-- what a table begins with, by the nodes that the request has
abbrev pub check_header : Option ℕ → List ℕ
check_header None = codes "block,name,verdict,cycles,ours,least,claimed\n"
check_header (Some nodes) = codes "block,name,verdict,cycles,ours,best,bound,least,claimed\n"

-- a table has its header before the first row
abbrev pub check_opening : Form → Option ℕ → List ℕ
check_opening forms.Lines nodes = []
check_opening forms.Table nodes = check_header nodes
check_opening forms.Json nodes = []

-- the best cycles that a search finds, and the bound, or else 0
abbrev pub best_of : Checked → ℕ
best_of c = option_map_or (λ s. s.best) c.sought 0

abbrev pub bound_of : Checked → ℕ
bound_of c = option_map_or (λ s. s.bound) c.sought 0

-- ` best C bound B` of all together, where the request has nodes
abbrev pub sought_totals : Option ℕ → List Checked → List ℕ
sought_totals None found = []
sought_totals (Some nodes) found =
    codes " best " ++ decimal (sum_by best_of found) ++ codes " bound " ++ decimal (sum_by bound_of found)

-- `total C ours O least L`: the cycles that are proposed, those of our schedules, what was sought and the least, each together
abbrev pub totals_line : Option ℕ → List Checked → List ℕ
totals_line nodes found =
    codes "total " ++ decimal (sum_by (λ c. c.cycles) found) ++ codes " ours " ++ decimal (sum_by (λ c. c.ours) found)
    ++ sought_totals nodes found ++ codes " least " ++ decimal (sum_by (λ c. c.least) found) ++ codes "\n"

-- the totals, which neither a table nor JSON has
abbrev pub check_ending : Form → Option ℕ → List Checked → List ℕ
check_ending forms.Lines nodes found = totals_line nodes found
check_ending forms.Table nodes found = []
check_ending forms.Json nodes found = []

-- The text says of each proposal, beside the greedy schedules of its block, what is right, in a table below its header, and
-- in lines with the totals at the end. They passed exactly where each does.
abbrev pub ListsChecked : CheckOptions → Option ℕ → MemoryRule → Latencies → List ℤ → List Block → List Proposed → Finding
    → List ℕ → Type 0
ListsChecked options nodes rule lat memory blocks proposals finding text =
    ListsRows (IsCheckEntry options nodes rule lat memory) (check_opening options.form nodes) (check_ending options.form nodes)
    (passes options.lawful) blocks proposals finding text

-- The text is what the request says of what is proposed for blocks, with this finding: of the rows with leave for either slot,
-- if it gives that.
abbrev pub Checks : Request → List Block → List Proposed → Finding → List ℕ → Type 0
Checks request blocks proposals finding text =
    ListsChecked (options_of request) request.nodes (memory_rule request) request.latencies (initial_memory request) blocks
    (placed (has request.flags EitherSlot) proposals) finding text

abbrev pub check_command : Command
check_command = of_rows Checks
