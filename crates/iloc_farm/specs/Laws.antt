-- What holds of listings as a whole.
use Rattle.std.specs.Prelude.{◌≡◌, ℕ, ℤ, ◌<◌, ◌≤◌, ◌^◌, Bool, true, false, is_some, List, length, Option, Some, IsTrue}
use Rattle.std.specs.List.{AllZip}
use Rattle.iloc_ops.specs.declared.file.Block.{Block}
use Rattle.iloc_ops.specs.declared.op.Op.{Op}
use Rattle.iloc_text.specs.Files.{AreWithinLimits, Denotes}
use Rattle.iloc_timed.specs.declared.latencies.Latencies.{Latencies}
use Rattle.iloc_timed.specs.declared.row.Row.{Row}
use Rattle.iloc_timed.specs.Cycles.{cycles}
use Rattle.iloc_timed.specs.Schedule.{Table}
use Rattle.iloc_rules.specs.Greedy.{IsGreedyWhere}
use Rattle.iloc_rules.specs.Least.{least}
use Rattle.iloc_rules.specs.Rule.{counts_by}
use Rattle.iloc_rules.specs.declared.heuristic.Heuristic.{Heuristic}
use Rattle.iloc_rules.specs.declared.memory_rule.MemoryRule.{MemoryRule}
use Rattle.iloc_optimum.specs.Bound.{IsOptimal}
use Rattle.iloc_rows.specs.declared.proposal.Proposed.{Proposed}
use Rattle.iloc_validation.specs.ByTheBook.{IsByTheBook}
use Rattle.iloc_judge.specs.Checked.{DoTheSame, MayPass}
use Rattle.iloc_comparison.specs.declared.task.CheckOptions.{CheckOptions}
use Rattle.iloc_rows.specs.Submissions as submissions
use Rattle.iloc_args.specs.Flags.{has}
use Rattle.iloc_args.specs.declared.flag.Flag.TheVariants.{Where}
use Rattle.iloc_args.specs.declared.request.Request.{Request}
use Rattle.iloc_args.specs.declared.request.Task.{Task}
use Rattle.iloc_args.specs.declared.request.Task.TheVariants as task
use Rattle.iloc_farm.specs.Commands.{command_of}
use Rattle.iloc_driver.specs.declared.commands.Finding.{Finding}
use Rattle.iloc_driver.specs.declared.commands.Finding.TheVariants.{Passed}
use Rattle.iloc_driver.specs.Run.Apart.{Held, ReadsApart}
use Rattle.iloc_row_commands.specs.Check.{ListsChecked}
use Rattle.iloc_block_commands.specs.Compare.{IsComparedCycles, optimal}
use Rattle.iloc_block_commands.specs.declared.compare.ComparedCycles.{ComparedCycles}
use Rattle.iloc_listing.specs.Listing.{total_cycles}
use Rattle.iloc_driver.specs.Priorities.{Own}
use Rattle.iloc_driver.specs.Run.{IsListing, IsListingFor, ListsFrom, takes_rows}
use Rattle.iloc_listing.specs.Schedules.{AreGreedyAs, IsCountUnder}

-- the requests ask for the same, but maybe of other workers
pub record AskAlike (r q : Request) : Type 0 where
  pub task : r.task ≡ q.task
  pub at : r.at ≡ q.at
  pub words : r.words.items ≡ q.words.items
  pub latencies : r.latencies ≡ q.latencies
  pub priority : r.priority ≡ q.priority
  pub priorities_file : r.priorities_file ≡ q.priorities_file
  pub nodes : r.nodes ≡ q.nodes
  pub task_file : r.task_file ≡ q.task_file
  pub flags : r.flags ≡ q.flags

-- whether a request with a task and `nodes` searches for schedules of the blocks of a file
abbrev pub searches : Task → Option ℕ → Bool
searches task.Optimize nodes = true
searches task.Compare nodes = is_some nodes
searches _ nodes = false

-- What such requests list of one file, with the same priorities of its own, is one text, but where schedules are searched for: which of them is found is not settled.
-- Where rows are read no file is listed: which of two right verdicts is given, and by which pairing rows are explained, is not
-- settled either, so of one input more than one text may be listed.
abbrev pub ListingsIgnoreWorkers : Type 0
ListingsIgnoreWorkers = (r q : Request) → AskAlike r q → searches r.task r.nodes ≡ false
    → (input : List ℕ) (blocks blocks' : List Block) → Denotes input blocks → Denotes input blocks'
    → (own : Own) (text text' : List ℕ)
    → IsListing command_of r own blocks text → IsListing command_of q own blocks' text' → text ≡ text'

-- where schedules are searched for, what one of such requests may list of blocks, so may the other
abbrev pub OptimaIgnoreWorkers : Type 0
OptimaIgnoreWorkers = (r q : Request) → AskAlike r q → (t : Task) → searches t r.nodes ≡ true
    → (own : Own) (blocks : List Block) (text : List ℕ)
    → IsListingFor command_of t r own blocks text → IsListingFor command_of t q own blocks text

-- By any rule of memory, a schedule, greedy by whatever priorities, that is counted as optimal beside a comparison of
-- its block is optimal among the block's schedules that are lawful by the rule.
abbrev pub CountedOptimaAreOptimal : Type 0
CountedOptimaAreOptimal = (rule : MemoryRule) (lat : Latencies) (nodes : Option ℕ) (numbers : Option (List ℕ)) (b : Block)
    (c : ComparedCycles) → IsComparedCycles rule lat nodes numbers b c → (prios : List Op → List ℕ) (cycles : ℕ)
    → IsCountUnder rule prios lat b cycles → optimal cycles c ≡ 1
    → (s : Table) → IsGreedyWhere (counts_by rule s.ops) (prios s.ops) lat b.ops s.ops s.rows
    → IsOptimal rule lat b.ops s.ops s.rows

-- what is listed of blocks as what comes of their schedules is what is listed as what comes of them, where it isn't asked at
-- which place they fault
abbrev pub SimulatingListsRuns : Type 0
SimulatingListsRuns = (request : Request) (own : Own) (blocks : List Block) (text : List ℕ) → has request.flags Where ≡ false
    → IsListingFor command_of task.Simulate request own blocks text → IsListingFor command_of task.Run request own blocks text

-- what one of such requests may list where rows are read, so may the other
abbrev pub ChecksIgnoreWorkers : Type 0
ChecksIgnoreWorkers = (r q : Request) → AskAlike r q → IsTrue (takes_rows command_of r.task r.task_file)
    → (held : Held) (old new : Option (List ℕ)) (finding : Finding) (text : List ℕ) → ListsFrom command_of held r old new finding text
    → ListsFrom command_of held q old new finding text

-- where a check passed, the rows that are proposed for each block keep the rules of the units and have its outcome on
-- every memory or, where outputs alone are compared, show what it shows
abbrev pub PassedChecksKeepOutcomes : Type 0
PassedChecksKeepOutcomes = (options : CheckOptions) (nodes : Option ℕ) (rule : MemoryRule) (lat : Latencies) (memory : List ℤ)
    (blocks : List Block) (proposals : List Proposed) (text : List ℕ)
    → ListsChecked options nodes rule lat memory blocks proposals Passed text
    → AllZip (λ (b : Block) (p : Proposed). DoTheSame options.outputs_alone lat b.ops p.ops p.rows) blocks proposals

-- and they pass only if they may
abbrev pub PassedChecksMayPass : Type 0
PassedChecksMayPass = (options : CheckOptions) (nodes : Option ℕ) (rule : MemoryRule) (lat : Latencies) (memory : List ℤ)
    (blocks : List Block) (proposals : List Proposed) (text : List ℕ)
    → ListsChecked options nodes rule lat memory blocks proposals Passed text
    → AllZip (λ (b : Block) (p : Proposed). MayPass options lat memory b.ops p.ops p.rows) blocks proposals

-- of a text that is known, two checks judge the same blocks, whatever was handed in to each
abbrev pub HandInsDontChangeTheTask : Type 0
HandInsDontChangeTheTask = (known : List ℕ) (old new old' new' : Option (List ℕ)) (blocks blocks' : List Block)
    (proposals proposals' : List Proposed) → ReadsApart (Some known) old new blocks proposals
    → ReadsApart (Some known) old' new' blocks' proposals' → blocks ≡ blocks'

-- By every heuristic, the greedy schedules of blocks within the limits are as many as the blocks, and their cycles together
-- are below 2^63, as the listings of schedules want.
abbrev pub GreedySchedulesCanBeListed : Type 0
GreedySchedulesCanBeListed = (heuristic : Heuristic) (lat : Latencies) (blocks : List Block) (schedules : List Table)
    → AreWithinLimits blocks → AreGreedyAs heuristic lat blocks schedules
    → (length schedules ≡ length blocks) × (total_cycles lat schedules < 2 ^ 63)

-- rows by the book take no fewer cycles than a lawful schedule
abbrev pub ByTheBookTakesTheLeast : Type 0
ByTheBookTakesTheLeast = (lat : Latencies) (block ops : List Op) (rows : List Row)
    → IsByTheBook lat block ops rows → least lat block ≤ cycles lat ops rows
