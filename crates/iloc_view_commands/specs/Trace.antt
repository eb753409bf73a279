-- `trace` lists what each block's schedule does on the timed machine.
use Rattle.std.specs.Prelude.{◌≡◌, ℕ, List, ◌++◌, Option, codes}
use Rattle.iloc_ops.specs.declared.file.Block.{Block}
use Rattle.iloc_timed.specs.Schedule.{Table}
use Rattle.iloc_trace.specs.Events.{events}
use Rattle.iloc_trace.specs.Listing.{trace_lines}
use Rattle.iloc_args.specs.declared.request.Request.{Request}
use Rattle.iloc_driver.specs.Command.{Command, IsScheduleFor, initial_memory, of_files}
use Rattle.iloc_driver.specs.Entries.{IsListingOf, no_ending}
use Rattle.iloc_driver.specs.Priorities.{own_of}
use Rattle.iloc_listing.specs.Listing.{block_head}

-- the entry of block k: its number and its name, and what its schedule, by its own priorities if it has some, does on the request's
-- memory
pub record IsTraceEntry (request : Request) (own : Option (List ℕ)) (k : ℕ) (b : Block) (entry : List ℕ) (found : Unit {0})
    : Type 0 where
  pub schedule : Table
  pub greedy : IsScheduleFor request own b schedule
  pub listed : entry ≡ block_head k b.name ++ codes "\n"
      ++ trace_lines (events request.latencies (initial_memory request) schedule.ops schedule.rows)

-- of files
abbrev pub trace_files : Command
trace_files = of_files (λ request own. IsListingOf (λ k. IsTraceEntry request (own_of own k) k) no_ending)
