-- `simulate` lists what comes of each block's schedule on the timed machine.
use Rattle.std.specs.Prelude.{◌≡◌, ℕ, List, Option}
use Rattle.iloc_ops.specs.declared.file.Block.{Block}
use Rattle.iloc_meaning.specs.Outcome.{outcome}
use Rattle.iloc_timed.specs.Schedule.{Table}
use Rattle.iloc_timed.specs.Timed.{timed_outcome}
use Rattle.iloc_args.specs.declared.request.Request.{Request}
use Rattle.iloc_driver.specs.Command.{initial_memory, Command, IsScheduleFor, of_files}
use Rattle.iloc_driver.specs.Entries.{no_ending, IsListingOf}
use Rattle.iloc_driver.specs.Priorities.{own_of}
use Rattle.iloc_listing.specs.Listing.{outcome_entry}

-- The entry of block k: its number and its name, and what its schedule, by its own priorities if it has some, emits on the
-- request's memory, or that it faults. It is what the block itself emits, or that it faults.
pub record IsSimulateEntry (request : Request) (own : Option (List ℕ)) (k : ℕ) (b : Block) (entry : List ℕ) (found : Unit {0})
    : Type 0 where
  pub schedule : Table
  pub greedy : IsScheduleFor request own b schedule
  pub timed : entry ≡ outcome_entry k b.name
      (timed_outcome request.latencies schedule.ops schedule.rows (initial_memory request))
  pub plain : entry ≡ outcome_entry k b.name (outcome b.ops (initial_memory request))

abbrev pub simulate_command : Command
simulate_command = of_files (λ request own. IsListingOf (λ k. IsSimulateEntry request (own_of own k) k) no_ending)
