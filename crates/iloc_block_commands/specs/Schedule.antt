-- `schedule` lists each block's schedule.
use Rattle.std.specs.Prelude.{◌≡◌, ℕ, List, Option}
use Rattle.iloc_ops.specs.declared.file.Block.{Block}
use Rattle.iloc_timed.specs.Schedule.{Table}
use Rattle.iloc_args.specs.declared.request.Request.{Request}
use Rattle.iloc_listing.specs.Listing.{cycles_of, listing_of_entries, schedule_entry, total_of_all}
use Rattle.iloc_driver.specs.Command.{Command, IsScheduleFor, shared_by}
use Rattle.iloc_driver.specs.Priorities.{Own, own_of}
use Rattle.iloc_driver.specs.Entries.{IsListingOf}
use Rattle.iloc_listing.specs.declared.text.ScheduleEntry.{ScheduleEntry}

-- the entry of block k: its schedule, by its own priorities if it has some, a line for each row, and its cycles, which are found
pub record IsScheduleEntry (request : Request) (own : Option (List ℕ)) (k : ℕ) (b : Block) (entry : List ℕ) (cycles : ℕ)
    : Type 0 where
  pub schedule : Table
  pub greedy : IsScheduleFor request own b schedule
  pub listed : entry ≡ schedule_entry request.latencies k b.name schedule
  pub counted : cycles ≡ cycles_of request.latencies schedule

-- `text` is the listing of `blocks` for `request`, with their own priorities if there are some
abbrev pub IsScheduleListing : Request → Own → List Block → List ℕ → Type 0
IsScheduleListing request own blocks text = IsListingOf (λ k. IsScheduleEntry request (own_of own k) k) total_of_all blocks text

-- workers hand back the entries
abbrev pub schedule_command : Command
schedule_command =
    shared_by (λ request own k b (e : ScheduleEntry). IsScheduleEntry request own k b e.text e.cycles) (λ e. e.cycles)
    (λ request blocks entries. listing_of_entries entries) IsScheduleListing
