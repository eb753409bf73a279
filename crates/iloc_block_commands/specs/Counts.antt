-- `counts` lists how many cycles each block's schedule takes.
use Rattle.std.specs.Prelude.{◌≡◌, ℕ, List, Option}
use Rattle.iloc_ops.specs.declared.file.Block.{Block}
use Rattle.iloc_timed.specs.Schedule.{Table}
use Rattle.iloc_args.specs.Flags.{has}
use Rattle.iloc_args.specs.declared.flag.Flag.TheVariants.{Csv}
use Rattle.iloc_args.specs.declared.request.Request.{Request}
use Rattle.iloc_args.specs.Rule.{memory_rule}
use Rattle.iloc_driver.specs.Entries.{IsListingAfter}
use Rattle.iloc_listing.specs.Listing.{count_ending, count_header, count_line, cycles_of, listing_of_counts, opening_as}
use Rattle.iloc_listing.specs.Schedules.{IsCountUnder, ranks_under}
use Rattle.iloc_driver.specs.Command.{Command, IsScheduleFor, shared_by}
use Rattle.iloc_driver.specs.Priorities.{Own, own_of}

-- the entry of block k: the cycles of its schedule, by its own priorities if it has some, which are found
pub record IsCountEntry (request : Request) (own : Option (List ℕ)) (k : ℕ) (b : Block) (entry : List ℕ) (cycles : ℕ)
    : Type 0 where
  pub schedule : Table
  pub greedy : IsScheduleFor request own b schedule
  pub listed : entry ≡ count_line (has request.flags Csv) k b.name (cycles_of request.latencies schedule)
  pub counted : cycles ≡ cycles_of request.latencies schedule

-- `text` is the listing of `blocks` for `request`, with their own priorities if there are some
abbrev pub IsCountListing : Request → Own → List Block → List ℕ → Type 0
IsCountListing request own blocks text =
    IsListingAfter (λ k. IsCountEntry request (own_of own k) k) (opening_as (has request.flags Csv) count_header)
    (count_ending (has request.flags Csv)) blocks text

-- workers hand back the cycles
abbrev pub counts_command : Command
counts_command =
    shared_by (λ request own k b c. IsCountUnder (memory_rule request)
    (ranks_under (memory_rule request) request.priority request.latencies own) request.latencies b c) (λ c. c)
    (λ request. listing_of_counts (has request.flags Csv)) IsCountListing
