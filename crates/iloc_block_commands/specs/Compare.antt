-- `compare` lists by the request's rule of memory the bound on each block's cycles, and the cycles of its schedules by each
-- heuristic and by its own priorities, if it has some.
use Rattle.std.specs.Prelude.{ℕ, ◌≡◌, ◌==◌, ◌&&◌, nat_le, Bool, true, false, if◌then◌else◌, is_some, List, [], ◌++◌, slice_index, sum_by, length, MatchOption, Option, Some, None, codes}
use Rattle.std.specs.List.{flat_map, list_all, position_or_len}
use Rattle.std.specs.Str.{bytes_eq}
use Rattle.std.specs.Option.{option_map_or}
use Rattle.std.specs.Fmt.{decimal}
use Rattle.iloc_ops.specs.declared.file.Block.{Block}
use Rattle.iloc_timed.specs.declared.latencies.Latencies.{Latencies}
use Rattle.iloc_rules.specs.declared.memory_rule.MemoryRule.{MemoryRule}
use Rattle.iloc_rules.specs.Heuristics.{priorities_under}
use Rattle.iloc_bound.specs.Bound.{least_under}
use Rattle.iloc_rules.specs.declared.heuristic.Heuristic.{Heuristic}
use Rattle.iloc_rules.specs.declared.heuristic.Heuristic.TheVariants.{Chain}
use Rattle.iloc_rules.specs.declared.sought.Sought.{Sought}
use Rattle.iloc_rules.specs.Heuristics.Listed.{heuristics}
use Rattle.iloc_args.specs.Priority.{priority_word}
use Rattle.iloc_args.specs.Flags.{has}
use Rattle.iloc_args.specs.declared.flag.Flag.TheVariants.{Csv}
use Rattle.iloc_args.specs.declared.request.Request.{Request}
use Rattle.iloc_args.specs.Rule.{memory_rule}
use Rattle.iloc_block_commands.specs.declared.compare.ComparedCycles.{ComparedCycles}
use Rattle.iloc_driver.specs.Entries.{IsListingAfter}
use Rattle.iloc_listing.specs.Listing.{entries, field, head_as, opening_as}
use Rattle.iloc_listing.specs.Schedules.{IsCountUnder}
use Rattle.iloc_driver.specs.Command.{Command, shared_by}
use Rattle.iloc_driver.specs.Priorities.{Own, own_of}
use Rattle.iloc_optimum.specs.Optimum.{IsSoughtIf}

-- the place of a heuristic among them, by its word
abbrev pub place : Heuristic → ℕ
place heuristic = position_or_len (λ h. bytes_eq (priority_word h) (priority_word heuristic)) heuristics

-- how many cycles the schedule by this heuristic takes
abbrev pub cycles_by : Heuristic → ComparedCycles → ℕ
cycles_by heuristic c = slice_index c.cycles (place heuristic)

-- how many cycles the block's schedules take by a rule of memory, by each heuristic
pub record AreCounts (rule : MemoryRule) (lat : Latencies) (b : Block) (cycles : List ℕ) : Type 0 where
  pub all : length cycles ≡ length heuristics
  pub each : (heuristic : Heuristic)
      → IsCountUnder rule (priorities_under rule heuristic lat) lat b (slice_index cycles (place heuristic))

-- how many the block's schedule takes by its own priorities, if it has some
abbrev pub IsOwnCount : MemoryRule → Latencies → Option (List ℕ) → Block → Option ℕ → Type 0
IsOwnCount rule lat None b count = count ≡ None
IsOwnCount rule lat (Some numbers) b count = MatchOption count ⊥ (IsCountUnder rule (λ _. numbers) lat b)

-- by `rule` the bound on the cycles of the block `b`, what is found of them if the request has `nodes`, and the cycles
-- of its schedules, also by `numbers`, priorities of its own, if it has some
pub record IsComparedCycles (rule : MemoryRule) (lat : Latencies) (nodes : Option ℕ) (numbers : Option (List ℕ)) (b : Block)
    (c : ComparedCycles) : Type 0 where
  pub bound : c.least ≡ least_under rule lat b.ops
  pub sought : IsSoughtIf nodes rule lat b.ops c.sought
  pub counts : AreCounts rule lat b c.cycles
  pub own : IsOwnCount rule lat numbers b c.own

-- the bound that is known: what a search proves, or else `least`
abbrev pub bound_of : ComparedCycles → ℕ
bound_of c = option_map_or (λ s. s.bound) c.sought c.least

-- the cycles of the best schedule that a search finds, or else 0
abbrev pub best_of : ComparedCycles → ℕ
best_of c = option_map_or (λ s. s.best) c.sought 0

-- whether none of the schedules takes fewer
abbrev pub is_fewest : ℕ → ComparedCycles → Bool
is_fewest cycles c = list_all (nat_le cycles) c.cycles && option_map_or (nat_le cycles) c.own true

-- 1 for a block where one of the `cycles` has the fewest
abbrev pub fewest : ℕ → ComparedCycles → ℕ
fewest cycles c = if is_fewest cycles c then 1 else 0

-- 1 for a block where one takes as many as the bound: then no schedule that is lawful by the rule takes fewer
abbrev pub optimal : ℕ → ComparedCycles → ℕ
optimal cycles c = if cycles == bound_of c then 1 else 0

-- what is counted of the schedule by this heuristic
abbrev pub counted_by : (ℕ → ComparedCycles → ℕ) → Heuristic → ComparedCycles → ℕ
counted_by counted heuristic c = counted (cycles_by heuristic c) c

-- and of that by the block's own priorities, if it has some
abbrev pub counted_own : (ℕ → ComparedCycles → ℕ) → ComparedCycles → ℕ
counted_own counted c = option_map_or (λ cycles. counted cycles c) c.own 0

-- a number by its heuristic
abbrev pub column : Bool → Heuristic → ℕ → List ℕ
column csv heuristic number = field csv (priority_word heuristic) number

-- the `number` of each heuristic of `each`
abbrev pub columns : Bool → (Heuristic → ℕ) → List Heuristic → List ℕ
columns csv number each = flat_map (λ heuristic. column csv heuristic (number heuristic)) each

-- ` bound B best C`, or `,B,C` in a table, where that was sought
abbrev pub sought_columns : Bool → Option Sought → List ℕ
sought_columns csv None = []
sought_columns csv (Some s) = field csv (codes "bound") s.bound ++ field csv (codes "best") s.best

-- ` own C`, or `,C` in a table, where the block has priorities of its own
abbrev pub own_column : Bool → Option ℕ → List ℕ
own_column csv None = []
own_column csv (Some cycles) = field csv (codes "own") cycles

-- `block K NAME least L chain C ..`, or `K,NAME,L,C,..` in a table
abbrev pub compare_line : Bool → ℕ → Option (List ℕ) → ComparedCycles → List ℕ
compare_line csv k name c =
    head_as csv k name ++ field csv (codes "least") c.least ++ sought_columns csv c.sought
    ++ columns csv (λ heuristic. cycles_by heuristic c) heuristics ++ own_column csv c.own ++ codes "\n"

-- the entry of block k: its comparison, which is found
pub record IsCompareEntry (request : Request) (own : Option (List ℕ)) (k : ℕ) (b : Block) (entry : List ℕ)
    (found : ComparedCycles) : Type 0 where
  pub compares : IsComparedCycles (memory_rule request) request.latencies request.nodes own b found
  pub listed : entry ≡ compare_line (has request.flags Csv) k b.name found

-- the words for the heuristics, each after a comma
abbrev pub names : List ℕ
names = flat_map (λ heuristic. codes "," ++ priority_word heuristic) heuristics

-- what comes before them, by the nodes that the request has
abbrev pub heading : Option ℕ → List ℕ
heading None = codes "block,name,least"
heading (Some nodes) = codes "block,name,least,bound,best"

-- what follows them where the request names priorities
abbrev pub own_name : Bool → List ℕ
own_name false = []
own_name true = codes ",own"

-- what a table begins with
abbrev pub compare_header : Option ℕ → Bool → List ℕ
compare_header nodes own = heading nodes ++ names ++ own_name own ++ codes "\n"

-- the sum for the blocks' own priorities, where the request names some
abbrev pub own_sum : Bool → (ℕ → ComparedCycles → ℕ) → List ComparedCycles → List ℕ
own_sum false counted found = []
own_sum true counted found = field false (codes "own") (sum_by (counted_own counted) found)

-- the sums for each heuristic, and that one
abbrev pub sums_of : Bool → (ℕ → ComparedCycles → ℕ) → List ComparedCycles → List ℕ
sums_of own counted found =
    columns false (λ heuristic. sum_by (counted_by counted heuristic) found) heuristics ++ own_sum own counted found

-- ` bound B best C` of all together, where the request has nodes
abbrev pub sought_sums : Option ℕ → List ComparedCycles → List ℕ
sought_sums None found = []
sought_sums (Some nodes) found =
    field false (codes "bound") (sum_by bound_of found) ++ field false (codes "best") (sum_by best_of found)

-- `total least L bound B best C chain C ..`
abbrev pub sums_line : Option ℕ → Bool → List ComparedCycles → List ℕ
sums_line nodes own found =
    codes "total least " ++ decimal (sum_by (λ c. c.least) found) ++ sought_sums nodes found
    ++ sums_of own (λ cycles _. cycles) found ++ codes "\n"

-- `LABEL chain N .. of B`, with the number of blocks
abbrev pub tally_line : List ℕ → Bool → (ℕ → ComparedCycles → ℕ) → List ComparedCycles → List ℕ
tally_line label own counted found =
    label ++ sums_of own counted found ++ codes " of " ++ decimal (length found) ++ codes "\n"

-- the sums, and how many blocks have the fewest cycles or the bound
abbrev pub compare_totals : Option ℕ → Bool → List ComparedCycles → List ℕ
compare_totals nodes own found =
    sums_line nodes own found ++ tally_line (codes "fewest") own fewest found ++ tally_line (codes "optimal") own optimal found

-- the totals, which a table has not
abbrev pub compare_ending : Bool → Option ℕ → Bool → List ComparedCycles → List ℕ
compare_ending true nodes own found = []
compare_ending false nodes own found = compare_totals nodes own found

-- what comes before the blocks for a request, and after them
abbrev pub opening_for : Request → List ℕ
opening_for request = opening_as (has request.flags Csv) (compare_header request.nodes (is_some request.priorities_file))

abbrev pub ending_for : Request → List ComparedCycles → List ℕ
ending_for request found = compare_ending (has request.flags Csv) request.nodes (is_some request.priorities_file) found

-- `text` is the listing of `blocks` for `request`, with their own priorities if there are some
abbrev pub IsCompareListing : Request → Own → List Block → List ℕ → Type 0
IsCompareListing request own blocks text =
    IsListingAfter (λ k. IsCompareEntry request (own_of own k) k) (opening_for request) (ending_for request) blocks text

-- that of blocks of which this is compared
abbrev pub listing_of_compared : Request → List Block → List ComparedCycles → List ℕ
listing_of_compared request blocks found =
    (opening_for request ++ entries (compare_line (has request.flags Csv)) 1 blocks found) ++ ending_for request found

-- workers hand back all that is compared
abbrev pub compare_command : Command
compare_command =
    shared_by (λ request own k b c. IsComparedCycles (memory_rule request) request.latencies request.nodes own b c)
    (cycles_by Chain) listing_of_compared IsCompareListing
