-- What listings of schedules keep, by what is known of their entries.
use Rattle.iloc_farm.proofs.Common.{◌≡◌, ℕ, ◌++◌, Bool, List, map, Some, None, Option, sym, refl, ap, ◌∙◌, ap₂, subst, append-nil, AllZip, zip, Block, Table, Latencies, MemoryRule, ruled_least_bound, has, memory_rule, Csv, Cycles, Where, Request, count_line, cycles_of, outcome_entry, schedule_entry, total_of_all, initial_memory, opening_as, ranks_under, Own, own_of, ListsAs, Held, Finding, command_of}
use Rattle.std.specs.Io.KnownBytes.{Appends}
use Rattle.std.proofs.lemmas.Simd.{map-map}
use Rattle.std.proofs.lemmas.Slice.Zip.{AllZip-map}
use Rattle.iloc_meaning.specs.Outcome.{outcome}
use Rattle.iloc_meaning.specs.declared.outcome.Outcome.{Outcome}
use Rattle.iloc_rules.proofs.Outcome.LawfulOutcomes.{ruled_same_outcome}
use Rattle.iloc_optimum.specs.Bound.{IsBound}
use Rattle.iloc_args.specs.Asked.{asked_in}
use Rattle.iloc_args.specs.declared.request.Task.TheVariants as task
use Rattle.iloc_bound.specs.Bound.{least_under}
use Rattle.iloc_driver.specs.Entries.{ListsRead}
use Rattle.iloc_listing.specs.Listing.{bound_comment, count_ending, count_header, entries}
use Rattle.iloc_block_commands.specs.Counts.{IsCountEntry}
use Rattle.iloc_block_commands.specs.Optimize.{IsOptimizeEntry}
use Rattle.iloc_block_commands.specs.Run.{IsRunEntry, IsShownOf}
use Rattle.iloc_block_commands.specs.Schedule.{IsScheduleEntry}
use Rattle.iloc_block_commands.specs.Simulate.{IsSimulateEntry}
use Rattle.iloc_view_commands.specs.Explain.{IsExplainEntry, explain_header, with_block}
use Rattle.iloc_farm.proofs.Chosen.{AreOf, IsOf, entries_mapped, first, halves, items_of, mapped, second, total_mapped, total_same, weaker, zip_halves}
use Rattle.iloc_farm.specs.Headline.{KeepsItsBlock}
use Rattle.iloc_farm.specs.Reads.{ReadsBlocks}
use Rattle.iloc_farm.specs.Theorem.Kept.{IsLawfulFor, KeepsEachBlock}
use Rattle.iloc_farm.specs.Theorem.Listed.{Explains, ListsBounds, ListsCounts, ListsExplained, ListsOutcomes, ListsSchedules, bounded_entry, headed}
use Rattle.iloc_farm.specs.Theorem.Shown.{ShowsEachBlock}

-- a lawful schedule keeps its block
pub keeps : (rule : MemoryRule) (lat : Latencies) (b : Block) (s : Table) → IsLawfulFor rule lat b s → KeepsItsBlock lat b s
keeps rule lat b s lawful = record {
  units = lawful.table;
  same = λ memory. ruled_same_outcome rule lat b.ops s.ops s.rows memory lawful;
}

module _ (held : Held) (request : Request) (ro rn wo wn : Option (List ℕ)) (finding : Finding) (text : List ℕ)
    (written : Appends wo wn text) where
  abbrev lat : Latencies
  lat = request.latencies

  abbrev rule : MemoryRule
  rule = memory_rule request

  -- the blocks of a listing were read
  reads : {L : Own → List Block → List ℕ → Type 0} {O : List Block → Own → Type 0} (r : ListsRead L O ro rn text)
      → ReadsBlocks ro rn r.blocks
  reads r = record { input = r.input; read = r.read; denoted = r.denoted }

  -- lawful schedules keep their blocks
  kept : (lists : Latencies → List Block → List Table → List ℕ → Type 0) (blocks : List Block) → ReadsBlocks ro rn blocks
      → (schedules : List Table) → AllZip (IsLawfulFor rule lat) blocks schedules → lists lat blocks schedules text
      → KeepsEachBlock (asked_in request) lists ro rn wo wn
  kept lists blocks read schedules lawful listed = record {
    blocks = blocks;
    read = read;
    latencies = lat;
    are_asked = record { load = refl; store = refl; mult = refl };
    schedules = schedules;
    keep = weaker (IsLawfulFor rule lat) (KeepsItsBlock lat) (λ b s is. keeps rule lat b s is) blocks schedules lawful;
    lawful = lawful;
    text = text;
    listed = listed;
    written = written;
  }

  -- Schedules alone

  schedule_item : (own : Option (List ℕ)) (k : ℕ) (b : Block) (entry : List ℕ) (cycles : ℕ)
      → IsScheduleEntry request own k b entry cycles
      → IsOf (schedule_entry lat) (cycles_of lat) (IsLawfulFor rule lat) k b entry cycles
  schedule_item own k b entry cycles is = record {
    item = is.schedule;
    right = is.greedy.greedy.lawful;
    listed = is.listed;
    is_found = is.counted;
  }

  pub schedules_keep : ListsAs command_of task.Schedule request.task_file held request ro rn finding text
      → KeepsEachBlock (asked_in request) ListsSchedules ro rn wo wn
  schedules_keep lists =
      let r = lists.0 in
      let is = r.listed in
      let are : AreOf (schedule_entry lat) (cycles_of lat) (IsLawfulFor rule lat) 1 r.blocks is.entries is.found =
      items_of (schedule_entry lat) (cycles_of lat) (IsLawfulFor rule lat) (λ k. IsScheduleEntry request (own_of r.own k) k)
      (λ k. schedule_item (own_of r.own k) k) 1 r.blocks is.found is.entries is.listed in
      kept ListsSchedules r.blocks (reads r) are.items are.right
      (is.whole ∙ (ap₂ (λ xs cs. xs ++ total_of_all cs) are.listed are.are_found
      ∙ ap (λ end. entries (schedule_entry lat) 1 r.blocks are.items ++ end) (total_same lat are.items)))

  abbrev counted_line : ℕ → Option (List ℕ) → Table → List ℕ
  counted_line k name s = count_line (has request.flags Csv) k name (cycles_of lat s)

  count_item : (own : Option (List ℕ)) (k : ℕ) (b : Block) (entry : List ℕ) (cycles : ℕ)
      → IsCountEntry request own k b entry cycles
      → IsOf counted_line (cycles_of lat) (IsLawfulFor rule lat) k b entry cycles
  count_item own k b entry cycles is = record {
    item = is.schedule;
    right = is.greedy.greedy.lawful;
    listed = is.listed;
    is_found = is.counted;
  }

  pub counts_keep : ListsAs command_of task.Counts request.task_file held request ro rn finding text
      → KeepsEachBlock (asked_in request) (ListsCounts (has request.flags Csv)) ro rn wo wn
  counts_keep lists =
      let csv : Bool = has request.flags Csv in
      let r = lists.0 in
      let is = r.listed in
      let are : AreOf counted_line (cycles_of lat) (IsLawfulFor rule lat) 1 r.blocks is.entries is.found =
      items_of counted_line (cycles_of lat) (IsLawfulFor rule lat) (λ k. IsCountEntry request (own_of r.own k) k)
      (λ k. count_item (own_of r.own k) k) 1 r.blocks is.found is.entries is.listed in
      kept (ListsCounts csv) r.blocks (reads r) are.items are.right
      (is.whole ∙ ap₂ (λ xs cs. opening_as csv count_header ++ xs ++ count_ending csv cs)
      (are.listed ∙ entries_mapped (count_line csv) (cycles_of lat) 1 r.blocks are.items) are.are_found)

  -- Schedules with what belongs to them

  abbrev first_cycles : {Y : Type 0} → Table × Y → ℕ
  first_cycles p = cycles_of lat p.0

  abbrev finds_nothing : {X : Type 0} → X → Unit {0}
  finds_nothing x = tt

  -- the first of a pair is lawful for the block
  lawful_first : {Y : Type 0} (More : Block → Table × Y → Type 0) (blocks : List Block) (pairs : List (Table × Y))
      → AllZip (λ (b : Block) (p : Table × Y). IsLawfulFor rule lat b p.0 × More b p) blocks pairs
      → AllZip (IsLawfulFor rule lat) blocks (map first pairs)
  lawful_first {Y} More blocks pairs right = mapped (λ (b : Block) (p : Table × Y). IsLawfulFor rule lat b p.0 × More b p)
      first (IsLawfulFor rule lat) (λ b p is. is.0) blocks pairs right

  abbrev IsBounded : Block → Table × ℕ → Type 0
  IsBounded b best = IsLawfulFor rule lat b best.0 × IsBound rule lat b.ops best.1

  bounded_item : (k : ℕ) (b : Block) (entry : List ℕ) (cycles : ℕ) → IsOptimizeEntry rule lat k b entry cycles
      → IsOf (bounded_entry lat) first_cycles IsBounded k b entry cycles
  bounded_item k b entry cycles is = record {
    item = (is.best.schedule, is.best.bound);
    right = (is.found.lawful, is.found.bound);
    listed = is.listed ∙ ap (λ n. schedule_entry lat k b.name is.best.schedule ++ bound_comment (Some is.best.bound) n) is.counted;
    is_found = is.counted;
  }

  pub optima_keep : ListsAs command_of task.Optimize request.task_file held request ro rn finding text
      → KeepsEachBlock (asked_in request) (ListsBounds rule) ro rn wo wn
  optima_keep lists =
      let r = lists.0 in
      let is = r.listed in
      let are : AreOf (bounded_entry lat) first_cycles IsBounded 1 r.blocks is.entries is.found =
      items_of (bounded_entry lat) first_cycles IsBounded (IsOptimizeEntry rule lat) bounded_item 1 r.blocks
      is.found is.entries is.listed in
      kept (ListsBounds rule) r.blocks (reads r) (map first are.items)
      (lawful_first (λ (b : Block) (best : Table × ℕ). IsBound rule lat b.ops best.1) r.blocks are.items are.right)
      (record {
        bounds = map second are.items;
        hold = mapped IsBounded second (λ (b : Block) (n : ℕ). IsBound rule lat b.ops n) (λ b best holds. holds.1) r.blocks
            are.items are.right;
        listed = is.whole ∙ (ap₂ (λ xs cs. xs ++ total_of_all cs)
            (are.listed ∙ ap (λ (items : List (Table × ℕ)). entries (bounded_entry lat) 1 r.blocks items) (zip_halves are.items)) are.are_found
            ∙ ap (λ end. entries (bounded_entry lat) 1 r.blocks
            (zip (map first are.items) (map second are.items)) ++ end)
            (total_mapped lat first are.items));
      })

  abbrev Said : Type 0
  Said = List (List ℕ)

  abbrev SaysOf : Block × Table → Said → Type 0
  SaysOf of said = Explains (has request.flags Csv) (has request.flags Cycles) rule lat of said

  abbrev IsExplained : Block → Table × Said → Type 0
  IsExplained b of = IsLawfulFor rule lat b of.0 × SaysOf (b, of.0) of.1

  abbrev explained_line : ℕ → Option (List ℕ) → Table × Said → List ℕ
  explained_line k name of = with_block (has request.flags Csv) k name of.1

  explained_item : (own : Option (List ℕ)) (k : ℕ) (b : Block) (entry : List ℕ) (cycles : ℕ)
      → IsExplainEntry request own k b entry cycles
      → IsOf explained_line first_cycles IsExplained k b entry cycles
  explained_item own k b entry cycles is = record {
    item = (is.schedule, is.said);
    right = (
      is.greedy.greedy.lawful,
      record {
        priorities = ranks_under rule request.priority lat own is.schedule.ops;
        bound = least_under rule lat b.ops;
        holds = ruled_least_bound rule lat b.ops;
        are_said = is.are_said;
      },
    );
    listed = is.listed;
    is_found = is.counted;
  }

  pub explained_keep : ListsAs command_of task.Explain None held request ro rn finding text
      → KeepsEachBlock (asked_in request) (ListsExplained (has request.flags Csv) (has request.flags Cycles) rule) ro rn wo wn
  explained_keep lists =
      let r = lists.0 in
      let is = r.listed in
      let are : AreOf explained_line first_cycles IsExplained 1 r.blocks is.entries is.found =
      items_of explained_line first_cycles IsExplained (λ k. IsExplainEntry request (own_of r.own k) k)
      (λ k. explained_item (own_of r.own k) k) 1 r.blocks is.found is.entries is.listed in
      let csv : Bool = has request.flags Csv in
      kept (ListsExplained csv (has request.flags Cycles) rule) r.blocks (reads r) (map first are.items)
      (lawful_first (λ (b : Block) (of : Table × Said). SaysOf (b, of.0) of.1) r.blocks are.items are.right)
      (record {
        said = map second are.items;
        explain = halves IsExplained SaysOf (λ b of is. is.1) r.blocks are.items are.right;
        listed = is.whole ∙ ap₂ (λ xs cs. opening_as csv explain_header ++ xs ++ count_ending csv cs)
            (are.listed ∙ entries_mapped (with_block csv) second 1 r.blocks are.items)
            (are.are_found ∙ sym (map-map (cycles_of lat) first are.items));
      })

  abbrev IsSimulated : Block → Table × Outcome → Type 0
  IsSimulated b of = IsLawfulFor rule lat b of.0 × (of.1 ≡ outcome b.ops (initial_memory request))

  abbrev simulated_line : ℕ → Option (List ℕ) → Table × Outcome → List ℕ
  simulated_line k name of = outcome_entry k name of.1

  simulated_item : (own : Option (List ℕ)) (k : ℕ) (b : Block) (entry : List ℕ) (found : Unit {0})
      → IsSimulateEntry request own k b entry found → IsOf simulated_line finds_nothing IsSimulated k b entry found
  simulated_item own k b entry found is = record {
    item = (is.schedule, outcome b.ops (initial_memory request));
    right = (is.greedy.greedy.lawful, refl);
    listed = is.plain;
    is_found = refl;
  }

  pub simulated_keep : ListsAs command_of task.Simulate request.task_file held request ro rn finding text
      → KeepsEachBlock (asked_in request) (ListsOutcomes (initial_memory request)) ro rn wo wn
  simulated_keep lists =
      let r = lists.0 in
      let is = r.listed in
      let outcomes : Block → Outcome = λ (b : Block). outcome b.ops (initial_memory request) in
      let are : AreOf simulated_line finds_nothing IsSimulated 1 r.blocks is.entries is.found =
      items_of simulated_line finds_nothing IsSimulated (λ k. IsSimulateEntry request (own_of r.own k) k)
      (λ k. simulated_item (own_of r.own k) k) 1 r.blocks is.found is.entries is.listed in
      let same : map second are.items ≡ map outcomes r.blocks =
      AllZip-map outcomes r.blocks (map second are.items)
      (mapped IsSimulated second (λ (b : Block) (o : Outcome). o ≡ outcomes b) (λ b of is. is.1) r.blocks are.items are.right) in
      kept (ListsOutcomes (initial_memory request)) r.blocks (reads r) (map first are.items)
      (lawful_first (λ (b : Block) (of : Table × Outcome). of.1 ≡ outcomes b) r.blocks are.items are.right)
      (is.whole ∙ (append-nil is.entries ∙ (are.listed ∙ (entries_mapped outcome_entry second 1 r.blocks are.items
      ∙ ap (λ (os : List Outcome). entries outcome_entry 1 r.blocks os) same))))

  -- No schedules

  abbrev IsShown : Block → List ℕ → Type 0
  IsShown b shown = IsShownOf (has request.flags Where) b.ops (initial_memory request) (outcome b.ops (initial_memory request)) shown

  shown_item : (k : ℕ) (b : Block) (entry : List ℕ) (found : Unit {0}) → IsRunEntry request k b entry found
      → IsOf headed finds_nothing IsShown k b entry found
  shown_item k b entry found is = record { item = is.text; right = is.shows; listed = is.listed; is_found = refl }

  pub runs_show : ListsAs command_of task.Run request.task_file held request ro rn finding text
      → ShowsEachBlock (asked_in request) ro rn wo wn
  runs_show lists =
      let r = lists.0 in
      let is = r.listed in
      let are : AreOf headed finds_nothing IsShown 1 r.blocks is.entries is.found =
      items_of headed finds_nothing IsShown (IsRunEntry request) shown_item 1 r.blocks is.found is.entries is.listed in
      record {
        blocks = r.blocks;
        read = reads r;
        shown = are.items;
        show = are.right;
        written = subst (Appends wo wn) (is.whole ∙ (append-nil is.entries ∙ are.listed)) written;
      }
