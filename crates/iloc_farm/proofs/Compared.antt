-- What the numbers are that `compare` lists, and that what it counts as optimal is.
use Rattle.iloc_farm.proofs.Common.{true, false, if◌then◌else◌, ◌==◌, arith, eqb-true, cycles_of, bound_of, optimal, CountedOptimaAreOptimal, ◌≡◌, ℕ, ◌++◌, Bool, List, is_some, Some, None, Option, option_map, sym, refl, ap, ◌∙◌, ap₂, subst, Global, String, Block, Op, Latencies, MemoryRule, ruled_least_bound, has, memory_rule, Csv, Request, own_of, ListsAs, Held, Finding, IsCompareEntry, IsComparedCycles, compare_ending, compare_header, compare_line, ComparedCycles, opening_as, command_of}
use Rattle.std.specs.Prelude.{IfSome}
use Rattle.std.specs.Io.KnownBytes.{Appends}
use Rattle.std.specs.Option.{option_map_or}
use Rattle.std.specs.String.{string_bytes}
use Rattle.std.proofs.Common.{map-id}
use Rattle.iloc_rules.specs.declared.sought.Sought.{Sought}
use Rattle.iloc_optimum.specs.Bound.{IsBound}
use Rattle.iloc_optimum.specs.Optimum.{IsSought, IsSoughtIf}
use Rattle.iloc_args.specs.Asked.{asked_in}
use Rattle.iloc_args.specs.declared.request.Task.TheVariants as task
use Rattle.iloc_listing.specs.Listing.{entries}
use Rattle.iloc_listing.specs.Schedules.{IsCountUnder}
use Rattle.iloc_block_commands.specs.Compare.{IsOwnCount}
use Rattle.iloc_farm.proofs.Chosen.{AreOf, IsOf, items_of}
use Rattle.iloc_farm.proofs.Kept.{keeps}
use Rattle.iloc_farm.specs.Theorem.Compared.{Compares, ComparesEachBlock, Takes, compared_listing}

module _ (rule : MemoryRule) (lat : Latencies) (b : Block) where
  takes : (prios : List Op → List ℕ) (cycles : ℕ) → IsCountUnder rule prios lat b cycles → Takes rule lat b cycles
  takes prios cycles is = record {
    schedule = is.schedule;
    keeps = keeps rule lat b is.schedule is.greedy.greedy.lawful;
    lawful = is.greedy.greedy.lawful;
    counted = is.counted;
  }

  owns : (numbers : Option (List ℕ)) (own : Option ℕ) → IsOwnCount rule lat numbers b own → IfSome own (Takes rule lat b)
  owns numbers None is = tt
  owns None (Some cycles) is = absurd cc
  owns (Some numbers) (Some cycles) is = takes (λ _. numbers) cycles is

  seeks : (s : Sought) → IsSought rule lat b.ops s → Takes rule lat b s.best × IsBound rule lat b.ops s.bound
  seeks s is = (
    record {
      schedule = is.optimum.schedule;
      keeps = keeps rule lat b is.optimum.schedule is.found.lawful;
      lawful = is.found.lawful;
      counted = is.best;
    },
    subst (IsBound rule lat b.ops) (sym is.bound) is.found.bound,
  )

  best : (nodes : Option ℕ) (sought : Option Sought) → IsSoughtIf nodes rule lat b.ops sought
      → IfSome sought (λ (s : Sought). Takes rule lat b s.best)
  best nodes None is = tt
  best None (Some s) is = absurd cc
  best (Some n) (Some s) is = (seeks s is).0

  bound : (nodes : Option ℕ) (sought : Option Sought) → IsSoughtIf nodes rule lat b.ops sought
      → IfSome sought (λ (s : Sought). IsBound rule lat b.ops s.bound)
  bound nodes None is = tt
  bound None (Some s) is = absurd cc
  bound (Some n) (Some s) is = (seeks s is).1

  compares : (nodes : Option ℕ) (numbers : Option (List ℕ)) (c : ComparedCycles) → IsComparedCycles rule lat nodes numbers b c
      → Compares rule lat b c
  compares nodes numbers c is = record {
    each = λ heuristic. takes _ _ (is.counts.each heuristic);
    own = owns numbers c.own is.own;
    best = best nodes c.sought is.sought;
    least = subst (IsBound rule lat b.ops) (sym is.bound) (ruled_least_bound rule lat b.ops);
    bound = bound nodes c.sought is.sought;
  }

named : (file : Option (String Global)) → is_some file ≡ is_some (option_map string_bytes file)
named None = refl
named (Some name) = refl

module _ (held : Held) (request : Request) (ro rn wo wn : Option (List ℕ)) (finding : Finding) (text : List ℕ)
    (written : Appends wo wn text) where
  compared_item : (own : Option (List ℕ)) (k : ℕ) (b : Block) (entry : List ℕ) (c : ComparedCycles)
      → IsCompareEntry request own k b entry c
      → IsOf (compare_line (has request.flags Csv)) (λ (c : ComparedCycles). c) (Compares (memory_rule request) request.latencies) k b entry c
  compared_item own k b entry c is = record {
    item = c;
    right = compares (memory_rule request) request.latencies b request.nodes own c is.compares;
    listed = is.listed;
    is_found = refl;
  }

  pub comparisons_hold : ListsAs command_of task.Compare request.task_file held request ro rn finding text
      → ComparesEachBlock (asked_in request) ro rn wo wn
  comparisons_hold lists =
      let csv : Bool = has request.flags Csv in
      let line = compare_line csv in
      let Right : Block → ComparedCycles → Type 0 = Compares (memory_rule request) request.latencies in
      let r = lists.0 in
      let is = r.listed in
      let are : AreOf line (λ (c : ComparedCycles). c) Right 1 r.blocks is.entries is.found =
      items_of line (λ (c : ComparedCycles). c) Right (λ k. IsCompareEntry request (own_of r.own k) k) (λ k. compared_item (own_of r.own k) k) 1 r.blocks
      is.found is.entries is.listed in
      record {
        blocks = r.blocks;
        read = record { input = r.input; read = r.read; denoted = r.denoted };
        latencies = request.latencies;
        are_asked = record { load = refl; store = refl; mult = refl };
        compared = are.items;
        compare = are.right;
        written = subst (Appends wo wn) (is.whole
            ∙ (ap₂ (λ xs cs. opening_as csv (compare_header request.nodes (is_some request.priorities_file)) ++ xs
            ++ compare_ending csv request.nodes (is_some request.priorities_file) cs) are.listed (are.are_found ∙ map-id are.items)
            ∙ ap (λ own. compared_listing csv request.nodes own r.blocks are.items) (named request.priorities_file))) written;
      }

-- What is counted as optimal is

-- the bound that is known holds
bound_holds : (rule : MemoryRule) (lat : Latencies) (nodes : Option ℕ) (numbers : Option (List ℕ)) (b : Block) (c : ComparedCycles)
    → IsComparedCycles rule lat nodes numbers b c → IsBound rule lat b.ops (bound_of c)
bound_holds rule lat nodes numbers b c is = go nodes c.sought is.sought
  where
    go : (nodes : Option ℕ) (sought : Option Sought) → IsSoughtIf nodes rule lat b.ops sought
        → IsBound rule lat b.ops (option_map_or (λ (s : Sought). s.bound) sought c.least)
    go None None none = subst (IsBound rule lat b.ops) (sym is.bound) (ruled_least_bound rule lat b.ops)
    go None (Some s) none = absurd cc
    go (Some n) None none = absurd none
    go (Some n) (Some s) seeks = subst (IsBound rule lat b.ops) (sym seeks.bound) seeks.found.bound

-- what counts as 1 holds
is_one : (b : Bool) (n : ℕ) → n ≡ 1 → n ≡ (if b then 1 else 0) → b ≡ true
is_one true n one is = refl
is_one false n one is = absurd (omega (arith, one, is))

-- a schedule that is counted as optimal is
pub counted_optima : CountedOptimaAreOptimal
counted_optima rule lat nodes numbers b c is prios cycles count counted s greedy =
    let reached : cycles ≡ bound_of c =
    eqb-true cycles (bound_of c) (is_one (cycles == bound_of c) (optimal cycles c) counted refl) in
    let same : s ≡ count.schedule = count.greedy.only s greedy in
    let reaches : bound_of c ≡ cycles_of lat s = sym reached ∙ (count.counted ∙ ap (cycles_of lat) (sym same)) in
    record {
      lawful = greedy.lawful;
      fewest = subst (IsBound rule lat b.ops) reaches (bound_holds rule lat nodes numbers b c is);
    }
