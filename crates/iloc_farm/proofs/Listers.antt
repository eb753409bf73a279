-- Requests that ask alike list one text.
use Rattle.iloc_farm.proofs.Common.{◌≡◌, ℕ, Bool, true, false, ◌&&◌, List, [], ◌∷◌, ◌++◌, is_some, is_none, if◌then◌else◌, Some, None, codes, Option, sym, refl, ap, ◌∙◌, ap₂, arith, transport, Block, Op, words_from, Table, Latencies, MemoryRule, has, memory_rule, Csv, Cycles, Disambiguate, Where, Request, Task, block_head, count_line, cycles_of, opening_as, outcome_entry, schedule_entry, total_of_all, words_or_fault, ranks_under, listing_also, one_listing, one_listing_after, initial_memory, no_ending, Own, own_of, IsListingFor, IsCompareEntry, IsComparedCycles, compare_ending, compare_header, compare_line, ending_for, opening_for, ComparedCycles, command_of, AskAlike, SimulatingListsRuns, searches}
use Rattle.iloc_explain.proofs.OneText.{one_explanation, one_table}
use Rattle.iloc_graph.specs.Listing.{IsCluster}
use Rattle.iloc_graph.proofs.OneText.{one_cluster}
use Rattle.iloc_meaning.specs.Outcome.{outcome, shown}
use Rattle.iloc_args.specs.declared.request.Task.TheVariants as task
use Rattle.iloc_block_commands.specs.Counts.{IsCountEntry}
use Rattle.iloc_listing.specs.Listing.{count_ending, count_header}
use Rattle.iloc_view_commands.specs.Explain.{AreSaid, IsExplainEntry, IsSaid, explain_header, with_block}
use Rattle.iloc_view_commands.specs.Graph.{IsGraphEntry, drawing_end, opening_at}
use Rattle.iloc_block_commands.specs.Run.{IsRunEntry}
use Rattle.iloc_block_commands.specs.Schedule.{IsScheduleEntry}
use Rattle.iloc_block_commands.specs.Simulate.{IsSimulateEntry}
use Rattle.iloc_view_commands.specs.Trace.{IsTraceEntry}
use Rattle.iloc_trace.specs.Events.{events}
use Rattle.iloc_trace.specs.Listing.{trace_lines}
use Rattle.iloc_driver.specs.Command.{IsScheduleFor}
use Rattle.iloc_rules.specs.declared.memory_rule.MemoryRule.TheVariants.{Book, Address}
use Rattle.iloc_bound.specs.Bound.{least_under}
use Rattle.iloc_rules.specs.Rule.{counts_by}
use Rattle.iloc_rules.specs.Greedy.{IsGreedyWhere}
use Rattle.iloc_block_commands.proofs.Comparisons.{one_comparison}
use Rattle.iloc_block_commands.proofs.Listers.{one_shown, shown_plainly}

pub one_memory : (r q : Request) → AskAlike r q → initial_memory r ≡ initial_memory q
one_memory r q alike = ap (λ at. words_from at r.words.items) alike.at ∙ ap (λ ws. words_from q.at ws) alike.words

-- one text is said of a schedule
one_said : (by_cycle : Bool) (prios : List ℕ) (rule : MemoryRule) (lat : Latencies) (bound : ℕ) (block : List Op) (s : Table)
    (text text' : List ℕ) → IsSaid by_cycle prios rule lat bound block s text
    → IsSaid by_cycle prios rule lat bound block s text' → text ≡ text'
one_said true prios rule lat bound block s text text' said said' = said ∙ sym said'
one_said false prios rule lat bound block s text text' said said' =
    one_explanation prios rule lat bound block s.ops s.rows s.ops text text' said said'

-- and in a table, or not, one list
one_list_said : (csv by_cycle : Bool) (prios : List ℕ) (rule : MemoryRule) (lat : Latencies) (bound : ℕ) (block : List Op) (s : Table)
    (said said' : List (List ℕ)) → AreSaid csv by_cycle prios rule lat bound block s said
    → AreSaid csv by_cycle prios rule lat bound block s said' → said ≡ said'
one_list_said true by_cycle prios rule lat bound block s said said' are are' =
    one_table prios rule lat block s.ops s.rows said said' are are'
one_list_said false by_cycle prios rule lat bound block s said said' are are' =
    are.2 ∙ (ap (λ text. text ∷ []) (one_said by_cycle prios rule lat bound block s are.0 are'.0 are.1 are'.1) ∙ sym are'.2)

pub rule_same : (r q : Request) → AskAlike r q → memory_rule r ≡ memory_rule q
rule_same r q alike = λ i. if has (alike.flags i) Disambiguate then Address else Book

module _ (r q : Request) (alike : AskAlike r q) (k : ℕ) (b : Block) where
  run_same : (e e' : List ℕ) (f f' : Unit {0}) → IsRunEntry r k b e f → IsRunEntry q k b e' f' → (e ≡ e') × (f ≡ f')
  run_same e e' f f' is is' = grind (arith, one_memory, one_shown, transport)

  simulate_same : (own : Option (List ℕ)) (e e' : List ℕ) (f f' : Unit {0}) → IsSimulateEntry r own k b e f
      → IsSimulateEntry q own k b e' f' → (e ≡ e') × (f ≡ f')
  simulate_same own e e' f f' is is' =
      (is.plain ∙ (ap (λ m. outcome_entry k b.name (outcome b.ops m)) (one_memory r q alike) ∙ sym is'.plain), refl)

  -- the schedule that the one request asks for is what the other does
  same_schedule : (own : Option (List ℕ)) (s s' : Table) → IsScheduleFor r own b s → IsScheduleFor q own b s' → s ≡ s'
  same_schedule own s s' is is' =
      is'.only s (transport (λ i. IsGreedyWhere (counts_by (rule_same r q alike i) s.ops)
      (ranks_under (rule_same r q alike i) (alike.priority i) (alike.latencies i) own s.ops) (alike.latencies i) b.ops s.ops s.rows)
      is.greedy)

  cycles_same : (s s' : Table) (c c' : ℕ) → s ≡ s' → c ≡ cycles_of r.latencies s → c' ≡ cycles_of q.latencies s' → c ≡ c'
  cycles_same s s' c c' same is is' =
      is ∙ (ap (λ lat. cycles_of lat s) alike.latencies ∙ (ap (cycles_of q.latencies) same ∙ sym is'))

  schedule_same : (own : Option (List ℕ)) (e e' : List ℕ) (c c' : ℕ) → IsScheduleEntry r own k b e c
      → IsScheduleEntry q own k b e' c' → (e ≡ e') × (c ≡ c')
  schedule_same own e e' c c' is is' =
      let same : is.schedule ≡ is'.schedule =
      same_schedule own is.schedule is'.schedule is.greedy is'.greedy in (
        is.listed ∙ (ap₂ (λ lat s. schedule_entry lat k b.name s) alike.latencies same ∙ sym is'.listed),
        cycles_same is.schedule is'.schedule c c' same is.counted is'.counted,
      )

  count_same : (own : Option (List ℕ)) (e e' : List ℕ) (c c' : ℕ) → IsCountEntry r own k b e c → IsCountEntry q own k b e' c'
      → (e ≡ e') × (c ≡ c')
  count_same own e e' c c' is is' =
      let same : is.schedule ≡ is'.schedule =
      same_schedule own is.schedule is'.schedule is.greedy is'.greedy in
      let as_many : cycles_of r.latencies is.schedule ≡ cycles_of q.latencies is'.schedule =
      cycles_same is.schedule is'.schedule _ _ same refl refl in (
        is.listed ∙ (ap₂ (λ flags n. count_line (has flags Csv) k b.name n) alike.flags as_many ∙ sym is'.listed),
        is.counted ∙ (as_many ∙ sym is'.counted),
      )

  compare_same : (own : Option (List ℕ)) → r.nodes ≡ None → (e e' : List ℕ) (c c' : ComparedCycles) → IsCompareEntry r own k b e c
      → IsCompareEntry q own k b e' c' → (e ≡ e') × (c ≡ c')
  compare_same own settled e e' c c' is is' =
      let none : q.nodes ≡ None = sym alike.nodes ∙ settled in
      let same : c ≡ c' = one_comparison (memory_rule q) q.latencies own b c c'
      (transport (λ i. IsComparedCycles (rule_same r q alike i) (alike.latencies i) (settled i) own b c) is.compares)
      (transport (λ i. IsComparedCycles (memory_rule q) q.latencies (none i) own b c') is'.compares) in
      (is.listed ∙ (ap₂ (λ flags x. compare_line (has flags Csv) k b.name x) alike.flags same ∙ sym is'.listed), same)

  explain_same : (own : Option (List ℕ)) (e e' : List ℕ) (c c' : ℕ) → IsExplainEntry r own k b e c
      → IsExplainEntry q own k b e' c' → (e ≡ e') × (c ≡ c')
  explain_same own e e' c c' is is' =
      let same : is.schedule ≡ is'.schedule =
      same_schedule own is.schedule is'.schedule is.greedy is'.greedy in
      let said : is.said ≡ is'.said =
      one_list_said (has q.flags Csv) (has q.flags Cycles) (ranks_under (memory_rule q) q.priority q.latencies own is'.schedule.ops) (memory_rule q) q.latencies
      (least_under (memory_rule q) q.latencies b.ops) b.ops is'.schedule is.said is'.said
      (transport (λ i. AreSaid (has (alike.flags i) Csv) (has (alike.flags i) Cycles)
      (ranks_under (rule_same r q alike i) (alike.priority i) (alike.latencies i) own (same i).ops) (rule_same r q alike i)
      (alike.latencies i) (least_under (rule_same r q alike i) (alike.latencies i) b.ops) b.ops (same i) is.said) is.are_said)
      is'.are_said in (
        is.listed ∙ (ap₂ (λ flags list. with_block (has flags Csv) k b.name list) alike.flags said ∙ sym is'.listed),
        cycles_same is.schedule is'.schedule c c' same is.counted is'.counted,
      )

  trace_same : (own : Option (List ℕ)) (e e' : List ℕ) (f f' : Unit {0}) → IsTraceEntry r own k b e f → IsTraceEntry q own k b e' f'
      → (e ≡ e') × (f ≡ f')
  trace_same own e e' f f' is is' =
      let same : is.schedule ≡ is'.schedule = same_schedule own is.schedule is'.schedule is.greedy is'.greedy in (
        is.listed ∙ ((λ i. block_head k b.name ++ codes "\n"
            ++ trace_lines (events (alike.latencies i) (one_memory r q alike i) (same i).ops (same i).rows)) ∙ sym is'.listed),
        refl,
      )

  graph_same : (e e' : List ℕ) (f f' : Unit {0}) → IsGraphEntry r k b e f → IsGraphEntry q k b e' f'
      → (e ≡ e') × (f ≡ f')
  graph_same e e' f f' is is' =
      let same : is.cluster ≡ is'.cluster = one_cluster (memory_rule q) q.latencies k b.name b.ops is.cluster is'.cluster
      (transport (λ i. IsCluster (rule_same r q alike i) (alike.latencies i) k b.name b.ops is.cluster) is.draws) is'.draws in
      (is.listed ∙ (ap (λ c. opening_at k ++ c) same ∙ sym is'.listed), refl)

-- a comparison without a search has no nodes
without_nodes : (nodes : Option ℕ) → searches task.Compare nodes ≡ false → nodes ≡ None
without_nodes None e = refl
without_nodes (Some n) e = cc

pub of_one_task : (t : Task) (r q : Request) → AskAlike r q → searches t r.nodes ≡ false
    → (own : Own) (blocks : List Block) (text text' : List ℕ)
    → IsListingFor command_of t r own blocks text → IsListingFor command_of t q own blocks text' → text ≡ text'
of_one_task task.Run r q alike settled own blocks text text' lists lists' =
    one_listing (IsRunEntry r) (IsRunEntry q) (run_same r q alike) no_ending blocks text text' lists lists'
of_one_task task.Simulate r q alike settled own blocks text text' lists lists' =
    one_listing (λ k. IsSimulateEntry r (own_of own k) k) (λ k. IsSimulateEntry q (own_of own k) k)
    (λ k b. simulate_same r q alike k b (own_of own k)) no_ending blocks text text' lists lists'
of_one_task task.Trace r q alike settled own blocks text text' lists lists' =
    one_listing (λ k. IsTraceEntry r (own_of own k) k) (λ k. IsTraceEntry q (own_of own k) k)
    (λ k b. trace_same r q alike k b (own_of own k)) no_ending blocks text text' lists lists'
of_one_task task.Schedule r q alike settled own blocks text text' lists lists' =
    one_listing (λ k. IsScheduleEntry r (own_of own k) k) (λ k. IsScheduleEntry q (own_of own k) k)
    (λ k b. schedule_same r q alike k b (own_of own k)) total_of_all blocks text text' lists lists'
of_one_task task.Counts r q alike settled own blocks text text' lists lists' =
    one_listing_after (λ k. IsCountEntry r (own_of own k) k) (λ k. IsCountEntry q (own_of own k) k)
    (λ k b. count_same r q alike k b (own_of own k)) (opening_as (has r.flags Csv) count_header)
    (opening_as (has q.flags Csv) count_header) (count_ending (has r.flags Csv)) (count_ending (has q.flags Csv)) blocks text text'
    (ap (λ flags. opening_as (has flags Csv) count_header) alike.flags) (ap (λ flags. count_ending (has flags Csv)) alike.flags) lists lists'
of_one_task task.Compare r q alike settled own blocks text text' lists lists' =
    one_listing_after (λ k. IsCompareEntry r (own_of own k) k) (λ k. IsCompareEntry q (own_of own k) k)
    (λ k b. compare_same r q alike k b (own_of own k) (without_nodes r.nodes settled)) (opening_for r) (opening_for q)
    (ending_for r) (ending_for q) blocks text text'
    (λ i. opening_as (has (alike.flags i) Csv) (compare_header (alike.nodes i) (is_some (alike.priorities_file i))))
    (λ i. compare_ending (has (alike.flags i) Csv) (alike.nodes i) (is_some (alike.priorities_file i))) lists lists'
of_one_task task.Optimize r q alike settled own blocks text text' lists lists' = absurd cc
of_one_task task.Explain r q alike settled own blocks text text' lists lists' =
    one_listing_after (λ k. IsExplainEntry r (own_of own k) k) (λ k. IsExplainEntry q (own_of own k) k)
    (λ k b. explain_same r q alike k b (own_of own k)) (opening_as (has r.flags Csv) explain_header)
    (opening_as (has q.flags Csv) explain_header) (count_ending (has r.flags Csv)) (count_ending (has q.flags Csv)) blocks text text'
    (ap (λ flags. opening_as (has flags Csv) explain_header) alike.flags) (ap (λ flags. count_ending (has flags Csv)) alike.flags) lists lists'
of_one_task task.Graph r q alike settled own blocks text text' lists lists' =
    one_listing (IsGraphEntry r) (IsGraphEntry q) (graph_same r q alike) drawing_end blocks text text' lists lists'
of_one_task task.Check r q alike settled own blocks text text' lists lists' = absurd lists
of_one_task task.Lint r q alike settled own blocks text text' lists lists' = absurd lists

pub simulating_lists_runs : SimulatingListsRuns
simulating_lists_runs request own blocks text plain lists =
    let memory = initial_memory request in
    listing_also (λ k. IsSimulateEntry request (own_of own k) k) (IsRunEntry request) (λ k b entry found is. record {
      text = words_or_fault (shown (outcome b.ops memory));
      shows = shown_plainly (has request.flags Where) b.ops memory (outcome b.ops memory) (shown (outcome b.ops memory)) refl
          (ap (λ asked. asked && is_none (shown (outcome b.ops memory))) plain);
      listed = is.plain;
    }) no_ending blocks text lists
