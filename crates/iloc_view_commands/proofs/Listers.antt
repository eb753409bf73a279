-- What the commands list of a block.
use Rattle.iloc_view_commands.proofs.Common.{◌≡◌, ℕ, false, List, [], ◌∷◌, ◌++◌, length, ℤ, IfSome, Some, None, codes, Option, sym, refl, ap, ◌∙◌, subst, ap₂, append_assoc, append-nil, arith, Op, Latencies, length-priorities_by_where, ruled_priorities, counts_by, priorities_under, MemoryRule, GraphOf, of_block, least_of_under, least_under, IsCluster, memory_rule, block_head, cycles_of, parts_joined, AreSaid, IsExplainEntry}
use Rattle.std.proofs.Math.Path.{transport}
use Rattle.iloc_ops.specs.declared.file.Block.{Block}
use Rattle.iloc_timed.specs.Schedule.{Table}
use Rattle.iloc_rules.specs.declared.heuristic.Heuristic.{Heuristic}
use Rattle.iloc_rules.specs.Greedy.{IsGreedyWhere}
use Rattle.iloc_rules.specs.Renaming.{numbering, renamed, without_nops}
use Rattle.iloc_rules.proofs.Renamed.MentionedSources.{length-renamed_by}
use Rattle.iloc_trace.specs.Events.{events}
use Rattle.iloc_trace.specs.Listing.{trace_lines}
use Rattle.iloc_args.specs.Flags.{has}
use Rattle.iloc_args.specs.declared.flag.Flag.TheVariants.{Csv, Cycles}
use Rattle.iloc_args.specs.declared.request.Request.{Request}
use Rattle.iloc_view_commands.specs.Explain.{with_block}
use Rattle.iloc_view_commands.specs.Graph.{IsGraphEntry, opening_at}
use Rattle.iloc_driver.specs.Command.{IsScheduleFor, initial_memory}
use Rattle.iloc_view_commands.specs.Trace.{IsTraceEntry}
use Rattle.iloc_listing.specs.Schedules.{ranks_under}
use Rattle.iloc_driver.specs.Entries.{AppendsEntry}
use Rattle.iloc_listing.proofs.Schedules.{the_greedy_under}

-- the numbers that were found rank the operations of the schedule as the request asks
ranked_too : (request : Request) (own : Option (List ℕ)) (b : Block) (s : Table) (g : GraphOf) (found : List ℕ)
    → g ≡ of_block (memory_rule request) request.latencies b.ops
    → found ≡ ranks_under g.rule request.priority g.latencies own g.ops → s.ops ≡ renamed b.ops
    → found ≡ ranks_under (memory_rule request) request.priority request.latencies own s.ops
ranked_too request own b s g found is ranked names =
    ranked ∙ (ap (λ (x : GraphOf). ranks_under x.rule request.priority x.latencies own x.ops) is
    ∙ ap (ranks_under (memory_rule request) request.priority request.latencies own) (sym names))

-- so the schedule that is greedy by them is the one that it asks for
scheduled : (request : Request) (own : Option (List ℕ)) (b : Block) (s : Table) (g : GraphOf) (found : List ℕ)
    → g ≡ of_block (memory_rule request) request.latencies b.ops
    → found ≡ ranks_under g.rule request.priority g.latencies own g.ops
    → IsGreedyWhere (counts_by (memory_rule request) s.ops) found request.latencies b.ops s.ops s.rows
    → IsScheduleFor request own b s
scheduled request own b s g found is ranked greedy =
    let rule : MemoryRule = memory_rule request in
    let P : List ℕ → Type 0 = λ prios. IsGreedyWhere (counts_by rule s.ops) prios request.latencies b.ops s.ops s.rows in
    the_greedy_under rule (ranks_under rule request.priority request.latencies own) request.latencies b s
    (subst P (ranked_too request own b s g found is ranked greedy.lawful.names) greedy)

-- what a call has appended is the entry, by the name and the words or cycles that it was handed

module _ (request : Request) (k : ℕ) (b : Block) (text more : List ℕ) (name : Option (List ℕ)) (named : name ≡ b.name) where
  pub graph_listed : (cluster : List ℕ) → IsCluster (memory_rule request) request.latencies k b.name b.ops cluster
      → more ≡ (text ++ opening_at k) ++ cluster → AppendsEntry (IsGraphEntry request k b) text more tt
  graph_listed cluster draws added = grind (arith, append_assoc)

  module _ (own : Option (List ℕ)) (s : Table) (g : GraphOf) (found : List ℕ) (is : g ≡ of_block (memory_rule request) request.latencies b.ops)
      (ranked : found ≡ ranks_under g.rule request.priority g.latencies own g.ops)
      (greedy : IsGreedyWhere (counts_by (memory_rule request) s.ops) found request.latencies b.ops s.ops s.rows) where
    pub trace_listed : (head lined : List ℕ) (memory : List ℤ) → head ≡ text ++ block_head k name
        → lined ≡ head ++ codes "\n" → memory ≡ initial_memory request
        → more ≡ lined ++ trace_lines (events request.latencies memory s.ops s.rows)
        → AppendsEntry (IsTraceEntry request own k b) text more tt
    trace_listed head lined memory opened ended starts added =
        let lines : List ℕ = trace_lines (events request.latencies (initial_memory request) s.ops s.rows) in
        record {
          entry = block_head k b.name ++ codes "\n" ++ lines;
          right = record {
            schedule = s;
            greedy = scheduled request own b s g found is ranked greedy;
            listed = refl;
          };
          added = added
              ∙ (ap (λ m. lined ++ trace_lines (events request.latencies m s.ops s.rows)) starts
              ∙ (ap (λ xs. xs ++ lines) (ended ∙ ap (λ xs. xs ++ codes "\n") opened)
              ∙ (ap (λ n. ((text ++ block_head k n) ++ codes "\n") ++ lines) named
              ∙ parts_joined text (block_head k b.name) (codes "\n") lines)));
        }

-- each operation has its number by a heuristic and a rule
pub length_ruled : (rule : MemoryRule) (heuristic : Heuristic) (lat : Latencies) (ops : List Op)
    → length (priorities_under rule heuristic lat ops) ≡ length ops
length_ruled rule heuristic lat ops =
    ap length (sym (ruled_priorities rule heuristic lat ops)) ∙ length-priorities_by_where (counts_by rule ops) heuristic lat ops

-- each operation of the graph has a number
pub each_ranked : (heuristic : Heuristic) (own : Option (List ℕ)) (b : Block) (g : GraphOf) (found : List ℕ)
    → g.ops ≡ renamed b.ops → IfSome own (λ numbers. length numbers ≡ length (without_nops b.ops))
    → found ≡ ranks_under g.rule heuristic g.latencies own g.ops → length found ≡ length g.ops
each_ranked heuristic None b g found is each ranked = ap length ranked ∙ length_ruled g.rule heuristic g.latencies g.ops
each_ranked heuristic (Some numbers) b g found is each ranked =
    ap length ranked
    ∙ (each ∙ (sym (length-renamed_by (without_nops b.ops) (numbering (without_nops b.ops))) ∙ ap length (sym is)))

-- what was appended, which is no table, is one text with the block
pub text_with_block : (start head line whole said : List ℕ) (k : ℕ) (b : Block) (name : Option (List ℕ))
    → head ≡ start ++ block_head k name → name ≡ b.name → line ≡ head ++ codes "\n" → whole ≡ line ++ said
    → whole ≡ start ++ with_block false k b.name (said ∷ [])
text_with_block start head line whole said k b name opened named ended grown =
    let one : said ≡ said ++ [] = sym (append-nil said) in
    grown ∙ (ap₂ (λ xs ys. xs ++ ys) (ended ∙ ap (λ xs. xs ++ codes "\n") (opened ∙ ap (λ n. start ++ block_head k n) named)) one
    ∙ parts_joined start (block_head k b.name) (codes "\n") (said ++ []))

-- what was said of the schedule that is greedy by the numbers found is the entry
pub explain_is : (request : Request) (own : Option (List ℕ)) (k : ℕ) (b : Block) (s : Table) (g : GraphOf) (found : List ℕ) (said : List (List ℕ))
    (rule : MemoryRule) (bound : ℕ) → g ≡ of_block (memory_rule request) request.latencies b.ops
    → found ≡ ranks_under g.rule request.priority g.latencies own g.ops → rule ≡ g.rule
    → bound ≡ least_of_under g.rule g.latencies g.ops
    → IsGreedyWhere (counts_by (memory_rule request) s.ops) found request.latencies b.ops s.ops s.rows
    → AreSaid (has request.flags Csv) (has request.flags Cycles) found rule request.latencies bound b.ops s said
    → (entry : List ℕ) (cycles : ℕ) → entry ≡ with_block (has request.flags Csv) k b.name said
    → cycles ≡ cycles_of request.latencies s → IsExplainEntry request own k b entry cycles
explain_is request own k b s g found said rule bound is ranked ruled least_is greedy says entry cycles listed counted =
    let as_asked : MemoryRule = memory_rule request in
    let by : found ≡ ranks_under as_asked request.priority request.latencies own s.ops =
    ranked_too request own b s g found is ranked greedy.lawful.names in
    let bounds : bound ≡ least_under as_asked request.latencies b.ops =
    least_is ∙ ap (λ (x : GraphOf). least_of_under x.rule x.latencies x.ops) is in
    let asked : rule ≡ as_asked = ruled ∙ ap (λ (x : GraphOf). x.rule) is in
    record {
      schedule = s;
      greedy = scheduled request own b s g found is ranked greedy;
      said = said;
      are_said = transport (λ i. AreSaid (has request.flags Csv) (has request.flags Cycles) (by i) (asked i) request.latencies (bounds i) b.ops s said) says;
      listed = listed;
      counted = counted;
    }
