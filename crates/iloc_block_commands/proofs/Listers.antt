-- What the commands list of a block.
use Rattle.iloc_block_commands.proofs.Common.{◌≡◌, ℕ, ◌+◌, ◌≤◌, Bool, false, ◌&&◌, List, [], ◌++◌, length, drop, ℤ, is_none, IfSome, Some, None, Option, sym, refl, ap, ◌∙◌, ap₂, append-nil, arith, drop_all, Block, Op, outcome, shown, Table, timed_outcome, Latencies, counts_by, MemoryRule, IsOptimumOf, has, memory_rule, Csv, Where, the_greedy_under, bound_comment, count_line, cycles_of, entries, opening_as, outcome_entry, schedule_entry, shown_entry, words_or_fault, IsCountUnder, ranks_under, lined_listing, Own, own_of, IsCompareEntry, IsCompareListing, IsComparedCycles, compare_line, ending_for, opening_for, IsCountEntry, IsCountListing, count_ending, count_header, IsOptimizeEntry, IsScheduleEntry, ComparedCycles}
use Rattle.iloc_fault.proofs.Places.{one_place}
use Rattle.iloc_optimum.specs.declared.optimizer.Optimum.{Optimum}
use Rattle.iloc_meaning.specs.declared.outcome.Outcome.{Outcome}
use Rattle.iloc_rules.proofs.Outcome.LawfulOutcomes.{ruled_same_outcome}
use Rattle.iloc_args.specs.declared.request.Request.{Request}
use Rattle.iloc_block_commands.specs.Run.{IsRunEntry, IsShownOf}
use Rattle.iloc_driver.specs.Command.{initial_memory}
use Rattle.iloc_block_commands.specs.Simulate.{IsSimulateEntry}
use Rattle.iloc_driver.specs.Work.{by_own}
use Rattle.iloc_rules.specs.Greedy.{IsGreedyWhere}
use Rattle.iloc_rules.specs.Renaming.{numbering, renamed, without_nops}
use Rattle.iloc_rules.proofs.Renamed.MentionedSources.{length-renamed_by}
use Rattle.iloc_driver.specs.Entries.{AreListed, AppendsEntry}

-- the words, or that there is a fault, are what is shown, unless the place of the fault is asked for
pub shown_plainly : (asked : Bool) (ops : List Op) (memory : List ℤ) (came : Outcome) (words : Option (List ℤ))
    → words ≡ shown came → (asked && is_none words) ≡ false → IsShownOf asked ops memory came (words_or_fault words)
shown_plainly asked ops memory came words' are none = grind arith

-- one text is shown
pub one_shown : (asked : Bool) (ops : List Op) (memory : List ℤ) (came : Outcome) (text text' : List ℕ)
    → IsShownOf asked ops memory came text → IsShownOf asked ops memory came text' → text ≡ text'
one_shown asked ops memory came text text' is is' = grind (arith, one_place)

-- what a call has appended is the entry, by the name and the words or cycles that it was handed

module _ (request : Request) (k : ℕ) (b : Block) (text more : List ℕ) (name : Option (List ℕ)) (named : name ≡ b.name) where
  pub run_listed : (words : Option (List ℤ)) → words ≡ shown (outcome b.ops (initial_memory request))
      → (has request.flags Where && is_none words) ≡ false → more ≡ text ++ shown_entry k name words
      → AppendsEntry (IsRunEntry request k b) text more tt
  run_listed words are plain added = grind (arith, shown_plainly)

  module _ (own : Option (List ℕ)) (s : Table) (greedy : IsGreedyWhere (counts_by (memory_rule request) s.ops)
      (ranks_under (memory_rule request) request.priority request.latencies own s.ops) request.latencies b.ops s.ops s.rows) where
    pub simulate_listed : (words : Option (List ℤ))
        → words ≡ shown (timed_outcome request.latencies s.ops s.rows (initial_memory request))
        → more ≡ text ++ shown_entry k name words → AppendsEntry (IsSimulateEntry request own k b) text more tt
    simulate_listed words are added = record {
      entry = outcome_entry k b.name (timed_outcome request.latencies s.ops s.rows (initial_memory request));
      right = record {
        schedule = s;
        greedy = the_greedy_under (memory_rule request) (ranks_under (memory_rule request) request.priority request.latencies own)
            request.latencies b s greedy;
        timed = refl;
        plain = ap (outcome_entry k b.name)
            (ruled_same_outcome (memory_rule request) request.latencies b.ops s.ops s.rows (initial_memory request) greedy.lawful);
      };
      added = added ∙ ap₂ (λ n w. text ++ shown_entry k n w) named are;
    }

-- each operation of the graph has a number of the block's own
pub each_ranked : (own : Option (List ℕ)) (b : Block) (ops : List Op) → ops ≡ renamed b.ops
    → IfSome own (λ numbers. length numbers ≡ length (without_nops b.ops)) → IfSome own (λ numbers. length numbers ≡ length ops)
each_ranked None b ops is each = tt
each_ranked (Some numbers) b ops is each =
    each ∙ (sym (length-renamed_by (without_nops b.ops) (numbering (without_nops b.ops))) ∙ ap length (sym is))

-- what was made of the greedy schedule is the entry
pub schedule_is : (request : Request) (own : Option (List ℕ)) (k : ℕ) (b : Block) (s : Table)
    → IsGreedyWhere (counts_by (memory_rule request) s.ops)
    (ranks_under (memory_rule request) request.priority request.latencies own s.ops) request.latencies b.ops s.ops s.rows
    → (entry : List ℕ) (cycles : ℕ) → entry ≡ schedule_entry request.latencies k b.name s ++ []
    → cycles ≡ cycles_of request.latencies s → IsScheduleEntry request own k b entry cycles
schedule_is request own k b s greedy entry cycles listed counted = record {
  schedule = s;
  greedy = the_greedy_under (memory_rule request) (ranks_under (memory_rule request) request.priority request.latencies own)
      request.latencies b s greedy;
  listed = listed ∙ append-nil (schedule_entry request.latencies k b.name s);
  counted = counted;
}

-- and what was made of the best one that was found
pub optimum_is : (rule : MemoryRule) (lat : Latencies) (k : ℕ) (b : Block) (best : Optimum) → IsOptimumOf rule lat b.ops best
    → (entry : List ℕ) (cycles : ℕ)
    → entry ≡ schedule_entry lat k b.name best.schedule ++ bound_comment (Some best.bound) (cycles_of lat best.schedule)
    → cycles ≡ cycles_of lat best.schedule → IsOptimizeEntry rule lat k b entry cycles
optimum_is rule lat k b best found entry cycles listed counted = grind arith

-- the cycles that were found are those of the greedy schedule
pub is_count_under : (rule : MemoryRule) (prios : List Op → List ℕ) (lat : Latencies) (b : Block) (s : Table)
    → IsGreedyWhere (counts_by rule s.ops) (prios s.ops) lat b.ops s.ops s.rows → (cycles : ℕ) → cycles ≡ cycles_of lat s
    → IsCountUnder rule prios lat b cycles
is_count_under rule prios lat b s greedy cycles counted = record {
  schedule = s;
  greedy = the_greedy_under rule prios lat b s greedy;
  counted = counted;
}

-- what a loop has appended that went over all blocks
pub gone_over : {X : Type 0} (entry : ℕ → Option (List ℕ) → X → List ℕ) (opening text : List ℕ) (i : ℕ)
    (blocks blocks' : List Block) (found : List X) → length blocks ≤ i → blocks ≡ blocks'
    → text ++ entries entry (i + 1) (drop i blocks) (drop i found) ≡ opening ++ entries entry 1 blocks found
    → text ≡ opening ++ entries entry 1 blocks' found
gone_over entry opening text i blocks blocks' found all same so_far =
    sym (append-nil text)
    ∙ (ap (λ bs. text ++ entries entry (i + 1) bs (drop i found)) (sym (drop_all i blocks all))
    ∙ (so_far ∙ ap (λ bs. opening ++ entries entry 1 bs found) same))

-- the listing of the cycles that were found
pub counted_listing : (request : Request) (own : Own) (blocks : List Block) (found : List ℕ) (text : List ℕ)
    → AreListed (by_own (λ own k b c. IsCountUnder (memory_rule request)
    (ranks_under (memory_rule request) request.priority request.latencies own) request.latencies b c) own) blocks found
    → text ≡ (opening_as (has request.flags Csv) count_header ++ entries (count_line (has request.flags Csv)) 1 blocks found)
    ++ count_ending (has request.flags Csv) found
    → IsCountListing request own blocks text
counted_listing request own blocks found text are whole =
    lined_listing (λ k. IsCountEntry request (own_of own k) k)
    (λ k. IsCountUnder (memory_rule request)
    (ranks_under (memory_rule request) request.priority request.latencies (own_of own k)) request.latencies) (count_line (has request.flags Csv))
    (λ k b c count. record {
      schedule = count.schedule;
      greedy = count.greedy;
      listed = ap (count_line (has request.flags Csv) k b.name) count.counted;
      counted = count.counted;
    }) (opening_as (has request.flags Csv) count_header) (count_ending (has request.flags Csv)) blocks found text are whole

-- and of what was compared
pub compared_listing : (request : Request) (own : Own) (blocks : List Block) (found : List ComparedCycles) (text : List ℕ)
    → AreListed (by_own (λ own k b c. IsComparedCycles (memory_rule request) request.latencies request.nodes own b c) own) blocks found
    → text ≡ (opening_for request ++ entries (compare_line (has request.flags Csv)) 1 blocks found) ++ ending_for request found
    → IsCompareListing request own blocks text
compared_listing request own blocks found text are whole =
    lined_listing (λ k. IsCompareEntry request (own_of own k) k)
    (λ k. IsComparedCycles (memory_rule request) request.latencies request.nodes (own_of own k)) (compare_line (has request.flags Csv))
    (λ k b c compares. record { compares = compares; listed = refl }) (opening_for request) (ending_for request) blocks found
    text are whole
