-- What is said of proposals.
use Rattle.iloc_row_commands.proofs.Common.{◌≡◌, ℕ, ◌+◌, ◌≤◌, List, ◌++◌, length, ℤ, Option, refl, ap, ◌∙◌, subst, append_assoc, arith, Block, Op, cycles, MAX_ROWS, Table, Latencies, Proposed, IsGreedy, IsGreedyWhere, least_under, IsSoughtIf, cycles_few_where, cycles_within, the_greedy, the_greedy_under, most_cycles, cycles_of, AppendsEntry, IsCheckEntry, IsSmall, check_head}
use Rattle.iloc_ops.specs.Limits.{MAX_OPS}
use Rattle.iloc_rules.specs.declared.heuristic.Heuristic.TheVariants.{Chain}
use Rattle.iloc_rules.specs.declared.delay_pairs.TheConstants.{LONGEST_DELAY}
use Rattle.iloc_rules.specs.declared.memory_rule.MemoryRule.{MemoryRule}
use Rattle.iloc_rules.specs.Rule.{counts_by}
use Rattle.iloc_rules.specs.Heuristics.{priorities_under}
use Rattle.iloc_bound.proofs.LeastBound.{ruled_least_bound}
use Rattle.iloc_verdict.specs.declared.checked.Checked.{Checked}
use Rattle.iloc_comparison.specs.declared.task.CheckOptions.{CheckOptions}
use Rattle.iloc_judge.specs.Checked.{IsCheck}

-- a schedule by a rule of memory: the cycles are few, and so is the bound
abbrev pub IsRuled : MemoryRule → Latencies → List Op → Table → Type 0
IsRuled rule lat block s =
    IsGreedyWhere (counts_by rule s.ops) (priorities_under rule Chain lat s.ops) lat block s.ops s.rows

-- its numbers are small
pub small_check : (options : CheckOptions) (rule : MemoryRule) (lat : Latencies) (memory : List ℤ) (block : List Op)
    (s ruled : Table) (p : Proposed) (c : Checked) (entry : List ℕ) → IsCheck options lat memory block s p c entry
    → IsRuled rule lat block ruled → c.ours ≡ cycles_of lat ruled → c.least ≡ least_under rule lat block
    → length block ≤ MAX_OPS → length p.rows ≤ MAX_ROWS → IsSmall c
small_check options rule lat memory block s ruled p c entry said greedy counted least short few =
    let theirs : c.cycles ≡ cycles lat p.ops p.rows = ap (λ (x : Checked). x.cycles) said.is_found in
    let within : cycles lat p.ops p.rows ≤ length p.rows + LONGEST_DELAY = cycles_within lat p.ops p.rows in
    let most : cycles lat ruled.ops ruled.rows ≤ most_cycles =
    cycles_few_where (counts_by rule ruled.ops) (priorities_under rule Chain lat ruled.ops) lat block ruled greedy short in
    let bound : least_under rule lat block ≤ cycles lat ruled.ops ruled.rows =
    ruled_least_bound rule lat block ruled.ops ruled.rows greedy.lawful in
    record {
      cycles = omega arith;
      ours = omega arith;
      least = omega arith;
    }

-- what was appended is the entry
pub check_listed : (options : CheckOptions) (nodes : Option ℕ) (rule : MemoryRule) (lat : Latencies) (memory start : List ℤ)
    (k : ℕ) (b : Block) (s ruled : Table) (p : Proposed) (c : Checked) (text headed more said : List ℕ) (name : Option (List ℕ))
    → IsGreedy lat b.ops s.ops s.rows → IsRuled rule lat b.ops ruled → c.ours ≡ cycles_of lat ruled
    → IsSoughtIf nodes rule lat b.ops c.sought → c.least ≡ least_under rule lat b.ops
    → memory ≡ start → name ≡ b.name → headed ≡ text ++ check_head options.form k name
    → IsCheck options lat memory b.ops s p c said → more ≡ headed ++ said
    → AppendsEntry (IsCheckEntry options nodes rule lat start k (b, p)) text more c
check_listed options nodes rule lat memory start k b s ruled p c text headed more said name greedy by_rule counted sought least
    starts named opened is added =
    let P : List ℤ → Type 0 = λ m. IsCheck options lat m b.ops s p c said in
    record {
      entry = check_head options.form k b.name ++ said;
      right = record {
        ours = s;
        greedy = the_greedy Chain lat b s greedy;
        counted = record {
          schedule = ruled;
          greedy = the_greedy_under rule (priorities_under rule Chain lat) lat b ruled by_rule;
          counted = counted;
        };
        sought = sought;
        least = least;
        text = said;
        right = subst P starts is;
        listed = refl;
      };
      added = added
          ∙ (ap (λ xs. xs ++ said) (opened ∙ ap (λ n. text ++ check_head options.form k n) named)
          ∙ append_assoc text (check_head options.form k b.name) said);
    }
