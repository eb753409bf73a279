use Rattle.std.proofs.Common.{◌≡◌, rules, Bool, true, false, List, sym, ap, subst, ◌∙◌}
use Rattle.std.specs.Prelude.{ℤ}
use Rattle.iloc_meaning.specs.declared.outcome.Outcome.{Outcome}
use Rattle.iloc_meaning.specs.Outcome.{outcome, shown}
use Rattle.iloc_timed.specs.Schedule.{Table}
use Rattle.iloc_timed.specs.Timed.{timed_outcome}
use Rattle.iloc_rules.proofs.Outcome.LawfulOutcomes.{lawful_same_outcome}
use Rattle.iloc_terms.specs.declared.two_runs.Agreement.{Agreement}
use Rattle.iloc_terms.specs.Agreement.{AreAlike, AlikeOnAll, IsAgreement}
use Rattle.iloc_comparison.specs.declared.task.JudgedBlock.{JudgedBlock}
use Rattle.iloc_comparison.specs.Comparison.{AgreesOnAll}
use Rattle.iloc_comparison.proofs.comparison.compared.Goals as goal

-- Rows that are seen to do what our schedule does agree with the block on every memory.

-- what is alike to an outcome, which is the one that was wanted, is alike to that
alike_wanted : (outputs : Bool) (ours theirs wanted : Outcome) → AreAlike outputs ours theirs → ours ≡ wanted
    → AreAlike outputs theirs wanted
alike_wanted true ours theirs wanted same is = sym same ∙ ap shown is
alike_wanted false ours theirs wanted same is = sym same ∙ is

-- our schedule has the block's outcome
own : (task : JudgedBlock) (words : List ℤ) → timed_outcome task.latencies.now task.ours.now.ops task.ours.now.rows words
    ≡ outcome task.block.now.ops words
own task words =
    lawful_same_outcome task.latencies.now task.block.now.ops task.ours.now.ops task.ours.now.rows words task.lawful

agrees_on_all : (outputs : Bool) (task : JudgedBlock) (theirs : Table) → AlikeOnAll outputs task.latencies.now task.ours.now theirs
    → AgreesOnAll outputs task.latencies.now task.block.now.ops theirs.ops theirs.rows
agrees_on_all outputs task theirs alike = λ words fits.
    alike_wanted outputs (timed_outcome task.latencies.now task.ours.now.ops task.ours.now.rows words)
    (timed_outcome task.latencies.now theirs.ops theirs.rows words) (outcome task.block.now.ops words) (alike words fits)
    (own task words)

-- what was seen of our schedule and theirs
abbrev Seen : Bool → JudgedBlock → Table → Agreement → Type 0
Seen outputs task theirs = IsAgreement outputs task.latencies.now task.ours.now theirs

pub returns-in-Same : goal.returns-in-Same
returns-in-Same c =
    let task = c.args.task.now in
    let seen = subst (Seen c.args.judging.now.options.outputs_alone task c.args.theirs.now) c.in-Same.is c.in_ok-compare.ensures in
    (search rules, agrees_on_all false task c.args.theirs.now seen)

pub returns-in-Prints : goal.returns-in-Prints
returns-in-Prints c =
    let task = c.args.task.now in
    let seen = subst (Seen c.args.judging.now.options.outputs_alone task c.args.theirs.now) c.in-Prints.is c.in_ok-compare.ensures
    in (search rules, seen.0, agrees_on_all true task c.args.theirs.now seen.1)
