-- Rows that are found to be the same do what the block does, and rows pass only if they may.
use Rattle.iloc_judge.proofs.Common.{◌≡◌, ℕ, ◌+◌, ◌<◌, ◌≤◌, Bool, true, false, ◌&&◌, ◌⊎◌, List, ℤ, ◌==◌, sym, ap, ◌∙◌, inl, inr, true≢false, arith, and_from, and_parts, Op, shown, Outcome, IsTable, Table, Latencies, Row, without_nops, IsByTheBook, AgreesOnAll, IsComparison, Comparison, compared_kind, is_passing, kind_of, passes, AreItsOperations, keeps_operations, Checked, Verdict, IsVerdict}
use Rattle.std.specs.Prelude.{not}
use Rattle.std.specs.Option.{is_some}
use Rattle.iloc_rows.specs.declared.proposal.Proposed.{Proposed}
use Rattle.iloc_facts.proofs.SameCounts.{as_many}
use Rattle.iloc_validation.proofs.Outcomes.{keeps_the_outcome}
use Rattle.iloc_terms.specs.Agreement.{AreAlike}
use Rattle.iloc_verdict.specs.Kept.{has_asked}
use Rattle.iloc_verdict.specs.declared.checked.changes.Changes.{Changes}
use Rattle.iloc_verdict.specs.declared.obstacle.Obstacle.{Obstacle}
use Rattle.iloc_verdict.specs.declared.obstacle.Obstacle.TheVariants.{Unread, Units}
use Rattle.iloc_verdict.specs.declared.verdict.Verdict.TheVariants.{Refused}
use Rattle.iloc_verdict.specs.declared.verdict.kind.VerdictKind.{VerdictKind}
use Rattle.iloc_comparison.specs.Void.{CanBeJudged}
use Rattle.iloc_judge.specs.Checked.{DoEnough, DoTheSame, IsCheck}
use Rattle.iloc_comparison.specs.declared.task.CheckOptions.{CheckOptions}
use Rattle.iloc_judge.specs.Laws.{PassedRowsMayPass, SameRowsDoTheSame}

kept : (asked : Bool) (block ops : List Op) → has_asked asked block ops ≡ true → asked ≡ true
    → AreItsOperations (without_nops block) ops
kept true block ops keeps is = as_many (without_nops block) ops keeps
kept false block ops keeps is = absurd (true≢false (sym is))

-- equal outcomes are alike, whatever is compared
alike_of_equal : (outputs : Bool) {got wanted : Outcome} → got ≡ wanted → AreAlike outputs got wanted
alike_of_equal true equal = ap shown equal
alike_of_equal false equal = equal

prints_do_the_same : (outputs : Bool) (lat : Latencies) (block ops : List Op) (rows : List Row) → IsTable ops rows
    → outputs ≡ true → AgreesOnAll true lat block ops rows → DoTheSame outputs lat block ops rows
prints_do_the_same true lat block ops rows table alone agree = record { table = table; agree = agree }
prints_do_the_same false lat block ops rows table alone agree = absurd cc

book_does_the_same : (outputs : Bool) (lat : Latencies) (block ops : List Op) (rows : List Row) → IsByTheBook lat block ops rows
    → DoTheSame outputs lat block ops rows
book_does_the_same outputs lat block ops rows book = grind (arith, alike_of_equal, keeps_the_outcome)

-- where they are compared as the same, or print
compared_same : (lawful outputs : Bool) (lat : Latencies) (memory : List ℤ) (block ops : List Op) (rows : List Row)
    (found : Comparison) → IsTable ops rows → IsComparison outputs lat block ops rows memory found
    → is_passing lawful (compared_kind found) ≡ true
    → DoTheSame outputs lat block ops rows × CanBeJudged outputs block memory × (lawful ≡ false)
compared_same lawful outputs lat memory block ops rows found table right pass = grind (arith, alike_of_equal, prints_do_the_same)

-- what holds of rows that pass with this verdict
abbrev PassesAs : (lawful outputs : Bool) → Latencies → List ℤ → List Op → List Op → List Row → Type 0
PassesAs lawful outputs lat memory block ops rows = IsByTheBook lat block ops rows
    ⊎ (DoTheSame outputs lat block ops rows × CanBeJudged outputs block memory × (lawful ≡ false))

-- nothing that is kept from being a schedule does
refused_fails : (lawful asked : Bool) (obstacle : Obstacle) (changes : Changes)
    → is_passing lawful (kind_of asked (Refused obstacle changes)) ≡ true → ⊥
refused_fails lawful asked (Unread unread words) changes pass = absurd cc
refused_fails lawful asked (Units c) changes pass = absurd cc

passes_as : (lawful asked outputs : Bool) (lat : Latencies) (memory : List ℤ) (block ops : List Op) (rows : List Row) (verdict : Verdict)
    → IsVerdict outputs lat block ops rows memory verdict → is_passing lawful (kind_of asked verdict) ≡ true
    → PassesAs lawful outputs lat memory block ops rows
passes_as lawful asked outputs lat memory block ops rows verdict right pass = grind (arith, compared_same, refused_fails)

does_the_same : (outputs : Bool) (lat : Latencies) (memory : List ℤ) (block ops : List Op) (rows : List Row) (lawful : Bool)
    → PassesAs lawful outputs lat memory block ops rows → DoTheSame outputs lat block ops rows
does_the_same outputs lat memory block ops rows lawful (inl book) = book_does_the_same outputs lat block ops rows book
does_the_same outputs lat memory block ops rows lawful (inr same) = same.0

may_pass : (outputs : Bool) (lat : Latencies) (memory : List ℤ) (block ops : List Op) (rows : List Row) (lawful : Bool)
    → PassesAs lawful outputs lat memory block ops rows → DoEnough lawful outputs lat memory block ops rows
may_pass outputs lat memory block ops rows lawful h1 = grind (arith, true≢false)

-- what passes where nothing but rows by the book does passes in any case
passing_too : (lawful : Bool) (word : VerdictKind) → is_passing lawful word ≡ true → is_passing false word ≡ true
passing_too lawful word pass = grind arith

pub passed_is_same : (lawful : Bool) (checked : Checked) → passes lawful checked ≡ true → passes false checked ≡ true
passed_is_same lawful checked pass = grind (arith, and_from, and_parts, passing_too)

module _ (options : CheckOptions) (lat : Latencies) (memory : List ℤ) (block : List Op) (ours : Table) (proposal : Proposed)
    (checked : Checked) (entry : List ℕ) (check : IsCheck options lat memory block ours proposal checked entry) where
  abbrev keeps : Bool
  keeps = keeps_operations options.operations block proposal

  abbrev word : VerdictKind
  word = kind_of options.lawful check.verdict

  passing : (asked : Bool) → passes asked checked ≡ true → (keeps && is_passing asked word) ≡ true
  passing asked pass = sym (ap (passes asked) check.is_found) ∙ pass

  passed_as : (asked : Bool) → passes asked checked ≡ true
      → PassesAs asked options.outputs_alone lat memory block proposal.ops proposal.rows
  passed_as asked pass = grind (arith, and_parts, passes_as, passing)

  passed_kept : (asked : Bool) → passes asked checked ≡ true → options.operations ≡ true
      → AreItsOperations (without_nops block) proposal.ops
  passed_kept asked pass is =
      let keeps_all : keeps ≡ true = (and_parts keeps (is_passing asked word) (passing asked pass)).0 in
      kept options.operations block proposal.ops
      (and_parts (not (is_some proposal.unread)) (has_asked options.operations block proposal.ops) keeps_all).1 is

pub same_rows_do_the_same : SameRowsDoTheSame
same_rows_do_the_same options lat memory block ours proposal checked entry check pass =
    does_the_same options.outputs_alone lat memory block proposal.ops proposal.rows false
    (passed_as options lat memory block ours proposal checked entry check false pass)

pub passed_rows_may_pass : PassedRowsMayPass
passed_rows_may_pass options lat memory block ours proposal checked entry check pass = record {
  enough = may_pass options.outputs_alone lat memory block proposal.ops proposal.rows options.lawful
      (passed_as options lat memory block ours proposal checked entry check options.lawful pass);
  kept = passed_kept options lat memory block ours proposal checked entry check options.lawful pass;
}
