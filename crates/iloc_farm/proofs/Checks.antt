-- What holds of rows that pass.
use Rattle.iloc_farm.proofs.Common.{◌≡◌, ℕ, ◌+◌, Bool, true, false, List, [], ◌∷◌, length, ℤ, Option, refl, arith, AllZip, list_all, zip, Block, Table, Latencies, Proposed, MemoryRule, DoTheSame, MayPass, AreEntries, finding_of, Passed, IsCheckEntry, ListsChecked, PassedChecksKeepOutcomes, PassedChecksMayPass}
use Rattle.std.proofs.lemmas.Bool.{and_parts}
use Rattle.iloc_verdict.specs.Checked.{passes}
use Rattle.iloc_verdict.specs.declared.checked.Checked.{Checked}
use Rattle.iloc_comparison.specs.declared.task.CheckOptions.{CheckOptions}
use Rattle.iloc_judge.specs.Checked.{IsCheck}
use Rattle.iloc_judge.proofs.Sameness.{passed_is_same, passed_rows_may_pass, same_rows_do_the_same}

all_pass : (b : Bool) → Passed ≡ finding_of b → b ≡ true
all_pass true is = refl
all_pass false is = absurd (cc)

-- what holds of whatever passes holds of all, where all pass
module _ (options : CheckOptions) (nodes : Option ℕ) (rule : MemoryRule) (lat : Latencies) (memory : List ℤ)
    (P : Block → Proposed → Type 0)
    (holds : (b : Block) (s : Table) (p : Proposed) (c : Checked) (text : List ℕ)
    → IsCheck options lat memory b.ops s p c text → passes options.lawful c ≡ true → P b p) where
  of_each : (k : ℕ) (blocks : List Block) (proposals : List Proposed) (found : List Checked) (text : List ℕ)
      → length proposals ≡ length blocks
      → AreEntries (IsCheckEntry options nodes rule lat memory) k (zip blocks proposals) found text
      → list_all (passes options.lawful) found ≡ true → AllZip P blocks proposals
  of_each k [] [] found text many are pass = tt
  of_each k [] (p ∷ proposals) found text many are pass = absurd (omega arith)
  of_each k (b ∷ blocks) [] found text many are pass = absurd (omega arith)
  of_each k (b ∷ blocks) (p ∷ proposals) [] text many are pass = absurd are
  of_each k (b ∷ blocks) (p ∷ proposals) (c ∷ found) text many are pass = (
    holds b are.2.ours p c are.2.text are.2.right (and_parts (passes options.lawful c) (list_all (passes options.lawful) found) pass).0,
    of_each (k + 1) blocks proposals found are.1 (omega arith) are.3
        (and_parts (passes options.lawful c) (list_all (passes options.lawful) found) pass).1,
  )

  of_passed : (blocks : List Block) (proposals : List Proposed) (text : List ℕ)
      → ListsChecked options nodes rule lat memory blocks proposals Passed text → AllZip P blocks proposals
  of_passed blocks proposals text lists = grind (arith, all_pass, of_each)

pub passed_keep_outcomes : PassedChecksKeepOutcomes
passed_keep_outcomes options nodes rule lat memory = of_passed options nodes rule lat memory
    (λ b p. DoTheSame options.outputs_alone lat b.ops p.ops p.rows)
    (λ b s p c text right pass. same_rows_do_the_same options lat memory b.ops s p c text right (passed_is_same options.lawful c pass))

pub passed_may_pass : PassedChecksMayPass
passed_may_pass options nodes rule lat memory = of_passed options nodes rule lat memory
    (λ b p. MayPass options lat memory b.ops p.ops p.rows)
    (λ b s p c text right pass. passed_rows_may_pass options lat memory b.ops s p c text right pass)
