-- Whether a block's outcome on a memory says anything of rows.
use Rattle.std.specs.Prelude.{ℕ, ◌+◌, ◌≡◌, ◌≢◌, ◌||◌, Bool, true, false, List, take, ℤ}
use Rattle.std.specs.List.{list_any}
use Rattle.iloc_ops.specs.declared.op.Op.{Op}
use Rattle.iloc_meaning.specs.declared.outcome.Outcome.TheVariants.{Fault}
use Rattle.iloc_meaning.specs.Outcome.{outcome}
use Rattle.iloc_meaning.specs.Trace.{op_at}
use Rattle.iloc_timed.specs.Kinds.{kind, is_output, is_store}
use Rattle.iloc_comparison.specs.declared.void.Void.{Void}
use Rattle.iloc_comparison.specs.declared.void.Void.TheVariants.{Faults, ShowsNothing}

-- whether the block has a store or an output, or an output where outputs alone are compared
abbrev pub shows_something : Bool → List Op → Bool
shows_something true block = list_any (λ op. is_output (kind op)) block
shows_something false block = list_any (λ op. is_store (kind op) || is_output (kind op)) block

-- The block faults on this memory, at this operation: the block up to it finishes, and with it faults.
pub record FaultsAt (block : List Op) (memory : List ℤ) (op : Op) : Type 0 where
  pub faults : outcome block memory ≡ Fault
  pub earlier : ℕ
  pub before : outcome (take earlier block) memory ≢ Fault
  pub there : outcome (take (earlier + 1) block) memory ≡ Fault
  pub is : op ≡ op_at block earlier

-- why the block's outcome on this memory says nothing
abbrev pub IsVoid : Bool → List Op → List ℤ → Void → Type 0
IsVoid outputs block memory (Faults op) = FaultsAt block memory op
IsVoid outputs block memory ShowsNothing = (outcome block memory ≢ Fault) × (shows_something outputs block ≡ false)

-- What the block does on this memory says something: the block finishes, and has a store or an output, or an output where
-- outputs alone are compared.
pub record CanBeJudged (outputs : Bool) (block : List Op) (memory : List ℤ) : Type 0 where
  pub finishes : outcome block memory ≢ Fault
  pub shows : shows_something outputs block ≡ true
