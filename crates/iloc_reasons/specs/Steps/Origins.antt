-- How the operations are found that others are.
use Rattle.std.specs.Prelude.{ℕ, ◌≡◌, ◌≢◌, ◌<◌, ◌↔◌, List, length, slice_index, Option, Some, None, IfSome}
use Rattle.std.specs.BTreeMap.{BTreeMap, get}
use Rattle.std.specs.Ordering.{nat_cmp}
use Rattle.iloc_ops.specs.declared.op.Op.{Op}
use Rattle.iloc_facts.specs.declared.reading.sources.Sources.{Sources}
use Rattle.iloc_facts.specs.declared.reading.sources.Sources.TheVariants.{Nothing, One, Two}
use Rattle.iloc_facts.specs.ByLabel.{number_like}
use Rattle.iloc_facts.specs.Facts.{AreSources}
use Rattle.iloc_reasons.specs.declared.origins.left.Left.{Left}
use Rattle.iloc_reasons.specs.Origins.{origin_at, IsUnknown}

-- what is read is the start of a register on both sides, or results of operations that are known to be one
abbrev pub AreReadAlike : List (Option ℕ) → Sources → Sources → Type 0
AreReadAlike known Nothing Nothing = Unit
AreReadAlike known (One only) (One other) = AreSources (λ j l. origin_at known l ≡ Some j) only other
AreReadAlike known (Two left right) (Two other another) =
    AreSources (λ j l. origin_at known l ≡ Some j) left other × AreSources (λ j l. origin_at known l ≡ Some j) right another
AreReadAlike known _ _ = ⊥

-- Of each of the first n numbers it is noted where it stands alone among them, or that it doesn't.
pub record AreAlone (numbers : List ℕ) (n : ℕ) (alone : BTreeMap ℕ (Option ℕ)) : Type 0 where
  pub all : (i : ℕ) → i < n → get nat_cmp alone (slice_index numbers i) ≢ None
  pub own : (i j : ℕ) → i < n → get nat_cmp alone (slice_index numbers i) ≡ Some (Some j) → i ≡ j

-- operation i is one of the first n, has this label, and nothing is noted of it
abbrev pub IsLeftBefore : List Op → List (Option ℕ) → ℕ → Op → ℕ → Type 0
IsLeftBefore ops noted n op i = (i < n) × IsUnknown ops noted op i

-- Of each label the first such operation is held and, if there are more, one that isn't the first.
pub record AreLeft (ops : List Op) (noted : List (Option ℕ)) (n : ℕ) (left : Left) : Type 0 where
  pub first : (op : Op) → IfSome (number_like left.first op) (IsLeftBefore ops noted n op)
  pub more : (op : Op) → IfSome (number_like left.more op)
      (λ i. IsLeftBefore ops noted n op i × ((j : ℕ) × (number_like left.first op ≡ Some j) × (j ≢ i)))
  pub all : (op : Op) (i : ℕ) → IsLeftBefore ops noted n op i → number_like left.more op ≡ None
      → number_like left.first op ≡ Some i

-- by operation of the block one of the rows that is known to be it, if any is
abbrev pub ArePartners : List (Option ℕ) → ℕ → List (Option ℕ) → Type 0
ArePartners known n partners = (i : ℕ) → i < length partners
    → (origin_at partners i ≡ None) ↔ ((k : ℕ) → k < n → origin_at known k ≢ Some i)
