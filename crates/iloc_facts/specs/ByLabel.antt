-- Numbers of operations, by their labels.
use Rattle.std.specs.Prelude.{ℕ, ◌≡◌, ◌<◌, if◌then◌else◌, List, Option, IfNone, IfSome}
use Rattle.std.specs.BTreeMap.{get}
use Rattle.iloc_ops.specs.declared.op.Op.{Op}
use Rattle.iloc_ops.specs.contracts.op.OpOrd.TheImpl as of_ops
use Rattle.iloc_meaning.specs.Trace.{op_at}
use Rattle.iloc_facts.specs.declared.by_label.ByLabel.{ByLabel}
use Rattle.iloc_facts.specs.Labels.{label, label_key}
use Rattle.iloc_facts.specs.Counts.{are_alike}

-- the number for operations like this one
abbrev pub number_like : ByLabel → Op → Option ℕ
number_like numbers op = get (of_ops.ghosts).cmp numbers.numbers (label_key op)

-- from `old` to `new`, operations like `op` have another `number`, and nothing else changes
abbrev pub SetsLike : ByLabel → ByLabel → Op → Option ℕ → Type 0
SetsLike old new op number =
    (other : Op) → number_like new other ≡ (if are_alike op other then number else number_like old other)

-- Each label of the first n operations has a number, and each number is that of one with this label: labels with one number
-- are one.
pub record NumbersLabels (ops : List Op) (n : ℕ) (numbers : ByLabel) : Type 0 where
  pub all : (i : ℕ) → i < n → IfNone (number_like numbers (op_at ops i)) ⊥
  pub own : (op : Op) → IfSome (number_like numbers op) (λ i. (i < n) × (label (op_at ops i) ≡ label op))
