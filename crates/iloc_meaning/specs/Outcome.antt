-- The outcome of a block on a memory.
use Rattle.std.specs.Prelude.{Bool, true, false, if◌then◌else◌, List, [], ◌∷◌, ◌++◌, length, Option, Some, None, ℤ}
use Rattle.std.specs.List.{list_any}
use Rattle.iloc_ops.specs.declared.op.Op.{Op}
use Rattle.iloc_meaning.specs.declared.effect.Effect.{Effect}
use Rattle.iloc_meaning.specs.declared.effect.Effect.TheVariants.{Faults, Emits}
use Rattle.iloc_meaning.specs.declared.outcome.Outcome.{Outcome}
use Rattle.iloc_meaning.specs.declared.outcome.Outcome.TheVariants.{Finished, Fault}
use Rattle.iloc_meaning.specs.Memory.{with_words}
use Rattle.iloc_meaning.specs.Trace.{Executed, before, word_after}

-- whether the effect is a fault
abbrev pub is_fault : Effect → Bool
is_fault Faults = true
is_fault _ = false

-- the word that an effect emits, if any
abbrev pub emitted_by : Effect → List ℤ
emitted_by (Emits word) = word ∷ []
emitted_by _ = []

-- whether an operation of the trace faulted
abbrev pub has_fault : List Executed → Bool
has_fault trace = list_any (λ e. is_fault e.effect) trace

-- the emitted words, in order
abbrev pub emitted : List Executed → List ℤ
emitted [] = []
emitted (e ∷ earlier) = emitted earlier ++ emitted_by e.effect

-- what comes of a trace that started on this memory
abbrev pub outcome_of : List ℤ → List Executed → Outcome
outcome_of memory trace =
    if has_fault trace then Fault else Finished (emitted trace) (with_words memory (word_after memory trace))

-- what comes of a block's operations
abbrev pub outcome : List Op → List ℤ → Outcome
outcome ops memory = outcome_of memory (before memory ops (length ops))

-- the words that are emitted, and nothing where a block faults
abbrev pub shown : Outcome → Option (List ℤ)
shown (Finished outputs memory) = Some outputs
shown Fault = None

-- what runs blocks one after another: the memory with which each starts, and the outcome of the last one
pub record Runs : Type 0 where
  pub memory : List ℤ
  pub last : Outcome
