-- What the stack of the search covers.
use Rattle.std.specs.Prelude.{ℕ, List, [], ◌∷◌, ◌⊎◌}
use Rattle.iloc_timed.specs.declared.kind.Kind.{Kind}
use Rattle.iloc_sched.specs.declared.edges.Edge.{Edge}
use Rattle.iloc_optimum.specs.declared.windows.Windows.{Windows}
use Rattle.iloc_optimum.specs.Timing.{AreSized, IsTiming, Within}

-- the cycles of issue `t` are within one of the windows
abbrev pub InOne : List Windows → (ℕ → ℕ) → Type 0
InOne [] t = ⊥
InOne (w ∷ ws) t = Within w.firsts.items w.lasts.items t ⊎ InOne ws t

-- each of the windows is for operations of `kinds`
abbrev pub EachSized : List Kind → List Windows → Type 0
EachSized kinds [] = Unit {0}
EachSized kinds (w ∷ ws) = AreSized kinds w × EachSized kinds ws

-- cycles of issue within the first windows are within some of the stack's
pub record IsCovered (edges : List Edge) (kinds : List Kind) (root : Windows) (stack : List Windows) : Type 0 where
  pub sized : EachSized kinds stack
  pub all : (t : ℕ → ℕ) → IsTiming edges kinds t → Within root.firsts.items root.lasts.items t → InOne stack t
