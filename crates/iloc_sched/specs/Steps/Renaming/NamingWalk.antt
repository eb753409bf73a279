-- What a walk through a block keeps while it names registers.
use Rattle.std.specs.Prelude.{ℕ, ◌+◌, ◌≡◌, ◌≢◌, ◌<◌, ◌⊎◌, if◌then◌else◌, List, [], ◌∷◌, ◌++◌, length, map, Option, Some, None}
use Rattle.std.specs.List.{list_any}
use Rattle.iloc_ops.specs.declared.op.Reg.{Reg}
use Rattle.iloc_ops.specs.declared.op.Op.{Op}
use Rattle.iloc_ops.specs.Registers.{used, defined, with_registers}
use Rattle.iloc_rules.specs.Renaming.{Source, is_source, source, numbering, place_of, name_of, renamed_op}
use Rattle.iloc_rules.specs.Renaming.Source.{Start, Result}
use Rattle.iloc_rules.specs.Steps.Stands.{Stands}

-- a numbering with one more source, if it is new
abbrev pub also : List Source → Source → List Source
also sources s = if list_any (is_source s) sources then sources else sources ++ s ∷ []

-- the number of a source, if it has one
abbrev pub number_of : List Source → Source → Option ℕ
number_of sources s = if list_any (is_source s) sources then Some (place_of sources s) else None

-- After n operations and some uses, with these sources numbered and `now r` the source of register r: so many names
-- were given, and a register has the number of its source.
pub record Follows (n : ℕ) (sources : List Source) (now : Reg → Source) (given : ℕ) (current : Reg → Option ℕ) : Type 0 where
  pub count : given ≡ length sources
  pub numbers : (r : Reg) → current r ≡ number_of sources (now r)
  pub origin : (r : Reg) → (now r ≡ Start r) ⊎ Stands sources (now r)
  pub results : (j : ℕ) → Stands sources (Result j) → j < n

-- the register r gets the next name
pub record NamesNext (r : Reg) (given : ℕ) (current : Reg → Option ℕ) (given' : ℕ) (current' : Reg → Option ℕ) : Type 0 where
  pub count : given' ≡ given + 1
  pub here : current' r ≡ Some given
  pub others : (q : Reg) → q.0 ≢ r.0 → current' q ≡ current q

-- the register r is used, and has this name from now on
abbrev pub NamesUse : Reg → Reg → ℕ → (Reg → Option ℕ) → ℕ → (Reg → Option ℕ) → Type 0
NamesUse r name given current given' current' =
    (n : ℕ) (sources : List Source) (now : Reg → Source) → Follows n sources now given current
    → Follows n (also sources (now r)) now given' current' × (name ≡ name_of (also sources (now r)) (now r))

-- the register r is defined, and has this name, the next one, from now on
abbrev pub NamesDefinition : Reg → Reg → ℕ → (Reg → Option ℕ) → ℕ → (Reg → Option ℕ) → Type 0
NamesDefinition r name given current given' current' =
    (name ≡ record { 0 = given }) × NamesNext r given current given' current'

-- the walk is past the operations `done`, with `given` names given and `current` the name of each register
abbrev pub Named : List Op → ℕ → (Reg → Option ℕ) → Type 0
Named done given current = Follows (length done) (numbering done) (source done (length done)) given current

-- a numbering to which `sources` are added, one after another
abbrev pub also_all : List Source → List Source → List Source
also_all sources [] = sources
also_all sources (s ∷ rest) = also_all (also sources s) rest

-- the operations so far, with the first of the registers that the next one uses
abbrev pub numbering_with : List Op → List Reg → List Source
numbering_with done used = also_all (numbering done) (map (source done (length done)) used)

-- the walk is past the operations `done` and the uses `used` of the next one, which have the names `renamed`
pub record UsesNamed (done : List Op) (used renamed : List Reg) (given : ℕ) (current : Reg → Option ℕ) : Type 0 where
  pub follows : Follows (length done) (numbering_with done used) (source done (length done)) given current
  pub names : renamed ≡ map (λ r. name_of (numbering_with done used) (source done (length done) r)) used

-- the operation that comes next, renamed
abbrev pub next_renamed : List Op → Op → Op
next_renamed done op = renamed_op (done ++ op ∷ []) (numbering (done ++ op ∷ [])) (length done)

-- the walk is past these operations and past `op`, which used these names and defined the register `own`
pub record NextNamed (done : List Op) (op : Op) (uses : List Reg) (own : Reg) (given : ℕ) (current : Reg → Option ℕ) : Type 0 where
  pub named : Named (done ++ op ∷ []) given current
  pub new : Reg → Reg
  pub names : uses ≡ map new (used op)
  pub renamed : with_registers new own op ≡ next_renamed done op

-- The operation that comes next uses `olds`, and `defines` if that is there; now it has the names `news`, and `own`
-- in place of what it defines.
abbrev pub NamesAll : List Reg → Option Reg → List Reg → Reg → ℕ → (Reg → Option ℕ) → ℕ → (Reg → Option ℕ) → Type 0
NamesAll olds defines news own given current given' current' =
    (done : List Op) (op : Op) → used op ≡ olds → defined op ≡ defines → Named done given current
    → NextNamed done op news own given' current'
