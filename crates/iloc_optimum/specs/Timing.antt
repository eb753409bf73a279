-- In which cycles operations can be issued.
use Rattle.std.specs.Prelude.{ℕ, ◌+◌, ◌-◌, ◌*◌, ◌≡◌, ◌≤◌, ◌<◌, ◌&&◌, nat_le, nat_lt, Bool, List, length, slice_index, slice_index_or, count_by}
use Rattle.std.specs.List.{All, range_with_len}
use Rattle.iloc_ops.specs.Limits.{MAX_OPS}
use Rattle.iloc_timed.specs.declared.kind.Kind.{Kind}
use Rattle.iloc_timed.specs.declared.kind.Kind.TheVariants.{Other}
use Rattle.iloc_bound.specs.Shares.{shares, width}
use Rattle.iloc_bound.specs.declared.share.Share.{Share}
use Rattle.iloc_sched.specs.declared.edges.Edge.{Edge}
use Rattle.iloc_optimum.specs.declared.windows.Windows.{Windows}

-- each edge is waited for
abbrev pub WaitsFor : List Edge → (ℕ → ℕ) → Type 0
WaitsFor edges t = All (λ (e : Edge). t e.from + e.delay ≤ t e.to) edges

-- whether x is a cycle from a to before c
abbrev pub between : ℕ → ℕ → ℕ → Bool
between a c x = nat_le a x && nat_lt x c

-- of the operations that pass `p` a cycle holds at most `width`
abbrev pub Crowd : ℕ → (ℕ → Bool) → ℕ → (ℕ → ℕ) → Type 0
Crowd width p n t = (a c : ℕ) → count_by (λ i. p i && between a c (t i)) (range_with_len 0 n) ≤ width * (c - a)

-- whether operation i belongs to the share
abbrev pub belongs : List Kind → Share → ℕ → Bool
belongs kinds s i = shares s (slice_index_or kinds i Other)

-- cycles hold no more of a share than its rows can hold
abbrev pub FitsShares : List Kind → (ℕ → ℕ) → Type 0
FitsShares kinds t = (s : Share) → Crowd (width s) (belongs kinds s) (length kinds) t

-- What is known of the cycles of issue `t` in a lawful schedule of operations of `kinds`, which have `edges`.
pub record IsTiming (edges : List Edge) (kinds : List Kind) (t : ℕ → ℕ) : Type 0 where
  pub waits : WaitsFor edges t
  pub crowds : FitsShares kinds t

-- each operation is issued within its window
pub record Within (firsts lasts : List ℕ) (t : ℕ → ℕ) : Type 0 where
  pub from : (i : ℕ) → i < length firsts → slice_index firsts i ≤ t i
  pub to : (i : ℕ) → i < length lasts → t i ≤ slice_index lasts i

-- no cycles of issue are within the windows `w`
abbrev pub HasNone : List Edge → List Kind → Windows → Type 0
HasNone edges kinds w = (t : ℕ → ℕ) → IsTiming edges kinds t → Within w.firsts.items w.lasts.items t → ⊥

-- the edges are between operations below `count`
abbrev pub LeadsBetween : ℕ → List Edge → Type 0
LeadsBetween count edges = All (λ (e : Edge). (e.from < count) × (e.to < count)) edges

-- the edges are between operations of `kinds`
pub record IsSized (edges : List Edge) (kinds : List Kind) : Type 0 where
  pub few : length kinds ≤ MAX_OPS
  pub there : LeadsBetween (length kinds) edges

-- `w` has a window for each operation of `kinds`
abbrev pub AreSized : List Kind → Windows → Type 0
AreSized kinds w = (length w.firsts.items ≡ length kinds) × (length w.lasts.items ≡ length kinds)
