-- What stands last before an operation.
use Rattle.std.specs.Prelude.{ℕ, ◌≡◌, ◌<◌, ◌≤◌, true, false, if◌then◌else◌, List, [], ◌∷◌, ◌++◌, length, map, Some}
use Rattle.iloc_ops.specs.Limits.{MAX_OPS}
use Rattle.iloc_ops.specs.declared.op.Reg.{Reg}
use Rattle.iloc_ops.specs.declared.op.Op.{Op}
use Rattle.iloc_ops.specs.Registers.{used, defined}
use Rattle.iloc_meaning.specs.Trace.{op_at}
use Rattle.iloc_timed.specs.declared.kind.Kind.{Kind}
use Rattle.iloc_timed.specs.declared.kind.Kind.TheVariants as K
use Rattle.iloc_timed.specs.Kinds.{kind, is_load, is_store, is_output}
use Rattle.iloc_timed.specs.Latency.{latency}
use Rattle.iloc_rules.specs.Renaming.{IsRenamed}
use Rattle.iloc_sched.specs.declared.by_register.ByRegister.{ByRegister}
use Rattle.iloc_sched.specs.declared.edges.lasts.Lasts.{Lasts}
use Rattle.iloc_sched.specs.declared.edges.next.Next.{Next}
use Rattle.iloc_sched.specs.Steps.Renaming.ByRegister.{number_at}
use Rattle.iloc_sched.specs.Steps.Renaming.Registers.{listed}
use Rattle.iloc_rules.specs.Steps.Members.{In}
use Rattle.iloc_sched.specs.Steps.Graph.{IsLast}

-- operation j is noted for what it defines, all else is as it was
pub record NotesDefiner (op : Op) (old new : ByRegister) (j : ℕ) : Type 0 where
  pub changed : (r : Reg) → defined op ≡ Some r → number_at new r.0 ≡ Some j
  pub others : (r : Reg) → (defined op ≡ Some r → ⊥) → number_at new r.0 ≡ number_at old r.0

-- no store is between i and j
abbrev pub NoStoreBetween : List Op → ℕ → ℕ → Type 0
NoStoreBetween ops i j = (k : ℕ) → i < k → k < j → is_store (kind (op_at ops k)) ≡ false

-- what stands last before operation j
pub record IsLasts (ops : List Op) (lasts : Lasts) (j : ℕ) : Type 0 where
  pub definers : (r : Reg) → IsLast (λ i. defined (op_at ops i) ≡ Some r) j (number_at lasts.definers r.0)
  pub store : IsLast (λ i. is_store (kind (op_at ops i)) ≡ true) j lasts.store
  pub output : IsLast (λ i. is_output (kind (op_at ops i)) ≡ true) j lasts.output
  pub loads : (i : ℕ) → In lasts.loads.items i → (i < j) × (is_load (kind (op_at ops i)) ≡ true) × NoStoreBetween ops i j
  pub all_loads : (i : ℕ) → i < j → is_load (kind (op_at ops i)) ≡ true → NoStoreBetween ops i j → In lasts.loads.items i

-- an operation of renamed ones is the next: its kind, what it uses, what stands last before it, and the latency of each
pub record IsNext (next : Next) : Type 0 where
  pub renamed : IsRenamed next.ops.now
  pub few : length next.ops.now ≤ MAX_OPS
  pub there : next.j < length next.ops.now
  pub own : next.own.now ≡ map (latency next.latencies.now) next.ops.now
  pub known : IsLasts next.ops.now next.lasts.now next.j
  pub kind_is : next.kind ≡ kind (op_at next.ops.now next.j)
  pub uses_are : listed next.uses ≡ used (op_at next.ops.now next.j)

-- operation j of a kind is one of the earlier ones from now on
abbrev pub NotesKind : Kind → Lasts → Lasts → ℕ → Type 0
NotesKind K.Load old new j = (new.store ≡ old.store) × (new.output ≡ old.output) × (new.loads.items ≡ old.loads.items ++ j ∷ [])
NotesKind K.Store old new j = (new.store ≡ Some j) × (new.output ≡ old.output) × (new.loads.items ≡ [])
NotesKind K.Output old new j = (new.store ≡ old.store) × (new.output ≡ Some j) × (new.loads.items ≡ old.loads.items)
NotesKind _ old new j = (new.store ≡ old.store) × (new.output ≡ old.output) × (new.loads.items ≡ old.loads.items)

-- how many loads an operation of a kind waits for
abbrev pub loads_before : Kind → Lasts → ℕ
loads_before k lasts = if is_store k then length lasts.loads.items else 0
