-- A store or an output that a nearer operation passes is waited for by way of that one.
use Rattle.iloc_graph.proofs.Common.{◌≡◌, ℕ, ◌+◌, ◌<◌, ◌≤◌, Bool, true, false, ◌&&◌, ◌||◌, ◌⊎◌, List, [], ◌∷◌, ◌++◌, refl, ap, ◌∙◌, subst, inl, inr, arith, and_parts, or_cases, list_any, Op}
use Rattle.iloc_graph.proofs.Common.{op_at, Latencies, from_any, from_append, in_left, in_right, from_when, in_when, keeps_order_where, reads_stored, uses_result, when, In, MemoryRule}
use Rattle.iloc_graph.proofs.Common.{Rises, comes_after, is_ordered, is_passed, unpassed}
use Rattle.std.specs.Prelude.{None}
use Rattle.iloc_ops.specs.Registers.{defined, used}
use Rattle.iloc_meaning.specs.Trace.{is_register}
use Rattle.iloc_meaning.proofs.Cases.{by_bool}
use Rattle.iloc_timed.specs.declared.kind.Kind.{Kind}
use Rattle.iloc_timed.specs.declared.kind.Kind.TheVariants as K
use Rattle.iloc_timed.specs.Kinds.{is_output, is_store, kind}
use Rattle.iloc_timed.specs.Latency.{latency_of}
use Rattle.iloc_timed.proofs.WholeRuns.{some_latency}
use Rattle.iloc_graph.proofs.Lists.{any_none}

gives_nothing : (op : Op) → (is_store (kind op) || is_output (kind op)) ≡ true → defined op ≡ None
gives_nothing op is = grind arith

-- nothing uses the result of a store or an output
pub unused : (a b : Op) → (is_store (kind a) || is_output (kind a)) ≡ true → uses_result a b ≡ false
unused a b is =
    any_none (λ r. is_register r (defined a)) (used b) (λ r there. ap (λ given. is_register r given) (gives_nothing a is))

-- the delays by memory and outputs, from kind to kind, given whether the two count
abbrev pub delays_by : Bool → Latencies → Kind → Kind → List ℕ
delays_by counts lat a b = when (counts && reads_stored a b) (latency_of lat a) ++ when (keeps_order_where counts a b) 1

pub some_delay : (counts : Bool) (lat : Latencies) (a b : Kind) → is_ordered counts a b ≡ true
    → (d : ℕ) × In (delays_by counts lat a b) d × (1 ≤ d)
some_delay counts lat a b is = elim (or_cases (counts && reads_stored a b) (keeps_order_where counts a b) is) [
  | inl reads ↦ (
    latency_of lat a,
    in_left (when (counts && reads_stored a b) (latency_of lat a)) (when (keeps_order_where counts a b) 1) (latency_of lat a)
        (in_when (counts && reads_stored a b) (latency_of lat a) reads),
    some_latency lat a,
  )
  | inr keeps ↦ (
    1,
    in_right (when (counts && reads_stored a b) (latency_of lat a)) (when (keeps_order_where counts a b) 1) 1
        (in_when (keeps_order_where counts a b) 1 keeps),
    omega arith,
  )
]

-- what comes after a store reads what was stored, or is a store
reads_or_stores : (lat : Latencies) (counts : Bool) (b : Kind) → is_ordered counts K.Store b ≡ true
    → In (delays_by counts lat K.Store b) (latency_of lat K.Store) ⊎ (b ≡ K.Store)
reads_or_stores lat counts K.Store is = inr refl
reads_or_stores lat true K.Load is = inl (inl refl)
reads_or_stores lat true K.Output is = inl (inl refl)
reads_or_stores lat counts b is = grind arith

-- a store delays all that reads what it stored as long
from_store : (lat : Latencies) (counts : Bool) (c : Kind) (e : ℕ) → reads_stored K.Store c ≡ true
    → In (delays_by counts lat K.Store c) e → e ≡ latency_of lat K.Store
from_store lat counts c e reads held = grind arith

-- by way of a store
store_then : (lat : Latencies) (first second : Bool) (b c : Kind) (e : ℕ) → is_ordered first K.Store b ≡ true
    → reads_stored K.Store c ≡ true → (e ≡ latency_of lat b) ⊎ In (delays_by second lat b c) e
    → (f : ℕ) × In (delays_by first lat K.Store b) f × (latency_of lat K.Store ≤ f + e)
store_then lat first second b c e is reads next = elim (reads_or_stores lat first b is) [
  | inl long ↦ (latency_of lat K.Store, long, omega arith)
  | inr store ↦
      let some = some_delay first lat K.Store b is in
      let same : e ≡ latency_of lat K.Store = elim next [
        | inl own ↦ own ∙ ap (latency_of lat) store
        | inr memory ↦ from_store lat second c e reads (subst (λ k. In (delays_by second lat k c) e) store memory)
      ] in
      (some.0, some.1, omega arith)
]

-- a store or an output delays no operation longer than by way of one between that comes after it
pub as_long : (lat : Latencies) (first second third : Bool) (a b c : Kind) (d e : ℕ) → (is_store a || is_output a) ≡ true
    → is_ordered first a b ≡ true → In (delays_by third lat a c) d → (e ≡ latency_of lat b) ⊎ In (delays_by second lat b c) e
    → (f : ℕ) × In (delays_by first lat a b) f × (d ≤ f + e)
as_long lat first second third K.Store b c d e source is held next =
    elim (from_append (when (third && reads_stored K.Store c) (latency_of lat K.Store)) (when (keeps_order_where third K.Store c) 1) d held) [
      | inl reads ↦
          let read = from_when (third && reads_stored K.Store c) (latency_of lat K.Store) d reads in
          let found = store_then lat first second b c e is (and_parts third (reads_stored K.Store c) read.0).1 next in
          let long : latency_of lat K.Store ≤ found.0 + e = found.2 in
          let same : latency_of lat K.Store ≡ d = read.1 in
          (found.0, found.1, omega arith)
      | inr keeps ↦
          let some = some_delay first lat K.Store b is in
          let least : 1 ≤ some.0 = some.2 in
          let one : 1 ≡ d = (from_when (keeps_order_where third K.Store c) 1 d keeps).1 in
          (some.0, some.1, omega arith)
    ]
as_long lat first second third K.Output b c d e source is held next =
    let some = some_delay first lat K.Output b is in
    let least : 1 ≤ some.0 = some.2 in
    let one : d ≡ 1 = grind arith in
    (some.0, some.1, omega arith)
as_long lat first second third a b c d e source is held next = absurd (grind arith)

-- an operation of a list passes another
pub record Passes (rule : MemoryRule) (ops : List Op) (xs : List ℕ) (i : ℕ) : Type 0 where
  pub source : (is_store (kind (op_at ops i)) || is_output (kind (op_at ops i))) ≡ true
  pub way : ℕ
  pub there : In xs way
  pub after : i < way
  pub passes : comes_after rule ops way i ≡ true

later : (rule : MemoryRule) (ops : List Op) (x : ℕ) (xs : List ℕ) (i : ℕ) → Passes rule ops xs i → Passes rule ops (x ∷ xs) i
later rule ops x xs i it = record {
  source = it.source;
  way = it.way;
  there = inr it.there;
  after = it.after;
  passes = it.passes;
}

head_passed : (rule : MemoryRule) (ops : List Op) (i : ℕ) (xs : List ℕ) → ((k : ℕ) → In xs k → i < k) → is_passed rule ops i xs ≡ true
    → Passes rule ops (i ∷ xs) i
head_passed rule ops i xs rises passed =
    let both = and_parts (is_store (kind (op_at ops i)) || is_output (kind (op_at ops i))) (list_any (λ k. comes_after rule ops k i) xs) passed in
    let found = from_any (λ k. comes_after rule ops k i) xs both.1 in
    record {
      source = both.0;
      way = found.0;
      there = inr found.1;
      after = rises found.0 found.1;
      passes = found.2;
    }

pub left_or_passed : (rule : MemoryRule) (ops : List Op) (xs : List ℕ) (i : ℕ) → Rises xs → In xs i
    → In (unpassed rule ops xs) i ⊎ Passes rule ops xs i
left_or_passed rule ops [] i rises there = absurd there
left_or_passed rule ops (x ∷ xs) i rises (inl here) = by_bool (is_passed rule ops x xs)
    (λ passed. inr (subst (Passes rule ops (x ∷ xs)) here (head_passed rule ops x xs rises.0 passed)))
    (λ free. inl (rw free (inl here)))
left_or_passed rule ops (x ∷ xs) i rises (inr rest) = elim (left_or_passed rule ops xs i rises.1 rest) [
  | inl left ↦ inl (by_bool (is_passed rule ops x xs) (λ passed. rw passed left) (λ free. rw free (inr left)))
  | inr passed ↦ inr (later rule ops x xs i passed)
]

pub from_unpassed : (rule : MemoryRule) (ops : List Op) (xs : List ℕ) (i : ℕ) → In (unpassed rule ops xs) i → In xs i
from_unpassed rule ops [] i there = absurd there
from_unpassed rule ops (x ∷ xs) i there = by_bool (is_passed rule ops x xs)
    (λ passed. inr (from_unpassed rule ops xs i (rw passed at there)))
    (λ free. elim (rw free at there) [
      | inl here ↦ inl here
      | inr rest ↦ inr (from_unpassed rule ops xs i rest)
    ])
