-- Which kinds wait for which, and what takes the place of a store or an access; for `Sources`.
use Rattle.iloc_addresses.proofs.Common.{◌≡◌, ℕ, ◌<◌, Bool, true, false, not, ◌&&◌, ◌||◌, ◌⊎◌, List, if◌then◌else◌, Contains, sym, refl, ap, ◌∙◌, inl, inr, true≢false, arith, or_cases, Op, op_at, is_load, is_output, is_store, kind, latency, Kind, Latencies, contains_from, from_append, in_from, in_left, in_right, address_at, apart_if_both, by_address, keeps_order_where, memory_delays_where, reads_stored, when, takes_over}
use Rattle.iloc_timed.specs.declared.kind.Kind.TheVariants as K
use Rattle.iloc_rules.proofs.DelayPairs.DelayBounds.{in_when, from_when}
use Rattle.iloc_addresses.specs.Dependences.{IsMemoryPair}

-- whether the second kind waits for the first by memory or outputs, given whether the two count
abbrev pub waits_by : Bool → Kind → Kind → Bool
waits_by counts a b = (counts && reads_stored a b) || keeps_order_where counts a b

or_left : (a b : Bool) → a ≡ true → (a || b) ≡ true
or_left a b holds = grind arith

or_right : (a b : Bool) → b ≡ true → (a || b) ≡ true
or_right a b holds = grind arith

delay_waits : (counts : Bool) (lat : Latencies) (i j : Op) (d : ℕ) → Contains (memory_delays_where counts lat i j) d
    → waits_by counts (kind i) (kind j) ≡ true
delay_waits counts lat i j d held =
    elim (from_append (when (counts && reads_stored (kind i) (kind j)) (latency lat i))
    (when (keeps_order_where counts (kind i) (kind j)) 1) d (in_from (memory_delays_where counts lat i j) d held)) [
      | inl a ↦ or_left _ _ ((from_when (counts && reads_stored (kind i) (kind j)) (latency lat i) d a).0)
      | inr b ↦ or_right _ _ ((from_when (keeps_order_where counts (kind i) (kind j)) 1 d b).0)
    ]

waits_delay : (counts : Bool) (lat : Latencies) (i j : Op) → waits_by counts (kind i) (kind j) ≡ true
    → (d : ℕ) × Contains (memory_delays_where counts lat i j) d
waits_delay counts lat i j waits =
    elim (or_cases (counts && reads_stored (kind i) (kind j)) (keeps_order_where counts (kind i) (kind j)) waits) [
      | inl a ↦ (
        latency lat i,
        contains_from (memory_delays_where counts lat i j) (latency lat i)
            (in_left (when (counts && reads_stored (kind i) (kind j)) (latency lat i)) _ (latency lat i)
            (in_when (counts && reads_stored (kind i) (kind j)) (latency lat i) a)),
      )
      | inr b ↦ (
        1,
        contains_from (memory_delays_where counts lat i j) 1
            (in_right (when (counts && reads_stored (kind i) (kind j)) (latency lat i)) _ 1
            (in_when (keeps_order_where counts (kind i) (kind j)) 1 b)),
      )
    ]

pub load_waits : (counts : Bool) (a : Kind) → waits_by counts a K.Load ≡ true → (a ≡ K.Store) × (counts ≡ true)
load_waits counts a waits = grind arith

pub output_waits : (counts : Bool) (a : Kind) → waits_by counts a K.Output ≡ true
    → ((a ≡ K.Store) × (counts ≡ true)) ⊎ (a ≡ K.Output)
output_waits counts a waits = grind arith

-- a load or an output
abbrev pub reads : Kind → Bool
reads a = is_load a || is_output a

pub store_waits : (counts : Bool) (a : Kind) → waits_by counts a K.Store ≡ true
    → (counts ≡ true) × ((a ≡ K.Store) ⊎ (reads a ≡ true))
store_waits counts a waits = grind arith

pub none_waits : (counts : Bool) (a b : Kind) → (b ≡ K.Mult) ⊎ (b ≡ K.Other) → waits_by counts a b ≡ true → ⊥
none_waits counts a b is waits = grind arith

pub waits_for_store : (b : Kind) → (reads b || is_store b) ≡ true → waits_by true K.Store b ≡ true
waits_for_store b holds = grind arith

pub store_waits_for : (a : Kind) → reads a ≡ true → waits_by true a K.Store ≡ true
store_waits_for a holds = grind arith

pub output_waits_for : (counts : Bool) → waits_by counts K.Output K.Output ≡ true
output_waits_for counts = grind arith

counts_near : (a b x : Bool) → b ≡ false → ((a && b) || not x) ≡ true → x ≡ false
counts_near a b x fails counts = grind arith

near_counts : (a b x : Bool) → x ≡ false → ((a && b) || not x) ≡ true
near_counts a b x near = grind arith

stores_count : (a b x : Bool) → a ≡ true → b ≡ true → ((a && b) || not x) ≡ true
stores_count a b x first second = grind arith

both_count : (a b c : Bool) → a ≡ true → b ≡ true → c ≡ true → (a && (b && c)) ≡ true
both_count a b c x y z = grind arith

pub one_false : (a b : Bool) → a ≡ false → (a && b) ≡ false
one_false a b fails = grind arith

pub other_false : (a b : Bool) → b ≡ false → (a && b) ≡ false
other_false a b fails = grind arith

pub is_its : (test : Kind → Bool) (a k : Kind) → a ≡ k → test k ≡ true → test a ≡ true
is_its test a k same holds = ap test same ∙ holds

pub isnt_its : (test : Kind → Bool) (a k : Kind) → a ≡ k → test k ≡ false → test a ≡ false
isnt_its test a k same fails = ap test same ∙ fails

module _ (ops : List Op) (j : ℕ) (k : Kind) (kind_is : kind (op_at ops j) ≡ k) where
  pub pair_from : (lat : Latencies) (i d : ℕ) → IsMemoryPair (by_address ops) lat ops i j d
      → (i < j) × (waits_by (by_address ops i j) (kind (op_at ops i)) k ≡ true)
  pair_from lat i d pair = (
    pair.order,
    ap (waits_by (by_address ops i j) (kind (op_at ops i))) (sym kind_is)
        ∙ delay_waits (by_address ops i j) lat (op_at ops i) (op_at ops j) d pair.delay,
  )

  pub pair_to : (lat : Latencies) (i : ℕ) (a : Kind) → i < j → kind (op_at ops i) ≡ a
      → waits_by (by_address ops i j) a k ≡ true → (d : ℕ) × IsMemoryPair (by_address ops) lat ops i j d
  pair_to lat i a before is waits =
      let found = waits_delay (by_address ops i j) lat (op_at ops i) (op_at ops j)
      (ap (λ b. waits_by (by_address ops i j) b (kind (op_at ops j))) is
      ∙ ap (waits_by (by_address ops i j) a) kind_is ∙ waits) in
      (found.0, record { order = before; delay = found.1 })

  -- a store counts with a store, else those that aren't apart
  pub count_stores : (i : ℕ) → kind (op_at ops i) ≡ K.Store → k ≡ K.Store → by_address ops i j ≡ true
  count_stores i is store =
      stores_count (is_store (kind (op_at ops i))) (is_store (kind (op_at ops j))) _
      (is_its is_store (kind (op_at ops i)) K.Store is refl)
      (is_its is_store (kind (op_at ops j)) K.Store (kind_is ∙ store) refl)

  pub count_near : (i : ℕ) → apart_if_both (address_at ops i) (address_at ops j) ≡ false → by_address ops i j ≡ true
  count_near i near = near_counts (is_store (kind (op_at ops i))) (is_store (kind (op_at ops j))) _ near

  pub near_counted : (i : ℕ) → is_store k ≡ false → by_address ops i j ≡ true
      → apart_if_both (address_at ops i) (address_at ops j) ≡ false
  near_counted i fails counts =
      counts_near (is_store (kind (op_at ops i))) (is_store (kind (op_at ops j))) _
      (isnt_its is_store (kind (op_at ops j)) k kind_is fails) counts

  pub near_read : (i : ℕ) → is_store (kind (op_at ops i)) ≡ false → by_address ops i j ≡ true
      → apart_if_both (address_at ops i) (address_at ops j) ≡ false
  near_read i fails counts =
      counts_near' (is_store (kind (op_at ops i))) (is_store (kind (op_at ops j))) _ fails counts
    where
      counts_near' : (a b x : Bool) → a ≡ false → ((a && b) || not x) ≡ true → x ≡ false
      counts_near' a b x fails counts = grind arith

  -- a store that counts with both takes the place of an operation
  pub store_between : (i m : ℕ) → (is_output (kind (op_at ops i)) && is_output (kind (op_at ops j))) ≡ false
      → is_store (kind (op_at ops m)) ≡ true → by_address ops i m ≡ true → by_address ops m j ≡ true
      → takes_over (by_address ops) ops i j m ≡ true
  store_between i m others store first second =
      ap (λ b. if b then is_output (kind (op_at ops m))
      else is_store (kind (op_at ops m)) && (by_address ops i m && by_address ops m j)) others
      ∙ both_count (is_store (kind (op_at ops m))) (by_address ops i m) (by_address ops m j) store first second

  -- and so does an output between outputs
  pub output_between : (i m : ℕ) → is_output (kind (op_at ops i)) ≡ true → is_output (kind (op_at ops j)) ≡ true
      → is_output (kind (op_at ops m)) ≡ true → takes_over (by_address ops) ops i j m ≡ true
  output_between i m first last middle =
      ap (λ b. if b then is_output (kind (op_at ops m))
      else is_store (kind (op_at ops m)) && (by_address ops i m && by_address ops m j)) (both first last)
      ∙ middle
    where
      both : {a b : Bool} → a ≡ true → b ≡ true → (a && b) ≡ true
      both x y = grind arith

pub contradiction : {P : Type 0} {b : Bool} → b ≡ true → b ≡ false → P
contradiction holds fails = absurd (true≢false (sym holds ∙ fails))

-- between two stores each store counts with both
pub count_two_stores : (ops : List Op) (i m : ℕ) → kind (op_at ops i) ≡ K.Store → is_store (kind (op_at ops m)) ≡ true
    → by_address ops i m ≡ true
count_two_stores ops i m is store =
    stores_count (is_store (kind (op_at ops i))) (is_store (kind (op_at ops m))) _
    (is_its is_store (kind (op_at ops i)) K.Store is refl) store
