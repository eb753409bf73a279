-- What stands before the next operation, once one is taken; for `MemoryDependences::fill`.
use Rattle.iloc_addresses.proofs.Common.{◌≡◌, ℕ, ◌+◌, ◌<◌, ◌≤◌, Bool, true, false, cond, List, if◌then◌else◌, OnOk, ◌==◌, Some, None, Ok, Err, count_by, Option, Result, sym, refl, ap, ◌∙◌, subst, inl, inr, arith, eqb-true, cases_eq, cases_lt, Op, Load, LoadAI, Output, Store, StoreAI, Reg, by_bool, op_at, is_output, is_store, kind, Kind, address_at, address_of, apart_if_both, are_apart, Word, AreFar, ArePlaced, Finds, IsBefore, IsLast, IsShort, IsStoreAt, IsWaiting, constant_of, store_for, waiting_by}
use Rattle.iloc_addresses.specs.declared.dependences.MemoryDependences.{MemoryDependences}
use Rattle.iloc_addresses.proofs.Bases.{both_flipped}
use Rattle.iloc_addresses.proofs.ByConstants.{in_counted}
use Rattle.iloc_addresses.proofs.LastOnes.{last_here, last_before}
use Rattle.iloc_addresses.proofs.Waited.{reads, contradiction}

-- what follows of two facts of a success
pub of_both : {T E P Q R : Type 0} → (r : Result T E) → (P → Q → R) → OnOk r P → OnOk r Q → OnOk r R
of_both (Ok x) follows p q = follows p q
of_both (Err e) follows p q = tt

-- what neither reads nor stores has no address
pub no_address : (op : Op) (known : Reg → Word) → address_of op known ≡ None
    → (reads (kind op) ≡ false) × (is_store (kind op) ≡ false)
no_address (Load addr dest) known none = cc
no_address (LoadAI addr offset dest) known none = cc
no_address (Store value addr) known none = cc
no_address (StoreAI value addr offset) known none = cc
no_address (Output addr) known none = cc
no_address _ known none = (refl, refl)

read_no_store : (a : Kind) → reads a ≡ true → is_store a ≡ false
read_no_store a read = grind arith

module _ (ops : List Op) (j : ℕ) where
  -- what a test of kinds fails of leaves the last one as it was
  stays : (test : Kind → Bool) (o : Option ℕ) → test (kind (op_at ops j)) ≡ false
      → IsLast (λ i. test (kind (op_at ops i)) ≡ true) j o → IsLast (λ i. test (kind (op_at ops i)) ≡ true) (j + 1) o
  stays test o fails last =
      last_before (λ i. test (kind (op_at ops i)) ≡ true) j o (λ holds. contradiction holds fails) last

  still_waits : (i : ℕ) → IsWaiting ops i j → (IsStoreAt ops (address_at ops i) j → ⊥) → IsWaiting ops i (j + 1)
  still_waits i waits not = record {
    before = let before : i < j = waits.before in omega arith;
    reads = waits.reads;
    alone = λ k after below at. elim (cases_eq k j) [
      | inl same ↦ not (subst (IsStoreAt ops (address_at ops i)) same at)
      | inr apart ↦ waits.alone k after (omega arith) at
    ];
  }

  did_wait : (i : ℕ) → i < j → IsWaiting ops i (j + 1) → IsWaiting ops i j
  did_wait i below waits = record {
    before = below;
    reads = waits.reads;
    alone = λ k after before at. waits.alone k after (omega arith) at;
  }

  -- after an operation that doesn't read, none waits but those that did
  earlier : (i : ℕ) → reads (kind (op_at ops j)) ≡ false → IsWaiting ops i (j + 1) → i < j
  earlier i fails waits = elim (cases_eq i j) [
    | inl same ↦ contradiction (ap (λ k. reads (kind (op_at ops k))) (sym same) ∙ waits.reads) fails
    | inr apart ↦ let below : i < j + 1 = waits.before in omega arith
  ]

  module _ (old : MemoryDependences) (before : IsBefore ops old j) where
    pub other_before : reads (kind (op_at ops j)) ≡ false → is_store (kind (op_at ops j)) ≡ false
        → IsBefore ops old (j + 1)
    other_before no_read no_store = record {
      last = stays is_store old.stores.last no_store before.last;
      stores = λ w short. last_before (IsStoreAt ops (Some w)) j (store_for old.stores w)
          (λ at. contradiction at.0 no_store) (before.stores w short);
      output = stays is_output old.output (no_output (kind (op_at ops j)) no_read) before.output;
      placed = before.placed;
      waiting = λ i some. still_waits i (before.waiting i some) (λ at. contradiction at.0 no_store);
      all = λ i waits. before.all i (did_wait i (earlier i no_read waits) waits);
      once = before.once;
    }
      where
        no_output : (a : Kind) → reads a ≡ false → is_output a ≡ false
        no_output a fails = grind arith

    -- after one that reads it waits too
    pub read_before : (new : MemoryDependences) → reads (kind (op_at ops j)) ≡ true → new.stores ≡ old.stores
        → IsLast (λ i. is_output (kind (op_at ops i)) ≡ true) (j + 1) new.output → ArePlaced (address_at ops) new.accesses
        → ((test : ℕ → Bool) → waiting_by test new.accesses ≡ waiting_by test old.accesses + (if test j then 1 else 0))
        → IsBefore ops new (j + 1)
    read_before new read same output placed more = record {
      last = subst (λ s. IsLast (λ i. is_store (kind (op_at ops i)) ≡ true) (j + 1) s.last) (sym same)
          (stays is_store old.stores.last no_store before.last);
      stores = λ w short. subst (λ s. IsLast (IsStoreAt ops (Some w)) (j + 1) (store_for s w)) (sym same)
          (last_before (IsStoreAt ops (Some w)) j (store_for old.stores w)
          (λ at. contradiction at.0 no_store) (before.stores w short));
      output = output;
      placed = placed;
      waiting = λ i some. by_bool (j == i)
          (λ t. subst (λ k. IsWaiting ops k (j + 1)) (eqb-true j i t) itself)
          (λ f.
          let one : waiting_by (λ k. k == i) new.accesses ≡ waiting_by (λ k. k == i) old.accesses + 0 = not_it i f in
          still_waits i (before.waiting i (omega arith)) (λ at. contradiction at.0 no_store));
      all = λ i waits. elim (cases_eq i j) [
        | inl here ↦
            let one : waiting_by (λ k. k == i) new.accesses ≡ waiting_by (λ k. k == i) old.accesses + 1 = it i (sym here) in
            omega arith
        | inr apart ↦
            let below : i < j + 1 = waits.before in
            let was : 0 < waiting_by (λ k. k == i) old.accesses = before.all i (did_wait i (omega arith) waits) in
            let sum : waiting_by (λ k. k == i) new.accesses
            ≡ waiting_by (λ k. k == i) old.accesses + cond (j == i) 1 0 = more (λ k. k == i) in
            omega arith
      ];
      once = λ i. by_bool (j == i)
          (λ t.
          let here : j ≡ i = eqb-true j i t in
          let one : waiting_by (λ k. k == i) new.accesses ≡ waiting_by (λ k. k == i) old.accesses + 1 = it i here in
          elim (cases_lt 0 (waiting_by (λ k. k == i) old.accesses)) [
            | inl some ↦ let below : i < j = (before.waiting i some).before in absurd (omega arith)
            | inr none ↦ omega arith
          ])
          (λ f.
          let one : waiting_by (λ k. k == i) new.accesses ≡ waiting_by (λ k. k == i) old.accesses + 0 = not_it i f in
          let few : waiting_by (λ k. k == i) old.accesses ≤ 1 = before.once i in
          omega arith);
    }
      where
        no_store : is_store (kind (op_at ops j)) ≡ false
        no_store = read_no_store (kind (op_at ops j)) read

        itself : IsWaiting ops j (j + 1)
        itself = record { before = omega arith; reads = read; alone = λ k after below at. absurd (omega arith) }

        same_number : (a b : ℕ) → a ≡ b → (a == b) ≡ true
        same_number a b e = grind arith

        it : (i : ℕ) → j ≡ i → waiting_by (λ k. k == i) new.accesses ≡ waiting_by (λ k. k == i) old.accesses + 1
        it i here = more (λ k. k == i)
            ∙ ap (λ b. waiting_by (λ k. k == i) old.accesses + cond b 1 0) (same_number j i here)

        not_it : (i : ℕ) → (j == i) ≡ false
            → waiting_by (λ k. k == i) new.accesses ≡ waiting_by (λ k. k == i) old.accesses + 0
        not_it i f = more (λ k. k == i) ∙ ap (λ b. waiting_by (λ k. k == i) old.accesses + cond b 1 0) f

    -- after a store those wait on that are apart from it
    pub store_before : (new : MemoryDependences) (address : Word) (list list' : List ℕ)
        → is_store (kind (op_at ops j)) ≡ true → address_at ops j ≡ Some address → IsShort (constant_of address)
        → new.stores.last ≡ Some j
        → ((w : Word) → IsShort (constant_of w)
        → store_for new.stores w ≡ (if are_apart address w then store_for old.stores w else Some j))
        → new.output ≡ old.output → Finds address old.accesses new.accesses list list' → AreFar address new.accesses
        → IsBefore ops new (j + 1)
    store_before new address list list' store is short last stores output finds far = record {
      last = subst (IsLast (λ i. is_store (kind (op_at ops i)) ≡ true) (j + 1)) (sym last)
          (last_here (λ i. is_store (kind (op_at ops i)) ≡ true) j store);
      stores = λ w fits. subst (IsLast (IsStoreAt ops (Some w)) (j + 1)) (sym (stores w fits))
          (by_bool (are_apart address w)
          (λ t. subst (IsLast (IsStoreAt ops (Some w)) (j + 1))
          (sym (ap (λ b. if b then store_for old.stores w else Some j) t))
          (last_before (IsStoreAt ops (Some w)) j (store_for old.stores w)
          (λ at. contradiction (ap (λ a. apart_if_both a (Some w)) is ∙ t) at.1) (before.stores w fits)))
          (λ f. subst (IsLast (IsStoreAt ops (Some w)) (j + 1))
          (sym (ap (λ b. if b then store_for old.stores w else Some j) f))
          (last_here (IsStoreAt ops (Some w)) j (store, ap (λ a. apart_if_both a (Some w)) is ∙ f))));
      output = subst (IsLast (λ i. is_output (kind (op_at ops i)) ≡ true) (j + 1)) (sym output)
          (stays is_output old.output (no_output (kind (op_at ops j)) store) before.output);
      placed = finds.placed (address_at ops) before.placed;
      waiting = λ i some.
          still_waits i (before.waiting i (was i some))
          (λ at. contradiction
          (ap (λ a. apart_if_both a (address_at ops i)) is ∙ both_flipped (Some address) (address_at ops i)
          ∙ far (address_at ops) (finds.placed (address_at ops) before.placed) short i some) at.1);
      all = λ i waits.
          let there : 0 < waiting_by (λ k. k == i) old.accesses =
          before.all i (did_wait i (earlier i (no_read (kind (op_at ops j)) store) waits) waits) in
          let sum : count_by (λ k. k == i) finds.moved + waiting_by (λ k. k == i) new.accesses
          ≡ waiting_by (λ k. k == i) old.accesses = finds.count (λ k. k == i) in
          elim (cases_lt 0 (count_by (λ k. k == i) finds.moved)) [
            | inl some ↦ absurd (waits.alone j (earlier i (no_read (kind (op_at ops j)) store) waits) (omega arith) (
              store,
              ap (λ a. apart_if_both a (address_at ops i)) is ∙ both_flipped (Some address) (address_at ops i)
                  ∙ finds.near (address_at ops) before.placed i (in_counted finds.moved i some),
            ))
            | inr none ↦ omega arith
          ];
      once = λ i.
          let sum : count_by (λ k. k == i) finds.moved + waiting_by (λ k. k == i) new.accesses
          ≡ waiting_by (λ k. k == i) old.accesses = finds.count (λ k. k == i) in
          let few : waiting_by (λ k. k == i) old.accesses ≤ 1 = before.once i in
          omega arith;
    }
      where
        no_read : (a : Kind) → is_store a ≡ true → reads a ≡ false
        no_read a holds = grind arith

        no_output : (a : Kind) → is_store a ≡ true → is_output a ≡ false
        no_output a holds = grind arith

        was : (i : ℕ) → 0 < waiting_by (λ k. k == i) new.accesses → 0 < waiting_by (λ k. k == i) old.accesses
        was i some =
            let sum : count_by (λ k. k == i) finds.moved + waiting_by (λ k. k == i) new.accesses
            ≡ waiting_by (λ k. k == i) old.accesses = finds.count (λ k. k == i) in
            omega arith
