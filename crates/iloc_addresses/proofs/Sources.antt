-- The operations on which each kind depends, given what stands last and what waits; for `MemoryDependences::fill`.
use Rattle.iloc_addresses.proofs.Common.{◌≡◌, ℕ, ◌+◌, ◌<◌, ◌≤◌, Bool, true, false, cond, ◌&&◌, ◌||◌, List, [], ◌∷◌, ◌++◌, length, if◌then◌else◌, ◌==◌, Some, None, count_by, Option, option_to_list, sym, refl, ap, ◌∙◌, subst, inl, inr, arith, and_from, and_parts, cases_lt, count_by-le-length, sum_by-append, sum_by-cons, Op, by_bool, op_at, is_output, is_store, kind, Kind, Latencies, contains_from, from_append, in_from, in_left, in_right, address_at, apart_if_both, by_address, In, Word, NoneBetween, AreFar, ArePlaced, Finds, IsLast, IsShort, IsStoreAt, IsWaiting, constant_of, waiting_by, Accesses}
use Rattle.iloc_timed.specs.declared.kind.Kind.TheVariants as K
use Rattle.iloc_rules.proofs.Basics.Kinds.{store_is, output_is}
use Rattle.iloc_addresses.specs.Dependences.{IsMemoryPair, AreSources}
use Rattle.iloc_addresses.proofs.Bases.{both_flipped}
use Rattle.iloc_addresses.proofs.ByConstants.{in_counted, counted_in}
use Rattle.iloc_addresses.proofs.LastOnes.{last_is}
use Rattle.iloc_addresses.proofs.Waited.{waits_by, reads, load_waits, output_waits, store_waits, waits_for_store, store_waits_for, output_waits_for, one_false, other_false, is_its, isnt_its, pair_from, pair_to, count_stores, count_near, near_counted, near_read, store_between, output_between, contradiction, count_two_stores}

in_option : (o : Option ℕ) (i : ℕ) → o ≡ Some i → In (option_to_list o) i
in_option o i is = subst (λ x. In (option_to_list x) i) (sym is) (inl refl)

from_option : (o : Option ℕ) (i : ℕ) → In (option_to_list o) i → o ≡ Some i
from_option None i there = absurd there
from_option (Some k) i (inl here) = ap Some here
from_option (Some k) i (inr none) = absurd none

once_in_option : (o : Option ℕ) (i : ℕ) → count_by (λ k. k == i) (option_to_list o) ≤ 1
once_in_option None i = omega arith
once_in_option (Some k) i =
    let one : count_by (λ k. k == i) (k ∷ []) ≤ length (k ∷ []) = count_by-le-length (λ k. k == i) (k ∷ []) in omega arith

pub short_option : (o : Option ℕ) → length (option_to_list o) ≤ 1
short_option None = omega arith
short_option (Some k) = omega arith

pub all_counted : (xs : List ℕ) → count_by (λ k. true) xs ≡ length xs
all_counted [] = refl
all_counted (x ∷ xs) = sum_by-cons (λ k. 1) x xs ∙ ap (λ n. 1 + n) (all_counted xs) ∙ omega arith

count_append : (i : ℕ) (xs ys : List ℕ)
    → count_by (λ k. k == i) (xs ++ ys) ≡ count_by (λ k. k == i) xs + count_by (λ k. k == i) ys
count_append i xs ys = sum_by-append (λ k. cond (k == i) 1 0) xs ys

-- none where an operation neither reads nor stores
pub no_sources : (ops : List Op) (j : ℕ)
    → ((lat : Latencies) (i d : ℕ) → IsMemoryPair (by_address ops) lat ops i j d → ⊥) → AreSources (by_address ops) ops j []
no_sources ops j none = record {
  each = λ lat i there. absurd (in_from [] i there);
  alone = λ i there. absurd (in_from [] i there);
  near = λ lat i d pair between. absurd (none lat i d pair);
  once = λ i. omega arith;
}

-- no store between counts with both
no_store_between : (ops : List Op) (i j : ℕ) → (is_output (kind (op_at ops i)) && is_output (kind (op_at ops j))) ≡ false
    → ((m : ℕ) → i < m → m < j → is_store (kind (op_at ops m)) ≡ true → by_address ops i m ≡ true
    → by_address ops m j ≡ true → ⊥) → NoneBetween (by_address ops) ops i j
no_store_between ops i j others none m after below =
    let test : Bool = is_store (kind (op_at ops m)) && (by_address ops i m && by_address ops m j) in
    ap (λ b. if b then is_output (kind (op_at ops m)) else test) others
    ∙ by_bool test
    (λ t.
    let parts = and_parts (is_store (kind (op_at ops m))) (by_address ops i m && by_address ops m j) t in
    let both = and_parts (by_address ops i m) (by_address ops m j) parts.1 in
    absurd (none m after below parts.0 both.0 both.1))
    (λ f. f)

-- no output is between two
no_output_between : (ops : List Op) (i j : ℕ) → (is_output (kind (op_at ops i)) && is_output (kind (op_at ops j))) ≡ true
    → ((m : ℕ) → i < m → m < j → is_output (kind (op_at ops m)) ≡ true → ⊥) → NoneBetween (by_address ops) ops i j
no_output_between ops i j both none m after below =
    ap (λ b. if b then is_output (kind (op_at ops m))
    else is_store (kind (op_at ops m)) && (by_address ops i m && by_address ops m j)) both
    ∙ by_bool (is_output (kind (op_at ops m))) (λ t. absurd (none m after below t)) (λ f. f)

module _ (ops : List Op) (j : ℕ) (k : Kind) (address : Word) (kind_is : kind (op_at ops j) ≡ k)
    (address_is : address_at ops j ≡ Some address) where
  near_here : (i : ℕ) → apart_if_both (address_at ops i) (Some address) ≡ false
      → apart_if_both (address_at ops i) (address_at ops j) ≡ false
  near_here i near = ap (apart_if_both (address_at ops i)) address_is ∙ near

  here_near : (i : ℕ) → apart_if_both (address_at ops i) (address_at ops j) ≡ false
      → apart_if_both (address_at ops i) (Some address) ≡ false
  here_near i near = ap (apart_if_both (address_at ops i)) (sym address_is) ∙ near

  module _ (o : Option ℕ) (last : IsLast (IsStoreAt ops (Some address)) j o) (read : reads k ≡ true)
      (no_store : is_store k ≡ false) where
    store_found : (lat : Latencies) (i : ℕ) → o ≡ Some i → (d : ℕ) × IsMemoryPair (by_address ops) lat ops i j d
    store_found lat i is =
        let at : IsLast (IsStoreAt ops (Some address)) j (Some i) = subst (IsLast (IsStoreAt ops (Some address)) j) is last in
        let counts : by_address ops i j ≡ true = count_near ops j k kind_is i (near_here i (at.1.1)) in
        pair_to ops j k kind_is lat i K.Store at.0 (store_is (kind (op_at ops i)) (at.1.0))
        (ap (λ b. waits_by b K.Store k) counts ∙ waits_for_store k (ap (λ b. b || is_store k) read))

    is_a_store : (i : ℕ) → o ≡ Some i → is_store (kind (op_at ops i)) ≡ true
    is_a_store i is =
        let at : IsLast (IsStoreAt ops (Some address)) j (Some i) = subst (IsLast (IsStoreAt ops (Some address)) j) is last in
        at.1.0

    store_alone : (i : ℕ) → o ≡ Some i → NoneBetween (by_address ops) ops i j
    store_alone i is =
        let at : IsLast (IsStoreAt ops (Some address)) j (Some i) = subst (IsLast (IsStoreAt ops (Some address)) j) is last in
        no_store_between ops i j
        (one_false _ _ (isnt_its is_output (kind (op_at ops i)) K.Store (store_is (kind (op_at ops i)) at.1.0) refl))
        (λ m after below store first second.
        at.2 m after below (store, here_near m (near_counted ops j k kind_is m no_store second)))

    near_store : (i : ℕ) → i < j → kind (op_at ops i) ≡ K.Store → by_address ops i j ≡ true
        → NoneBetween (by_address ops) ops i j → o ≡ Some i
    near_store i before store counts between =
        last_is (IsStoreAt ops (Some address)) j o i last before
        (is_its is_store (kind (op_at ops i)) K.Store store refl, here_near i (near_counted ops j k kind_is i no_store counts))
        (λ m after below at.
        contradiction
        (store_between ops j k kind_is i m
        (one_false _ _ (isnt_its is_output (kind (op_at ops i)) K.Store store refl)) at.0
        (count_two_stores ops i m store at.0) (count_near ops j k kind_is m (near_here m at.1))) (between m after below))

    pub sources_of_load : (list : List ℕ) → k ≡ K.Load → list ≡ option_to_list o → AreSources (by_address ops) ops j list
    sources_of_load list load is = record {
      each = λ lat i there. store_found lat i (from_option o i (subst (λ xs. In xs i) is (in_from list i there)));
      alone = λ i there. store_alone i (from_option o i (subst (λ xs. In xs i) is (in_from list i there)));
      near = λ lat i d pair between.
          let waits = pair_from ops j k kind_is lat i d pair in
          let parts = load_waits (by_address ops i j) (kind (op_at ops i))
          (ap (waits_by (by_address ops i j) (kind (op_at ops i))) (sym load) ∙ waits.1) in
          contains_from list i (subst (λ xs. In xs i) (sym is)
          (in_option o i (near_store i waits.0 parts.0 parts.1 between)));
      once = λ i.
          let one : count_by (λ k. k == i) (option_to_list o) ≤ 1 = once_in_option o i in
          subst (λ xs. count_by (λ k. k == i) xs ≤ 1) (sym is) one;
    }

    module _ (p : Option ℕ) (output : IsLast (λ i. is_output (kind (op_at ops i)) ≡ true) j p) (is_one : k ≡ K.Output)
        (list : List ℕ) (is : list ≡ option_to_list o ++ option_to_list p) where
      output_found : (lat : Latencies) (i : ℕ) → p ≡ Some i → (d : ℕ) × IsMemoryPair (by_address ops) lat ops i j d
      output_found lat i at =
          let there : IsLast (λ i. is_output (kind (op_at ops i)) ≡ true) j (Some i) =
          subst (IsLast (λ i. is_output (kind (op_at ops i)) ≡ true) j) at output in
          pair_to ops j k kind_is lat i K.Output there.0 (output_is (kind (op_at ops i)) there.1)
          (ap (waits_by (by_address ops i j) K.Output) is_one ∙ output_waits_for (by_address ops i j))

      is_an_output : (i : ℕ) → p ≡ Some i → is_output (kind (op_at ops i)) ≡ true
      is_an_output i at =
          let there : IsLast (λ i. is_output (kind (op_at ops i)) ≡ true) j (Some i) =
          subst (IsLast (λ i. is_output (kind (op_at ops i)) ≡ true) j) at output in
          there.1

      output_alone : (i : ℕ) → p ≡ Some i → NoneBetween (by_address ops) ops i j
      output_alone i at =
          let there : IsLast (λ i. is_output (kind (op_at ops i)) ≡ true) j (Some i) =
          subst (IsLast (λ i. is_output (kind (op_at ops i)) ≡ true) j) at output in
          no_output_between ops i j
          (and_from _ _ there.1 (is_its is_output (kind (op_at ops j)) K.Output (kind_is ∙ is_one) refl)) there.2

      near_output : (i : ℕ) → i < j → kind (op_at ops i) ≡ K.Output → NoneBetween (by_address ops) ops i j → p ≡ Some i
      near_output i before first between =
          last_is (λ i. is_output (kind (op_at ops i)) ≡ true) j p i output before
          (is_its is_output (kind (op_at ops i)) K.Output first refl)
          (λ m after below middle.
          contradiction
          (output_between ops j k kind_is i m (is_its is_output (kind (op_at ops i)) K.Output first refl)
          (is_its is_output (kind (op_at ops j)) K.Output (kind_is ∙ is_one) refl) middle) (between m after below))

      pub sources_of_output : AreSources (by_address ops) ops j list
      sources_of_output = record {
        each = λ lat i there.
            elim (from_append (option_to_list o) (option_to_list p) i (subst (λ xs. In xs i) is (in_from list i there))) [
              | inl a ↦ store_found lat i (from_option o i a)
              | inr b ↦ output_found lat i (from_option p i b)
            ];
        alone = λ i there.
            elim (from_append (option_to_list o) (option_to_list p) i (subst (λ xs. In xs i) is (in_from list i there))) [
              | inl a ↦ store_alone i (from_option o i a)
              | inr b ↦ output_alone i (from_option p i b)
            ];
        near = λ lat i d pair between.
            let waits = pair_from ops j k kind_is lat i d pair in
            contains_from list i (subst (λ xs. In xs i) (sym is)
            (elim (output_waits (by_address ops i j) (kind (op_at ops i))
            (ap (waits_by (by_address ops i j) (kind (op_at ops i))) (sym is_one) ∙ waits.1)) [
              | inl store ↦ in_left (option_to_list o) (option_to_list p) i
                  (in_option o i (near_store i waits.0 store.0 store.1 between))
              | inr first ↦ in_right (option_to_list o) (option_to_list p) i
                  (in_option p i (near_output i waits.0 first between))
            ]));
        once = λ i.
            let both : count_by (λ k. k == i) (option_to_list o ++ option_to_list p)
            ≡ count_by (λ k. k == i) (option_to_list o) + count_by (λ k. k == i) (option_to_list p) =
            count_append i (option_to_list o) (option_to_list p) in
            let first : count_by (λ k. k == i) (option_to_list o) ≤ 1 = once_in_option o i in
            let second : count_by (λ k. k == i) (option_to_list p) ≤ 1 = once_in_option p i in
            let sum : count_by (λ k. k == i) (option_to_list o ++ option_to_list p) ≤ 1 =
            elim (cases_lt 0 (count_by (λ k. k == i) (option_to_list o))) [
              | inl some ↦ elim (cases_lt 0 (count_by (λ k. k == i) (option_to_list p))) [
                | inl other ↦ contradiction
                    (is_an_output i (from_option p i (in_counted (option_to_list p) i other)))
                    (isnt_its is_output (kind (op_at ops i)) K.Store
                    (store_is (kind (op_at ops i)) (is_a_store i (from_option o i (in_counted (option_to_list o) i some)))) refl)
                | inr none ↦ omega arith
              ]
              | inr none ↦ omega arith
            ] in
            subst (λ xs. count_by (λ k. k == i) xs ≤ 1) (sym is) sum;
      }

  -- a store waits for the last one, and for each access that waits and isn't apart
  module _ (is_one : k ≡ K.Store) (o : Option ℕ) (last : IsLast (λ i. is_store (kind (op_at ops i)) ≡ true) j o)
      (old new : Accesses) (list : List ℕ) (finds : Finds address old new (option_to_list o) list) (far : AreFar address new)
      (short : IsShort (constant_of address)) (placed : ArePlaced (address_at ops) old)
      (waiting : (i : ℕ) → 0 < waiting_by (λ k. k == i) old → IsWaiting ops i j)
      (all : (i : ℕ) → IsWaiting ops i j → 0 < waiting_by (λ k. k == i) old)
      (once : (i : ℕ) → waiting_by (λ k. k == i) old ≤ 1) where
    last_found : (lat : Latencies) (i : ℕ) → o ≡ Some i → (d : ℕ) × IsMemoryPair (by_address ops) lat ops i j d
    last_found lat i is =
        let at : IsLast (λ i. is_store (kind (op_at ops i)) ≡ true) j (Some i) =
        subst (IsLast (λ i. is_store (kind (op_at ops i)) ≡ true) j) is last in
        let store : kind (op_at ops i) ≡ K.Store = store_is (kind (op_at ops i)) at.1 in
        let counts : by_address ops i j ≡ true = count_stores ops j k kind_is i store is_one in
        pair_to ops j k kind_is lat i K.Store at.0 store (ap (λ b. waits_by b K.Store k) counts
        ∙ waits_for_store k (ap (λ a. reads a || is_store a) is_one))

    last_is_store : (i : ℕ) → o ≡ Some i → is_store (kind (op_at ops i)) ≡ true
    last_is_store i is =
        let at : IsLast (λ i. is_store (kind (op_at ops i)) ≡ true) j (Some i) =
        subst (IsLast (λ i. is_store (kind (op_at ops i)) ≡ true) j) is last in
        at.1

    moved_waits : (i : ℕ) → In finds.moved i → IsWaiting ops i j
    moved_waits i there =
        let some : 0 < count_by (λ k. k == i) finds.moved = counted_in finds.moved i there in
        let sum : count_by (λ k. k == i) finds.moved + waiting_by (λ k. k == i) new ≡ waiting_by (λ k. k == i) old =
        finds.count (λ k. k == i) in
        waiting i (omega arith)

    access_found : (lat : Latencies) (i : ℕ) → In finds.moved i → (d : ℕ) × IsMemoryPair (by_address ops) lat ops i j d
    access_found lat i there =
        let waits = moved_waits i there in
        let counts : by_address ops i j ≡ true =
        count_near ops j k kind_is i (near_here i (finds.near (address_at ops) placed i there)) in
        pair_to ops j k kind_is lat i (kind (op_at ops i)) waits.before refl
        (ap (λ b. waits_by b (kind (op_at ops i)) k) counts ∙ ap (waits_by true (kind (op_at ops i))) is_one
        ∙ store_waits_for (kind (op_at ops i)) waits.reads)

    near_last : (i : ℕ) → i < j → kind (op_at ops i) ≡ K.Store → NoneBetween (by_address ops) ops i j → o ≡ Some i
    near_last i before store between =
        last_is (λ i. is_store (kind (op_at ops i)) ≡ true) j o i last before
        (is_its is_store (kind (op_at ops i)) K.Store store refl)
        (λ m after below at.
        contradiction
        (store_between ops j k kind_is i m
        (one_false _ _ (isnt_its is_output (kind (op_at ops i)) K.Store store refl)) at
        (count_two_stores ops i m store at)
        (count_stores ops j k kind_is m (store_is (kind (op_at ops m)) at) is_one)) (between m after below))

    -- an access that isn't apart and for which no store between takes the place waits, and is found
    no_store_reads : (a : Kind) → reads a ≡ true → is_store a ≡ false
    no_store_reads a read = grind arith

    last_alone : (i : ℕ) → o ≡ Some i → NoneBetween (by_address ops) ops i j
    last_alone i is =
        let at : IsLast (λ i. is_store (kind (op_at ops i)) ≡ true) j (Some i) =
        subst (IsLast (λ i. is_store (kind (op_at ops i)) ≡ true) j) is last in
        no_store_between ops i j
        (one_false _ _ (isnt_its is_output (kind (op_at ops i)) K.Store (store_is (kind (op_at ops i)) at.1) refl))
        (λ m after below store first second. at.2 m after below store)

    access_alone : (i : ℕ) → In finds.moved i → NoneBetween (by_address ops) ops i j
    access_alone i there =
        let waits = moved_waits i there in
        let no_store : is_store (kind (op_at ops i)) ≡ false = no_store_reads (kind (op_at ops i)) waits.reads in
        no_store_between ops i j
        (other_false _ _ (isnt_its is_output (kind (op_at ops j)) K.Store (kind_is ∙ is_one) refl))
        (λ m after below store first second. waits.alone m after below (
          store,
          both_flipped (address_at ops m) (address_at ops i)
              ∙ near_read ops m (kind (op_at ops m)) refl i no_store first,
        ))

    near_access : (i : ℕ) → i < j → reads (kind (op_at ops i)) ≡ true → by_address ops i j ≡ true
        → NoneBetween (by_address ops) ops i j → In finds.moved i
    near_access i before read counts between =
        let near : apart_if_both (address_at ops i) (Some address) ≡ false =
        here_near i (near_read ops j k kind_is i (no_store_reads (kind (op_at ops i)) read) counts) in
        let waits : IsWaiting ops i j = record {
          before = before;
          reads = read;
          alone = λ m after below at. contradiction
              (store_between ops j k kind_is i m
              (other_false _ _ (isnt_its is_output (kind (op_at ops j)) K.Store (kind_is ∙ is_one) refl)) at.0
              (count_near ops m (kind (op_at ops m)) refl i (both_flipped (address_at ops i) (address_at ops m) ∙ at.1))
              (count_stores ops j k kind_is m (store_is (kind (op_at ops m)) at.0) is_one)) (between m after below);
        } in
        let was : 0 < waiting_by (λ k. k == i) old = all i waits in
        let sum : count_by (λ k. k == i) finds.moved + waiting_by (λ k. k == i) new ≡ waiting_by (λ k. k == i) old =
        finds.count (λ k. k == i) in
        elim (cases_lt 0 (waiting_by (λ k. k == i) new)) [
          | inl still ↦
              contradiction (far (address_at ops) (finds.placed (address_at ops) placed) short i still) near
          | inr none ↦ in_counted finds.moved i (omega arith)
        ]

    pub sources_of_store : AreSources (by_address ops) ops j list
    sources_of_store = record {
      each = λ lat i there.
          elim (from_append (option_to_list o) finds.moved i (subst (λ xs. In xs i) finds.behind (in_from list i there))) [
            | inl a ↦ last_found lat i (from_option o i a)
            | inr b ↦ access_found lat i b
          ];
      alone = λ i there.
          elim (from_append (option_to_list o) finds.moved i (subst (λ xs. In xs i) finds.behind (in_from list i there))) [
            | inl a ↦ last_alone i (from_option o i a)
            | inr b ↦ access_alone i b
          ];
      near = λ lat i d pair between.
          let waits = pair_from ops j k kind_is lat i d pair in
          let parts = store_waits (by_address ops i j) (kind (op_at ops i))
          (ap (waits_by (by_address ops i j) (kind (op_at ops i))) (sym is_one) ∙ waits.1) in
          contains_from list i (subst (λ xs. In xs i) (sym finds.behind) (elim parts.1 [
            | inl store ↦ in_left (option_to_list o) finds.moved i (in_option o i (near_last i waits.0 store between))
            | inr read ↦ in_right (option_to_list o) finds.moved i (near_access i waits.0 read parts.0 between)
          ]));
      once = λ i.
          let both : count_by (λ k. k == i) (option_to_list o ++ finds.moved)
          ≡ count_by (λ k. k == i) (option_to_list o) + count_by (λ k. k == i) finds.moved =
          count_append i (option_to_list o) finds.moved in
          let first : count_by (λ k. k == i) (option_to_list o) ≤ 1 = once_in_option o i in
          let second : waiting_by (λ k. k == i) old ≤ 1 = once i in
          let sum : count_by (λ k. k == i) finds.moved + waiting_by (λ k. k == i) new ≡ waiting_by (λ k. k == i) old =
          finds.count (λ k. k == i) in
          let total : count_by (λ k. k == i) (option_to_list o ++ finds.moved) ≤ 1 =
          elim (cases_lt 0 (count_by (λ k. k == i) (option_to_list o))) [
            | inl some ↦ elim (cases_lt 0 (count_by (λ k. k == i) finds.moved)) [
              | inl other ↦ contradiction
                  (last_is_store i (from_option o i (in_counted (option_to_list o) i some)))
                  (no_store_reads (kind (op_at ops i)) ((moved_waits i (in_counted finds.moved i other)).reads))
              | inr none ↦ omega arith
            ]
            | inr none ↦ omega arith
          ] in
          subst (λ xs. count_by (λ k. k == i) xs ≤ 1) (sym finds.behind) total;
    }
