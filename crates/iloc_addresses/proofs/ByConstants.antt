-- Operations by a constant, found and counted; for `ByConstant`.
use Rattle.iloc_addresses.proofs.Common.{BTreeMap, ◌≡◌, ℕ, zero, suc, ◌+◌, ◌<◌, Bool, true, false, cond, List, [], ◌∷◌, ◌++◌, ℤ, if◌then◌else◌, ◌==◌, slice_get, Some, None, sum_by, count_by, Option, option_map, int_cmp, unwrap_or, sym, refl, ap, ◌∙◌, subst, inl, inr, append_assoc, arith, eqb-true, cases_lt, sum_by-append, sum_by-cons, sum_by_push, IsOrdered, get, insert_entry, is_at, values, option_map_or, by_bool, from_append, In, Moves, count_in, ops_at}
use Rattle.std.specs.Global.{Vec}
use Rattle.std.specs.Map.{remove_entry, values_of}
use Rattle.std.proofs.lemmas.Cmp.{int_cmp_total}
use Rattle.std.proofs.lemmas.Map.Entries.{sum_by-remove_entry, sum_by-insert_entry, btree_map_get_place}
use Rattle.iloc_addresses.specs.declared.dependences.by_constant.ByConstant.{ByConstant}

abbrev Ops : Type 0
Ops = BTreeMap ℤ (Vec ℕ)

-- those at a constant
abbrev pub at : Ops → ℤ → List ℕ
at ops c = option_map_or (λ v. v.items) (get int_cmp ops c) []

-- how many pass a test
abbrev pub count : (ℕ → Bool) → Ops → ℕ
count test ops = sum_by (λ v. count_by test v.items) (values ops)

counted_here : (x i : ℕ) (xs : List ℕ) → x ≡ i → count_by (λ k. k == i) (x ∷ xs) ≡ 1 + count_by (λ k. k == i) xs
counted_here x i xs here =
    let same : (x == i) ≡ true = grind arith in
    sum_by-cons (λ k. cond (k == i) 1 0) x xs ∙ ap (λ b. cond b 1 0 + count_by (λ k. k == i) xs) same

counted_there : (x i : ℕ) (xs : List ℕ) → (x == i) ≡ false
    → count_by (λ k. k == i) (x ∷ xs) ≡ 0 + count_by (λ k. k == i) xs
counted_there x i xs apart =
    sum_by-cons (λ k. cond (k == i) 1 0) x xs ∙ ap (λ b. cond b 1 0 + count_by (λ k. k == i) xs) apart

-- an operation that is counted is in the list
pub in_counted : (xs : List ℕ) (i : ℕ) → 0 < count_by (λ k. k == i) xs → In xs i
in_counted [] i some = absurd (omega arith)
in_counted (x ∷ xs) i some = by_bool (x == i) (λ t. inl (eqb-true x i t))
    (λ f. inr (in_counted xs i (omega (arith, counted_there x i xs f))))

-- and one that is in the list is counted
pub counted_in : (xs : List ℕ) (i : ℕ) → In xs i → 0 < count_by (λ k. k == i) xs
counted_in [] i there = absurd there
counted_in (x ∷ xs) i (inl here) = omega (arith, counted_here x i xs here)
counted_in (x ∷ xs) i (inr there) = by_bool (x == i) (λ t. omega (arith, counted_here x i xs (eqb-true x i t)))
    (λ f. omega (arith, counted_there x i xs f, counted_in xs i there))

some_entry : (es : List (ℤ × Vec ℕ)) (i : ℕ) → 0 < sum_by (λ v. count_by (λ k. k == i) v.items) (values_of es)
    → (n : ℕ) × (c : ℤ) × (v : Vec ℕ) × (slice_get es n ≡ Some (c, v)) × In v.items i
some_entry [] i some = absurd (omega arith)
some_entry (e ∷ es) i some = elim (cases_lt 0 (count_by (λ k. k == i) (e.1).items)) [
  | inl here ↦ (zero, e.0, e.1, refl, in_counted (e.1).items i here)
  | inr none ↦
      let both : sum_by (λ v. count_by (λ k. k == i) v.items) (values_of (e ∷ es))
      ≡ count_by (λ k. k == i) (e.1).items + sum_by (λ v. count_by (λ k. k == i) v.items) (values_of es) =
      sum_by-cons (λ (v : Vec ℕ). count_by (λ k. k == i) v.items) e.1 (values_of es) in
      let rest = some_entry es i (omega arith) in
      (suc rest.0, rest.1, rest.2, rest.3, rest.4)
]

-- an operation that is counted is at some constant
pub at_some : (by : ByConstant) (i : ℕ) → 0 < count_in (λ k. k == i) by → (c : ℤ) × In (ops_at by c) i
at_some by i some =
    let found = some_entry by.ops.entries i some in
    let got : get int_cmp by.ops found.1 ≡ Some found.2 =
    btree_map_get_place int_cmp_total by.ops found.0 found.1 found.2 by.ordered found.3 in
    (found.1, subst (λ o. In (option_map_or (λ v. v.items) o []) i) (sym got) found.4)

module _ (old new : Ops) (c : ℤ) where
  count_of : (test : ℕ → Bool) (o : Option (Vec ℕ)) → unwrap_or (option_map (λ v. count_by test v.items) o) 0
      ≡ count_by test (option_map_or (λ v. v.items) o [])
  count_of test None = refl
  count_of test (Some v) = refl

  -- where those at a constant are taken out
  pub removed_count : (test : ℕ → Bool) → new.entries ≡ remove_entry (is_at (int_cmp c)) old.entries
      → count_by test (at old c) + count test new ≡ count test old
  removed_count test removed =
      let whole : sum_by (λ v. count_by test v.items) (values_of (remove_entry (is_at (int_cmp c)) old.entries))
      + unwrap_or (option_map (λ v. count_by test v.items) (get int_cmp old c)) 0
      ≡ count test old =
      sum_by-remove_entry (λ (v : Vec ℕ). count_by test v.items) (is_at (int_cmp c)) old.entries in
      let rest : count test new ≡ sum_by (λ v. count_by test v.items) (values_of (remove_entry (is_at (int_cmp c)) old.entries)) =
      ap (λ es. sum_by (λ (v : Vec ℕ). count_by test v.items) (values_of es)) removed in
      let own : unwrap_or (option_map (λ v. count_by test v.items) (get int_cmp old c)) 0 ≡ count_by test (at old c) =
      count_of test (get int_cmp old c) in
      omega arith

  -- where the first are taken out
  pub popped_count : (test : ℕ → Bool) (v : Vec ℕ) → old.entries ≡ (c, v) ∷ new.entries
      → count_by test v.items + count test new ≡ count test old
  popped_count test v popped =
      let whole : count test old ≡ count_by test v.items + count test new =
      ap (λ es. sum_by (λ (v : Vec ℕ). count_by test v.items) (values_of es)) popped
      ∙ sum_by-cons (λ (v : Vec ℕ). count_by test v.items) v (values new) in
      omega arith

  -- what is left after one constant is taken out was there
  pub left_at : ((q : ℤ) → get int_cmp new q ≡ cond (is_at (int_cmp c) q) None (get int_cmp old q)) → (q : ℤ) (i : ℕ)
      → In (at new q) i → In (at old q) i
  left_at updates q i there = by_bool (is_at (int_cmp c) q)
      (λ t.
      let gone : get int_cmp new q ≡ None = updates q ∙ ap (λ b. cond b None (get int_cmp old q)) t in
      absurd (subst (λ o. In (option_map_or (λ v. v.items) o []) i) gone there))
      (λ f.
      let same : get int_cmp new q ≡ get int_cmp old q = updates q ∙ ap (λ b. cond b None (get int_cmp old q)) f in
      subst (λ o. In (option_map_or (λ v. v.items) o []) i) same there)

  -- where others are put in
  pub inserted_count : (ops : Vec ℕ) (test : ℕ → Bool) → IsOrdered int_cmp old → get int_cmp old c ≡ None
      → new.entries ≡ insert_entry int_cmp old.entries c ops → count test new ≡ count test old + count_by test ops.items
  inserted_count ops test ordered none inserted =
      let whole : sum_by (λ v. count_by test v.items) (values_of (insert_entry int_cmp old.entries c ops))
      + unwrap_or (option_map (λ v. count_by test v.items) (get int_cmp old c)) 0
      ≡ count test old + count_by test ops.items =
      sum_by-insert_entry (λ (v : Vec ℕ). count_by test v.items) int_cmp_total old.entries c ops ordered in
      let nothing : unwrap_or (option_map (λ v. count_by test v.items) (get int_cmp old c)) 0 ≡ 0 =
      ap (λ o. unwrap_or (option_map (λ (v : Vec ℕ). count_by test v.items) o) 0) none in
      let same : count test new ≡ sum_by (λ v. count_by test v.items) (values_of (insert_entry int_cmp old.entries c ops)) =
      ap (λ es. sum_by (λ (v : Vec ℕ). count_by test v.items) (values_of es)) inserted in
      omega arith

-- those that are taken out, or none
pub taken_items : (o : Option (Vec ℕ)) (none : Vec ℕ) → none.items ≡ [] → (unwrap_or o none).items
    ≡ option_map_or (λ v. v.items) o []
taken_items None none empty = empty
taken_items (Some v) none empty = refl

-- where those at a constant are put back with one more
pub put_count : (old mid new : Ops) (c : ℤ) (ops : Vec ℕ) (i : ℕ) (test : ℕ → Bool) → ops.items ≡ at old c ++ i ∷ []
    → count_by test (at old c) + count test mid ≡ count test old
    → count test new ≡ count test mid + count_by test ops.items
    → count test new ≡ count test old + (if test i then 1 else 0)
put_count old mid new c ops i test more removed inserted =
    let both : count_by test ops.items ≡ count_by test (at old c) + cond (test i) 1 0 =
    ap (count_by test) more ∙ sum_by_push (λ k. cond (test k) 1 0) (at old c) i in
    omega arith

-- the first are moved behind others that were
pub moves_more : (first old new : ByConstant) (c : ℤ) (v : Vec ℕ) (list list' list″ : List ℕ) → Moves first old list list'
    → ((q : ℤ) (i : ℕ) → In (ops_at old q) i → In (ops_at first q) i) → get int_cmp old.ops c ≡ Some v
    → old.ops.entries ≡ (c, v) ∷ new.ops.entries → list″ ≡ list' ++ v.items → Moves first new list list″
moves_more first old new c v list list' list″ moves left got popped more = record {
  moved = moves.moved ++ v.items;
  behind = more ∙ ap (λ xs. xs ++ v.items) moves.behind ∙ append_assoc list moves.moved v.items;
  were = λ i there. elim (from_append moves.moved v.items i there) [
    | inl before ↦ moves.were i before
    | inr now ↦ (c, left c i (subst (λ o. In (option_map_or (λ v. v.items) o []) i) (sym got) now))
  ];
  count = λ test.
      let both : count_by test (moves.moved ++ v.items) ≡ count_by test moves.moved + count_by test v.items =
      sum_by-append (λ k. cond (test k) 1 0) moves.moved v.items in
      let rest : count_by test v.items + count test new.ops ≡ count test old.ops =
      popped_count old.ops new.ops c test v popped in
      let before : count_by test moves.moved + count test old.ops ≡ count test first.ops = moves.count test in
      omega arith;
}
