-- What one more line does to the counts of labels and blocks, and to their names.
use Rattle.iloc_text.proofs.Common.{◌≡◌, ℕ, zero, suc, ◌+◌, ◌<◌, ◌≤◌, Bool, true, false, cond, not, ◌&&◌, ◌||◌, ◌⊎◌, List, [], ◌∷◌, ◌++◌, map, length, is_some, ◌==◌, Some, None, Option, option_to_list, filter_map, sym, refl, ap, ◌∙◌, inl, inr, append_assoc, append-nil, arith, length-append, nat_tests, length-map, map-append, Op, Reading, fronts, labels, last_op, opens_unnamed}
use Rattle.std.proofs.lemmas.List.Elements.{filter_map-append}
use Rattle.iloc_text.specs.Files.{block_names, block_count}

pub fronts-snoc : (rs : List Reading) (r : Reading) → fronts (rs ++ r ∷ []) ≡ fronts rs ++ (rs ++ r ∷ []) ∷ []
fronts-snoc [] r = refl
fronts-snoc (x ∷ xs) r = ap (λ f. (x ∷ []) ∷ map (λ front. x ∷ front) f) (fronts-snoc xs r)
    ∙ ap (λ f. (x ∷ []) ∷ f) (map-append (λ front. x ∷ front) (fronts xs) ((xs ++ r ∷ []) ∷ []))

pub last_op-snoc : (rs : List Reading) (r : Reading) → last_op (rs ++ r ∷ []) ≡ r.op
last_op-snoc [] r = refl
last_op-snoc (x ∷ []) r = refl
last_op-snoc (x ∷ y ∷ xs) r = last_op-snoc (y ∷ xs) r

pub labels-snoc : (rs : List Reading) (r : Reading) → labels (rs ++ r ∷ []) ≡ labels rs ++ option_to_list r.label
labels-snoc rs r = grind (arith, filter_map, filter_map-append, option_to_list)

-- a label changes nothing about what stands before every label
pub opens-label : (rs : List Reading) (r : Reading) → is_some r.label ≡ true
    → opens_unnamed (rs ++ r ∷ []) ≡ opens_unnamed rs
opens-label [] r h = rw h refl
opens-label (x ∷ xs) r h = ap (λ b. not (is_some x.label) && (is_some x.op || b)) (opens-label xs r h)

-- nor does a line without an operation
pub opens-empty : (rs : List Reading) (r : Reading) → is_some r.op ≡ false
    → opens_unnamed (rs ++ r ∷ []) ≡ opens_unnamed rs
opens-empty [] r h = grind (arith, is_some)
opens-empty (x ∷ xs) r h = ap (λ b. not (is_some x.label) && (is_some x.op || b)) (opens-empty xs r h)

-- an operation without a label opens the unnamed block where there is no label yet
pub opens-op : (rs : List Reading) (r : Reading) → is_some r.label ≡ false → is_some r.op ≡ true
    → opens_unnamed (rs ++ r ∷ []) ≡ (opens_unnamed rs || (length (labels rs) == 0))
opens-op [] r h g = rw (h, g) refl
opens-op (x ∷ xs) r h g = grind (arith, is_some, nat_tests, opens-op xs r h g)

-- Counts and names

pub length-names : (rs : List Reading) → length (block_names rs) ≡ block_count rs
unfolding block_names block_count
length-names rs = grind (arith, length-map)

pub names-label : (rs : List Reading) (r : Reading) (name : List ℕ) → r.label ≡ Some name
    → block_names (rs ++ r ∷ []) ≡ block_names rs ++ Some name ∷ []
unfolding block_names
names-label rs r name h = grind (arith, append_assoc, is_some, labels-snoc, map-append, opens-label)

pub names-empty : (rs : List Reading) (r : Reading) → r.label ≡ None → r.op ≡ None
    → block_names (rs ++ r ∷ []) ≡ block_names rs
unfolding block_names
names-empty rs r h g = rw (opens-empty rs r (ap is_some g), labels-snoc rs r, h, append-nil (labels rs)) refl

pub names-op : (rs : List Reading) (r : Reading) (op : Op) → r.label ≡ None → r.op ≡ Some op → 0 < block_count rs
    → block_names (rs ++ r ∷ []) ≡ block_names rs
unfolding block_names block_count
names-op rs r op h g some = grind (arith, append-nil, is_some, labels-snoc, nat_tests, opens-op)

pub names-first : (rs : List Reading) (r : Reading) (op : Op) → r.label ≡ None → r.op ≡ Some op → block_count rs ≡ 0
    → block_names (rs ++ r ∷ []) ≡ None ∷ []
unfolding block_names block_count
names-first rs r op h g none =
    rw (opens-op rs r (ap is_some h) (ap is_some g), labels-snoc rs r, h, append-nil (labels rs))
    (by (opens_unnamed rs) (labels rs) none)
  where
    by : (b : Bool) (ls : List (List ℕ)) → cond b 1 0 + length ls ≡ 0
        → cond (b || (length ls == 0)) (None ∷ []) [] ++ map (λ name. Some name) ls ≡ None ∷ []
    by true ls none = absurd (omega arith)
    by false [] none = refl
    by false (l ∷ ls) none = absurd (omega arith)

pub count-label : (rs : List Reading) (r : Reading) (name : List ℕ) → r.label ≡ Some name
    → block_count (rs ++ r ∷ []) ≡ block_count rs + 1
count-label rs r name h = sym (length-names (rs ++ r ∷ [])) ∙ ap length (names-label rs r name h)
    ∙ length-append (block_names rs) (Some name ∷ []) ∙ ap (λ n. n + 1) (length-names rs)

pub count-empty : (rs : List Reading) (r : Reading) → r.label ≡ None → r.op ≡ None
    → block_count (rs ++ r ∷ []) ≡ block_count rs
count-empty rs r h g = sym (length-names (rs ++ r ∷ [])) ∙ ap length (names-empty rs r h g) ∙ length-names rs

pub count-op : (rs : List Reading) (r : Reading) (op : Op) → r.label ≡ None → r.op ≡ Some op → 0 < block_count rs
    → block_count (rs ++ r ∷ []) ≡ block_count rs
count-op rs r op h g some = sym (length-names (rs ++ r ∷ [])) ∙ ap length (names-op rs r op h g some) ∙ length-names rs

pub count-first : (rs : List Reading) (r : Reading) (op : Op) → r.label ≡ None → r.op ≡ Some op → block_count rs ≡ 0
    → block_count (rs ++ r ∷ []) ≡ 1
count-first rs r op h g none = sym (length-names (rs ++ r ∷ [])) ∙ ap length (names-first rs r op h g none)

pub none_or_some : (n : ℕ) → (n ≡ 0) ⊎ (0 < n)
none_or_some zero = inl refl
none_or_some (suc n) = inr (omega arith)

pub count-snoc : (rs : List Reading) (r : Reading) (label : Option (List ℕ)) (op : Option Op) → r.label ≡ label
    → r.op ≡ op
    → (block_count rs ≤ block_count (rs ++ r ∷ [])) × (is_some op ≡ true → 0 < block_count (rs ++ r ∷ []))
count-snoc rs r label op h g = grind (arith, count-empty, count-first, count-label, count-op, none_or_some)
