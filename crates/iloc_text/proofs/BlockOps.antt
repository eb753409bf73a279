-- What one more line does to the operations of each block.
use Rattle.std.proofs.Common.{◌≡◌, ◌≢◌, ◌∙◌, ℕ, ◌<◌, Bool, true, false, cond, ◌==◌, List, [], ◌∷◌, ◌++◌, filter_map, refl, sym, ap, subst, Option, None, is_some, option_to_list, append_assoc, append-nil, eq-eqb, ne_eqb, arith}
use Rattle.std.proofs.lemmas.List.Elements.{filter_map-append}
use Rattle.iloc_text.specs.Files.{Reading, block_count, ops_of}
use Rattle.iloc_text.proofs.Counts.{fronts-snoc, last_op-snoc, count-snoc}

pub one_or_none : {A : Type 0} (b : Bool) (o p : Option A) → o ≡ p
    → option_to_list (cond b o None) ≡ cond b (option_to_list p) []
one_or_none true o p h = ap option_to_list h
one_or_none false o p h = refl

pub filter_map-one : {A B : Type 0} (f : A → Option B) (x : A) → filter_map f (x ∷ []) ≡ option_to_list (f x)
filter_map-one f x = grind (arith, filter_map, option_to_list)

pub ops_of-snoc : (k : ℕ) (rs : List Reading) (r : Reading)
    → ops_of k (rs ++ r ∷ []) ≡ ops_of k rs ++ cond (block_count (rs ++ r ∷ []) == k) (option_to_list r.op) []
unfolding ops_of
ops_of-snoc k rs r = grind (arith, filter_map, filter_map-append, filter_map-one, fronts-snoc, last_op-snoc, one_or_none)

pub ops_of-here : (k : ℕ) (rs : List Reading) (r : Reading) → block_count (rs ++ r ∷ []) ≡ k
    → ops_of k (rs ++ r ∷ []) ≡ ops_of k rs ++ option_to_list r.op
ops_of-here k rs r h = let same : (block_count (rs ++ r ∷ []) == k) ≡ true = eq-eqb _ _ h in
    ops_of-snoc k rs r ∙ ap (λ b. ops_of k rs ++ cond b (option_to_list r.op) []) same

pub ops_of-else : (k : ℕ) (rs : List Reading) (r : Reading) → block_count (rs ++ r ∷ []) ≢ k
    → ops_of k (rs ++ r ∷ []) ≡ ops_of k rs
ops_of-else k rs r h = let other : (block_count (rs ++ r ∷ []) == k) ≡ false = ne_eqb _ _ h in
    ops_of-snoc k rs r ∙ ap (λ b. ops_of k rs ++ cond b (option_to_list r.op) []) other ∙ append-nil (ops_of k rs)

pub ops_of-no_op : (k : ℕ) (rs : List Reading) (r : Reading) → r.op ≡ None → ops_of k (rs ++ r ∷ []) ≡ ops_of k rs
ops_of-no_op k rs r h = grind (arith, append-nil, ops_of-snoc, option_to_list)

-- from line to line
pub over_lines : (P : List Reading → Type 0) → ((rs : List Reading) (r : Reading) → P rs → P (rs ++ r ∷ []))
    → (front rest : List Reading) → P front → P (front ++ rest)
over_lines P step front [] p = subst P (sym (append-nil front)) p
over_lines P step front (r ∷ rest) p = subst P (append_assoc front (r ∷ []) rest)
    (over_lines P step (front ++ r ∷ []) rest (step front r p))

-- no operation belongs to a block before the first or behind the last
abbrev pub HasNoMore : List Reading → Type 0
HasNoMore rs = (ops_of 0 rs ≡ []) × ((k : ℕ) → block_count rs < k → ops_of k rs ≡ [])

pub no_more-step : (rs : List Reading) (r : Reading) → HasNoMore rs → HasNoMore (rs ++ r ∷ [])
no_more-step rs r h = grind (arith, count-snoc, is_some, ops_of-else, ops_of-no_op)

pub no_more-none : HasNoMore []
unfolding ops_of
no_more-none = (refl, λ k lt. refl)

pub no_more : (rs : List Reading) → HasNoMore rs
no_more rs = over_lines HasNoMore no_more-step [] rs no_more-none
