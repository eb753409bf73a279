-- What stands in lists.
use Rattle.iloc_board.proofs.Common.{◌≡◌, ℕ, zero, suc, ◌<◌, false, ◌≢◌, ◌⊎◌, List, [], ◌∷◌, ◌++◌, length, ◌==◌, slice_get, slice_set, Some, Contains, sym, refl, ap, ◌∙◌, inl, inr, arith, ne_eqb, or_from, map-append, list_any-append, list_any, NoneTwice, jobs_of}

module _ {B : Type 0} where
  pub contains_none : (b : B) → Contains [] b → ⊥
  contains_none b h = absurd (omega (arith, h.1))

  pub contains_here : (x : B) (xs : List B) (b : B) → x ≡ b → Contains (x ∷ xs) b
  contains_here x xs b e = (0, omega arith, e)

  pub contains_later : (x : B) (xs : List B) (b : B) → Contains xs b → Contains (x ∷ xs) b
  contains_later x xs b h = (suc h.0, let lt : h.0 < length xs = h.1 in omega arith, h.2)

  pub contains_cases : (x : B) (xs : List B) (b : B) → Contains (x ∷ xs) b → (x ≡ b) ⊎ Contains xs b
  contains_cases x xs b h = grind arith

  pub contains_one : (x b : B) → Contains (x ∷ []) b → x ≡ b
  contains_one x b h = elim (contains_cases x [] b h) [ inl e ↦ e | inr r ↦ absurd (contains_none b r) ]

  pub get_set_same : (l : List B) (i : ℕ) (b : B) → i < length l → slice_get (slice_set l i b) i ≡ Some b
  get_set_same [] i b h = absurd (omega arith)
  get_set_same (x ∷ xs) zero b h = refl
  get_set_same (x ∷ xs) (suc i) b h = get_set_same xs i b (omega arith)

  pub get_set_other : (l : List B) (i j : ℕ) (b : B) → j ≢ i → slice_get (slice_set l i b) j ≡ slice_get l j
  get_set_other (x ∷ xs) zero zero b h = absurd (h refl)
  get_set_other (x ∷ xs) (suc i) (suc j) b h = get_set_other xs i j b (λ e. h (ap suc e))
  get_set_other l i j b h = refl

-- no pair of the job k is there
no_job : (ps : List (ℕ × ℕ)) (k : ℕ) → ((cost : ℕ) → Contains ps (k, cost) → ⊥) → list_any (λ y. k == y) (jobs_of ps)
    ≡ false
no_job [] k h = refl
no_job (p ∷ ps) k h =
    or_from (k == p.0) _ (ne_eqb k p.0 (λ e. h p.1 (contains_here p ps (k, p.1) (λ i. (sym e i, p.1)))))
    (no_job ps k (λ cost r. h cost (contains_later p ps (k, cost) r)))

-- where no job stands in both lists, none stands twice in the two together
pub none_twice-append : (ps qs : List (ℕ × ℕ)) → NoneTwice (jobs_of ps) → NoneTwice (jobs_of qs)
    → ((k a b : ℕ) → Contains ps (k, a) → Contains qs (k, b) → ⊥) → NoneTwice (jobs_of (ps ++ qs))
none_twice-append [] qs h i apart = i
none_twice-append (p ∷ ps) qs h i apart =
    let jobs : jobs_of (ps ++ qs) ≡ jobs_of ps ++ jobs_of qs = map-append (λ (z : ℕ × ℕ). z.0) ps qs in (
      ap (λ t. list_any (λ y. p.0 == y) t) jobs ∙ (list_any-append (λ y. p.0 == y) (jobs_of ps) (jobs_of qs)
          ∙ or_from (list_any (λ y. p.0 == y) (jobs_of ps)) _ h.0
          (no_job qs p.0 (λ b r. apart p.0 p.1 b (contains_here p ps p refl) r))),
      none_twice-append ps qs h.1 i (λ k a b x y. apart k a b (contains_later p ps (k, a) x) y),
    )
