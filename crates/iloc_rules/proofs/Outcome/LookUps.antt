-- The last in order of due cycles and in program order are one, where the orders agree; for `TimedOutcomes`.
use Rattle.iloc_rules.proofs.Common.{◌≡◌, ℕ, ◌<◌, ◌≤◌, Bool, true, ◌⊎◌, List, [], ◌∷◌, map, Some, filter, Option, option_map, find, sym, refl, ap, ◌∙◌, inl, inr, true≢false, arith, le-ltb, lt-ltb, none-some, same_Some, by_bool, Executed, Issued, last_due, last_that, later, In}
use Rattle.iloc_rules.proofs.Basics.Members.{in_filter, from_filter, empty_from}
use Rattle.iloc_rules.proofs.Basics.Rising.{countdown, finds}

last_due_in : (es : List Issued) (f : Issued) → last_due es ≡ Some f → In es f
last_due_in [] f is = absurd (none-some f is)
last_due_in (e ∷ es) f is = grind (arith, same_Some, last_due_in es f)

later_stays : (e : Issued) (o : Option Issued) → ((f : Issued) → o ≡ Some f → f.due ≤ e.due) → later e o ≡ e
later_stays e o low = grind (arith, le-ltb)

-- one that is due after all others is the last
last_due_is : (es : List Issued) (e : Issued) → In es e → ((f : Issued) → In es f → (f ≡ e) ⊎ (f.due < e.due))
    → last_due es ≡ Some e
last_due_is [] e there best = absurd there
last_due_is (x ∷ es) e there best = elim (best x (inl refl)) [
  | inl same ↦
      let level : x.due ≡ e.due = ap (λ (i : Issued). i.due) same in
      ap Some (later_stays x (last_due es) (λ f is. elim (best f (inr (last_due_in es f is))) [
        | inl equal ↦ let due : f.due ≡ e.due = ap (λ (i : Issued). i.due) equal in omega arith
        | inr below ↦ omega arith
      ]) ∙ same)
  | inr low ↦ grind (arith, lt-ltb, last_due_is es e)
]

find-map : {X Y : Type 0} → (q : Y → Bool) (f : X → Y) (xs : List X)
    → find q (map f xs) ≡ option_map f (find (λ x. q (f x)) xs)
find-map q f [] = refl
find-map q f (x ∷ xs) = by_bool (q (f x)) (λ t. rw t refl) (λ t. rw t (find-map q f xs))

-- what operation k is in the log
abbrev pub entry : (ℕ → Executed) → (ℕ → ℕ) → ℕ → Issued
entry done due k = record { due = due k; executed = done k }

-- What passes in the log stands below n and all of it that stands below n is there; and it is due in program order.
pub look_up_same : (q : Executed → Bool) (done : ℕ → Executed) (due : ℕ → ℕ) (n : ℕ) (log : List Issued)
    → ((e : Issued) → In log e → q e.executed ≡ true → (k : ℕ) × (k < n) × (e ≡ entry done due k))
    → ((k : ℕ) → k < n → q (done k) ≡ true → In log (entry done due k))
    → ((j k : ℕ) → j < k → k < n → q (done j) ≡ true → q (done k) ≡ true → due j < due k)
    → last_that q log ≡ find q (map done (countdown n))
look_up_same q done due n log below within ordered = elim (finds (λ k. q (done k)) n) [
  | inl none ↦
      let empty : passing ≡ [] = empty_from passing (grind (arith, from_filter, true≢false)) in
      grind (arith, find-map)
  | inr some ↦
      let m = some.0 in
      let there : In passing (entry done due m) =
      in_filter (λ (f : Issued). q f.executed) log (entry done due m) (within m some.1.below some.1.passes)
      some.1.passes in
      let best : (f : Issued) → In passing f → (f ≡ entry done due m) ⊎ (f.due < due m) = grind (arith, from_filter, true≢false) in
      ap (option_map (λ (f : Issued). f.executed)) (last_due_is passing (entry done due m) there best)
      ∙ sym (find-map q done (countdown n) ∙ ap (option_map done) some.1.is)
]
  where
    passing : List Issued
    passing = filter (λ (f : Issued). q f.executed) log
