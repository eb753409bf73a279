-- Proofs by the cases of two numbers or of an option; for the other proofs.
use Rattle.iloc_sched.proofs.Common.{◌≡◌, ℕ, ◌<◌, ◌≤◌, ◌≢◌, Some, None, Option, refl, inl, inr, cases_eq, cases_lt}

pub by_eq : {P : Type 0} → (a b : ℕ) → (a ≡ b → P) → (a ≢ b → P) → P
by_eq a b same apart = elim (cases_eq a b) [ inl e ↦ same e | inr e ↦ apart e ]

pub by_lt : {P : Type 0} → (a b : ℕ) → (a < b → P) → (b ≤ a → P) → P
by_lt a b below above = elim (cases_lt a b) [ inl l ↦ below l | inr l ↦ above l ]

pub by_option : {X P : Type 0} → (o : Option X) → (o ≡ None → P) → ((x : X) → o ≡ Some x → P) → P
by_option {X} {P} o none some =
    elim o as (λ v. (v ≡ None → P) → ((x : X) → v ≡ Some x → P) → P) [
      | None ↦ λ f g. f refl
      | Some x ↦
          λ f g. g x refl
    ] none some

pub not_both : {X P : Type 0} → (o : Option X) (x : X) → o ≡ None → o ≡ Some x → P
not_both o x none some = cc

pub same_some : {X : Type 0} → (o : Option X) (x y : X) → o ≡ Some x → o ≡ Some y → x ≡ y
same_some o x y first second = cc

pub none_of : {X : Type 0} → (o : Option X) → ((x : X) → o ≡ Some x → ⊥) → o ≡ None
none_of o not = by_option o (λ none. none) (λ x some. absurd (not x some))
