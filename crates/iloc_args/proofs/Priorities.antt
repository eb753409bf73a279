-- The names of heuristics: `priority_in`.
use Rattle.iloc_args.proofs.Common.{◌≡◌, Bool, true, false, cond, List, [], ◌∷◌, IfSome, Some, None, Option, MatchOption, find, bytes_eq, sym, refl, ◌∙◌, subst, bytes_eq-Decides, Text}
use Rattle.std.proofs.lemmas.Option.{none-some}
use Rattle.iloc_rules.specs.declared.heuristic.Heuristic.{Heuristic}
use Rattle.iloc_rules.specs.declared.heuristic.Heuristic.TheVariants.{Chain}
use Rattle.iloc_rules.specs.Heuristics.Listed.{heuristics}
use Rattle.iloc_args.specs.Priority.{IsNoPriority, priority_word}

-- what is found passes
found_passes : (p : Heuristic → Bool) (those : List Heuristic) → IfSome (find p those) (λ h. p h ≡ true)
found_passes p [] = tt
found_passes p (h ∷ those) = go (p h) refl (found_passes p those)
  where
    go : (b : Bool) → p h ≡ b → IfSome (find p those) (λ x. p x ≡ true)
        → IfSome (cond b (Some h) (find p those)) (λ x. p x ≡ true)
    go true is rest = is
    go false is rest = rest

abbrev found_by : Text → Option Heuristic
found_by name = find (λ (h : Heuristic). bytes_eq (priority_word h) name) heuristics

-- each heuristic is found by its own word
found_itself : (h : Heuristic) → found_by (priority_word h) ≡ Some h
found_itself Chain = refl
found_itself _ = refl

-- what is found by a name is the heuristic of that name, or there is none
pub named : (name : Text) (o : Option Heuristic) → o ≡ found_by name
    → MatchOption o (IsNoPriority name) (λ h. priority_word h ≡ name)
named name None is = λ h same.
    none-some h (is ∙ subst (λ (t : Text). found_by t ≡ Some h) same (found_itself h))
named name (Some h) is =
    let passes = subst (λ (o : Option Heuristic). IfSome o (λ x. bytes_eq (priority_word x) name ≡ true)) (sym is)
    (found_passes (λ (x : Heuristic). bytes_eq (priority_word x) name) heuristics) in
    (bytes_eq-Decides (priority_word h) name).0 passes
