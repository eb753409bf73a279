-- The listing of a text, put together.
use Rattle.iloc_lint.proofs.Common.{◌≡◌, ℕ, Bool, List, [], ◌∷◌, ◌++◌, ◌==◌, flat_map, sym, ap, ◌∙◌, append_assoc, append-nil, arith, IsLinted, Refusal}
use Rattle.iloc_lint.specs.Refused.{AreKept, refusals_of}
use Rattle.iloc_lint.specs.declared.refused.Refusals.{Refusals}
use Rattle.iloc_lint.specs.Listing.{AreRefusalEntries, AreHints, ListsLint, hint_line, more_line, total_line}

-- hints, and one more
pub hint_added : (said : List (List ℕ)) (what start text new : List ℕ) → text ≡ start ++ flat_map hint_line said
    → new ≡ text ++ hint_line what → new ≡ start ++ flat_map hint_line (said ++ what ∷ [])
hint_added said what start text new so added =
    added ∙ ap (λ t. t ++ hint_line what) so ∙ append_assoc start (flat_map hint_line said) (hint_line what)
    ∙ ap (λ t. start ++ t) (sym (more said))
  where
    more : (said : List (List ℕ)) → flat_map hint_line (said ++ what ∷ []) ≡ flat_map hint_line said ++ hint_line what
    more [] = append-nil (hint_line what)
    more (x ∷ xs) = ap (λ t. hint_line x ++ t) (more xs)
        ∙ sym (append_assoc (hint_line x) (flat_map hint_line xs) (hint_line what))

pub all_listed : (input : List ℕ) (refusals : List Refusal) (kept : Refusals) (blocks ops : ℕ) (reads : Bool)
    (entries hints text : List ℕ) → IsLinted input refusals blocks ops → AreKept refusals kept
    → AreRefusalEntries (refusals_of kept.first.items) entries → AreHints (kept.count == 0) hints → reads ≡ (kept.count == 0)
    → text ≡ ((entries ++ more_line kept.count) ++ hints) ++ total_line blocks ops kept.count → ListsLint input reads text
all_listed input refusals kept blocks ops reads entries hints text linted are said given finds whole = grind arith
