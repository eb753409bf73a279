-- The entries of refusals, one after another.
use Rattle.iloc_lint.proofs.Common.{◌≡◌, ℕ, ◌+◌, ◌<◌, List, [], ◌∷◌, ◌++◌, length, get_or, take, sym, refl, ap, ◌∙◌, subst, append_assoc, append-nil, arith, map-append, take_more, Refusal}
use Rattle.iloc_lint.specs.Refused.{refusal_of, refusals_of}
use Rattle.iloc_lint.specs.declared.refused.Refused.{Refused}
use Rattle.iloc_lint.specs.Listing.{IsEntry, AreRefusalEntries}

one_more : (refusals : List Refusal) (r : Refusal) (text entry : List ℕ) → AreRefusalEntries refusals text
    → IsEntry r.line r.fault entry → AreRefusalEntries (refusals ++ r ∷ []) (text ++ entry)
one_more [] r text entry are is = (entry, [], is, refl, ap (λ t. t ++ entry) are ∙ sym (append-nil entry))
one_more (x ∷ xs) r text entry are is = grind (arith, append_assoc, one_more xs r are.1 entry are.3 is)

-- the text so far has the entries of the first refusals
abbrev pub Has : List Refused → ℕ → List ℕ → List ℕ → Type 0
Has faults n start text = (entries : List ℕ) × AreRefusalEntries (refusals_of (take n faults)) entries × (text ≡ start ++ entries)

pub entry_added : (faults : List Refused) (n : ℕ) (d : Refused) (start text new entry : List ℕ) → n < length faults
    → Has faults n start text → IsEntry (get_or faults n d).line.now (get_or faults n d).fault entry
    → new ≡ text ++ entry → Has faults (n + 1) start new
entry_added faults n d start text new entry within has is added =
    let whole : refusals_of (take (n + 1) faults) ≡ refusals_of (take n faults) ++ refusal_of (get_or faults n d) ∷ [] =
    ap refusals_of (take_more faults n d within)
    ∙ map-append refusal_of (take n faults) (get_or faults n d ∷ []) in (
      has.0 ++ entry,
      subst (λ rs. AreRefusalEntries rs (has.0 ++ entry)) (sym whole)
          (one_more (refusals_of (take n faults)) (refusal_of (get_or faults n d)) has.0 entry has.1 is),
      added ∙ ap (λ t. t ++ entry) has.2 ∙ append_assoc start has.0 entry,
    )
