-- The stack of windows covers what is within the first ones.
use Rattle.iloc_optimum.proofs.Common.{◌≡◌, ℕ, ◌+◌, ◌<◌, ◌≤◌, Bool, true, false, not, ◌⊎◌, List, [], ◌∷◌, ◌++◌, length, get_or, set, IsTrue, refl, inl, inr, arith, cases_lt, Kind, Edge, EachSized, InOne, IsCovered, AreSized, IsTiming, Within, Windows}
use Rattle.iloc_optimum.proofs.NarrowerWindows.{raised, lowered}

abbrev pub Keeps : Windows → (ℕ → ℕ) → Type 0
Keeps w t = Within w.firsts.items w.lasts.items t

-- issued by the first cycle, or after it
pub split_keeps : (F L : List ℕ) (t : ℕ → ℕ) (i at next : ℕ) → i < length F → i < length L → at ≡ get_or F i 0 → next ≤ at + 1
    → Within F L t → Within F (set L i at) t ⊎ Within (set F i next) L t
split_keeps F L t i at next firsts lasts is most w = grind (arith, cases_lt, raised, lowered)

one_of_front : (ws : List Windows) (w : Windows) (t : ℕ → ℕ) → InOne (ws ++ w ∷ []) t → InOne ws t ⊎ Keeps w t
one_of_front [] w t (inl here) = inr here
one_of_front [] w t (inr there) = absurd there
one_of_front (v ∷ ws) w t (inl here) = inl (inl here)
one_of_front (v ∷ ws) w t (inr there) = elim (one_of_front ws w t there) [ inl a ↦ inl (inr a) | inr b ↦ inr b ]

in_front : (ws : List Windows) (w : Windows) (t : ℕ → ℕ) → InOne ws t → InOne (ws ++ w ∷ []) t
in_front [] w t there = absurd there
in_front (v ∷ ws) w t (inl here) = inl here
in_front (v ∷ ws) w t (inr there) = inr (in_front ws w t there)

in_last : (ws : List Windows) (w : Windows) (t : ℕ → ℕ) → Keeps w t → InOne (ws ++ w ∷ []) t
in_last [] w t here = inl here
in_last (v ∷ ws) w t here = inr (in_last ws w t here)

sized_front : (kinds : List Kind) (ws : List Windows) (w : Windows) → EachSized kinds (ws ++ w ∷ []) → EachSized kinds ws
sized_front kinds [] w all = tt
sized_front kinds (v ∷ ws) w all = (all.0, sized_front kinds ws w all.1)

pub sized_last : (kinds : List Kind) (ws : List Windows) (w : Windows) → EachSized kinds (ws ++ w ∷ []) → AreSized kinds w
sized_last kinds [] w all = all.0
sized_last kinds (v ∷ ws) w all = sized_last kinds ws w all.1

sized_more : (kinds : List Kind) (ws : List Windows) (w : Windows) → EachSized kinds ws → AreSized kinds w
    → EachSized kinds (ws ++ w ∷ [])
sized_more kinds [] w all one = (one, tt)
sized_more kinds (v ∷ ws) w all one = (all.0, sized_more kinds ws w all.1 one)

-- the last windows are let go where no schedule is within them
pub covered_without : (edges : List Edge) (kinds : List Kind) (root : Windows) (ws : List Windows) (w : Windows)
    → ((t : ℕ → ℕ) → IsTiming edges kinds t → Keeps w t → ⊥) → IsCovered edges kinds root (ws ++ w ∷ [])
    → IsCovered edges kinds root ws
covered_without edges kinds root ws w none covered = grind (arith, sized_front, one_of_front)

-- and two take their place where every schedule within them is within one of the two
pub covered_by : (edges : List Edge) (kinds : List Kind) (root : Windows) (ws : List Windows) (w late early : Windows)
    → ((t : ℕ → ℕ) → IsTiming edges kinds t → Keeps w t → Keeps early t ⊎ Keeps late t)
    → AreSized kinds late → AreSized kinds early → IsCovered edges kinds root (ws ++ w ∷ [])
    → IsCovered edges kinds root ((ws ++ late ∷ []) ++ early ∷ [])
covered_by edges kinds root ws w late early two late_sized early_sized covered =
    grind (arith, sized_more, sized_front, one_of_front, in_front, in_last)

pub not_false : (b : Bool) → IsTrue b → b ≡ false → ⊥
not_false true h e = cc
not_false false h e = cc

pub none_true : (b : Bool) → (IsTrue b → ⊥) → IsTrue (not b)
none_true true h = absurd (h refl)
none_true false h = refl
