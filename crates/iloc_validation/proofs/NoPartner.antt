-- Where an operation is no pair with any of the rows, no pairing keeps the colours.
use Rattle.iloc_validation.proofs.Common.{◌≡◌, ℕ, ◌+◌, ◌<◌, ◌≢◌, List, length, slice_index, Some, None, Option, sym, refl, ap, ◌∙◌, subst, inl, inr, arith, get_or-set_other, get_or-set_same, cases_eq, cases_lt, Op, ArePaired, AreColoured, AreKept, AreKeptByNone, HaveColours, IsNoPair, IsPairColoured, marked, IsDecisionAmong, IsDecisionOf, Coloured, Sides}
use Rattle.iloc_validation.specs.declared.decision.Decision.{Decision}
use Rattle.iloc_validation.specs.declared.decision.Decision.TheVariants.{Lawful, Unlawful, Undecided}

module _ (block ops : List Op) (origin partner : ℕ → ℕ) (paired : ArePaired block ops origin partner) (here there : List ℕ)
    (size : length here ≡ length block) (size_too : length there ≡ length ops) (i : ℕ) (within : i < length block)
    (kept : HaveColours (length ops) origin here there) where
  -- a pairing that keeps colours keeps another one of an operation and its partner
  marked_kept : HaveColours (length ops) origin (marked here i) (marked there (partner i))
  marked_kept k inside = elim (cases_eq k (partner i)) [
    | inl same ↦
        let back : origin k ≡ i = ap origin same ∙ paired.back_too i within in
        let known : partner i < length there = rw size_too (paired.there_too i within) in
        let ours : slice_index (marked here i) (origin k) ≡ 9223372036854775808 =
        rw back (get_or-set_same here i 9223372036854775808 0 (rw size within)) in
        let theirs : slice_index (marked there (partner i)) k ≡ 9223372036854775808 =
        rw same (get_or-set_same there (partner i) 9223372036854775808 0 known) in
        theirs ∙ sym ours
    | inr apart ↦
        get_or-set_other there (partner i) k 9223372036854775808 0 apart
        ∙ kept k inside
        ∙ sym (get_or-set_other here i (origin k) 9223372036854775808 0
        (λ is. apart (sym (paired.back k inside) ∙ ap partner is)))
  ]

pub no_partner : (sides : Sides) (here there : List ℕ) → length here ≡ length sides.block.items
    → length there ≡ length sides.schedule.now.ops → (i : ℕ) → i < length sides.block.items
    → ((k : ℕ) → k < length there → IsNoPair sides here there i k) → AreKeptByNone sides here there
no_partner sides here there size size_too i within each = λ origin partner under kept.
    let inside : partner i < length sides.schedule.now.ops = under.paired.there_too i within in
    each (partner i) (rw size_too inside)
    (kept (partner i) inside ∙ ap (slice_index here) (under.paired.back_too i within))
    origin partner under
    (marked_kept sides.block.items sides.schedule.now.ops origin partner under.paired here there size size_too i within
    kept)

module _ (sides : Sides) (here there : List ℕ) where
  pub pair_coloured : (i k : ℕ) (found : Option Coloured)
      → AreColoured sides (marked here i) (marked there k) found → IsPairColoured sides here there i k found
  pair_coloured i k None are = λ same. are
  pair_coloured i k (Some new) are = are

  pub one_more_no_pair : (i k : ℕ) → ((j : ℕ) → j < k → IsNoPair sides here there i j)
      → IsNoPair sides here there i k → (j : ℕ) → j < k + 1 → IsNoPair sides here there i j
  one_more_no_pair i k so_far this j within = elim (cases_lt j k) [
    | inl before ↦ so_far j before
    | inr last ↦
        let same : k ≡ j = omega arith in
        subst (IsNoPair sides here there i) same this
  ]

  -- where no pairing keeps the new colours, two operations are no pair
  pub no_pair : (i k : ℕ) (new : Coloured) → IsPairColoured sides here there i k (Some new)
      → AreKeptByNone sides new.here.items new.there.items → IsNoPair sides here there i k
  no_pair i k new are none = λ same origin partner under kept.
      none origin partner under (are.kept origin partner under kept)

  -- where all pairings keep the colours, what is decided of those that do is decided of all
  pub among_all : AreKept sides here there → (decision : Decision) → decision ≢ Undecided
      → IsDecisionAmong sides here there decision → IsDecisionOf sides decision
  among_all kept (Lawful pairing) known is = is
  among_all kept Unlawful known is = λ origin partner under. is origin partner under (kept origin partner under)
  among_all kept Undecided known is = absurd (known refl)
