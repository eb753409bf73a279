-- What is known of a register is so in every run in order; for `ApartAddresses`.
use Rattle.iloc_rules.proofs.Common.{◌≡◌, ℕ, zero, suc, List, ℤ, ◌+ℤ◌, ◌-ℤ◌, ◌*ℤ◌, ◌==◌, sym, refl, ap, ◌∙◌, arith, w32, eqb-true, defined, Op, Add, AddI, LoadI, Lshift, LshiftI, Mult, MultI, Rshift, RshiftI, Sub, SubI, Reg, by_bool, constant, shifted_left, shifted_right, wrapped, effect, before, is_register, op_at, register_after, result_of, word_after, difference, folded, known_before, own, plus, result_word, sum}
use Rattle.std.proofs.Math.IntN.{neg_ℤ, +ℤ_comm, +ℤ_assoc, +ℤ_idr}
use Rattle.std.proofs.lemmas.Int.{ints, SFits-int_wrap, int_wrap_fits, int_wrap-add_same, int_wrap-add_right, int_wrap-sub_right}
use Rattle.iloc_rules.specs.declared.word.Word.{Word}
use Rattle.iloc_rules.specs.declared.word.Word.TheVariants.{Known, Based}

-- a value is what is known of it, by the results of the operations
abbrev pub Means : (ℕ → ℤ) → ℤ → Word → Type 0
Means results value (Known c) = value ≡ c
Means results value (Based b c) = wrapped value ≡ wrapped (results b +ℤ c)

again : (z : ℤ) → wrapped (wrapped z) ≡ wrapped z
again z = int_wrap_fits w32 (wrapped z) (SFits-int_wrap w32 z)

-- what is more than a base by c, and d more
more : (base c value d : ℤ) → wrapped value ≡ wrapped (base +ℤ c)
    → wrapped (wrapped (value +ℤ d)) ≡ wrapped (base +ℤ wrapped (c +ℤ d))
more base c value d is =
    again (value +ℤ d) ∙ int_wrap-add_same w32 value (base +ℤ c) d is ∙ ap wrapped (+ℤ_assoc base c d)
    ∙ sym (int_wrap-add_right w32 base (c +ℤ d))

-- two that are more than one base differ by a constant
apart_by : (base c d left right : ℤ) → wrapped left ≡ wrapped (base +ℤ c) → wrapped right ≡ wrapped (base +ℤ d)
    → wrapped (left -ℤ right) ≡ wrapped (c -ℤ d)
apart_by base c d left right first second =
    int_wrap-add_same w32 left (base +ℤ c) (neg_ℤ right) first
    ∙ sym (int_wrap-sub_right w32 (base +ℤ c) right)
    ∙ ap (λ z. wrapped ((base +ℤ c) -ℤ z)) second
    ∙ int_wrap-sub_right w32 (base +ℤ c) (base +ℤ d)
    ∙ ap wrapped (omega (arith, ints))

module _ (results : ℕ → ℤ) (i : ℕ) where
  own_means : (value : ℤ) → results i ≡ value → Means results value (own i)
  own_means value is = ap wrapped (sym is ∙ sym (+ℤ_idr (results i)))

  pub plus_means : (value d : ℤ) (v : Word) → Means results value v → Means results (wrapped (value +ℤ d)) (plus v d)
  plus_means value d (Known c) is = ap (λ z. wrapped (z +ℤ d)) is
  plus_means value d (Based b c) is = more (results b) c value d is

  sum_means : (left right : ℤ) (v w : Word) → Means results left v → Means results right w
      → results i ≡ wrapped (left +ℤ right) → Means results (wrapped (left +ℤ right)) (sum i v w)
  sum_means left right v (Known d) first second is =
      rw second (plus_means left d v first)
  sum_means left right (Known c) (Based b d) first second is =
      rw (first, +ℤ_comm c right) (more (results b) d right c second)
  sum_means left right (Based a c) (Based b d) first second is = own_means (wrapped (left +ℤ right)) is

  difference_means : (left right : ℤ) (v w : Word) → Means results left v → Means results right w
      → results i ≡ wrapped (left -ℤ right) → Means results (wrapped (left -ℤ right)) (difference i v w)
  difference_means left right (Known c) (Known d) first second is = rw (first, second) refl
  difference_means left right (Based b c) (Known d) first second is =
      rw second (more (results b) c left (neg_ℤ d) first)
  difference_means left right (Known c) (Based b d) first second is = own_means (wrapped (left -ℤ right)) is
  difference_means left right (Based a c) (Based b d) first second is = by_bool (a == b)
      (λ t. rw t (apart_by (results a) c d left right first (rw (eqb-true a b t) second)))
      (λ t. rw t (own_means (wrapped (left -ℤ right)) is))

  folded_means : (f : ℤ → ℤ → ℤ) (left right : ℤ) (v w : Word) → Means results left v → Means results right w
      → results i ≡ f left right → Means results (f left right) (folded f i v w)
  folded_means f left right (Known c) (Known d) first second is = rw (first, second) refl
  folded_means f left right (Known c) (Based b d) first second is = own_means (f left right) is
  folded_means f left right (Based a c) w first second is = own_means (f left right) is

  -- the result of operation i
  result_means : (op : Op) (reg : Reg → ℤ) (word : ℕ → ℤ) (known : Reg → Word)
      → ((r : Reg) → Means results (reg r) (known r)) → results i ≡ result_of (effect op reg word)
      → Means results (result_of (effect op reg word)) (result_word i op known)
  result_means (LoadI value dest) reg word known so is = refl
  result_means (Add left right dest) reg word known so is =
      sum_means (reg left) (reg right) (known left) (known right) (so left) (so right) is
  result_means (Sub left right dest) reg word known so is =
      difference_means (reg left) (reg right) (known left) (known right) (so left) (so right) is
  result_means (Mult left right dest) reg word known so is =
      folded_means (λ c d. wrapped (c *ℤ d)) (reg left) (reg right) (known left) (known right) (so left) (so right) is
  result_means (Lshift left right dest) reg word known so is =
      folded_means shifted_left (reg left) (reg right) (known left) (known right) (so left) (so right) is
  result_means (Rshift left right dest) reg word known so is =
      folded_means shifted_right (reg left) (reg right) (known left) (known right) (so left) (so right) is
  result_means (AddI left value dest) reg word known so is =
      sum_means (reg left) (constant value) (known left) (Known (constant value)) (so left) refl is
  result_means (SubI left value dest) reg word known so is =
      difference_means (reg left) (constant value) (known left) (Known (constant value)) (so left) refl is
  result_means (MultI left value dest) reg word known so is =
      folded_means (λ c d. wrapped (c *ℤ d)) (reg left) (constant value) (known left) (Known (constant value)) (so left)
      refl is
  result_means (LshiftI left value dest) reg word known so is =
      folded_means shifted_left (reg left) (constant value) (known left) (Known (constant value)) (so left) refl is
  result_means (RshiftI left value dest) reg word known so is =
      folded_means shifted_right (reg left) (constant value) (known left) (Known (constant value)) (so left) refl is
  result_means op reg word known so is = own_means (result_of (effect op reg word)) is

-- the results of the operations, executed in order
abbrev pub results : List ℤ → List Op → ℕ → ℤ
results memory ops i =
    result_of (effect (op_at ops i) (register_after (before memory ops i)) (word_after memory (before memory ops i)))

pub known_means : (memory : List ℤ) (ops : List Op) (i : ℕ) (r : Reg)
    → Means (results memory ops) (register_after (before memory ops i) r) (known_before ops i r)
known_means memory ops zero r = refl
known_means memory ops (suc i) r = by_bool (is_register r (defined (op_at ops i)))
    (λ here. rw here (result_means (results memory ops) i (op_at ops i) (register_after (before memory ops i))
    (word_after memory (before memory ops i)) (known_before ops i) (known_means memory ops i) refl))
    (λ other. rw other (known_means memory ops i r))
