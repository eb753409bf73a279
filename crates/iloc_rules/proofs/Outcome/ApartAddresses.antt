-- Operations whose addresses are apart never meet; for `laws::apart_schedules_keep_the_outcome`.
use Rattle.iloc_rules.proofs.Common.{◌≡◌, ℕ, false, not, List, ℤ, pos, negsuc, ◌+ℤ◌, ◌==◌, Some, None, Option, int_eq, sym, refl, ap, ◌∙◌, arith, w32, eqb-true, none-some, Op, Load, LoadAI, Output, Store, StoreAI, Reg, by_bool, constant, wrapped, before, op_at, register_after, address_at, address_of, apart_if_both, are_apart, known_before, unless_apart, IsSound, touched}
use Rattle.std.proofs.Math.IntN.{neg_ℤ}
use Rattle.std.proofs.lemmas.Bool.Decides.{Decides-int_eq}
use Rattle.std.proofs.lemmas.Int.{ints, int_wrap-add_same}
use Rattle.iloc_meaning.specs.Address.{good_address}
use Rattle.iloc_rules.specs.declared.word.Word.{Word}
use Rattle.iloc_rules.specs.declared.word.Word.TheVariants.{Known, Based}
use Rattle.iloc_rules.proofs.Outcome.KnownWords.{Means, plus_means, results, known_means}

good_is : (z : ℤ) (a : ℕ) → good_address z ≡ Some a → z ≡ pos a
good_is (pos n) a is = grind arith
good_is (negsuc n) a is = absurd (none-some a is)

-- what is known of an address that is touched
abbrev MeansIfAny : (ℕ → ℤ) → ℤ → Option Word → Type 0
MeansIfAny given value None = ⊥
MeansIfAny given value (Some w) = Means given value w

address_means : (given : ℕ → ℤ) (op : Op) (reg : Reg → ℤ) (known : Reg → Word) (a : ℕ)
    → ((r : Reg) → Means given (reg r) (known r)) → touched op reg ≡ Some a
    → MeansIfAny given (pos a) (address_of op known)
address_means given (Load addr dest) reg known a so is = rw (← good_is (reg addr) a is) (so addr)
address_means given (LoadAI addr offset dest) reg known a so is =
    rw (← good_is (wrapped (reg addr +ℤ constant offset)) a is)
    (plus_means given 0 (reg addr) (constant offset) (known addr) (so addr))
address_means given (Store value addr) reg known a so is = rw (← good_is (reg addr) a is) (so addr)
address_means given (StoreAI value addr offset) reg known a so is =
    rw (← good_is (wrapped (reg addr +ℤ constant offset)) a is)
    (plus_means given 0 (reg addr) (constant offset) (known addr) (so addr))
address_means given (Output addr) reg known a so is = sym (good_is (constant addr) a is)
address_means given _ reg known a so is = absurd (none-some a is)

-- what is more than one base by two constants and is one word is more by one constant
cancelled : (base c d : ℤ) → wrapped (base +ℤ c) ≡ wrapped (base +ℤ d) → wrapped c ≡ wrapped d
cancelled base c d same =
    ap wrapped (omega (arith, ints)) ∙ int_wrap-add_same w32 (base +ℤ c) (base +ℤ d) (neg_ℤ base) same
    ∙ ap wrapped (omega (arith, ints))

no_difference : (x y : ℤ) → x ≡ y → not (int_eq x y) ≡ false
no_difference x y same = grind (arith, Decides-int_eq)

-- one value isn't apart from itself
together : (given : ℕ → ℤ) (value : ℤ) (v w : Word) → Means given value v → Means given value w
    → are_apart v w ≡ false
together given value (Known c) (Known d) first second =
    no_difference (wrapped c) (wrapped d) (ap wrapped (sym first ∙ second))
together given value (Known c) (Based b d) first second = refl
together given value (Based a c) (Known d) first second = refl
together given value (Based a c) (Based b d) first second = by_bool (a == b)
    (λ t. rw t (no_difference (wrapped c) (wrapped d)
    (cancelled (given b) c d (ap (λ k. wrapped (given k +ℤ c)) (sym (eqb-true a b t)) ∙ sym first ∙ second))))
    (λ t. rw t refl)

together_if_any : (given : ℕ → ℤ) (value : ℤ) (v w : Option Word) → MeansIfAny given value v
    → MeansIfAny given value w → apart_if_both v w ≡ false
together_if_any given value None w first second = absurd first
together_if_any given value (Some v) None first second = absurd second
together_if_any given value (Some v) (Some w) first second = together given value v w first second

pub unless_apart_is_sound : (ops : List Op) → IsSound (unless_apart ops) ops
unless_apart_is_sound ops memory = record {
  meet = λ i j a order within both.
      ap not (together_if_any (results memory ops) (pos a) (address_at ops i) (address_at ops j)
      (address_means (results memory ops) (op_at ops i) (register_after (before memory ops i)) (known_before ops i) a
      (known_means memory ops i) both.first)
      (address_means (results memory ops) (op_at ops j) (register_after (before memory ops j)) (known_before ops j) a
      (known_means memory ops j) both.second));
}
