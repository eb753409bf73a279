-- The words of a memory after a look and after a write.
use Rattle.std.proofs.Common.{◌≡◌, ◌≢◌, ℕ, ◌*◌, ◌/◌, ◌<◌, List, length, set, get_or, ℤ, pos, true, arith, ap, sym, ◌∙◌, get_or-set_same, get_or-set_other, length-set, inl, inr}
use Rattle.std.proofs.lemmas.Bool.Decides.{nat_tests}
use Rattle.std.proofs.lemmas.Bool.{cases_eq}
use Rattle.std.proofs.lemmas.List.FromFn.{get_or-map-range_with_len, length-map-range_with_len, fill_by_all}
use Rattle.iloc_meaning.specs.Memory.{WORDS, word_at, with_words}
use Rattle.iloc_meaning.specs.Address.{is_good}

pub good_word : (k : ℕ) → k < WORDS → is_good (pos (4 * k)) ≡ true
good_word k within = grind (arith, nat_tests)

-- a good address is four times the number of its word
pub four_times : (a : ℕ) → is_good (pos a) ≡ true → 4 * (a / 4) ≡ a
four_times a good = grind (arith, nat_tests)

pub word_number : (a n : ℕ) → is_good (pos a) ≡ true → n ≡ WORDS → a / 4 < n
word_number a n good size = grind (arith, nat_tests)

pub word_at-with_words : (memory : List ℤ) (word : ℕ → ℤ) (a : ℕ) → length memory ≡ WORDS → is_good (pos a) ≡ true
    → word_at (with_words memory word) a ≡ word a
word_at-with_words memory word a size good = grind (arith, get_or-map-range_with_len, word_number, four_times)

-- a write at a good address changes the one word
pub set-with_words : (memory : List ℤ) (word next : ℕ → ℤ) (a : ℕ) (w : ℤ) → length memory ≡ WORDS
    → is_good (pos a) ≡ true → next a ≡ w → ((b : ℕ) → b ≢ a → next b ≡ word b) → set (with_words memory word) (a / 4) w
    ≡ with_words memory next
set-with_words memory word next a w size good at others =
    fill_by_all (λ k. next (4 * k)) (set (with_words memory word) (a / 4) w) (length memory) (pos 0) (length-set _ _ _
    ∙ same_size) (λ k below. elim (cases_eq k (a / 4)) [
      | inl here ↦
          let within : a / 4 < length (with_words memory word) = rw same_size (word_number a _ good size) in
          let look : get_or (set (with_words memory word) (a / 4) w) k (pos 0) ≡ w =
          rw here (get_or-set_same (with_words memory word) (a / 4) w (pos 0) within) in
          let address : 4 * k ≡ a = rw here (four_times a good) in
          look ∙ sym at ∙ ap next (sym address)
      | inr elsewhere ↦
          let apart : 4 * k ≢ a = λ same. elsewhere (omega arith) in
          get_or-set_other (with_words memory word) (a / 4) k w (pos 0) elsewhere
          ∙ get_or-map-range_with_len (λ j. word (4 * j)) 0 (length memory) k k (pos 0) below (omega arith)
          ∙ sym (others (4 * k) apart)
    ])
  where
    same_size : length (with_words memory word) ≡ length memory
    same_size = length-map-range_with_len (λ j. word (4 * j)) 0 (length memory)
