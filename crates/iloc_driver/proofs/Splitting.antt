-- A line's first word, and those after it.
use Rattle.iloc_driver.proofs.Common.{◌≡◌, ◌≢◌, ℕ, suc, ◌-◌, ◌<◌, ◌≤◌, Bool, true, false, List, [], ◌∷◌, length, take, sym, refl, ap, ◌∙◌, arith, filter, slice_split, is_word, words_of, is_no_blank, without}
use Rattle.iloc_text.specs.Grammar.{is_blank}

-- what follows some first bytes is no longer
pub short_without : (p : ℕ → Bool) (line : List ℕ) → length (without p line) ≤ length line
short_without p [] = omega arith
short_without p (c ∷ cs) = grind (arith, short_without p cs)

-- the bytes of a line before its first blank
abbrev part_of : List ℕ → List ℕ
part_of line = take (length line - length (without is_no_blank line)) line

-- a line's first part, and the words of the others
first_part : (line : List ℕ) → (parts : List (List ℕ)) × (slice_split is_blank line ≡ part_of line ∷ parts)
    × (filter is_word parts ≡ words_of (without is_no_blank line))
first_part [] = ([], refl, refl)
first_part (c ∷ cs) = go (first_part cs) (is_blank c) refl
  where
    go : ((parts : List (List ℕ)) × (slice_split is_blank cs ≡ part_of cs ∷ parts)
        × (filter is_word parts ≡ words_of (without is_no_blank cs))) → (b : Bool) → is_blank c ≡ b → (parts : List (List ℕ)) × (slice_split is_blank (c ∷ cs) ≡ part_of (c ∷ cs) ∷ parts)
        × (filter is_word parts ≡ words_of (without is_no_blank (c ∷ cs)))
    go rest true is = (slice_split is_blank cs, grind arith, grind arith)
    go rest false is =
        let gone : without is_no_blank (c ∷ cs) ≡ without is_no_blank cs = grind arith in
        let more : length (c ∷ cs) - length (without is_no_blank (c ∷ cs)) ≡ suc (length cs - length (without is_no_blank cs)) =
        omega (arith, ap length gone, short_without is_no_blank cs) in
        let longer : part_of (c ∷ cs) ≡ c ∷ part_of cs = ap (λ n. take n (c ∷ cs)) more in
        (rest.0, grind arith, grind arith)

-- leading blanks are no words
blanks_first : (line : List ℕ) → words_of (without is_blank line) ≡ words_of line
blanks_first [] = refl
blanks_first (c ∷ cs) = go (blanks_first cs) (is_blank c) refl
  where
    go : words_of (without is_blank cs) ≡ words_of cs → (b : Bool) → is_blank c ≡ b
        → words_of (without is_blank (c ∷ cs)) ≡ words_of (c ∷ cs)
    go rest true is = grind arith
    go rest false is = grind arith

-- what comes without leading blanks begins with none
begins : (line rest : List ℕ) (c : ℕ) → without is_blank line ≡ c ∷ rest → is_blank c ≡ false
begins [] rest c is = absurd cc
begins (a ∷ cs) rest c is = go (begins cs rest c) (is_blank a) refl
  where
    go : (without is_blank cs ≡ c ∷ rest → is_blank c ≡ false) → (b : Bool) → is_blank a ≡ b → is_blank c ≡ false
    go later true blank = grind arith
    go later false blank = grind arith

pub no_word : (line rest : List ℕ) → rest ≡ without is_blank line → length rest ≡ 0 → words_of line ≡ []
no_word line [] is none = sym (blanks_first line) ∙ ap words_of (sym is)
no_word line (c ∷ rest) is none = absurd (omega (arith, none))

pub word_found : (line rest after : List ℕ) → rest ≡ without is_blank line → after ≡ without is_no_blank rest → length rest ≢ 0
    → words_of line ≡ take (length rest - length after) rest ∷ words_of after
word_found line [] after is next some = absurd (some refl)
word_found line (c ∷ rest) after is next some =
    let blank : is_blank c ≡ false = begins line rest c (sym is) in
    let found = first_part (c ∷ rest) in
    let long : length (without is_no_blank rest) ≤ length rest = short_without is_no_blank rest in
    sym (blanks_first line) ∙ (ap words_of (sym is) ∙ grind arith)

pub word_shorter : (line rest after : List ℕ) → rest ≡ without is_blank line → length rest ≤ length line
    → after ≡ without is_no_blank rest → length rest ≢ 0 → length after < length line
word_shorter line [] after is short next some = absurd (some refl)
word_shorter line (c ∷ rest) after is short next some =
    let blank : is_blank c ≡ false = begins line rest c (sym is) in
    let long : length (without is_no_blank rest) ≤ length rest = short_without is_no_blank rest in
    grind arith
