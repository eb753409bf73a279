-- Numbers of somebody's own that are read from a text.
use Rattle.iloc_driver.proofs.Common.{◌≡◌, ℕ, zero, suc, ◌+◌, ◌-◌, ◌*◌, ◌^◌, ◌≤◌, List, [], ◌∷◌, ◌++◌, length, take, drop, IfSome, slice_get, Some, None, Ok, Err, Result, position, sym, refl, ap, ◌∙◌, subst, append_assoc, append-nil, arith, length-drop, take_all, drop_all, true, false, after_first, before_first, list_all, position_or_len, Block, is_space, AreFor, first_and, number_after, numbers_for, numbers_of, priorities_from, words_of, before_and, NumbersFault}
use Rattle.std.specs.Prelude.{ok_or, if◌then◌else◌}
use Rattle.iloc_text.specs.Lines.{is_line_end}
use Rattle.iloc_rules.specs.Renaming.{without_nops}
use Rattle.iloc_driver.specs.Quoted.{word_of}
use Rattle.iloc_driver.specs.declared.fault.NumbersFault.TheVariants.{NoBlock, NotANumber}

-- a line, as it is cut off

pub line_found : (text : List ℕ) (end : ℕ) → position is_line_end text ≡ Some end
    → (take end text ≡ before_first is_line_end text)
    × (take (length text - (end + 1)) (drop (end + 1) text) ≡ after_first is_line_end text)
line_found text end found =
    let at : end ≡ position_or_len is_line_end text = grind arith in
    let rest : take (length text - (end + 1)) (drop (end + 1) text) ≡ drop (end + 1) text =
    take_all (length text - (end + 1)) (drop (end + 1) text) (omega (arith, length-drop (end + 1) text)) in
    (ap (λ n. take n text) at, rest ∙ ap (λ n. drop (n + 1) text) at)

pub no_line_found : (text : List ℕ) → position is_line_end text ≡ None
    → (text ≡ before_first is_line_end text) × ([] ≡ after_first is_line_end text)
no_line_found text none =
    let all : length text ≤ position_or_len is_line_end text = grind arith in (
      sym (take_all (position_or_len is_line_end text) text all),
      sym (drop_all (position_or_len is_line_end text + 1) text (omega (arith, all))),
    )

-- more digits make no number small again
pub too_large : (n : ℕ) (cs : List ℕ) → 2 ^ 32 ≤ n → number_after n cs ≡ None
too_large n [] large = grind arith
too_large n (c ∷ cs) large = grind (arith, too_large (n * 10 + (c - 48)) cs)

module _ {X : Type 0} where
  -- one more was read
  pub one_more : (done more : List X) (x : X) (first : Result X NumbersFault) (others : Result (List X) NumbersFault)
      → first ≡ Ok x → more ≡ done ++ x ∷ [] → before_and done (first_and first others) ≡ before_and more others
  one_more done more x (Ok y) (Ok ys) is added = grind (arith, append_assoc)
  one_more done more x (Ok y) (Err fault) is added = refl
  one_more done more x (Err fault) others is added = absurd (cc)

  -- there is a fault
  pub no_more : (done : List X) (fault : NumbersFault) (first : Result X NumbersFault)
      (others : Result (List X) NumbersFault) → first ≡ Err fault → before_and done (first_and first others) ≡ Err fault
  no_more done fault (Ok y) others is = absurd (cc)
  no_more done fault (Err f) others is = grind arith

-- a block's line, of which some numbers were read

module _ (k : ℕ) (rest : List ℕ) (done : List ℕ) where
  pub next_number : (word after more : List ℕ) (x : ℕ) → words_of rest ≡ word ∷ words_of after → number_after 0 word ≡ Some x
      → more ≡ done ++ x ∷ []
      → before_and done (numbers_of k (words_of rest)) ≡ before_and more (numbers_of k (words_of after))
  next_number word after more x words found added =
      ap (λ ws. before_and done (numbers_of k ws)) words
      ∙ one_more done more x (ok_or (number_after 0 word) (NotANumber k (word_of word))) (numbers_of k (words_of after))
      (ap (λ o. ok_or o (NotANumber k (word_of word))) found) added

  pub no_number : (word after : List ℕ) → words_of rest ≡ word ∷ words_of after → number_after 0 word ≡ None
      → before_and done (numbers_of k (words_of rest)) ≡ Err (NotANumber k (word_of word))
  no_number word after words none =
      ap (λ ws. before_and done (numbers_of k ws)) words
      ∙ no_more done (NotANumber k (word_of word)) (ok_or (number_after 0 word) (NotANumber k (word_of word)))
      (numbers_of k (words_of after)) (ap (λ o. ok_or o (NotANumber k (word_of word))) none)

  pub all_numbers : words_of rest ≡ [] → before_and done (numbers_of k (words_of rest)) ≡ Ok done
  all_numbers none = ap (λ ws. before_and done (numbers_of k ws)) none ∙ ap (λ xs. Ok xs) (append-nil done)

-- blocks, of which all were read

module _ (done : List (List ℕ)) (blocks : List Block) (n : ℕ) (text rest : List ℕ)
    (so_far : before_and done (priorities_from (n + 1) (drop n blocks) rest) ≡ priorities_from 1 blocks text)
    (all : length blocks ≤ n) where
  pub all_read : list_all is_space rest ≡ true → priorities_from 1 blocks text ≡ Ok done
  all_read spaces =
      sym so_far ∙ (ap (λ bs. before_and done (priorities_from (n + 1) bs rest)) (drop_all n blocks all)
      ∙ (ap (λ b. before_and done (if b then Ok [] else Err (NoBlock (n + 1)))) spaces ∙ ap (λ xs. Ok xs) (append-nil done)))

  pub more_left : list_all is_space rest ≡ false → priorities_from 1 blocks text ≡ Err (NoBlock (n + 1))
  more_left others =
      sym so_far ∙ (ap (λ bs. before_and done (priorities_from (n + 1) bs rest)) (drop_all n blocks all)
      ∙ ap (λ b. before_and done (if b then Ok [] else Err (NoBlock (n + 1)))) others)

-- each operation has a number

numbers_many : (k : ℕ) (words : List (List ℕ)) (numbers : List ℕ) → numbers_of k words ≡ Ok numbers
    → length numbers ≡ length words
numbers_many k [] numbers is = grind arith
numbers_many k (word ∷ words) numbers is = grind (arith, numbers_many k words)

numbers_long : (k n : ℕ) (words : List (List ℕ)) (numbers : List ℕ) → numbers_for k n words ≡ Ok numbers → length numbers ≡ n
numbers_long k n words numbers is = grind (arith, numbers_many)

each_long : (k : ℕ) (blocks : List Block) (text : List ℕ) (all : List (List ℕ)) → priorities_from k blocks text ≡ Ok all
    → (i : ℕ) (b : Block) → slice_get blocks i ≡ Some b
    → IfSome (slice_get all i) (λ numbers. length numbers ≡ length (without_nops b.ops))
each_long k [] text all is i b at = absurd (cc)
each_long k (a ∷ blocks) text all is zero b at = grind (arith, numbers_long)
each_long k (a ∷ blocks) text all is (suc i) b at = grind (arith, each_long (k + 1) blocks)

pub are_for : (blocks : List Block) (text : List ℕ) (all : List (List ℕ)) → priorities_from 1 blocks text ≡ Ok all
    → AreFor (Some all) blocks
are_for blocks text all is i b at =
    let P : ℕ → Type 0 = λ n. IfSome (slice_get all n) (λ numbers. length numbers ≡ length (without_nops b.ops)) in
    subst P (omega arith) (each_long 1 blocks text all is i b at)
