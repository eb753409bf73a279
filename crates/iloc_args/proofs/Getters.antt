-- What the typed getters of the matches give, where the matches hold numbers.
use Rattle.iloc_args.proofs.Common.{◌≡◌, ℕ, ◌^◌, ◌<◌, ◌≤◌, List, [], ◌∷◌, ◌++◌, map, IfSome, Some, None, Ok, Err, Option, Result, option_map, unwrap_or, sym, refl, ap, ◌∙◌, subst, append_assoc, arith, lit<, one_text-rows, typed_values-rows, ReadsOne, StepsValues, matched_of, one_text, typed_values, Row, Text, many_of, one_of, rows_of, number_if, number_of, number_or, numbers_in, AreNumbersIn, HoldsIn, IsNumberIn}
use Rattle.std.specs.Str.Parse.{ParsesUnsigned, ExplainsUnsignedError, HasUnsignedDigitsIfOk}
use Rattle.std.specs.declared.num.ParseIntError.{ParseIntError}
use Rattle.clap.specs.declared.parser.matches.Found.{Found}

-- what `u32` reads from a text
abbrev pub ReadsWord : Text → Result ℕ ParseIntError → Type 0
ReadsWord text r = ParsesUnsigned 32 10 text r × ExplainsUnsignedError 10 text r × HasUnsignedDigitsIfOk text r

number_read : (low high : ℕ) (text : Text) (r : Result ℕ ParseIntError) → high < 2 ^ 32 → IsNumberIn low high text
    → ReadsWord text r
    → (n : ℕ) × (r ≡ Ok n) × (number_of text ≡ n)
number_read low high text (Ok n) small h reads = (n, refl, sym reads.0.1)
number_read low high text (Err e) small h reads = absurd (reads.0 (h.numeral, omega (arith, h.at_most)))

-- `get_one`
pub one_if_read : (id : Text) (f : Found) (low high : ℕ) (r : Option ℕ) → high < 2 ^ 32 → HoldsIn low high id (rows_of f)
    → (one_text f id ≡ None → r ≡ None) → ((t : Text) → one_text f id ≡ Some t → ReadsOne ReadsWord t r)
    → r ≡ number_if id (rows_of f)
one_if_read id f low high r small holds none reads = go (one_of id (rows_of f)) (one_text-rows f id) holds
  where
    read : (t : Text) (r : Option ℕ) → IsNumberIn low high t → ReadsOne ReadsWord t r → r ≡ Some (number_of t)
    read t (Some n) h reads = ap (λ x. Some x) reads.0.1
    read t None h reads = absurd (reads.1.0 (h.numeral, omega (arith, h.at_most)))

    go : (o : Option Text) → one_text f id ≡ o → IfSome o (IsNumberIn low high) → r ≡ option_map number_of o
    go None is h = none is
    go (Some t) is h = read t r h (reads t is)

-- the number that was read for an option, or another where there is none, within bounds that both keep
pub record IsNumberFor (low high otherwise : ℕ) (id : Text) (rows : List Row) (n : ℕ) : Type 0 where
  pub value : n ≡ number_or otherwise id rows
  pub at_least : low ≤ n
  pub at_most : n ≤ high

-- that, or another
pub one_read : (id : Text) (f : Found) (low high otherwise : ℕ) (r : Option ℕ) → high < 2 ^ 32 → low ≤ otherwise
    → otherwise ≤ high
    → HoldsIn low high id (rows_of f) → (one_text f id ≡ None → r ≡ None)
    → ((t : Text) → one_text f id ≡ Some t → ReadsOne ReadsWord t r)
    → IsNumberFor low high otherwise id (rows_of f) (unwrap_or r otherwise)
one_read id f low high otherwise r small above below holds none reads =
    let is : r ≡ number_if id (rows_of f) = one_if_read id f low high r small holds none reads in
    let kept = go (one_of id (rows_of f)) holds in
    record {
      value = ap (λ o. unwrap_or o otherwise) is;
      at_least = subst (λ o. low ≤ unwrap_or o otherwise) (sym is) kept.0;
      at_most = subst (λ o. unwrap_or o otherwise ≤ high) (sym is) kept.1;
    }
  where
    go : (o : Option Text) → IfSome o (IsNumberIn low high)
        → (low ≤ unwrap_or (option_map number_of o) otherwise) × (unwrap_or (option_map number_of o) otherwise ≤ high)
    go None h = (above, below)
    go (Some t) h = (h.at_least, h.at_most)

-- a step of `get_many`'s values
pub value_read : (before after : List Text) (x : Result ℕ ParseIntError) → StepsValues ReadsWord before after (Some x)
    → AreNumbersIn 0 4294967295 before
    → (n : ℕ) × (x ≡ Ok n) × (map number_of before ≡ n ∷ map number_of after) × AreNumbersIn 0 4294967295 after
value_read before after x steps h = grind (arith, lit<, number_read)

pub no_value : (before after : List Text) → StepsValues ReadsWord before after None → map number_of before ≡ []
no_value [] after steps = refl
no_value (t ∷ rest) after steps = absurd steps

-- `get_many`
pub many_some : (f : Found) (id : Text) (left : List Text) → Some left ≡ option_map typed_values (matched_of f id)
    → many_of id (rows_of f) ≡ Some left
many_some f id left given = sym (given ∙ typed_values-rows f id)

pub many_numbers : (id : Text) (rows : List Row) (left : List Text) → many_of id rows ≡ Some left
    → map number_of left ≡ numbers_in id rows
many_numbers id rows left some = ap (λ o. map number_of (unwrap_or o [])) (sym some)

pub many_in_range : (low high : ℕ) (id : Text) (rows : List Row) (left : List Text) → many_of id rows ≡ Some left
    → AreNumbersIn low high (unwrap_or (many_of id rows) []) → AreNumbersIn low high left
many_in_range low high id rows left some h = subst (λ o. AreNumbersIn low high (unwrap_or o [])) some h

pub many_none : (f : Found) (id : Text) → None ≡ option_map typed_values (matched_of f id)
    → numbers_in id (rows_of f) ≡ []
many_none f id given = ap (λ o. map number_of (unwrap_or o [])) (sym (given ∙ typed_values-rows f id))

-- one value more has been read
pub one_more : (words pushed before after whole : List ℕ) (n m : ℕ) → pushed ≡ words ++ n ∷ [] → before ≡ m ∷ after
    → m ≡ n
    → words ++ before ≡ whole → pushed ++ after ≡ whole
one_more words pushed before after whole n m push step same done =
    rw (push, append_assoc, ← same, ← step) done
