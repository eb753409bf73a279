-- A whole number that the parser takes is one that the typed getters read.
use Rattle.iloc_args.proofs.Common.{◌≡◌, ℕ, Bool, true, false, cond, List, [], ◌∷◌, map, drop, pos, sym, refl, subst, arith, ne_eqb, value_kinds, values_kinds, without_minus, IsSignedIn, read_as, Text, Signed, ValueValidation, AreNumbersIn, IsNumberIn}
use Rattle.std.proofs.lemmas.Int.{ints}
use Rattle.std.specs.Str.Parse.{IsNumeral, without_leading_plus, starts_with_minus}
use Rattle.std.proofs.lemmas.Str.Parse.{digit_from_value}
use Rattle.clap.specs.declared.builder.value_parser.Reading.TheVariants.{WithoutMinus}
use Rattle.iloc_args.proofs.Rows.{both_empty}
use Rattle.clap.proofs.ValueTestLemmas.{accepts-Accepts}
use Rattle.clap.specs.ValueTests.{accepts}
use Rattle.clap.specs.declared.error.kind.ErrorKind.{ErrorKind}

without_minus-cond : (t : Text) → without_minus t ≡ cond (starts_with_minus t) (drop 1 t) t
without_minus-cond t = grind arith

numeral_has_no_plus : (ds : Text) → IsNumeral 10 ds → without_leading_plus ds ≡ ds
numeral_has_no_plus ds h = grind (arith, digit_from_value, ne_eqb)

read_number : (low high : ℕ) (t : Text) → IsSignedIn (pos low) (pos high) t → IsNumberIn low high (without_minus t)
read_number low high t passed = subst (IsNumberIn low high) (sym (without_minus-cond t)) (go (starts_with_minus t) refl)
  where
    go : (b : Bool) → starts_with_minus t ≡ b → IsNumberIn low high (cond b (drop 1 t) t)
    go true minus =
        let low_ok = rw minus at passed.2 in
        let high_ok = rw minus at passed.3 in
        let numeral : IsNumeral 10 (drop 1 t) = rw minus at passed.0 in
        let same = numeral_has_no_plus (drop 1 t) numeral in
        record {
          numeral = rw same numeral;
          at_least = rw same (omega (arith, ints));
          at_most = rw same (omega (arith, ints));
        }
    go false minus =
        let low_ok = rw minus at passed.2 in
        let high_ok = rw minus at passed.3 in
        let numeral : IsNumeral 10 (without_leading_plus t) = rw minus at passed.0 in
        record { numeral = numeral; at_least = omega (arith, ints); at_most = omega (arith, ints) }

-- values in which the parser finds no fault are numbers
pub taken_numbers : (ignore_case : Bool) (low high : ℕ) (texts : List Text)
    → values_kinds ignore_case (Signed (pos low) (pos high)) texts ≡ []
    → AreNumbersIn low high (map (read_as WithoutMinus) texts)
taken_numbers ignore_case low high [] e = tt
taken_numbers ignore_case low high (text ∷ rest) e =
    let p = Signed (pos low) (pos high) in
    let parts = both_empty (value_kinds ignore_case p text) (values_kinds ignore_case p rest) e in (
      read_number low high text (accepts-Accepts ignore_case p text
          (taken (accepts ignore_case p text) ValueValidation parts.0)),
      taken_numbers ignore_case low high rest parts.1,
    )
  where
    taken : (b : Bool) (k : ErrorKind) → cond b [] (k ∷ []) ≡ [] → b ≡ true
    taken true k e = refl
    taken false k e = cc
