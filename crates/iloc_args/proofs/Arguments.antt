-- The parser of an option's number, within its bounds.
use Rattle.iloc_args.proofs.Common.{◌≡◌, ℕ, ℤ, pos, Some, Option, refl, ◌∙◌, subst, arith, usize_max, NarrowsTo, signed_between, Rule, Text, ValueParser, Signed, number_rule, words_rule, HasRule, default_rule}
use Rattle.std.specs.Int.{int_max, int_min}
use Rattle.clap.specs.declared.builder.range.ValueRange.{ValueRange}
use Rattle.clap.specs.declared.builder.arg.Arg.{Arg}

-- the parser of numbers within these bounds
pub narrowed : (low high : ℕ) (all p : ValueParser) (start end : ℤ) → all ≡ Signed (pos 0) (pos 4294967295) → start ≡ pos low
    → end ≡ pos high → NarrowsTo all (Some start) (Some end) p
    → signed_between (int_max (pos 0) (pos low)) (int_min (pos 4294967295) (pos high)) ≡ Signed (pos low) (pos high)
    → p ≡ Signed (pos low) (pos high)
narrowed low high all p start end of from to narrows fits = grind (arith, pos)

pub within : (low high : ℕ) (all p : ValueParser) (start end : ℤ) (name default : Text) (a : Arg)
    → all ≡ Signed (pos 0) (pos 4294967295) → start ≡ pos low → end ≡ pos high → NarrowsTo all (Some start) (Some end) p
    → signed_between (int_max (pos 0) (pos low)) (int_min (pos 4294967295) (pos high)) ≡ Signed (pos low) (pos high)
    → HasRule (default_rule name default p) a → HasRule (number_rule name default low high) a
within low high all p start end name default a of from to narrows fits has = grind (arith, narrowed)

-- what reads its numbers, by another name
pub read_by : (rule : ValueParser → Rule) (p q : ValueParser) (a : Arg) → p ≡ q → HasRule (rule p) a → HasRule (rule q) a
read_by rule p q a same has = subst (λ (x : ValueParser). HasRule (rule x) a) same has

-- how many words there may be, and what each is
pub words : (range : Option ValueRange) (parser : Option ValueParser) (a : Arg)
    → range ≡ Some (record { start_inclusive = 0; end_inclusive = usize_max })
    → parser ≡ Some (Signed (pos 0) (pos 4294967295))
    → HasRule (record words_rule { range = range; parser = parser }) a → HasRule words_rule a
words range parser a many each has = record { rule = has.rule ∙ rw (many, each) refl; global = has.global }
