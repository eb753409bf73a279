-- Rows whose values the parser takes, and how they come about.
use Rattle.iloc_args.proofs.Common.{◌≡◌, Bool, List, [], ◌∷◌, ◌++◌, Some, refl, ap, ◌∙◌, arith, bytes_eq-Decides, values_fault, Kinds, or_else, value_kinds, values_kinds, Row, Rule, Text, arg_by_id, at_row, reading_by, with_values, without, ValueParser}
use Rattle.clap.specs.declared.parser.matches.ValueSource.{ValueSource}

pub both_empty : (a b : Kinds) → or_else a b ≡ [] → (a ≡ []) × (b ≡ [])
both_empty [] b e = (refl, e)
both_empty (k ∷ ks) b e = cc

append_taken : (ignore_case : Bool) (p : ValueParser) (xs ys : List Text) → values_kinds ignore_case p xs ≡ []
    → values_kinds ignore_case p ys ≡ [] → values_kinds ignore_case p (xs ++ ys) ≡ []
append_taken ignore_case p [] ys x y = y
append_taken ignore_case p (t ∷ xs) ys x y =
    let parts = both_empty (value_kinds ignore_case p t) (values_kinds ignore_case p xs) x in
    ap (λ k. or_else k (values_kinds ignore_case p (xs ++ ys))) parts.0 ∙ append_taken ignore_case p xs ys parts.1 y

-- the row is one of this argument: the parser takes its values
pub record Holds (a : Rule) (r : Row) : Type 0 where
  pub reading : r.reading ≡ reading_by a
  pub values : values_fault a r.values ≡ []

-- the row is one of the argument that has its id, and there is one
pub record IsKept (rules : List Rule) (r : Row) : Type 0 where
  pub rule : Rule
  pub first : arg_by_id rules r.id ≡ Some rule
  pub holds : Holds rule r

abbrev pub AllKept : List Rule → List Row → Type 0
AllKept rules [] = Unit {0}
AllKept rules (r ∷ rs) = IsKept rules r × AllKept rules rs

kept-append : (rules : List Rule) (xs ys : List Row) → AllKept rules xs → AllKept rules ys → AllKept rules (xs ++ ys)
kept-append rules [] ys x y = y
kept-append rules (r ∷ xs) ys x y = (x.0, kept-append rules xs ys x.1 y)

-- a change of one row that keeps what it has to keeps that of all
at_row_kept : (rules : List Rule) (id : Text) (change : Row → List Row) (missing rows : List Row) → AllKept rules rows
    → ((r : Row) → IsKept rules r → r.id ≡ id → AllKept rules (change r)) → AllKept rules missing
    → AllKept rules (at_row id change missing rows)
at_row_kept rules id change missing [] kept changed new = new
at_row_kept rules id change missing (r ∷ rs) kept changed new =
    grind (arith, bytes_eq-Decides, kept-append, at_row_kept rules id change missing rs kept.1 changed new)

pub without_kept : (rules : List Rule) (id : Text) (rows : List Row) → AllKept rules rows
    → AllKept rules (without id rows)
without_kept rules id rows kept = at_row_kept rules id (λ _. []) [] rows kept (λ r k e. tt) tt

-- values that the parser takes join the row of their argument, or begin it
pub with_values_kept : (rules : List Rule) (a : Rule) (s : ValueSource) (values : List Text) (rows : List Row)
    → arg_by_id rules a.id ≡ Some a
    → values_fault a values ≡ [] → AllKept rules rows → AllKept rules (with_values a.id (reading_by a) s values rows)
with_values_kept rules a s values rows own taken kept = grind (arith, append_taken, at_row_kept)
