-- What the rows of a command hold, where the parser finds no fault in its words.
use Rattle.iloc_args.proofs.Common.{◌≡◌, false, List, [], ◌∷◌, IfSome, fold, Option, find, bytes_eq, arith, ne_eqb, bytes_eq-Decides, AllByRecursion, default_fault, level_fault, Shape, Row, Rule, Text, nothing_held, rows_after, with_default}
use Rattle.clap.specs.Faults.{defaults_fault}
use Rattle.iloc_args.proofs.Rows.{AllKept, IsKept, both_empty, with_values_kept}
use Rattle.iloc_args.proofs.Uses.{AllOurs, settled_kept, IsOurs}
use Rattle.iloc_args.proofs.Walks.{walk_kept}

-- The defaults at the end of a walk: the rows stay kept.
default_kept : (rules : List Rule) (a : Rule) (rows : List Row) → IsOurs rules a → default_fault rows a ≡ []
    → AllKept rules rows
    → AllKept rules (with_default rows a)
default_kept rules a rows ours e kept = grind (arith, both_empty, ne_eqb, with_values_kept)

defaults_kept : (rules xs : List Rule) (rows : List Row) → AllByRecursion (IsOurs rules) xs
    → defaults_fault rows xs ≡ []
    → AllKept rules rows → AllKept rules (fold with_default rows xs)
unfolding defaults_fault
defaults_kept rules [] rows ours e kept = kept
defaults_kept rules (a ∷ xs) rows ours e kept =
    let parts = both_empty (default_fault rows a) (defaults_fault (with_default rows a) xs) e in
    defaults_kept rules xs (with_default rows a) ours.1 parts.1 (default_kept rules a rows ours.0 parts.0 kept)

-- the rows are those of the arguments
pub leaf_kept : (s : Shape) (words : List Text) → AllOurs s.rules → level_fault s [] nothing_held words false [] ≡ []
    → AllKept s.rules (rows_after s.rules [] words)
leaf_kept s words ours e = grind (arith, both_empty, defaults_kept, settled_kept, walk_kept)

-- the row of an id
abbrev pub row_in : Text → List Row → Option Row
row_in id rows = find (λ r. bytes_eq r.id id) rows

-- the row of an id is kept
pub found_kept : (rules : List Rule) (id : Text) (rows : List Row) → AllKept rules rows
    → IfSome (row_in id rows) (λ r. IsKept rules r × (r.id ≡ id))
found_kept rules id [] kept = tt
found_kept rules id (r ∷ rs) kept = grind (arith, bytes_eq-Decides, found_kept rules id rs kept.1)
