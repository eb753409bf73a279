use Rattle.iloc_listing.proofs.Common.{◌≡◌, ℕ, ◌+◌, ◌-◌, ◌<◌, ◌≤◌, Bool, true, false, ◌&&◌, List, [], ◌∷◌, ◌++◌, length, get_or, take, if◌then◌else◌, None, sym, refl, ap, ◌∙◌, subst, ap₂, arith, take_more, list_all, Row, held_rows, is_empty}
use Rattle.std.proofs.Math.Bool.{and-true}
use Rattle.std.proofs.lemmas.List.Folds.{list_all-append}
use Rattle.std.proofs.lemmas.Bool.{and_right}
use Rattle.iloc_listing.proofs.lines.held_rows.Goals as goal
use Rattle.iloc_listing.proofs.lines.held_rows.Goals.{then-loop-count-test+else-is_empty, else-loop-count-test}

-- whether all are empty, with one more
all_with : (rows : List Row) (row : Row) (b : Bool) → is_empty row ≡ b
    → list_all is_empty (rows ++ row ∷ []) ≡ (list_all is_empty rows && b)
all_with rows row b is =
    list_all-append is_empty rows (row ∷ []) ∙ ap (λ c. list_all is_empty rows && c) (and-true (is_empty row) ∙ is)

-- an empty row at the end is left out
held_less : (rows : List Row) (row : Row) → is_empty row ≡ true → held_rows (rows ++ row ∷ []) ≡ held_rows rows
held_less [] row is = ap (λ b. if b then [] else row ∷ []) (and-true (is_empty row) ∙ is)
held_less (first ∷ rows) row is = grind (arith, all_with, and-true, held_less rows row is)

-- where the last row holds an operation, none is left out
held_all : (rows : List Row) (row : Row) → is_empty row ≡ false → held_rows (rows ++ row ∷ []) ≡ rows ++ row ∷ []
held_all [] row is = ap (λ b. if b then [] else row ∷ []) (and-true (is_empty row) ∙ is)
held_all (first ∷ rows) row is =
    ap₂ (λ b more. if b then [] else first ∷ more)
    (ap (λ b. is_empty first && b) (all_with rows row false is ∙ and_right (list_all is_empty rows) false refl)
    ∙ and_right (is_empty first) false refl)
    (held_all rows row is)

-- the last of so many rows
module _ (rows : List Row) (count : ℕ) (d : Row) (some : 0 < count) (within : count ≤ length rows) where
  last : take count rows ≡ take (count - 1) rows ++ get_or rows (count - 1) d ∷ []
  last = ap (λ n. take n rows) (let same : count ≡ count - 1 + 1 = omega arith in same)
      ∙ take_more rows (count - 1) d (omega arith)

  last_empty : is_empty (get_or rows (count - 1) d) ≡ true → held_rows (take (count - 1) rows) ≡ held_rows (take count rows)
  last_empty is = sym (ap held_rows last ∙ held_less (take (count - 1) rows) (get_or rows (count - 1) d) is)

  last_held : is_empty (get_or rows (count - 1) d) ≡ false → held_rows (take count rows) ≡ take count rows
  last_held is = ap held_rows last ∙ (held_all (take (count - 1) rows) (get_or rows (count - 1) d) is ∙ sym last)

abbrev no_row : Row
no_row = record { zero = None; one = None }

pub loop-count-preserved : goal.loop-count-preserved
loop-count-preserved c =
    let now = c.loop-count.invariant in
    record {
      within = omega arith;
      same = last_empty c.args.rows.now c.loop-count.count no_row c.loop-count-test.true now.within
          (sym c.is_empty.ensures ∙ c.if-is_empty.true)
          ∙ now.same;
    }

pub returns : goal.returns
returns c =
    let rows = c.args.rows.now in
    let count = c.loop-count.count in
    let now = c.loop-count.invariant in
    elim c.loop-count-test.branch [
      | then-loop-count-test+else-is_empty w ↦
          sym (last_held rows count no_row w.loop-count-test.true now.within
          (sym w.is_empty.ensures ∙ w.if-is_empty.false))
          ∙ now.same
      | else-loop-count-test w ↦
          let none : count ≡ 0 = omega arith in
          subst (λ n. take n rows ≡ held_rows (take n rows)) (sym none) refl ∙ now.same
    ]
