-- What one more line does to the counts of blocks and operations.
use Rattle.iloc_lint.proofs.Common.{◌≡◌, ℕ, ◌+◌, ◌<◌, ◌≤◌, Bool, List, [], ◌∷◌, ◌++◌, length, is_some, Some, None, Option, option_to_list, refl, ap, ◌∙◌, arith, length-append, eq-eqb, ne_eqb, filter_map-append, Op, Reading, empty, ops_in}
use Rattle.iloc_text.specs.Files.{block_count, ops_of}
use Rattle.iloc_text.proofs.Counts.{count-label, count-empty, count-op, count-first, none_or_some}
use Rattle.iloc_text.proofs.BlockOps.{ops_of-here, filter_map-one, no_more}
use Rattle.iloc_lint.specs.declared.faults.counts.Counts.{Counts}
use Rattle.iloc_lint.specs.Steps.Counted.{Count, grown}

-- how many operations the last block has
abbrev pub last_in : List Reading → ℕ
last_in rs = length (ops_of (block_count rs) rs)

-- a line with a label, or the first with an operation, starts a block, which has its operation alone
pub record Starts (rs : List Reading) (r : Reading) : Type 0 where
  pub blocks : block_count (rs ++ r ∷ []) ≡ block_count rs + 1
  pub last : last_in (rs ++ r ∷ []) ≡ length (option_to_list r.op)

-- any other adds to the last block
pub record Goes (rs : List Reading) (r : Reading) : Type 0 where
  pub blocks : block_count (rs ++ r ∷ []) ≡ block_count rs
  pub last : last_in (rs ++ r ∷ []) ≡ last_in rs + length (option_to_list r.op)

last_here : (k : ℕ) (rs : List Reading) (r : Reading) → block_count (rs ++ r ∷ []) ≡ k
    → last_in (rs ++ r ∷ []) ≡ length (ops_of k rs) + length (option_to_list r.op)
last_here k rs r e = ap (λ n. length (ops_of n (rs ++ r ∷ []))) e ∙ ap length (ops_of-here k rs r e)
    ∙ length-append (ops_of k rs) (option_to_list r.op)

starts_by : (rs : List Reading) (r : Reading) → block_count (rs ++ r ∷ []) ≡ block_count rs + 1 → Starts rs r
starts_by rs r e = record {
  blocks = e;
  last = let here = last_here (block_count rs + 1) rs r e in
      let none = ap length ((no_more rs).1 (block_count rs + 1) (omega arith)) in omega arith;
}

pub label_starts : (rs : List Reading) (r : Reading) (name : List ℕ) → r.label ≡ Some name → Starts rs r
label_starts rs r name h = starts_by rs r (count-label rs r name h)

pub first_starts : (rs : List Reading) (r : Reading) (op : Op) → r.label ≡ None → r.op ≡ Some op → block_count rs ≡ 0
    → Starts rs r
first_starts rs r op h g none = starts_by rs r (let one = count-first rs r op h g none in omega arith)

goes_by : (rs : List Reading) (r : Reading) → block_count (rs ++ r ∷ []) ≡ block_count rs → Goes rs r
goes_by rs r e = record { blocks = e; last = last_here (block_count rs) rs r e }

pub empty_goes : (rs : List Reading) (r : Reading) → r.label ≡ None → r.op ≡ None → Goes rs r
empty_goes rs r h g = goes_by rs r (count-empty rs r h g)

pub op_goes : (rs : List Reading) (r : Reading) (op : Op) → r.label ≡ None → r.op ≡ Some op → 0 < block_count rs
    → Goes rs r
op_goes rs r op h g some = goes_by rs r (count-op rs r op h g some)

-- all operations
pub ops_more : (rs : List Reading) (r : Reading) → length (ops_in (rs ++ r ∷ [])) ≡ length (ops_in rs)
    + length (option_to_list r.op)
ops_more rs r = grind (arith, filter_map-append, filter_map-one, length-append, option_to_list)

pub ops_few : (rs : List Reading) → length (ops_in rs) ≤ length rs
ops_few [] = omega arith
ops_few (r ∷ rs) = grind (arith, ops_few rs)

-- the counts with one more line

-- what follows from counts that are said to have grown
record HasGrown (rs : List Reading) (g : ℕ × ℕ) : Type 0 where
  blocks : block_count rs ≡ g.0
  last : last_in rs ≡ g.1

grown_by : (before : List Reading) (counts : Counts) (label : Option (List ℕ)) (op : Option Op) → Count before counts
    → HasGrown (before ++ record { label = label; op = op } ∷ []) (grown counts.blocks counts.last (is_some label) (is_some op))
grown_by before counts label op count = grind (arith, empty_goes, eq-eqb, first_starts, is_some, label_starts, ne_eqb, none_or_some, op_goes)

pub counted : (before : List Reading) (counts : Counts) (label : Option (List ℕ)) (op : Option Op) (labelled : Bool)
    (g : ℕ × ℕ) → Count before counts → labelled ≡ is_some label
    → g ≡ grown counts.blocks counts.last labelled (is_some op)
    → (block_count (before ++ record { label = label; op = op } ∷ []) ≡ g.0)
    × (last_in (before ++ record { label = label; op = op } ∷ []) ≡ g.1)
counted before counts label op labelled g count same is = grind (arith, grown_by, is_some)

-- an empty line changes none
pub empty_counted : (before : List Reading) (counts : Counts) → Count before counts → Count (before ++ empty ∷ []) counts
empty_counted before counts count = grind (arith, empty_goes, ops_more)

pub none_counted : block_count [] ≡ 0
unfolding block_count
none_counted = refl

pub none_last : last_in [] ≡ 0
unfolding ops_of
none_last = refl
