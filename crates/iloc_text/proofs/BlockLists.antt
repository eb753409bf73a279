-- What one more line does to the blocks of a file.
use Rattle.iloc_text.proofs.Common.{◌≡◌, ℕ, suc, ◌+◌, ◌<◌, List, [], ◌∷◌, ◌++◌, length, Some, None, Option, option_to_list, sym, refl, ap, ◌∙◌, ap₂, append-nil, arith, length-append, Block, Op, Reading, block_count, block_names, blocks_from, ops_of, last_ops, with_line, with_op, with_optional_op}
use Rattle.iloc_text.specs.Files.{file_of}
use Rattle.iloc_text.proofs.Counts.{length-names, names-label, names-empty, names-op, names-first, count-label, count-op, count-first, none_or_some}
use Rattle.iloc_text.proofs.BlockOps.{ops_of-here, ops_of-else, ops_of-no_op, no_more}

blocks-same : (k : ℕ) (names : List (Option (List ℕ))) (rs ss : List Reading)
    → ((j : ℕ) → j < k + length names → ops_of j ss ≡ ops_of j rs)
    → blocks_from k names ss ≡ blocks_from k names rs
blocks-same k [] rs ss h = refl
blocks-same k (name ∷ names) rs ss h = grind (arith, blocks-same (k + 1) names rs ss (λ j lt. h j (omega arith)))

blocks-snoc : (k : ℕ) (names : List (Option (List ℕ))) (name : Option (List ℕ)) (rs : List Reading)
    → blocks_from k (names ++ name ∷ []) rs ≡ blocks_from k names rs
    ++ record { name = name; ops = ops_of (k + length names) rs } ∷ []
blocks-snoc k [] name rs = ap (λ n. record { name = name; ops = ops_of n rs } ∷ []) (omega arith)
blocks-snoc k (n ∷ names) name rs = grind (arith, blocks-snoc (k + 1) names name rs)

length-blocks : (k : ℕ) (names : List (Option (List ℕ))) (rs : List Reading) → length (blocks_from k names rs)
    ≡ length names
length-blocks k [] rs = refl
length-blocks k (n ∷ names) rs = ap suc (length-blocks (k + 1) names rs)

pub length-file : (rs : List Reading) → length (file_of rs) ≡ block_count rs
unfolding file_of
length-file rs = length-blocks 1 (block_names rs) rs ∙ length-names rs

pub with_op-snoc : (op : Op) (bs : List Block) (b : Block)
    → with_op op (bs ++ b ∷ []) ≡ bs ++ record { name = b.name; ops = b.ops ++ op ∷ [] } ∷ []
with_op-snoc op (x ∷ y ∷ bs) b = ap (λ l. x ∷ l) (with_op-snoc op (y ∷ bs) b)
with_op-snoc op bs b = refl

with_optional-snoc : (op : Option Op) (bs : List Block) (b : Block) → with_optional_op op (bs ++ b ∷ [])
    ≡ bs ++ record { name = b.name; ops = b.ops ++ option_to_list op } ∷ []
with_optional-snoc None bs b = ap (λ ops. bs ++ record { name = b.name; ops = ops } ∷ []) (sym (append-nil b.ops))
with_optional-snoc (Some op) [] b = refl
with_optional-snoc (Some op) (x ∷ bs) b = with_op-snoc op (x ∷ bs) b

pub last-snoc : (bs : List Block) (b : Block) → last_ops (bs ++ b ∷ []) ≡ b.ops
last-snoc (x ∷ y ∷ bs) b = last-snoc (y ∷ bs) b
last-snoc bs b = refl

-- a list is empty or ends with an element
data Ends {A : Type 0} (xs : List A) : Type 0 where
  Nowhere : xs ≡ [] → Ends xs
  With : (front : List A) (x : A) → xs ≡ front ++ x ∷ [] → Ends xs

ends : {A : Type 0} (xs : List A) → Ends xs
ends [] = Nowhere refl
ends {A} (x ∷ xs) = elim (ends xs) [
  | Nowhere e ↦ With [] x (ap (λ l. x ∷ l) e)
  | With front y e ↦ With (x ∷ front) y (ap (λ l. x ∷ l) e)
]

file-label : (rs : List Reading) (r : Reading) (name : List ℕ) (op : Option Op) → r.label ≡ Some name → r.op ≡ op
    → file_of (rs ++ r ∷ []) ≡ with_line (Some name) op (file_of rs)
unfolding file_of
file-label rs r name op h g =
    let count = count-label rs r name h in
    let names = length-names rs in
    let before : blocks_from 1 (block_names rs) (rs ++ r ∷ []) ≡ blocks_from 1 (block_names rs) rs =
    blocks-same 1 (block_names rs) rs (rs ++ r ∷ []) (λ j lt. ops_of-else j rs r (λ e. omega arith)) in
    let here : ops_of (1 + length (block_names rs)) (rs ++ r ∷ []) ≡ option_to_list op =
    ops_of-here (1 + length (block_names rs)) rs r (omega arith)
    ∙ ap₂ (λ a o. a ++ option_to_list o) ((no_more rs).1 (1 + length (block_names rs)) (omega arith)) g in
    ap (λ ns. blocks_from 1 ns (rs ++ r ∷ [])) (names-label rs r name h)
    ∙ blocks-snoc 1 (block_names rs) (Some name) (rs ++ r ∷ [])
    ∙ ap₂ (λ bs ops. bs ++ record { name = Some name; ops = ops } ∷ []) before here
    ∙ sym (with_optional-snoc op (blocks_from 1 (block_names rs) rs) (record { name = Some name; ops = [] }))

file-empty : (rs : List Reading) (r : Reading) → r.label ≡ None → r.op ≡ None → file_of (rs ++ r ∷ []) ≡ file_of rs
unfolding file_of
file-empty rs r h g = ap (λ ns. blocks_from 1 ns (rs ++ r ∷ [])) (names-empty rs r h g)
    ∙ blocks-same 1 (block_names rs) rs (rs ++ r ∷ []) (λ j lt. ops_of-no_op j rs r g)

file-first : (rs : List Reading) (r : Reading) (op : Op) → r.label ≡ None → r.op ≡ Some op → block_count rs ≡ 0
    → file_of (rs ++ r ∷ []) ≡ with_optional_op (Some op) (file_of rs)
unfolding file_of
file-first rs r op h g none =
    let names : block_names rs ≡ [] = empty (block_names rs) (length-names rs ∙ none) in
    let ops : ops_of 1 (rs ++ r ∷ []) ≡ op ∷ [] =
    ops_of-here 1 rs r (count-first rs r op h g none)
    ∙ ap₂ (λ a o. a ++ option_to_list o) ((no_more rs).1 1 (omega arith)) g in
    ap (λ ns. blocks_from 1 ns (rs ++ r ∷ [])) (names-first rs r op h g none)
    ∙ ap (λ o. record { name = None; ops = o } ∷ []) ops
    ∙ sym (ap (λ ns. with_optional_op (Some op) (blocks_from 1 ns rs)) names)
  where
    empty : {A : Type 0} (xs : List A) → length xs ≡ 0 → xs ≡ []
    empty [] e = refl
    empty (x ∷ xs) e = absurd (omega arith)

file-op : (rs : List Reading) (r : Reading) (op : Op) → r.label ≡ None → r.op ≡ Some op → 0 < block_count rs
    → file_of (rs ++ r ∷ []) ≡ with_optional_op (Some op) (file_of rs)
unfolding file_of
file-op rs r op h g some = elim (ends (block_names rs)) [
  | Nowhere e ↦ absurd (let len = ap length e in let names = length-names rs in omega arith)
  | With front name e ↦ by front name e
]
  where
    by : (front : List (Option (List ℕ))) (name : Option (List ℕ)) → block_names rs ≡ front ++ name ∷ []
        → blocks_from 1 (block_names (rs ++ r ∷ [])) (rs ++ r ∷ [])
        ≡ with_optional_op (Some op) (blocks_from 1 (block_names rs) rs)
    by front name e =
        let count = count-op rs r op h g some in
        let len : block_count rs ≡ length front + 1 = sym (length-names rs) ∙ ap length e
        ∙ length-append front (name ∷ []) in
        let before : blocks_from 1 front (rs ++ r ∷ []) ≡ blocks_from 1 front rs =
        blocks-same 1 front rs (rs ++ r ∷ []) (λ j lt. ops_of-else j rs r (λ z. omega arith)) in
        let here : ops_of (1 + length front) (rs ++ r ∷ []) ≡ ops_of (1 + length front) rs ++ op ∷ [] =
        ops_of-here (1 + length front) rs r (omega arith)
        ∙ ap (λ o. ops_of (1 + length front) rs ++ option_to_list o) g in
        ap (λ ns. blocks_from 1 ns (rs ++ r ∷ [])) (names-op rs r op h g some ∙ e)
        ∙ blocks-snoc 1 front name (rs ++ r ∷ [])
        ∙ ap₂ (λ bs ops. bs ++ record { name = name; ops = ops } ∷ []) before here
        ∙ sym (ap (λ ns. with_optional_op (Some op) (blocks_from 1 ns rs)) e
        ∙ ap (with_optional_op (Some op)) (blocks-snoc 1 front name rs)
        ∙ with_optional-snoc (Some op) (blocks_from 1 front rs)
        (record { name = name; ops = ops_of (1 + length front) rs }))

file-by : (rs : List Reading) (r : Reading) (label : Option (List ℕ)) (op : Option Op) → r.label ≡ label → r.op ≡ op
    → file_of (rs ++ r ∷ []) ≡ with_line label op (file_of rs)
file-by rs r label op h g = grind (arith, file-empty, file-first, file-label, file-op, none_or_some)

-- the file of one line more
pub file-snoc : (rs : List Reading) (r : Reading) → file_of (rs ++ r ∷ []) ≡ with_line r.label r.op (file_of rs)
file-snoc rs r = file-by rs r r.label r.op refl refl

pub last-file : (rs : List Reading) → last_ops (file_of rs) ≡ ops_of (block_count rs) rs
unfolding file_of
last-file rs = elim (ends (block_names rs)) [
  | Nowhere e ↦ (let none : block_count rs ≡ 0 = sym (length-names rs) ∙ ap length e in
      ap (λ ns. last_ops (blocks_from 1 ns rs)) e ∙ sym (ap (λ k. ops_of k rs) none ∙ (no_more rs).0))
  | With front name e ↦ (let len : block_count rs ≡ length front + 1 = sym (length-names rs) ∙ ap length e
      ∙ length-append front (name ∷ []) in
      ap (λ ns. last_ops (blocks_from 1 ns rs)) e ∙ ap last_ops (blocks-snoc 1 front name rs)
      ∙ last-snoc (blocks_from 1 front rs) (record { name = name; ops = ops_of (1 + length front) rs })
      ∙ ap (λ k. ops_of k rs) (omega arith))
]
