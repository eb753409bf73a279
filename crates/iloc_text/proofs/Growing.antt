-- What the steps of the reader do to the blocks.
use Rattle.iloc_text.proofs.Common.{◌≡◌, ℕ, suc, ◌+◌, ◌<◌, ◌≤◌, true, List, [], ◌∷◌, ◌++◌, length, is_some, nat_lt, Some, None, Ok, Err, Option, Result, sym, refl, ap, ◌∙◌, subst₂, inl, inr, arith, length-append, nat_tests, nil_from_length, MAX_BLOCKS, MAX_OPS, Block, Op, Grows, last_ops, limited, opened, with_line, with_op, with_optional_op, AreSoFar, HasTaken, ReadFault, TooManyBlocks, TooManyOperations}
use Rattle.iloc_text.specs.declared.reader.open_block.OpenBlock.{OpenBlock}
use Rattle.iloc_text.proofs.Counts.{none_or_some}
use Rattle.iloc_text.proofs.BlockLists.{last-snoc, with_op-snoc}

-- The limits

pub all_within : (blocks : List Block) (line : ℕ) → length blocks ≤ MAX_BLOCKS → length (last_ops blocks) ≤ MAX_OPS
    → limited blocks line ≡ Ok blocks
all_within blocks line few short = grind (arith, nat_tests)

pub many_blocks : (blocks : List Block) (line : ℕ) → MAX_BLOCKS < length blocks
    → limited blocks line ≡ Err (TooManyBlocks line)
many_blocks blocks line many =
    let count : nat_lt MAX_BLOCKS (length blocks) ≡ true = grind (arith, nat_tests) in rw count refl

pub many_operations : (blocks : List Block) (line : ℕ) → length blocks ≤ MAX_BLOCKS → MAX_OPS < length (last_ops blocks)
    → limited blocks line ≡ Err (TooManyOperations line)
many_operations blocks line few many = grind (arith, nat_tests)

-- The open block

pub length-with_op : (op : Op) (bs : List Block) → length (with_op op bs) ≡ length bs
length-with_op op (x ∷ y ∷ bs) = ap suc (length-with_op op (y ∷ bs))
length-with_op op bs = refl

pub pushed_so_far : (op : Op) (done blocks : List Block) (o p : OpenBlock) → AreSoFar done o blocks → 0 < length blocks
    → p.count ≡ o.count
    → p.block ≡ record { name = o.block.name; ops = o.block.ops ++ op ∷ [] } → AreSoFar done p (with_op op blocks)
pushed_so_far op done blocks o p h some count block = grind (arith, length-with_op, with_op-snoc)

pub so_far_within : (done blocks : List Block) (o : OpenBlock) (line : ℕ) → AreSoFar done o blocks
    → limited blocks line ≡ Ok blocks
so_far_within done blocks o line h =
    let few = o.few in
    let short = o.short in
    let last : length (last_ops blocks) ≤ MAX_OPS = elim (none_or_some o.count) [
      | inl none ↦ (let e = ap (λ bs. length (last_ops bs)) (nil_from_length blocks (h.count ∙ none)) in omega arith)
      | inr some ↦ (let e = ap (λ bs. length (last_ops bs)) (h.last some) in let l = ap length (last-snoc done o.block) in
          omega arith)
    ] in
    all_within blocks line (let count = h.count in omega arith) last

pub pushed_above : (op : Op) (done blocks : List Block) (o : OpenBlock) (line : ℕ) → AreSoFar done o blocks
    → 0 < length blocks → length o.block.ops ≡ MAX_OPS
    → limited (with_op op blocks) line ≡ Err (TooManyOperations line)
pushed_above op done blocks o line h some full = grind (arith, last-snoc, length-append, length-with_op, many_operations, with_op-snoc)

pub length-opened : (name : Option (List ℕ)) (blocks : List Block) → length (opened name blocks) ≡ length blocks + 1
length-opened name blocks = length-append blocks (record { name = name; ops = [] } ∷ [])

-- the first block of all
pub opened_first : (done blocks : List Block) (o p : OpenBlock) → AreSoFar done o blocks → o.count ≡ 0 → p.count ≡ 1
    → p.block ≡ record { name = None; ops = [] } → AreSoFar done p (opened None blocks)
opened_first done blocks o p h none count block =
    let before = h.before in
    let no_block : blocks ≡ [] = nil_from_length blocks (h.count ∙ none) in
    let none_done : done ≡ [] = nil_from_length done (omega arith) in
    let same : opened None blocks ≡ done ++ p.block ∷ [] = rw (no_block, none_done, block) refl in
    record {
      before = omega (arith, ap length none_done);
      count = let empty = h.count in omega (arith, length-opened None blocks);
      last = λ _. same;
    }

-- Lines

pub with_optional-some : (op : Op) (bs : List Block) → 0 < length bs → with_optional_op (Some op) bs ≡ with_op op bs
with_optional-some op [] some = absurd (omega arith)
with_optional-some op (b ∷ bs) some = refl

pub with_optional-none : (op : Op) (bs : List Block) → length bs ≡ 0 → with_optional_op (Some op) bs
    ≡ with_op op (opened None bs)
with_optional-none op [] none = refl
with_optional-none op (b ∷ bs) none = absurd (omega arith)

pub length-with_optional : (op : Option Op) (bs : List Block) → length bs ≤ length (with_optional_op op bs)
length-with_optional (Some op) (b ∷ bs) = omega (arith, length-with_op op (b ∷ bs))
length-with_optional op bs = omega arith

-- where opening a block fails, the line as a whole has that fault
first_fails : (name : Option (List ℕ)) (op : Option Op) (blocks : List Block) (line : ℕ) (fault : ReadFault)
    → limited (opened name blocks) line ≡ Err fault
    → limited (with_optional_op op (opened name blocks)) line ≡ Err fault
first_fails name op blocks line fault e = grind (arith, all_within, last-snoc, length-with_optional, many_blocks, nat_tests)

-- an operation is added behind what was taken
pub pushed_behind : {T : Type 0} (took : T → List Block → T → Type 0) (start taker : T) (o p : OpenBlock) (op : Op)
    (blocks : List Block) (line : ℕ) (result : Result (Unit {0}) ReadFault)
    → HasTaken took start taker o blocks → ((done : List Block) → AreSoFar done o blocks
    → Grows (AreSoFar done p) (with_op op blocks) line result)
    → Grows (HasTaken took start taker p) (with_op op blocks) line result
pushed_behind took start taker o p op blocks line (Ok done) h pushed = (h.0, h.1, pushed h.0 h.2)
pushed_behind took start taker o p op blocks line (Err fault) h pushed = pushed h.0 h.2

-- the fault of an opening is that of a line with this label
pub label_fails : (Stand : List Block → Type 0) (label found : Option (List ℕ)) (op : Option Op) (blocks : List Block)
    (line : ℕ) (result : Result (Unit {0}) ReadFault) (fault : ReadFault)
    → label ≡ found → is_some found ≡ true → result ≡ Err fault → Grows Stand (opened found blocks) line (Err fault)
    → Grows Stand (with_line label op blocks) line result
label_fails Stand label None op blocks line result fault e some f g = cc
label_fails Stand label (Some name) op blocks line result fault e some f g =
    subst₂ (λ l r. Grows Stand (with_line l op blocks) line r) (sym e) (sym f)
    (λ memory. first_fails (Some name) op blocks line fault (g memory))
