-- How the blocks of a file grow by one line.
use Rattle.std.specs.Prelude.{◌≡◌, ◌≢◌, ℕ, nat_lt, if◌then◌else◌, Option, Some, None, Result, Ok, Err, List, [], ◌∷◌, ◌++◌, length}
use Rattle.iloc_ops.specs.declared.op.Op.{Op}
use Rattle.iloc_ops.specs.declared.file.Block.{Block}
use Rattle.iloc_text.specs.declared.fault.ReadFault.{ReadFault}
use Rattle.iloc_text.specs.declared.fault.ReadFault.TheVariants.{TooManyBlocks, TooManyOperations, NoMemory}
use Rattle.iloc_ops.specs.Limits.{MAX_BLOCKS, MAX_OPS}

-- a block without operations comes after the others
abbrev pub opened : Option (List ℕ) → List Block → List Block
opened name blocks = blocks ++ record { name = name; ops = [] } ∷ []

-- the operation is the last one of the last block
abbrev pub with_op : Op → List Block → List Block
with_op op [] = []
with_op op (b ∷ []) = record { name = b.name; ops = b.ops ++ op ∷ [] } ∷ []
with_op op (b ∷ c ∷ bs) = b ∷ with_op op (c ∷ bs)

abbrev pub with_optional_label : Option (List ℕ) → List Block → List Block
with_optional_label None blocks = blocks
with_optional_label (Some name) blocks = opened (Some name) blocks

abbrev pub with_optional_op : Option Op → List Block → List Block
with_optional_op None blocks = blocks
with_optional_op (Some op) [] = with_op op (opened None [])
with_optional_op (Some op) (b ∷ bs) = with_op op (b ∷ bs)

-- a label opens a block; an operation goes to the last block, or opens the unnamed one
abbrev pub with_line : Option (List ℕ) → Option Op → List Block → List Block
with_line label op blocks = with_optional_op op (with_optional_label label blocks)

-- the operations of the last block
abbrev pub last_ops : List Block → List Op
last_ops [] = []
last_ops (b ∷ []) = b.ops
last_ops (b ∷ c ∷ bs) = last_ops (c ∷ bs)

-- the blocks, or what is too much with this line: a block, or an operation of the last one
abbrev pub limited : List Block → ℕ → Result (List Block) ReadFault
limited blocks line =
    if nat_lt MAX_BLOCKS (length blocks) then Err (TooManyBlocks line)
    else (if nat_lt MAX_OPS (length (last_ops blocks)) then Err (TooManyOperations line) else Ok blocks)

-- What comes of a step that makes these blocks wanted, on this line: at its end `Stand` holds of them.
abbrev pub Grows : (List Block → Type 0) → List Block → ℕ → Result (Unit {0}) ReadFault → Type 0
Grows Stand wanted line (Ok done) = Stand wanted
Grows Stand wanted line (Err fault) = fault ≢ NoMemory → limited wanted line ≡ Err fault
