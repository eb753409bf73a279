-- The answer of lines: from line to line the blocks grow, or a line is refused.
use Rattle.std.specs.Prelude.{◌≡◌, ◌≢◌, ℕ, ◌+◌, if◌then◌else◌, Option, Some, None, Result, Ok, Err, List, [], ◌∷◌}
use Rattle.std.specs.Borrow.{Bor}
use Rattle.iloc_ops.specs.declared.op.Op.{Op}
use Rattle.iloc_ops.specs.declared.file.Block.{Block}
use Rattle.iloc_text.specs.declared.fault.ReadFault.{ReadFault}
use Rattle.iloc_text.specs.declared.fault.ReadFault.TheVariants.{BadLine, NumberTooLarge, NoMemory}
use Rattle.iloc_text.specs.Lines.{lines_of}
use Rattle.iloc_text.specs.Steps.Scan.{line_at, is_within}
use Rattle.iloc_text.specs.Steps.Growth.{with_line, limited}

-- `blocks` with line `n` after them, in which the first argument was found
abbrev pub verdict_on : Option (Option (List ℕ) × Option Op) → List Block → ℕ → Result (List Block) ReadFault
verdict_on None blocks n = Err (BadLine n)
verdict_on (Some found) blocks n =
    if is_within found.1 then limited (with_line found.0 found.1 blocks) n else Err (NumberTooLarge n)

-- `blocks` with `line` after them, the line numbered `n`
abbrev pub verdict : List Block → List ℕ → ℕ → Result (List Block) ReadFault
verdict blocks line n = verdict_on (line_at line) blocks n

-- `blocks` with the lines from line `n` on after them
abbrev pub answer_from : List Block → ℕ → List (List ℕ) → Result (List Block) ReadFault
answer_from blocks n [] = Ok blocks
answer_from blocks n (line ∷ lines) = elim (verdict blocks line n) as (λ _. Result (List Block) ReadFault)
    [ Ok grown ↦ answer_from grown (n + 1) lines | Err fault ↦ Err fault ]

-- the same, where line n has this verdict
abbrev pub on_verdict : ℕ → List (List ℕ) → Result (List Block) ReadFault → Result (List Block) ReadFault
on_verdict n lines v = elim v as (λ _. Result (List Block) ReadFault)
    [ Ok grown ↦ answer_from grown (n + 1) lines | Err fault ↦ Err fault ]

-- What comes of reading lines with this answer: `Stand` holds of the blocks.
abbrev pub Answered : {A : Type 0} → (List Block → Type 0) → Result (List Block) ReadFault → Result A ReadFault → Type 0
Answered Stand wanted (Ok done) = (blocks : List Block) × (wanted ≡ Ok blocks) × Stand blocks
Answered Stand wanted (Err fault) = fault ≢ NoMemory → wanted ≡ Err fault

-- After so many lines, these are left to read: `Stand` holds of the blocks so far, whose answer on these lines is the one wanted.
abbrev pub Leaves : (List Block → Type 0) → Result (List Block) ReadFault → ℕ → List (List ℕ) → Type 0
Leaves Stand wanted count lines = (blocks : List Block) × Stand blocks × (wanted ≡ answer_from blocks (count + 1) lines)

-- What comes of reading the lines at the front of a text with this answer: the text behind them, and how many lines were read.
abbrev pub FrontAnswered : (List Block → Type 0) → Result (List Block) ReadFault → Result (Bor (List ℕ) × ℕ) ReadFault → Type 0
FrontAnswered Stand wanted (Ok left) = Leaves Stand wanted left.1 (lines_of left.0.now)
FrontAnswered Stand wanted (Err fault) = fault ≢ NoMemory → wanted ≡ Err fault
