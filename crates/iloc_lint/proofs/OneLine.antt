-- What a line says that is read as a text of its own.
use Rattle.iloc_lint.proofs.Common.{◌≡◌, ℕ, ◌+◌, ◌<◌, ◌≤◌, false, ◌≢◌, List, [], ◌∷◌, ◌++◌, length, is_some, slice_get, Some, None, Ok, Err, Option, option_to_list, sym, refl, ap, ◌∙◌, subst, arith, MAX_BLOCKS, MAX_INPUT, MAX_OPS, Block, Op, AreLines, Denotes, HasFirstFault, HasNoLineEnd, IsFaulty, IsRefused, ReadAs, Reading, block_count, file_of, with_line, ReadFault, BadLine, NoMemory, NumberTooLarge, TooManyBlocks, TooManyOperations}
use Rattle.iloc_text.proofs.Answer.{lines_are_of}
use Rattle.iloc_text.proofs.BlockLists.{file-snoc}
use Rattle.iloc_text.proofs.Reading.{nothing_read}
use Rattle.iloc_lint.specs.declared.alone.Content.{Content}
use Rattle.iloc_lint.specs.declared.alone.Unknown.TheVariants as unread
use Rattle.iloc_lint.specs.Steps.Alone.{said_after, unread_of, Says}
use Rattle.iloc_lint.proofs.Counted.{Starts, Goes, last_in, label_starts, first_starts, empty_goes, none_counted, none_last}

-- The one line

alone : (line : List ℕ) → HasNoLineEnd line → AreLines line (line ∷ [])
alone line h = record { some = omega arith; each = (h, tt); whole = refl }

only : (line : List ℕ) (lines : List (List ℕ)) → HasNoLineEnd line → AreLines line lines → lines ≡ line ∷ []
only line lines h are = sym (lines_are_of line lines are) ∙ lines_are_of line (line ∷ []) (alone line h)

-- What it says

-- the last block alone counts
pub said_more : (start : Content) (blocks : List Block) (b : Block)
    → said_after start (blocks ++ b ∷ []) ≡ record { labelled = is_some b.name; op = slice_get b.ops 0 }
said_more start [] b = refl
said_more start (x ∷ xs) b = said_more (record { labelled = is_some x.name; op = slice_get x.ops 0 }) xs b

abbrev pub nothing_said : Content
nothing_said = record { labelled = false; op = None }

line_said : (label : Option (List ℕ)) (op : Option Op)
    → said_after nothing_said (with_line label op []) ≡ record { labelled = is_some label; op = op }
line_said None None = refl
line_said _ None = refl
line_said _ _ = refl

one_said : (r : Reading) → said_after nothing_said (file_of (r ∷ [])) ≡ record { labelled = is_some r.label; op = r.op }
one_said r = ap (said_after nothing_said) (file-snoc [] r ∙ ap (with_line r.label r.op) nothing_read) ∙ line_said r.label r.op

pub line_says : (line : List ℕ) (blocks : List Block) (said : Content) → HasNoLineEnd line → Denotes line blocks
    → said ≡ said_after nothing_said blocks → Says line (Ok said)
line_says line blocks said h d e = grind (arith, is_some, one_said, only)

-- Why it is refused

one_fault : (line : List ℕ) (fault : ReadFault) → HasNoLineEnd line → HasFirstFault line fault → IsFaulty [] line 1 fault
one_fault line fault h f = by f.before f.line f.after f.readings (only line (f.before ++ f.line ∷ f.after) h f.are_lines)
    f.read f.faulty
  where
    by : (before : List (List ℕ)) (l : List ℕ) (after : List (List ℕ)) (rs : List Reading)
        → before ++ l ∷ after ≡ line ∷ [] → ReadAs before rs → IsFaulty rs l (length before + 1) fault
        → IsFaulty [] line 1 fault
    by [] l after [] e read bad = let same : l ≡ line = cc in subst (λ x. IsFaulty [] x 1 fault) same bad
    by [] l after (r ∷ rs) e read bad = absurd read
    by (x ∷ []) l after rs e read bad = cc
    by (x ∷ y ∷ xs) l after rs e read bad = cc

pub bad_alone : (line : List ℕ) (n : ℕ) → HasNoLineEnd line → IsRefused line (BadLine n) → Says line (Err unread.Bad)
bad_alone line n h f = (one_fault line (BadLine n) h f).1

pub large_alone : (line : List ℕ) (n : ℕ) → HasNoLineEnd line → IsRefused line (NumberTooLarge n)
    → Says line (Err unread.TooLarge)
large_alone line n h f = let fault = one_fault line (NumberTooLarge n) h f in (fault.1, fault.2)

-- one line is never too much
option_few : {A : Type 0} (o : Option A) → length (option_to_list o) ≤ 1
option_few None = omega arith
option_few (Some x) = omega arith

abbrev Few : Reading → Type 0
Few r = (block_count (r ∷ []) ≤ 1) × (last_in (r ∷ []) ≤ 1)

few : (r : Reading) → Few r
few r = by r.label r.op refl refl
  where
    starts : Starts [] r → Few r
    starts s = let a = s.blocks in let b = s.last in
        (omega (arith, none_counted), omega (arith, option_few r.op))

    goes : Goes [] r → Few r
    goes s = let a = s.blocks in let b = s.last in
        (omega (arith, none_counted), omega (arith, none_last, option_few r.op))

    by : (label : Option (List ℕ)) (op : Option Op) → r.label ≡ label → r.op ≡ op → Few r
    by (Some name) op h g = starts (label_starts [] r name h)
    by None None h g = goes (empty_goes [] r h g)
    by None (Some op) h g = starts (first_starts [] r op h g none_counted)

pub blocks_alone : (line : List ℕ) (n : ℕ) → HasNoLineEnd line → IsRefused line (TooManyBlocks n) → ⊥
blocks_alone line n h f = let fault = (one_fault line (TooManyBlocks n) h f).1 in
    let few = (few fault.reading).0 in
    let many : MAX_BLOCKS < block_count (fault.reading ∷ []) = fault.blocks in omega arith

pub operations_alone : (line : List ℕ) (n : ℕ) → HasNoLineEnd line → IsRefused line (TooManyOperations n) → ⊥
operations_alone line n h f = let fault = (one_fault line (TooManyOperations n) h f).1 in
    let few = (few fault.reading).1 in
    let many : MAX_OPS < last_in (fault.reading ∷ []) = fault.operations in omega arith

-- what is known of a line that is refused as a text of its own
pub unread_says : (line : List ℕ) (fault : ReadFault) → HasNoLineEnd line → length line ≤ MAX_INPUT
    → (fault ≢ NoMemory → IsRefused line fault) → Says line (Err (unread_of fault))
unread_says line fault h short f = grind (arith, bad_alone, blocks_alone, large_alone, operations_alone)
