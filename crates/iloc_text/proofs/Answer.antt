-- A text has one answer: what it denotes is the answer of a function, which goes from line to line.
use Rattle.iloc_text.proofs.Common.{◌≡◌, ℕ, zero, suc, ◌+◌, ◌<◌, ◌≤◌, Bool, true, false, cond, List, [], ◌∷◌, ◌++◌, map, length, get_or, IfSome, nat_lt, Some, None, Ok, Err, Option, Result, option_map, sym, refl, ap, ◌∙◌, subst, ap₂, append_assoc, append-nil, arith, nat_tests, AllByRecursion, join_with_byte, MAX_INPUT, Block, Op, AreLines, Denotes, HasFirstFault, HasNoLineEnd, IsFaulty, IsRefused, IsWithin, ReadAs, Reading, file_of, fronts, HasReading, HasWideReading, Reads, TextsHaveOneAnswer, is_line_end, lines_of, limited, with_line, is_within, line_at, answer_from, on_verdict, verdict, verdict_on, ReadFault, BadLine, InputTooLong, NumberTooLarge, TooManyBlocks, TooManyOperations}
use Rattle.std.proofs.lemmas.List.Splits.{slice_split_none, slice_split_at}
use Rattle.iloc_text.proofs.Names.{capped_op}
use Rattle.iloc_text.proofs.Lines.{found_reads, FindsLine, line_read, line_again, line_good}
use Rattle.iloc_text.proofs.BlockLists.{length-file, last-file, file-snoc}
use Rattle.iloc_text.proofs.Growing.{all_within, many_blocks, many_operations}
use Rattle.iloc_text.proofs.Splitting.{no_line_end}

-- The lines of a text

no_end : (line : List ℕ) → HasNoLineEnd line → (k : ℕ) (d : ℕ) → k < length line → is_line_end (get_or line k d) ≡ false
no_end [] h k d lt = absurd (omega arith)
no_end (c ∷ cs) h zero d lt = no_line_end c h.0
no_end (c ∷ cs) h (suc k) d lt = no_end cs h.1 k d (omega arith)

lines_joined : (lines : List (List ℕ)) → 0 < length lines → AllByRecursion HasNoLineEnd lines
    → lines_of (join_with_byte 10 lines) ≡ lines
lines_joined [] some each = absurd (omega arith)
lines_joined (l ∷ []) some each = slice_split_none is_line_end l (no_end l each.0)
lines_joined (l ∷ m ∷ ls) some each = grind (arith, no_end, slice_split_at, lines_joined (m ∷ ls) (omega arith) each.1)

pub lines_are_of : (input : List ℕ) (lines : List (List ℕ)) → AreLines input lines → lines_of input ≡ lines
lines_are_of input lines a = ap lines_of a.whole ∙ lines_joined lines a.some a.each

-- The answer of one line, of the lines, and of a text

abbrev pub answer : List ℕ → Result (List Block) ReadFault
answer input = cond (nat_lt MAX_INPUT (length input)) (Err InputTooLong) (answer_from (file_of []) 1 (lines_of input))

pub answer_short : (input : List ℕ) → length input ≤ MAX_INPUT → answer input ≡ answer_from (file_of []) 1 (lines_of input)
answer_short input short = let small : nat_lt MAX_INPUT (length input) ≡ false = grind (arith, nat_tests) in
    rw small refl

-- What the answer of one line is

pub reads_verdict : (blocks : List Block) (line : List ℕ) (n : ℕ) (label : Option (List ℕ)) (op : Option Op)
    → Reads line label op → verdict blocks line n ≡ limited (with_line label op blocks) n
reads_verdict blocks line n label op h = let f = found_reads line label op h in
    ap (λ o. verdict_on o blocks n) f.0
    ∙ ap (λ b. cond b (limited (with_line label op blocks) n) (Err (NumberTooLarge n))) f.1

file_verdict : (rs : List Reading) (line : List ℕ) (n : ℕ) (r : Reading) → Reads line r.label r.op
    → verdict (file_of rs) line n ≡ limited (file_of (rs ++ r ∷ [])) n
file_verdict rs line n r h = reads_verdict (file_of rs) line n r.label r.op h
    ∙ ap (λ bs. limited bs n) (sym (file-snoc rs r))

within_verdict : (rs : List Reading) (line : List ℕ) (n : ℕ) (r : Reading) → Reads line r.label r.op
    → IsWithin (rs ++ r ∷ []) → verdict (file_of rs) line n ≡ Ok (file_of (rs ++ r ∷ []))
within_verdict rs line n r h w =
    let blocks = w.blocks in
    let operations = w.operations in
    let all = rs ++ r ∷ [] in
    file_verdict rs line n r h ∙ all_within (file_of all) n (omega (arith, length-file all))
    (omega (arith, ap length (last-file all)))

pub bad_verdict : (blocks : List Block) (line : List ℕ) (n : ℕ) → (HasWideReading line → ⊥)
    → verdict blocks line n ≡ Err (BadLine n)
bad_verdict blocks line n h = by (line_at line) (line_read line)
  where
    by : (o : Option (Option (List ℕ) × Option Op)) → IfSome o (FindsLine line)
        → verdict_on o blocks n ≡ Err (BadLine n)
    by None f = refl
    by (Some found) f = absurd (h (found.0, f.0, f.1))

pub large_verdict : (blocks : List Block) (line : List ℕ) (n : ℕ) → HasWideReading line → (HasReading line → ⊥)
    → verdict blocks line n ≡ Err (NumberTooLarge n)
large_verdict blocks line n wide none =
    let found = line_again line wide.0 wide.1 wide.2 in
    let op = option_map capped_op wide.1 in
    ap (λ o. verdict_on o blocks n) found ∙ by (is_within op) (line_good line wide.0 op found)
  where
    by : (b : Bool) → (b ≡ true → Reads line wide.0 (option_map capped_op wide.1))
        → cond b (limited (with_line wide.0 (option_map capped_op wide.1) blocks) n) (Err (NumberTooLarge n))
        ≡ Err (NumberTooLarge n)
    by true good = absurd (none (wide.0, option_map capped_op wide.1, good refl))
    by false good = refl

faulty_verdict : (rs : List Reading) (line : List ℕ) (n : ℕ) (fault : ReadFault) → IsFaulty rs line n fault
    → verdict (file_of rs) line n ≡ Err fault
faulty_verdict rs line n (BadLine k) h =
    bad_verdict (file_of rs) line n h.1 ∙ ap (λ m. Err (BadLine m)) (sym h.0)
faulty_verdict rs line n (NumberTooLarge k) h =
    large_verdict (file_of rs) line n h.1 h.2 ∙ ap (λ m. Err (NumberTooLarge m)) (sym h.0)
faulty_verdict rs line n (TooManyBlocks k) h =
    let all = rs ++ h.1.reading ∷ [] in
    let more = h.1.blocks in
    file_verdict rs line n h.1.reading h.1.read ∙ many_blocks (file_of all) n (omega (arith, length-file all))
    ∙ ap (λ m. Err (TooManyBlocks m)) (sym h.0)
faulty_verdict rs line n (TooManyOperations k) h =
    let all = rs ++ h.1.reading ∷ [] in
    let most = h.1.blocks in
    let more = h.1.operations in
    file_verdict rs line n h.1.reading h.1.read
    ∙ many_operations (file_of all) n (omega (arith, length-file all)) (omega (arith, ap length (last-file all)))
    ∙ ap (λ m. Err (TooManyOperations m)) (sym h.0)
faulty_verdict rs line n fault h = absurd h

-- What is denoted is the answer

all-behind : (front : List Reading) (r : Reading) (fs : List (List Reading))
    → AllByRecursion (λ f. IsWithin (front ++ f)) (map (λ f. r ∷ f) fs)
    → AllByRecursion (λ f. IsWithin ((front ++ r ∷ []) ++ f)) fs
all-behind front r [] h = tt
all-behind front r (f ∷ fs) h = (subst IsWithin (sym (append_assoc front (r ∷ []) f)) h.0, all-behind front r fs h.1)

answered : (front rs : List Reading) (n : ℕ) (lines rest : List (List ℕ)) → ReadAs lines rs
    → AllByRecursion (λ f. IsWithin (front ++ f)) (fronts rs)
    → answer_from (file_of front) n (lines ++ rest) ≡ answer_from (file_of (front ++ rs)) (length lines + n) rest
answered front [] n [] rest h w =
    ap₂ (λ f m. answer_from (file_of f) m rest) (sym (append-nil front)) (omega arith)
answered front (r ∷ rs) n (l ∷ ls) rest h w =
    ap (on_verdict n (ls ++ rest)) (within_verdict front l n r h.0 w.0)
    ∙ answered (front ++ r ∷ []) rs (n + 1) ls rest h.1 (all-behind front r (fronts rs) w.1)
    ∙ ap₂ (λ f m. answer_from (file_of f) m rest) (append_assoc front (r ∷ []) rs) (omega arith)
answered front rs n lines rest h w = absurd h

pub file_answer : (input : List ℕ) (blocks : List Block) → Denotes input blocks → answer input ≡ Ok blocks
file_answer input blocks d = answer_short input d.short
    ∙ ap (answer_from (file_of []) 1) (lines_are_of input d.lines d.are_lines ∙ sym (append-nil d.lines))
    ∙ answered [] d.readings 1 d.lines [] d.read d.none_faulty ∙ ap (λ bs. Ok bs) (sym d.file)

fault_answer : (input : List ℕ) (fault : ReadFault) → HasFirstFault input fault → answer input ≡ Err fault
fault_answer input fault h = answer_short input h.short
    ∙ ap (answer_from (file_of []) 1) (lines_are_of input (h.before ++ h.line ∷ h.after) h.are_lines)
    ∙ answered [] h.readings 1 h.before (h.line ∷ h.after) h.read h.none_faulty
    ∙ ap (on_verdict (length h.before + 1) h.after)
    (faulty_verdict h.readings h.line (length h.before + 1) fault h.faulty)

refusal_answer : (input : List ℕ) (fault : ReadFault) → IsRefused input fault → answer input ≡ Err fault
refusal_answer input fault h = grind (arith, fault_answer, nat_tests)

same : {r a b : Result (List Block) ReadFault} → r ≡ a → r ≡ b → a ≡ b
same e f = sym e ∙ f

pub one_answer : TextsHaveOneAnswer
one_answer = record {
  file = λ input blocks blocks' d e. let both = same (file_answer input blocks d) (file_answer input blocks' e) in cc;
  refusal = λ input fault fault' h k. let both = same (refusal_answer input fault h) (refusal_answer input fault' k) in cc;
  apart = λ input blocks fault d h. let both = same (file_answer input blocks d) (refusal_answer input fault h) in cc;
}
