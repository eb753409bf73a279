-- The parts of a text are read apart as they are in the text.
use Rattle.iloc_text.proofs.Common.{◌≡◌, ℕ, suc, ◌+◌, ◌<◌, ◌≤◌, true, false, ◌⊎◌, List, [], ◌∷◌, ◌++◌, length, is_some, nat_lt, Some, Ok, Err, Option, Result, sym, refl, ap, ◌∙◌, ap₂, inl, inr, append_assoc, append-nil, arith, length-append, nat_tests, onto_first, MAX_BLOCKS, MAX_OPS, Block, Op, Denotes, Reads, lines_of, BeginsLabelled, last_ops, limited, with_line, with_op, with_optional_op, line_at, answer_from, on_verdict, verdict, verdict_on, ReadFault}
use Rattle.iloc_text.proofs.Splitting.{lines_are}
use Rattle.iloc_text.proofs.Answer.{reads_verdict, lines_are_of, file_answer}
use Rattle.iloc_text.proofs.Reading.{answer_begins}
use Rattle.iloc_text.proofs.Growing.{length-with_optional, length-opened}

-- The lines of both parts

onto_first_of : (c : ℕ) (ls ms : List (List ℕ)) → 0 < length ls → onto_first c (ls ++ ms) ≡ onto_first c ls ++ ms
onto_first_of c [] ms some = absurd (omega arith)
onto_first_of c (l ∷ ls) ms some = refl

pub lines_of_both : (front back : List ℕ) → lines_of (front ++ 10 ∷ back) ≡ lines_of front ++ lines_of back
lines_of_both [] back = refl
lines_of_both (c ∷ cs) back = grind (arith, lines_are, onto_first_of, lines_of_both cs back)

-- The answer of both

pub answer_of_both : (blocks out : List Block) (n : ℕ) (ls ms : List (List ℕ)) → answer_from blocks n ls ≡ Ok out
    → answer_from blocks n (ls ++ ms) ≡ answer_from out (length ls + n) ms
answer_of_both blocks out n [] ms e =
    let same : blocks ≡ out = cc in ap₂ (λ bs m. answer_from bs m ms) same (omega arith)
answer_of_both blocks out n (l ∷ ls) ms e = by (verdict blocks l n) e (λ grown. answer_of_both grown out (n + 1) ls ms)
  where
    by : (v : Result (List Block) ReadFault) → on_verdict n ls v ≡ Ok out
        → ((grown : List Block) → answer_from grown (n + 1) ls ≡ Ok out
        → answer_from grown (n + 1) (ls ++ ms) ≡ answer_from out (length ls + (n + 1)) ms)
        → on_verdict n (ls ++ ms) v ≡ answer_from out (suc (length ls) + n) ms
    by (Ok grown) f rest = rest grown f ∙ ap (λ m. answer_from out m ms) (omega arith)
    by (Err fault) f rest = cc

-- Blocks behind others

with_op_behind : (op : Op) (front blocks : List Block) → 0 < length blocks
    → with_op op (front ++ blocks) ≡ front ++ with_op op blocks
with_op_behind op (b ∷ []) [] some = absurd (omega arith)
with_op_behind op (b ∷ c ∷ bs) blocks some = ap (λ rest. b ∷ rest) (with_op_behind op (c ∷ bs) blocks some)
with_op_behind op front blocks some = refl

last_ops_behind : (front blocks : List Block) → 0 < length blocks → last_ops (front ++ blocks) ≡ last_ops blocks
last_ops_behind (b ∷ []) [] some = absurd (omega arith)
last_ops_behind (b ∷ c ∷ bs) blocks some = last_ops_behind (c ∷ bs) blocks some
last_ops_behind front blocks some = refl

optional_op_behind : (op : Option Op) (front blocks : List Block) → 0 < length blocks
    → with_optional_op op (front ++ blocks) ≡ front ++ with_optional_op op blocks
optional_op_behind (Some op) front [] some = absurd (omega arith)
optional_op_behind (Some op) (b ∷ bs) (c ∷ cs) some = with_op_behind op (b ∷ bs) (c ∷ cs) some
optional_op_behind op front blocks some = refl

-- a line has a label, or blocks stand before it
abbrev Opens : Option (List ℕ) → List Block → Type 0
Opens label blocks = (is_some label ≡ true) ⊎ (0 < length blocks)

longer_with_line : (label : Option (List ℕ)) (op : Option Op) (blocks : List Block)
    → length blocks ≤ length (with_line label op blocks)
longer_with_line label op blocks = grind (arith, length-opened, length-with_optional)

with_line_behind : (label : Option (List ℕ)) (op : Option Op) (front blocks : List Block) → Opens label blocks
    → (with_line label op (front ++ blocks) ≡ front ++ with_line label op blocks)
    × (0 < length (with_line label op blocks))
with_line_behind label op front blocks opens = grind (arith, append_assoc, length-opened, length-with_optional, optional_op_behind)

within : (blocks grown : List Block) (m : ℕ) → limited blocks m ≡ Ok grown
    → (blocks ≡ grown) × (nat_lt MAX_OPS (length (last_ops blocks)) ≡ false)
within blocks grown m e = grind arith

-- what is within the limits stays so behind others, if all are no more than a file may have
limited_behind : (front blocks grown : List Block) (m n : ℕ) → limited blocks m ≡ Ok grown → 0 < length blocks
    → length front + length grown ≤ MAX_BLOCKS → limited (front ++ blocks) n ≡ Ok (front ++ grown)
limited_behind front blocks grown m n e some few = grind (arith, last_ops_behind, length-append, nat_tests, within)

-- Lines behind others

verdict_longer : (found : Option (Option (List ℕ) × Option Op)) (blocks grown : List Block) (m : ℕ)
    → verdict_on found blocks m ≡ Ok grown → length blocks ≤ length grown
verdict_longer found blocks grown m e = grind (arith, longer_with_line, within)

verdict_behind : (found : Option (Option (List ℕ) × Option Op)) (front blocks grown : List Block) (m n : ℕ)
    → verdict_on found blocks m ≡ Ok grown → 0 < length blocks → length front + length grown ≤ MAX_BLOCKS
    → verdict_on found (front ++ blocks) n ≡ Ok (front ++ grown)
verdict_behind found front blocks grown m n e some few = grind (arith, limited_behind, with_line_behind)

answer_longer : (blocks out : List Block) (n : ℕ) (lines : List (List ℕ)) → answer_from blocks n lines ≡ Ok out
    → length blocks ≤ length out
answer_longer blocks out n [] e = let same : blocks ≡ out = cc in omega (arith, ap length same)
answer_longer blocks out n (l ∷ ls) e =
    by (verdict blocks l n) (λ grown. verdict_longer (line_at l) blocks grown n) e
    (λ grown. answer_longer grown out (n + 1) ls)
  where
    by : (v : Result (List Block) ReadFault) → ((grown : List Block) → v ≡ Ok grown → length blocks ≤ length grown)
        → on_verdict n ls v ≡ Ok out
        → ((grown : List Block) → answer_from grown (n + 1) ls ≡ Ok out → length grown ≤ length out)
        → length blocks ≤ length out
    by (Ok grown) longer f rest = omega (arith, longer grown refl, rest grown f)
    by (Err fault) longer f rest = cc

answer_behind : (front blocks out : List Block) (m n : ℕ) (lines : List (List ℕ)) → answer_from blocks m lines ≡ Ok out
    → 0 < length blocks → length front + length out ≤ MAX_BLOCKS
    → answer_from (front ++ blocks) n lines ≡ Ok (front ++ out)
answer_behind front blocks out m n [] e some few =
    let same : blocks ≡ out = cc in ap (λ bs. Ok (front ++ bs)) same
answer_behind front blocks out m n (l ∷ ls) e some few =
    by (verdict blocks l m) refl e (λ grown. answer_behind front grown out (m + 1) (n + 1) ls)
  where
    by : (v : Result (List Block) ReadFault) → verdict blocks l m ≡ v → on_verdict m ls v ≡ Ok out
        → ((grown : List Block) → answer_from grown (m + 1) ls ≡ Ok out → 0 < length grown
        → length front + length out ≤ MAX_BLOCKS → answer_from (front ++ grown) (n + 1) ls ≡ Ok (front ++ out))
        → on_verdict n ls (verdict (front ++ blocks) l n) ≡ Ok (front ++ out)
    by (Ok grown) v f rest =
        let here = verdict_longer (line_at l) blocks grown m v in
        let there = answer_longer grown out (m + 1) ls f in
        ap (on_verdict n ls) (verdict_behind (line_at l) front blocks grown m n v some (omega arith))
        ∙ rest grown f (omega arith) few
    by (Err fault) v f rest = cc

labelled_behind : (front out : List Block) (line : List ℕ) (more : List (List ℕ)) (name : List ℕ) (op : Option Op) (n : ℕ)
    → Reads line (Some name) op → answer_from [] 1 (line ∷ more) ≡ Ok out
    → length front + length out ≤ MAX_BLOCKS → answer_from front n (line ∷ more) ≡ Ok (front ++ out)
labelled_behind front out line more name op n reads e few =
    by (limited (with_line (Some name) op []) 1) refl
    (sym (ap (on_verdict 1 more) (reads_verdict [] line 1 (Some name) op reads)) ∙ e)
  where
    by : (v : Result (List Block) ReadFault) → limited (with_line (Some name) op []) 1 ≡ v → on_verdict 1 more v ≡ Ok out
        → answer_from front n (line ∷ more) ≡ Ok (front ++ out)
    by (Ok grown) v f =
        let w = with_line_behind (Some name) op front [] (inl refl) in
        let there = answer_longer grown out 2 more f in
        let size = ap length (within (with_line (Some name) op []) grown 1 v).0 in
        let some = w.1 in
        ap (on_verdict n more) (reads_verdict front line n (Some name) op reads
        ∙ ap (λ bs. limited (with_line (Some name) op bs) n) (sym (append-nil front))
        ∙ ap (λ bs. limited bs n) w.0
        ∙ limited_behind front (with_line (Some name) op []) grown 1 n v some (omega arith))
        ∙ answer_behind front grown out 2 (n + 1) more f (omega arith) few
    by (Err fault) v f = cc

-- A part with these blocks

first_answer : (text : List ℕ) (blocks : List Block) → Denotes text blocks → answer_from [] 1 (lines_of text) ≡ Ok blocks
first_answer text blocks d = sym (answer_begins text d.short) ∙ file_answer text blocks d

pub denoted_behind : (front : List Block) (part : List ℕ) (blocks : List Block) (n : ℕ) → Denotes part blocks
    → ((length front ≡ 0) × (n ≡ 1)) ⊎ BeginsLabelled part → length front + length blocks ≤ MAX_BLOCKS
    → answer_from front n (lines_of part) ≡ Ok (front ++ blocks)
denoted_behind [] part blocks n d (inl first) few =
    ap (λ m. answer_from [] m (lines_of part)) first.1 ∙ first_answer part blocks d
denoted_behind (b ∷ front) part blocks n d (inl first) few = absurd (omega (arith, first.0))
denoted_behind front part blocks n d (inr begins) few =
    let lines = lines_are_of part (begins.line ∷ begins.more) begins.are_lines in
    ap (answer_from front n) lines
    ∙ labelled_behind front blocks begins.line begins.more begins.name begins.op n begins.reads
    (ap (answer_from [] 1) (sym lines) ∙ first_answer part blocks d) few
