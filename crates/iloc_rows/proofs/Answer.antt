-- A text has one answer.
use Rattle.iloc_rows.proofs.Common.{◌≡◌, ℕ, ◌+◌, ◌<◌, ◌≤◌, Bool, true, false, ◌⊎◌, List, [], ◌∷◌, ◌++◌, length, Some, None, sym, refl, ap, ◌∙◌, subst, ap₂, subst₂, inl, inr, append_assoc, append-nil, arith, join_with_byte, MAX_INPUT, Block, one_said, AreLines, Said, Says, BadLine, InputTooLong, TooManyOperations, AllFit, Fits, is_of_block, proposals_of, BlocksAreRefused, BlocksEnd, Denotes, HasNoBlocks, HaveFirstFault, HoldsTooManyOperations, IsFaulty, IsOfNoBlock, IsRefused, RowsAreRefused, StartWithSchedule, TellAll, Tells, Told, read, unread, RowsFault, NoBlocks, NoSuchBlock, Read, Proposed}
use Rattle.iloc_text.specs.declared.fault.ReadFault.{ReadFault}
use Rattle.iloc_text.specs.Files as files
use Rattle.iloc_text.proofs.Answer.{lines_are_of, one_answer}
use Rattle.iloc_rows.specs.Names.{misnamed}
use Rattle.iloc_rows.specs.Laws as laws

-- Where the blocks end

same_parts : (b a c d : List (List ℕ)) → b ++ a ≡ c ++ d → BlocksEnd b a → BlocksEnd c d → (b ≡ c) × (a ≡ d)
same_parts [] a [] d e h k = (refl, e)
same_parts [] a (y ∷ ys) d e h k = absurd (k.none.0 (subst StartWithSchedule e h.first))
same_parts (x ∷ xs) a [] d e h k = absurd (h.none.0 (subst StartWithSchedule (sym e) k.first))
same_parts (x ∷ xs) a (y ∷ ys) d e h k =
    let one : x ≡ y = cc in
    let rest : xs ++ a ≡ ys ++ d = cc in
    let more = same_parts xs a ys d rest (record { none = h.none.1; first = h.first })
    (record { none = k.none.1; first = k.first }) in
    (ap₂ (λ l ls. l ∷ ls) one more.0, more.1)

same_split : (input : List ℕ) (b a c d : List (List ℕ)) → AreLines input (b ++ a) → AreLines input (c ++ d)
    → BlocksEnd b a → BlocksEnd c d → (b ≡ c) × (a ≡ d)
same_split input b a c d l m h k =
    same_parts b a c d (sym (lines_are_of input (b ++ a) l) ∙ lines_are_of input (c ++ d) m) h k

-- What lines tell

-- a line tells one thing at most
-- what is said by a line is the head of one block by another name, or of none
one_turn : (blocks : List Block) (line : List ℕ) (s s' : Said) → Says line s → Says line s' → misnamed blocks s ≡ misnamed blocks s'
one_turn blocks line s s' h k = ap (misnamed blocks) (one_said line s s' h k)

one_told : (blocks : List Block) (n : ℕ) (line : List ℕ) (t t' : Told) → Tells blocks n line t → Tells blocks n line t' → t ≡ t'
one_told blocks n line (read s) (read s') h k = ap read (one_said line s s' h.0 k.0)
one_told blocks n line (read s) (unread None m text) h k = absurd (k.2 (s, h.0))
one_told blocks n line (read s) (unread (Some j) m text) h k =
    absurd (let same : None ≡ Some j = sym h.1 ∙ one_turn blocks line s k.2.0 h.0 k.2.1 ∙ k.2.2 in cc)
one_told blocks n line (unread None m text) (read s) h k = absurd (h.2 (s, k.0))
one_told blocks n line (unread (Some j) m text) (read s) h k =
    absurd (let same : None ≡ Some j = sym k.1 ∙ one_turn blocks line s h.2.0 k.0 h.2.1 ∙ h.2.2 in cc)
one_told blocks n line (unread None m text) (unread None m' text') h k = ap₂ (unread None) (h.0 ∙ sym k.0) (h.1 ∙ sym k.1)
one_told blocks n line (unread None m text) (unread (Some j) m' text') h k = absurd (h.2 (k.2.0, k.2.1))
one_told blocks n line (unread (Some j) m text) (unread None m' text') h k = absurd (k.2 (h.2.0, h.2.1))
one_told blocks n line (unread (Some j) m text) (unread (Some j') m' text') h k =
    let same : Some j ≡ Some j' = sym h.2.2 ∙ one_turn blocks line h.2.0 k.2.0 h.2.1 k.2.1 ∙ k.2.2 in
    ap (λ turn. unread turn m text) same ∙ ap₂ (unread (Some j')) (h.0 ∙ sym k.0) (h.1 ∙ sym k.1)

same_told : (blocks : List Block) (n : ℕ) (lines : List (List ℕ)) (ss ts : List Told) → TellAll blocks n lines ss
    → TellAll blocks n lines ts → ss ≡ ts
same_told blocks n [] [] [] h k = refl
same_told blocks n [] (s ∷ ss) ts h k = absurd h
same_told blocks n (l ∷ ls) [] ts h k = absurd h
same_told blocks n (l ∷ ls) (s ∷ ss) (t ∷ ts) h k =
    ap₂ (λ x xs. x ∷ xs) (one_told blocks (n + 1) l s t h.0 k.0) (same_told blocks (n + 1) ls ss ts h.1 k.1)
same_told blocks n lines ss ts h k = absurd k

-- below the same blocks the same lines tell the same
tell_same : {blocks blocks' : List Block} {n n' : ℕ} {lines lines' : List (List ℕ)} (ss : List Told)
    → blocks ≡ blocks' → n ≡ n' → lines ≡ lines' → TellAll blocks n lines ss → TellAll blocks' n' lines' ss
tell_same {blocks} {blocks'} {n} {n'} {lines} {lines'} ss same number others tell =
    subst (λ bs. TellAll bs n' lines' ss) same (subst₂ (λ m ls. TellAll blocks m ls ss) number others tell)

-- Faults

-- a line that is of no block is of none, whatever it tells
of_none : {blocks : List Block} {ss : List Told} {line : List ℕ} {n : ℕ} {b : Bool} (s : Told) → Tells blocks n line s
    → IsOfNoBlock blocks ss line n b → is_of_block blocks ss s ≡ false
of_none {blocks} {ss} {line} {n} {b} s h k = ap (is_of_block blocks ss) (one_told blocks n line s k.told h k.tells) ∙ k.of_none

-- so it makes no operations of a block
not_many : {blocks : List Block} {ss : List Told} {line : List ℕ} {n : ℕ} {b : Bool}
    → HoldsTooManyOperations blocks ss line n → IsOfNoBlock blocks ss line n b → ⊥
not_many {blocks} {ss} {line} {n} {b} h k =
    let there = h.of_block in
    let none = of_none h.told h.tells k in cc

-- and it can be read or not
not_both : {blocks : List Block} {ss : List Told} {line : List ℕ} {n : ℕ}
    → IsOfNoBlock blocks ss line n true → IsOfNoBlock blocks ss line n false → ⊥
not_both h k = grind (arith, one_told)

-- a line that fits has no fault
no_fault : (blocks : List Block) (ss : List Told) (line : List ℕ) (n : ℕ) (fault : RowsFault) (s : Told)
    → Tells blocks n line s
    → Fits blocks ss s → IsFaulty blocks ss line n fault → ⊥
no_fault blocks ss line n fault s h f k = grind (arith, of_none, one_told)

-- one line has one fault at most
same_fault : (blocks : List Block) (ss : List Told) (line : List ℕ) (n : ℕ) (fault fault' : RowsFault)
    → IsFaulty blocks ss line n fault → IsFaulty blocks ss line n fault' → fault ≡ fault'
same_fault blocks ss line n (Read (BadLine m)) (Read (BadLine j)) h k = ap (λ i. Read (BadLine i)) (h.0 ∙ sym k.0)
same_fault blocks ss line n (Read (BadLine m)) (Read (TooManyOperations j)) h k = absurd (not_many k.1 h.1)
same_fault blocks ss line n (Read (BadLine m)) (NoSuchBlock j) h k = absurd (not_both h.1 k.1)
same_fault blocks ss line n (Read (TooManyOperations m)) (Read (BadLine j)) h k = absurd (not_many h.1 k.1)
same_fault blocks ss line n (Read (TooManyOperations m)) (Read (TooManyOperations j)) h k =
    ap (λ i. Read (TooManyOperations i)) (h.0 ∙ sym k.0)
same_fault blocks ss line n (Read (TooManyOperations m)) (NoSuchBlock j) h k = absurd (not_many h.1 k.1)
same_fault blocks ss line n (NoSuchBlock m) (Read (BadLine j)) h k = absurd (not_both k.1 h.1)
same_fault blocks ss line n (NoSuchBlock m) (Read (TooManyOperations j)) h k = absurd (not_many k.1 h.1)
same_fault blocks ss line n (NoSuchBlock m) (NoSuchBlock j) h k = ap (λ i. NoSuchBlock i) (h.0 ∙ sym k.0)
same_fault blocks ss line n _ _ h k = grind arith

-- a line with a fault, after lines that fit after a front
record Faulty (blocks : List Block) (front : List Told) (n : ℕ) (before : List (List ℕ)) (line : List ℕ)
    (fault : RowsFault) : Type 0 where
  told : List Told
  tell : TellAll blocks n before told
  fit : AllFit blocks front told
  faulty : IsFaulty blocks (front ++ told) line (n + length before + 1) fault

-- the same, where the first line before it is looked at
at_none : (blocks : List Block) (front : List Told) (n : ℕ) (line : List ℕ) (fault : RowsFault)
    → Faulty blocks front n [] line fault → IsFaulty blocks front line (n + 1) fault
at_none blocks front n line fault f = grind (arith, append-nil, subst₂)

at_some : (blocks : List Block) (front : List Told) (n : ℕ) (x : List ℕ) (xs : List (List ℕ)) (line : List ℕ)
    (fault : RowsFault) → Faulty blocks front n (x ∷ xs) line fault
    → (s : Told) × Tells blocks (n + 1) x s × Fits blocks front s × Faulty blocks (front ++ s ∷ []) (n + 1) xs line fault
at_some blocks front n x xs line fault f = grind (arith, append_assoc, subst₂)

same_first : (blocks : List Block) (front : List Told) (n : ℕ) (b : List (List ℕ)) (l : List ℕ) (a : List (List ℕ))
    (c : List (List ℕ)) (m : List ℕ) (d : List (List ℕ)) (fault fault' : RowsFault)
    → b ++ l ∷ a ≡ c ++ m ∷ d → Faulty blocks front n b l fault → Faulty blocks front n c m fault' → fault ≡ fault'
same_first blocks front n [] l a [] m d fault fault' e f g = grind (arith, at_none, same_fault)
same_first blocks front n [] l a (y ∷ ys) m d fault fault' e f g =
    let same : l ≡ y = cc in
    let there = at_some blocks front n y ys m fault' g in
    absurd (no_fault blocks front y (n + 1) fault there.0 there.1 there.2
    (subst (λ t. IsFaulty blocks front t (n + 1) fault) same (at_none blocks front n l fault f)))
same_first blocks front n (x ∷ xs) l a [] m d fault fault' e f g =
    let same : m ≡ x = cc in
    let there = at_some blocks front n x xs l fault f in
    absurd (no_fault blocks front x (n + 1) fault' there.0 there.1 there.2
    (subst (λ t. IsFaulty blocks front t (n + 1) fault') same (at_none blocks front n m fault' g)))
same_first blocks front n (x ∷ xs) l a (y ∷ ys) m d fault fault' e f g =
    let same : y ≡ x = cc in
    let rest : xs ++ l ∷ a ≡ ys ++ m ∷ d = cc in
    let here = at_some blocks front n x xs l fault f in
    let there = at_some blocks front n y ys m fault' g in
    let one : there.0 ≡ here.0 = one_told blocks (n + 1) x there.0 here.0
    (subst (λ t. Tells blocks (n + 1) t there.0) same there.1) here.1 in
    same_first blocks (front ++ here.0 ∷ []) (n + 1) xs l a ys m d fault fault' rest here.3
    (subst (λ s. Faulty blocks (front ++ s ∷ []) (n + 1) ys m fault') one there.3)

-- lines that all fit have no fault
none_first : (blocks : List Block) (front : List Told) (n : ℕ) (lines : List (List ℕ)) (ss : List Told)
    (b : List (List ℕ)) (l : List ℕ) (a : List (List ℕ)) (fault : RowsFault) → TellAll blocks n lines ss
    → AllFit blocks front ss → lines ≡ b ++ l ∷ a → Faulty blocks front n b l fault → ⊥
none_first blocks front n [] ss [] l a fault h f e g = cc
none_first blocks front n [] ss (x ∷ xs) l a fault h f e g = cc
none_first blocks front n (y ∷ ys) [] b l a fault h f e g = h
none_first blocks front n (y ∷ ys) (s ∷ ss) [] l a fault h f e g =
    let same : l ≡ y = cc in
    no_fault blocks front y (n + 1) fault s h.0 f.0
    (subst (λ t. IsFaulty blocks front t (n + 1) fault) same (at_none blocks front n l fault g))
none_first blocks front n (y ∷ ys) (s ∷ ss) (x ∷ xs) l a fault h f e g =
    let same : x ≡ y = cc in
    let rest : ys ≡ xs ++ l ∷ a = cc in
    let there = at_some blocks front n x xs l fault g in
    let one : there.0 ≡ s = one_told blocks (n + 1) y there.0 s
    (subst (λ t. Tells blocks (n + 1) t there.0) same there.1) h.0 in
    none_first blocks (front ++ s ∷ []) (n + 1) ys ss xs l a fault h.1 f.1 rest
    (subst (λ t. Faulty blocks (front ++ t ∷ []) (n + 1) xs l fault) one there.3)

faulty_of : {blocks : List Block} {n : ℕ} {lines : List (List ℕ)} {fault : RowsFault}
    (f : HaveFirstFault blocks n lines fault) → Faulty blocks [] n f.before f.line fault
faulty_of {blocks} {n} {lines} {fault} f = record { told = f.told; tell = f.tell; fit = f.fit; faulty = f.faulty }

-- Texts

abbrev Refusal : List ℕ → RowsFault → Type 0
Refusal input fault = ((fault ≡ Read InputTooLong) × (MAX_INPUT < length input))
    ⊎ (((g : ReadFault) × (fault ≡ Read g) × BlocksAreRefused input g)
    ⊎ (((fault ≡ NoBlocks) × HasNoBlocks input) ⊎ RowsAreRefused input fault))

refusal_is : (input : List ℕ) (fault : RowsFault) → IsRefused input fault → Refusal input fault
refusal_is input fault h = grind arith

long_and_short : (n : ℕ) → MAX_INPUT < n → n ≤ MAX_INPUT → ⊥
long_and_short n h k = omega arith

abbrev front_text : List (List ℕ) → List ℕ
front_text before = join_with_byte 10 before

same_blocks : (input : List ℕ) (g g' : ReadFault) → BlocksAreRefused input g → BlocksAreRefused input g' → g ≡ g'
same_blocks input g g' h k =
    let parts = same_split input h.before h.after k.before k.after h.are_lines k.are_lines h.ends k.ends in
    one_answer.refusal (front_text k.before) g g'
    (subst (λ b. files.IsRefused (front_text b) g) parts.0 h.refused) k.refused

blocks_or_rows : (input : List ℕ) (g : ReadFault) (fault : RowsFault) → BlocksAreRefused input g
    → RowsAreRefused input fault → ⊥
blocks_or_rows input g fault h k =
    let parts = same_split input h.before h.after k.before k.after h.are_lines k.are_lines h.ends k.ends in
    one_answer.apart (front_text k.before) k.blocks g k.file
    (subst (λ b. files.IsRefused (front_text b) g) parts.0 h.refused)

blocks_or_none : (input : List ℕ) (g : ReadFault) → BlocksAreRefused input g → HasNoBlocks input → ⊥
blocks_or_none input g h k =
    let parts = same_split input h.before h.after k.before k.after h.are_lines k.are_lines h.ends k.ends in
    one_answer.apart (front_text k.before) [] g k.file
    (subst (λ b. files.IsRefused (front_text b) g) parts.0 h.refused)

none_or_rows : (input : List ℕ) (fault : RowsFault) → HasNoBlocks input → RowsAreRefused input fault → ⊥
none_or_rows input fault h k =
    let parts = same_split input h.before h.after k.before k.after h.are_lines k.are_lines h.ends k.ends in
    let same : [] ≡ k.blocks = one_answer.file (front_text k.before) [] k.blocks
    (subst (λ b. files.Denotes (front_text b) []) parts.0 h.file) k.file in
    let few : 0 ≡ length k.blocks = ap length same in
    let some = k.some in omega arith

same_rows : (input : List ℕ) (fault fault' : RowsFault) → RowsAreRefused input fault → RowsAreRefused input fault'
    → fault ≡ fault'
same_rows input fault fault' h k =
    let parts = same_split input h.before h.after k.before k.after h.are_lines k.are_lines h.ends k.ends in
    let blocks : h.blocks ≡ k.blocks = one_answer.file (front_text k.before) h.blocks k.blocks
    (subst (λ b. files.Denotes (front_text b) h.blocks) parts.0 h.file) k.file in
    let number : length h.before ≡ length k.before = ap length parts.0 in
    let mine = faulty_of h.first in
    let moved : Faulty k.blocks [] (length k.before) h.first.before h.first.line fault =
    subst₂ (λ bs n. Faulty bs [] n h.first.before h.first.line fault) blocks number mine in
    same_first k.blocks [] (length k.before) h.first.before h.first.line h.first.after k.first.before k.first.line
    k.first.after fault fault' (sym h.first.whole ∙ parts.1 ∙ k.first.whole) moved (faulty_of k.first)

one_refusal : (input : List ℕ) (fault fault' : RowsFault) → IsRefused input fault → IsRefused input fault'
    → fault ≡ fault'
one_refusal input fault fault' h k = by (refusal_is input fault h) (refusal_is input fault' k)
  where
    by : Refusal input fault → Refusal input fault' → fault ≡ fault'
    by (inl a) (inl b) = a.0 ∙ sym b.0
    by (inl a) (inr (inl b)) = absurd (long_and_short (length input) a.1 b.2.short)
    by (inl a) (inr (inr (inl b))) = absurd (long_and_short (length input) a.1 b.1.short)
    by (inl a) (inr (inr (inr b))) = absurd (long_and_short (length input) a.1 b.short)
    by (inr (inl a)) (inl b) = absurd (long_and_short (length input) b.1 a.2.short)
    by (inr (inl a)) (inr (inl b)) = a.1 ∙ ap (λ g. Read g) (same_blocks input a.0 b.0 a.2 b.2) ∙ sym b.1
    by (inr (inl a)) (inr (inr (inl b))) = absurd (blocks_or_none input a.0 a.2 b.1)
    by (inr (inl a)) (inr (inr (inr b))) = absurd (blocks_or_rows input a.0 fault' a.2 b)
    by (inr (inr (inl a))) (inl b) = absurd (long_and_short (length input) b.1 a.1.short)
    by (inr (inr (inl a))) (inr (inl b)) = absurd (blocks_or_none input b.0 b.2 a.1)
    by (inr (inr (inl a))) (inr (inr (inl b))) = a.0 ∙ sym b.0
    by (inr (inr (inl a))) (inr (inr (inr b))) = absurd (none_or_rows input fault' a.1 b)
    by (inr (inr (inr a))) (inl b) = absurd (long_and_short (length input) b.1 a.short)
    by (inr (inr (inr a))) (inr (inl b)) = absurd (blocks_or_rows input b.0 fault b.2 a)
    by (inr (inr (inr a))) (inr (inr (inl b))) = absurd (none_or_rows input fault b.1 a)
    by (inr (inr (inr a))) (inr (inr (inr b))) = same_rows input fault fault' a b

one_submission : (input : List ℕ) (blocks blocks' : List Block) (proposals proposals' : List Proposed)
    → Denotes input blocks proposals → Denotes input blocks' proposals' → (blocks ≡ blocks') × (proposals ≡ proposals')
one_submission input blocks blocks' proposals proposals' h k =
    let parts = same_split input h.before h.after k.before k.after h.are_lines k.are_lines h.ends k.ends in
    let same : blocks ≡ blocks' = one_answer.file (front_text k.before) blocks blocks'
    (subst (λ b. files.Denotes (front_text b) blocks) parts.0 h.file) k.file in
    let number : length h.before ≡ length k.before = ap length parts.0 in
    let told : h.propose.told ≡ k.propose.told = same_told blocks' (length k.before) k.after h.propose.told
    k.propose.told (tell_same h.propose.told same number parts.1 h.propose.tell) k.propose.tell in
    (same, h.propose.are ∙ ap₂ (λ bs ss. proposals_of (length bs) ss) same told ∙ sym k.propose.are)

denoted_or_refused : (input : List ℕ) (blocks : List Block) (proposals : List Proposed) (fault : RowsFault)
    → Denotes input blocks proposals → IsRefused input fault → ⊥
denoted_or_refused input blocks proposals fault h k = by (refusal_is input fault k)
  where
    by : Refusal input fault → ⊥
    by (inl a) = long_and_short (length input) a.1 h.short
    by (inr (inl a)) =
        let r = a.2 in
        let parts = same_split input h.before h.after r.before r.after h.are_lines r.are_lines h.ends r.ends in
        one_answer.apart (front_text r.before) blocks a.0
        (subst (λ b. files.Denotes (front_text b) blocks) parts.0 h.file) r.refused
    by (inr (inr (inl n))) =
        let r = n.1 in
        let parts = same_split input h.before h.after r.before r.after h.are_lines r.are_lines h.ends r.ends in
        let same : blocks ≡ [] = one_answer.file (front_text r.before) blocks []
        (subst (λ b. files.Denotes (front_text b) blocks) parts.0 h.file) r.file in
        let few : length blocks ≡ 0 = ap length same in
        let some = h.some in omega arith
    by (inr (inr (inr r))) =
        let parts = same_split input h.before h.after r.before r.after h.are_lines r.are_lines h.ends r.ends in
        let same : r.blocks ≡ blocks = one_answer.file (front_text h.before) r.blocks blocks
        (subst (λ b. files.Denotes (front_text b) r.blocks) (sym parts.0) r.file) h.file in
        let f = r.first in
        let moved : Faulty blocks [] (length r.before) f.before f.line fault =
        subst (λ bs. Faulty bs [] (length r.before) f.before f.line fault) same (faulty_of f) in
        none_first blocks [] (length r.before) h.after h.propose.told f.before f.line f.after fault
        (subst (λ n. TellAll blocks n h.after h.propose.told) (ap length parts.0) h.propose.tell)
        h.propose.fit (parts.1 ∙ f.whole) moved

pub one_answer_each : laws.TextsHaveOneAnswer
one_answer_each = record { blocks = one_submission; refusal = one_refusal; apart = denoted_or_refused }

-- Texts apart

pub one_task : laws.HandInsDontChangeTheTask
one_task task input input' blocks blocks' proposals proposals' h k = one_answer.file task blocks blocks' h.task.file k.task.file

pub one_apart : laws.TextsApartHaveOneAnswer
one_apart task input blocks blocks' proposals proposals' h k =
    let same : blocks ≡ blocks' = one_answer.file task blocks blocks' h.task.file k.task.file in
    let lines : h.rows.lines ≡ k.rows.lines =
    sym (lines_are_of input h.rows.lines h.rows.are_lines) ∙ lines_are_of input k.rows.lines k.rows.are_lines in
    let told : h.rows.propose.told ≡ k.rows.propose.told =
    same_told blocks' 0 k.rows.lines h.rows.propose.told
    k.rows.propose.told (tell_same h.rows.propose.told same refl lines h.rows.propose.tell) k.rows.propose.tell in
    (same, h.rows.propose.are ∙ ap₂ (λ bs ss. proposals_of (length bs) ss) same told ∙ sym k.rows.propose.are)
