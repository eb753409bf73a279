-- What one more row or claim does to a proposal.
use Rattle.iloc_rows.proofs.Common.{◌≡◌, ℕ, zero, suc, ◌+◌, ◌<◌, ◌≤◌, ◌≢◌, List, [], ◌∷◌, ◌++◌, map, length, set, Some, None, Option, sym, refl, ap, ◌∙◌, ap₂, append_assoc, append-nil, arith, length-append, range_with_len, Op, Nop, cycles, row, Row, block_of, claims_of, cycles_in, filled, first_unread, last_of, numbered, ops_in, proposal_of, proposals_of, row_in, rows_of, slot, unread_in, unread_of, none_proposed, or_this, with_cycles, with_row, with_unread, Told, read, unread, Proposed}
use Rattle.std.proofs.lemmas.List.FromFn.{map-range_with_len_more}
use Rattle.iloc_rows.proofs.Picking.{last_of-snoc, picked-alike, picked-nothing, picked-here, picked-else, picked-short, picked-none}

abbrev pub ops_of_row : Op × Op → List Op
ops_of_row r = filled r.0 ++ filled r.1

pub ops_in-snoc : (rs : List (Op × Op)) (r : Op × Op) → ops_in (rs ++ r ∷ []) ≡ ops_in rs ++ (filled r.0 ++ filled r.1)
ops_in-snoc [] r = append-nil (ops_of_row r)
ops_in-snoc (x ∷ xs) r = ap (λ ops. ops_of_row x ++ ops) (ops_in-snoc xs r)
    ∙ sym (append_assoc (ops_of_row x) (ops_in xs) (ops_of_row r))

-- a row after n operations
abbrev pub row_after : ℕ → Op × Op → Row
row_after n r = record { zero = slot n r.0; one = slot (n + length (filled r.0)) r.1 }

numbered-snoc : (n m : ℕ) (rs : List (Op × Op)) (r : Op × Op) → n + length (ops_in rs) ≡ m
    → numbered n (rs ++ r ∷ []) ≡ numbered n rs ++ row_after m r ∷ []
numbered-snoc n m [] r e = let same : n ≡ m = omega arith in ap (λ k. row_after k r ∷ []) same
numbered-snoc n m (x ∷ xs) r e =
    grind (
      arith,
      length-append,
      numbered-snoc (n + length (ops_of_row x)) m xs r (omega (arith, length-append (ops_of_row x) (ops_in xs))),
    )

pub length-numbered : (n : ℕ) (rs : List (Op × Op)) → length (numbered n rs) ≡ length rs
length-numbered n [] = refl
length-numbered n (r ∷ rs) = ap suc (length-numbered (n + length (ops_of_row r)) rs)

-- the first line that can't be read

unread-snoc : (n m : ℕ) (us : List (Option (ℕ × List ℕ))) (line : ℕ) (text : List ℕ) → n + length us ≡ m
    → first_unread n (us ++ Some (line, text) ∷ []) ≡ or_this (first_unread n us) record { line = line; row = m; text = text }
unread-snoc n m [] line text e =
    let same : n ≡ m = omega arith in ap (λ k. Some record { line = line; row = k; text = text }) same
unread-snoc n m (None ∷ us) line text e = unread-snoc (n + 1) m us line text (omega arith)
unread-snoc n m (Some first ∷ us) line text e = refl

read-snoc : (n : ℕ) (us : List (Option (ℕ × List ℕ))) → first_unread n (us ++ None ∷ []) ≡ first_unread n us
read-snoc n (None ∷ us) = read-snoc (n + 1) us
read-snoc n us = refl

-- it is told of each row whether it can be read
as_many : (k : ℕ) (ts : List Told) → length (unread_of k ts) ≡ length (rows_of k ts)
as_many k ts = grind (arith, picked-alike)

-- a proposal by its rows, which of them can't be read, and its claims
abbrev made : List (Op × Op) → List (Option (ℕ × List ℕ)) → List ℕ → Proposed
made rows texts claims =
    record { ops = ops_in rows; rows = numbered 0 rows; claimed = last_of claims; unread = first_unread 0 texts }

made-row : (rows : List (Op × Op)) (texts : List (Option (ℕ × List ℕ))) (claims : List ℕ) (one two : Op)
    → made (rows ++ (one, two) ∷ []) (texts ++ None ∷ []) claims ≡ with_row (made rows texts claims) one two
made-row rows texts claims one two =
    let ops = ops_in-snoc rows (one, two) in
    let more = numbered-snoc 0 (length (ops_in rows)) rows (one, two) (omega arith) in
    let still = read-snoc 0 texts in
    λ i. record { ops = ops i; rows = more i; claimed = last_of claims; unread = still i }

made-unread : (rows : List (Op × Op)) (texts : List (Option (ℕ × List ℕ))) (claims : List ℕ) (line : ℕ) (text : List ℕ)
    → length texts ≡ length rows
    → made (rows ++ (Nop, Nop) ∷ []) (texts ++ Some (line, text) ∷ []) claims
    ≡ with_unread (made rows texts claims) line text
made-unread rows texts claims line text many =
    let ops = ops_in-snoc rows (Nop, Nop) ∙ append-nil (ops_in rows) in
    let more = numbered-snoc 0 (length (ops_in rows)) rows (Nop, Nop) (omega arith) in
    let first = unread-snoc 0 (length (numbered 0 rows)) texts line text (omega (arith, many, length-numbered 0 rows)) in
    λ i. record { ops = ops i; rows = more i; claimed = last_of claims; unread = first i }

-- Proposals

ap₃ : {A B C D : Type 0} (f : A → B → C → D) {a a' : A} {b b' : B} {c c' : C} → a ≡ a' → b ≡ b' → c ≡ c'
    → f a b c ≡ f a' b' c'
ap₃ f p q r = λ i. f (p i) (q i) (r i)

-- a line of which nothing is picked
pub proposal-same : (ss : List Told) (s : Told) (k : ℕ) → row_in s ≡ None → unread_in s ≡ None → cycles_in s ≡ None
    → proposal_of (ss ++ s ∷ []) k ≡ proposal_of ss k
proposal-same ss s k r u c =
    ap₃ made (picked-nothing row_in k ss s r) (picked-nothing unread_in k ss s u) (picked-nothing cycles_in k ss s c)

-- a line of another block
pub proposal-else : (ss : List Told) (s : Told) (k : ℕ) → block_of (ss ++ s ∷ []) ≢ k
    → proposal_of (ss ++ s ∷ []) k ≡ proposal_of ss k
proposal-else ss s k e =
    ap₃ made (picked-else row_in k ss s e) (picked-else unread_in k ss s e) (picked-else cycles_in k ss s e)

pub proposal-row : (ss : List Told) (one two : Op) (k : ℕ) → block_of (ss ++ read (row one two) ∷ []) ≡ k
    → proposal_of (ss ++ read (row one two) ∷ []) k ≡ with_row (proposal_of ss k) one two
proposal-row ss one two k e =
    ap₃ made (picked-here row_in k ss (read (row one two)) (one, two) refl e)
    (picked-here unread_in k ss (read (row one two)) None refl e)
    (picked-nothing cycles_in k ss (read (row one two)) refl)
    ∙ made-row (rows_of k ss) (unread_of k ss) (claims_of k ss) one two

pub proposal-unread : (ss : List Told) (turn : Option ℕ) (n : ℕ) (text : List ℕ) (k : ℕ)
    → block_of (ss ++ unread turn n text ∷ []) ≡ k
    → proposal_of (ss ++ unread turn n text ∷ []) k ≡ with_unread (proposal_of ss k) n text
proposal-unread ss turn n text k e =
    ap₃ made (picked-here row_in k ss (unread turn n text) (Nop, Nop) refl e)
    (picked-here unread_in k ss (unread turn n text) (Some (n, text)) refl e)
    (picked-nothing cycles_in k ss (unread turn n text) refl)
    ∙ made-unread (rows_of k ss) (unread_of k ss) (claims_of k ss) n text (as_many k ss)

pub proposal-cycles : (ss : List Told) (c k : ℕ) → block_of (ss ++ read (cycles c) ∷ []) ≡ k
    → proposal_of (ss ++ read (cycles c) ∷ []) k ≡ with_cycles (proposal_of ss k) c
proposal-cycles ss c k e =
    ap₃ made (picked-nothing row_in k ss (read (cycles c)) refl) (picked-nothing unread_in k ss (read (cycles c)) refl)
    (picked-here cycles_in k ss (read (cycles c)) c refl e)
    ∙ ap (λ claim. record {
      ops = ops_in (rows_of k ss);
      rows = numbered 0 (rows_of k ss);
      claimed = claim;
      unread = first_unread 0 (unread_of k ss);
    }) (last_of-snoc (claims_of k ss) c)

pub proposal-short : (ss : List Told) (k : ℕ) → length (proposal_of ss k).rows ≤ length ss
proposal-short ss k = omega (arith, length-numbered 0 (rows_of k ss), picked-short row_in k ss)

-- Lists of proposals

nothing_proposed : (k : ℕ) → proposal_of [] k ≡ none_proposed
nothing_proposed k = ap₃ made (picked-none row_in k) (picked-none unread_in k) (picked-none cycles_in k)

-- one block more, for which nothing is proposed
pub none-more : (n : ℕ) → proposals_of n [] ++ none_proposed ∷ [] ≡ proposals_of (n + 1) []
none-more n = ap (λ p. proposals_of n [] ++ p ∷ []) (sym (nothing_proposed (n + 1)))
    ∙ sym (map-range_with_len_more (proposal_of []) 1 n (n + 1) (omega arith))

pub map-same : {A : Type 0} (f g : ℕ → A) (a n : ℕ) → ((k : ℕ) → a ≤ k → g k ≡ f k)
    → map g (range_with_len a n) ≡ map f (range_with_len a n)
map-same f g a zero h = refl
map-same f g a (suc n) h = ap₂ (λ x xs. x ∷ xs) (h a (omega arith)) (map-same f g (a + 1) n (λ k le. h k (omega arith)))

-- one place alone has another value
pub map-set : {A : Type 0} (f g : ℕ → A) (a n i : ℕ) (v : A) → i < n → g (a + i) ≡ v
    → ((k : ℕ) → k ≢ a + i → g k ≡ f k) → map g (range_with_len a n) ≡ set (map f (range_with_len a n)) i v
map-set f g a zero i v lt here else = absurd (omega arith)
map-set f g a (suc n) zero v lt here else = grind (arith, map-same)
map-set f g a (suc n) (suc i) v lt here else =
    let same : (a + 1) + i ≡ a + suc i = omega arith in
    ap₂ (λ x xs. x ∷ xs) (else a (λ e. omega arith))
    (map-set f g (a + 1) n i v (omega arith) (ap g same ∙ here) (λ k ne. else k (λ e. ne (omega arith))))
