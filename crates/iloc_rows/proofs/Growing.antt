-- What the steps of the reader do to what is proposed.
use Rattle.iloc_rows.proofs.Common.{◌≡◌, ℕ, ◌+◌, ◌<◌, ◌≤◌, max, true, false, ◌&&◌, ◌||◌, ◌≢◌, ◌⊎◌, List, [], ◌∷◌, ◌++◌, length, set, nat_lt, nat_le, ◌==◌, Some, None, Ok, Err, Option, Result, sym, refl, ap, ◌∙◌, subst, ap₂, inl, inr, arith, lt-ltb, get_or_past, Block, Op, cycles, head, nothing, row, total, BadLine, NoMemory, TooManyOperations, block_of, cycles_in, head_number, is_of_block, last_block, op_count, proposal_of, proposals_of, proposes, row_in, unread_in, AddsTold, Becomes, HasProposed, RowAdds, Turns, at_place, later_place, none_proposed, place, with_cycles, with_row, with_unread, Told, read, unread, RowsFault, NoSuchBlock, Read, Proposed}
use Rattle.std.proofs.lemmas.List.FromFn.{length-map-range_with_len, get_or-map-range_with_len}
use Rattle.std.proofs.lemmas.Bool.Decides.{nat_tests}
use Rattle.iloc_timed.specs.Limits.{MAX_ROWS}
use Rattle.iloc_rows.specs.declared.proposing.Proposing.{Proposing}
use Rattle.iloc_rows.proofs.Picking.{last_block-none, last_block-more, last_block-head}
use Rattle.iloc_rows.proofs.Numbering.{ops_in-snoc, proposal-same, proposal-else, proposal-row, proposal-unread, proposal-cycles, proposal-short, map-same, map-set}

-- Places

pub length-proposals : (count : ℕ) (ss : List Told) → length (proposals_of count ss) ≡ count
length-proposals count ss = length-map-range_with_len (proposal_of ss) 1 count

at-proposals : (count : ℕ) (ss : List Told) (i : ℕ) → i < count
    → at_place (proposals_of count ss) i ≡ proposal_of ss (1 + i)
at-proposals count ss i lt = get_or-map-range_with_len (proposal_of ss) 1 count i (1 + i) none_proposed lt refl

-- the place where there is one
place_found : (last count i : ℕ) → place last count ≡ Some i
    → (max 1 last ≡ 1 + i) × ((nat_lt 0 last || (count == 1)) ≡ true) × (last ≤ count → i < count)
place_found last count i h1 = grind (arith, nat_tests)

-- and where there is none
place_none : (last count : ℕ) → place last count ≡ None → (nat_lt 0 last || (count == 1)) ≡ false
place_none last count h1 = grind arith

-- a line is of the place in the state
record IsAt (blocks : List Block) (ss : List Told) (i : ℕ) : Type 0 where
  block : block_of ss ≡ 1 + i
  within : i < length blocks
  there : (nat_lt 0 (last_block ss) || (length blocks == 1)) ≡ true

is_at : {blocks : List Block} {ss : List Told} {old : Proposing} (i : ℕ) → HasProposed blocks ss old
    → place old.last (length old.proposals.items) ≡ Some i → IsAt blocks ss i
is_at {blocks} {ss} {old} i h e =
    let count : length old.proposals.items ≡ length blocks =
    ap length h.proposals ∙ length-proposals (length blocks) ss in
    let found = place_found (last_block ss) (length blocks) i (sym (ap₂ place h.last count) ∙ e) in
    record {
      block = found.0;
      there = found.1;
      within = found.2 (let last = h.last in let within = old.within in omega arith);
    }

nowhere : {blocks : List Block} {ss : List Told} {old : Proposing} → HasProposed blocks ss old
    → place old.last (length old.proposals.items) ≡ None
    → (nat_lt 0 (last_block ss) || (length blocks == 1)) ≡ false
nowhere h e = grind (arith, length-proposals, place_none)

pub still_of : (ss : List Told) (s : Told) → head_number s ≡ None → proposes s ≡ true
    → block_of (ss ++ s ∷ []) ≡ block_of ss
still_of ss s h p = grind (arith, last_block-more)

-- Rows

rows_grow : (blocks : List Block) (ss : List Told) (one two : Op) (i : ℕ) → IsAt blocks ss i
    → proposals_of (length blocks) (ss ++ read (row one two) ∷ [])
    ≡ set (proposals_of (length blocks) ss) i (with_row (at_place (proposals_of (length blocks) ss) i) one two)
rows_grow blocks ss one two i a =
    let here : block_of (ss ++ read (row one two) ∷ []) ≡ 1 + i = still_of ss (read (row one two)) refl refl ∙ a.block in
    map-set (proposal_of ss) (proposal_of (ss ++ read (row one two) ∷ [])) 1 (length blocks) i
    (with_row (at_place (proposals_of (length blocks) ss) i) one two) a.within
    (proposal-row ss one two (1 + i) here
    ∙ ap (λ p. with_row p one two) (sym (at-proposals (length blocks) ss i a.within)))
    (λ k ne. proposal-else ss (read (row one two)) k (λ e. ne (sym e ∙ here)))

row_count : (blocks : List Block) (ss : List Told) (one two : Op) (i : ℕ) → IsAt blocks ss i
    → length (with_row (at_place (proposals_of (length blocks) ss) i) one two).ops ≡ op_count ss (read (row one two))
row_count blocks ss one two i a = grind (arith, at-proposals, ops_in-snoc)

pub row_adds : {blocks : List Block} {ss : List Told} {old : Proposing} (one two : Op) (n : ℕ) (new : Proposing)
    (result : Result (Unit {0}) RowsFault)
    → HasProposed blocks ss old → RowAdds old one two n new result → AddsTold blocks ss (read (row one two)) n new result
row_adds {blocks} {ss} {old} one two n new (Ok done) h r =
    let a = is_at r.0 h r.1 in
    let grown : new.proposals.items ≡ proposals_of (length blocks) (ss ++ read (row one two) ∷ []) =
    r.2 ∙ ap (λ ps. set ps r.0 (with_row (at_place ps r.0) one two)) h.proposals
    ∙ sym (rows_grow blocks ss one two r.0 a) in
    let count = ap (λ ps. length (with_row (at_place ps r.0) one two).ops) h.proposals
    ∙ row_count blocks ss one two r.0 a in (
      record { of_block = a.there; few = let few = r.4 in omega arith },
      record { proposals = grown; last = r.3 ∙ ap (max 1) h.last ∙ sym (last_block-more ss (read (row one two)) refl refl) },
    )
row_adds one two n new (Err (Read (BadLine k))) h r = absurd r
row_adds {blocks} {ss} {old} one two n new (Err (Read (TooManyOperations k))) h r = grind (arith, is_at, row_count)
row_adds one two n new (Err (Read NoMemory)) h r = tt
row_adds one two n new (Err (NoSuchBlock k)) h r = (r.0, refl, nowhere h r.1)
row_adds one two n new a h r = r

-- Claims, and lines that can't be read

-- a line without operations, by which what is proposed becomes another: of its block, or of the block to which it turns
record IsChange (s : Told) (change : Proposed → Proposed) (homeless : RowsFault) (number : ℕ) : Type 0 where
  here : (ss : List Told) (k : ℕ) → block_of (ss ++ s ∷ []) ≡ k → proposal_of (ss ++ s ∷ []) k ≡ change (proposal_of ss k)
  count : (ss : List Told) → op_count ss s ≡ 0
  refused : (blocks : List Block) (ss : List Told) (new : Proposing) → is_of_block blocks ss s ≡ false
      → AddsTold blocks ss s number new (Err homeless)

-- what it is after these lines: where there is a place for it, a line of the block there, which then is the last; else of none
record IsTurn (blocks : List Block) (ss : List Told) (s : Told) (at : Option ℕ) (last : ℕ) : Type 0 where
  there : (i : ℕ) → at ≡ Some i
      → (last_block (ss ++ s ∷ []) ≡ last) × (max 1 last ≡ 1 + i) × (i < length blocks) × (is_of_block blocks ss s ≡ true)
  nowhere : at ≡ None → is_of_block blocks ss s ≡ false

change_grows : {homeless : RowsFault} {number : ℕ} (blocks : List Block) (ss : List Told) (s : Told)
    (change : Proposed → Proposed) (i : ℕ) → IsChange s change homeless number → block_of (ss ++ s ∷ []) ≡ 1 + i
    → i < length blocks
    → proposals_of (length blocks) (ss ++ s ∷ [])
    ≡ set (proposals_of (length blocks) ss) i (change (at_place (proposals_of (length blocks) ss) i))
change_grows {homeless} {number} blocks ss s change i c here within =
    map-set (proposal_of ss) (proposal_of (ss ++ s ∷ [])) 1 (length blocks) i
    (change (at_place (proposals_of (length blocks) ss) i)) within
    (c.here ss (1 + i) here ∙ ap change (sym (at-proposals (length blocks) ss i within)))
    (λ k ne. proposal-else ss s k (λ e. ne (sym e ∙ here)))

memory_or_not : (fault : RowsFault) → (fault ≡ Read NoMemory) ⊎ (fault ≢ Read NoMemory)
memory_or_not (Read NoMemory) = inl refl
memory_or_not fault = inr (λ e. cc)

change_adds : {blocks : List Block} {ss : List Told} {old : Proposing} (s : Told) (at : Option ℕ) (last : ℕ)
    (change : Proposed → Proposed) (homeless : RowsFault) (n : ℕ) (new : Proposing) (result : Result (Unit {0}) RowsFault)
    → IsChange s change homeless n → IsTurn blocks ss s at last → HasProposed blocks ss old
    → Becomes old at last change homeless new result → AddsTold blocks ss s n new result
change_adds {blocks} {ss} {old} s at last change homeless n new (Ok done) c t h r =
    let a = t.there r.0 r.1 in
    let here : block_of (ss ++ s ∷ []) ≡ 1 + r.0 = ap (max 1) a.0 ∙ a.1 in
    let grown : new.proposals.items ≡ proposals_of (length blocks) (ss ++ s ∷ []) =
    r.2 ∙ ap (λ ps. set ps r.0 (change (at_place ps r.0))) h.proposals
    ∙ sym (change_grows blocks ss s change r.0 c here a.2) in (
      record { of_block = a.3; few = omega (arith, c.count ss) },
      record { proposals = grown; last = r.3 ∙ sym a.0 },
    )
change_adds {blocks} {ss} {old} s at last change homeless n new (Err fault) c t h r =
    elim (memory_or_not fault) as (λ _. AddsTold blocks ss s n new (Err fault)) [
      | inl memory ↦ subst (λ f. AddsTold blocks ss s n new (Err f)) (sym memory) tt
      | inr other ↦ let a = r other in
          subst (λ f. AddsTold blocks ss s n new (Err f)) (sym a.0) (c.refused blocks ss new (t.nowhere a.1))
    ]

-- a line that turns to no other block
stays : {blocks : List Block} {ss : List Told} {old : Proposing} (s : Told) (last : ℕ) → HasProposed blocks ss old
    → last_block (ss ++ s ∷ []) ≡ last → max 1 last ≡ max 1 (last_block ss)
    → is_of_block blocks ss s ≡ (nat_lt 0 (last_block ss) || (length blocks == 1))
    → IsTurn blocks ss s (place old.last (length old.proposals.items)) last
stays {blocks} {ss} {old} s last h after same fits = record {
  there = λ i e. let a = is_at i h e in (after, same ∙ a.block, a.within, fits ∙ a.there);
  nowhere = λ e. fits ∙ nowhere h e;
}

pub cycles_add : {blocks : List Block} {ss : List Told} {old : Proposing} (c n : ℕ) (new : Proposing)
    (result : Result (Unit {0}) RowsFault) → HasProposed blocks ss old
    → Becomes old (place old.last (length old.proposals.items)) (max 1 old.last) (λ p. with_cycles p c) (NoSuchBlock n) new result
    → AddsTold blocks ss (read (cycles c)) n new result
cycles_add {blocks} {ss} {old} c n new result h r =
    let after : last_block (ss ++ read (cycles c) ∷ []) ≡ max 1 old.last =
    last_block-more ss (read (cycles c)) refl refl ∙ ap (max 1) (sym h.last) in
    let same : max 1 (max 1 old.last) ≡ max 1 (last_block ss) = let is = h.last in omega arith in
    change_adds (read (cycles c)) (place old.last (length old.proposals.items)) (max 1 old.last) (λ p. with_cycles p c)
    (NoSuchBlock n) n new result (record {
      here = λ ss k e. proposal-cycles ss c k e;
      count = λ ss. refl;
      refused = λ blocks ss new none. (refl, refl, none);
    }) (stays (read (cycles c)) (max 1 old.last) h after same refl) h r

pub unread_adds : {blocks : List Block} {ss : List Told} {old : Proposing} (text : List ℕ) (n : ℕ) (new : Proposing)
    (result : Result (Unit {0}) RowsFault) → HasProposed blocks ss old
    → Becomes old (place old.last (length old.proposals.items)) old.last (λ p. with_unread p n text) (Read (BadLine n)) new result
    → AddsTold blocks ss (unread None n text) n new result
unread_adds {blocks} {ss} {old} text n new result h r =
    let after : last_block (ss ++ unread None n text ∷ []) ≡ old.last =
    last_block-none ss (unread None n text) refl refl ∙ sym h.last in
    change_adds (unread None n text) (place old.last (length old.proposals.items)) old.last (λ p. with_unread p n text)
    (Read (BadLine n)) n new result (record {
      here = λ ss k e. proposal-unread ss None n text k e;
      count = λ ss. refl;
      refused = λ blocks ss new none. (refl, refl, none);
    }) (stays (unread None n text) old.last h after (ap (max 1) h.last) refl) h r

later_found : (last k count i : ℕ) → later_place last k count ≡ Some i
    → (last < k) × (max 1 k ≡ 1 + i) × (i < count) × ((nat_lt last k && nat_le k count) ≡ true)
later_found last k count i h = grind (arith, nat_tests)

later_none : (last k count : ℕ) → later_place last k count ≡ None → (nat_lt last k && nat_le k count) ≡ false
later_none last k count h = grind arith

pub misnamed_adds : {blocks : List Block} {ss : List Told} {old : Proposing} (k : ℕ) (text : List ℕ) (n : ℕ) (new : Proposing)
    (result : Result (Unit {0}) RowsFault) → HasProposed blocks ss old
    → Becomes old (later_place old.last k (length old.proposals.items)) k (λ p. with_unread p n text) (NoSuchBlock n) new result
    → AddsTold blocks ss (unread (Some k) n text) n new result
misnamed_adds {blocks} {ss} {old} k text n new result h r =
    let count : length old.proposals.items ≡ length blocks = ap length h.proposals ∙ length-proposals (length blocks) ss in
    let same : later_place old.last k (length old.proposals.items) ≡ later_place (last_block ss) k (length blocks) =
    ap₂ (λ l c. later_place l k c) h.last count in
    change_adds (unread (Some k) n text) (later_place old.last k (length old.proposals.items)) k (λ p. with_unread p n text)
    (NoSuchBlock n) n new result (record {
      here = λ ss j e. proposal-unread ss (Some k) n text j e;
      count = λ ss. refl;
      refused = λ blocks ss new none. (refl, refl, none);
    }) (record {
      there = λ i e.
          let a = later_found (last_block ss) k (length blocks) i (sym same ∙ e) in
          (last_block-head ss (unread (Some k) n text) k refl a.0, a.1, a.2, a.3);
      nowhere = λ e. later_none (last_block ss) k (length blocks) (sym same ∙ e);
    }) h r

-- Heads, and lines that propose nothing

same_proposals : (count : ℕ) (ss : List Told) (s : Told) → row_in s ≡ None → unread_in s ≡ None
    → cycles_in s ≡ None
    → proposals_of count ss ≡ proposals_of count (ss ++ s ∷ [])
same_proposals count ss s r u c =
    sym (map-same (proposal_of ss) (proposal_of (ss ++ s ∷ [])) 1 count (λ k le. proposal-same ss s k r u c))

head_last : (ss : List Told) (k : ℕ) (name : Option (List ℕ)) → last_block ss < k
    → last_block (ss ++ read (head k name) ∷ []) ≡ k
head_last ss k name less = last_block-head ss (read (head k name)) k refl less

pub head_turns : {blocks : List Block} {ss : List Told} {old : Proposing} (k : ℕ) (name : Option (List ℕ)) (n : ℕ)
    (new : Proposing) (result : Result (Unit {0}) RowsFault)
    → HasProposed blocks ss old → Turns blocks old k name n new result → AddsTold blocks ss (read (head k name)) n new result
head_turns k name n new result h r = grind (arith, head_last, lt-ltb, same_proposals)

pub nothing_adds : {blocks : List Block} {ss : List Told} {old : Proposing} (n : ℕ) → HasProposed blocks ss old
    → AddsTold blocks ss (read nothing) n old (Ok tt)
nothing_adds n h = grind (arith, last_block-none, same_proposals)

pub total_adds : {blocks : List Block} {ss : List Told} {old : Proposing} (t n : ℕ) → HasProposed blocks ss old
    → AddsTold blocks ss (read (total t)) n old (Ok tt)
total_adds t n h = grind (arith, last_block-none, same_proposals)

-- Room

pub rows_few : {blocks : List Block} {ss : List Told} {old : Proposing} → HasProposed blocks ss old
    → length ss < MAX_ROWS → (i : ℕ) → length (at_place old.proposals.items i).rows < MAX_ROWS
rows_few {blocks} {ss} {old} h few i =
    rw h.proposals (elim (split i (length blocks)) [
      | inl lt ↦ (let same = ap (λ p. length p.rows) (at-proposals (length blocks) ss i lt) in
          omega (arith, proposal-short ss (1 + i)))
      | inr le ↦ (let same = ap (λ p. length p.rows) (get_or_past (proposals_of (length blocks) ss) i none_proposed
          (omega (arith, length-proposals (length blocks) ss))) in omega arith)
    ])
  where
    split : (a b : ℕ) → (a < b) ⊎ (b ≤ a)
    split a b = grind arith
