-- Every text has an answer: its blocks end somewhere, and line by line each schedule line is read or faulty.
use Rattle.iloc_rows.proofs.Common.{◌≡◌, ℕ, ◌+◌, ◌<◌, ◌≤◌, Bool, true, false, ◌⊎◌, List, [], ◌∷◌, ◌++◌, length, nat_lt, Some, None, Option, sym, refl, ap, ◌∙◌, subst, inl, inr, append_assoc, append-nil, arith, ltb-false, ltb-true, join_with_byte, MAX_INPUT, MAX_OPS, Block, said_bad, said_good, said_large, lines_are, AreLines, lines_of, IsScheduleLine, Said, Says, SaysSomething, cycles, head, nothing, row, total, BadLine, InputTooLong, TooManyOperations, TextsHaveAnAnswer, AllFit, Fits, is_of_block, op_count, proposals_of, BlocksEnd, Denotes, HaveFirstFault, IsFaulty, IsRefused, Propose, TellAll, Tells, Told, read, unread, RowsFault, NoBlocks, NoSuchBlock, Read, Proposed}
use Rattle.iloc_text.specs.Files as files
use Rattle.iloc_text.specs.Steps.ScheduleScan.{schedule_line_at, is_said_within}
use Rattle.iloc_text.proofs.Every as files_every
use Rattle.iloc_rows.specs.Names.{misnamed}
use Rattle.iloc_rows.proofs.Ends.{nothing_is_none, bad_is_none, large_is_one}
use Rattle.iloc_rows.proofs.Reading.{TellAll-snoc, AllFit-snoc, blocks_refuse, rows_refuse}

-- Where the blocks end

abbrev IsOneOrNone : List ℕ → Type 0
IsOneOrNone line = IsScheduleLine line ⊎ (IsScheduleLine line → ⊥)

by_said : (line : List ℕ) (said : Said) → Says line said → IsOneOrNone line
by_said line nothing h = inr (nothing_is_none line h.0)
by_said line (row one two) h = inl (row one two, λ e. cc, h.0)
by_said line (head k name) h = inl (head k name, λ e. cc, h.0)
by_said line (cycles c) h = inl (cycles c, λ e. cc, h.0)
by_said line (total t) h = inl (total t, λ e. cc, h.0)

one_or_none : (line : List ℕ) → IsOneOrNone line
one_or_none line = by (schedule_line_at line) refl
  where
    within : (said : Said) → schedule_line_at line ≡ Some said → (b : Bool) → is_said_within said ≡ b → IsOneOrNone line
    within said e true w = by_said line said (said_good line said e w)
    within said e false w = let large = said_large line said e w in inl (large_is_one line large.0 large.1)

    by : (found : Option Said) → schedule_line_at line ≡ found → IsOneOrNone line
    by None e = inr (bad_is_none line (said_bad line e))
    by (Some said) e = within said e (is_said_within said) refl

-- the lines, cut before the first schedule line
record AreCut (lines : List (List ℕ)) : Type 0 where
  before : List (List ℕ)
  after : List (List ℕ)
  whole : lines ≡ before ++ after
  ends : BlocksEnd before after

cut : (lines : List (List ℕ)) → AreCut lines
cut [] = record { before = []; after = []; whole = refl; ends = record { none = tt; first = tt } }
cut (line ∷ lines) = elim (one_or_none line) as (λ _. AreCut (line ∷ lines)) [
  | inl one ↦ record { before = []; after = line ∷ lines; whole = refl; ends = record { none = tt; first = one } }
  | inr none ↦ let rest = cut lines in record {
    before = line ∷ rest.before;
    after = rest.after;
    whole = ap (λ ls. line ∷ ls) rest.whole;
    ends = record { none = (none, rest.ends.none); first = rest.ends.first };
  }
]

-- One line below the blocks

-- the line tells something that fits after what these lines tell
record IsRead (blocks : List Block) (told : List Told) (line : List ℕ) (n : ℕ) : Type 0 where
  telling : Told
  tells : Tells blocks n line telling
  fits : Fits blocks told telling

abbrev Judged : List Block → List Told → List ℕ → ℕ → Type 0
Judged blocks told line n = ((fault : RowsFault) × IsFaulty blocks told line n fault) ⊎ IsRead blocks told line n

-- where the line is of no block
homeless : (blocks : List Block) (told : List Told) (line : List ℕ) (n : ℕ) (t : Told) → Tells blocks n line t
    → is_of_block blocks told t ≡ false → Judged blocks told line n
homeless blocks told line n (read s) tells h =
    inl (NoSuchBlock n, (refl, record { told = read s; tells = tells; is = refl; of_none = h }))
homeless blocks told line n (unread None k text) tells h =
    inl (Read (BadLine n), (refl, record { told = unread None k text; tells = tells; is = refl; of_none = h }))
homeless blocks told line n (unread (Some j) k text) tells h =
    inl (NoSuchBlock n, (refl, record { told = unread (Some j) k text; tells = tells; is = refl; of_none = h }))

by_fit : (blocks : List Block) (told : List Told) (line : List ℕ) (n : ℕ) (t : Told) → Tells blocks n line t
    → (there many : Bool) → is_of_block blocks told t ≡ there → nat_lt MAX_OPS (op_count told t) ≡ many
    → Judged blocks told line n
by_fit blocks told line n t tells false many h m = homeless blocks told line n t tells h
by_fit blocks told line n t tells true true h m =
    inl (Read (TooManyOperations n), (refl, record { told = t; tells = tells; of_block = h; many = ltb-true _ _ m }))
by_fit blocks told line n t tells true false h m =
    inr (record { telling = t; tells = tells; fits = record { of_block = h; few = ltb-false _ _ m } })

judged : (blocks : List Block) (told : List Told) (line : List ℕ) (n : ℕ) → Judged blocks told line n
judged blocks told line n = by (schedule_line_at line) refl
  where
    no_row : (SaysSomething line → ⊥) → Judged blocks told line n
    no_row none = by_fit blocks told line n (unread None n line) (refl, refl, none) _ _ refl refl

    named : (s : Said) → Says line s → (turn : Option ℕ) → misnamed blocks s ≡ turn → Judged blocks told line n
    named s says None m = by_fit blocks told line n (read s) (says, m) _ _ refl refl
    named s says (Some k) m = by_fit blocks told line n (unread (Some k) n line) (refl, refl, (s, says, m)) _ _ refl refl

    within : (s : Said) → schedule_line_at line ≡ Some s → (b : Bool) → is_said_within s ≡ b → Judged blocks told line n
    within s e true w = named s (said_good line s e w) (misnamed blocks s) refl
    within s e false w = no_row (said_large line s e w).1

    by : (found : Option Said) → schedule_line_at line ≡ found → Judged blocks told line n
    by None e = no_row (λ s. said_bad line e (s.0, s.1.0))
    by (Some s) e = within s e (is_said_within s) refl

-- All of them

abbrev ProposedOrNot : List Block → ℕ → List (List ℕ) → Type 0
ProposedOrNot blocks n lines = ((proposals : List Proposed) × Propose blocks n lines proposals)
    ⊎ ((fault : RowsFault) × HaveFirstFault blocks n lines fault)

-- where the lines before tell this, and it fits
from_here : (blocks : List Block) (n : ℕ) (all before lines : List (List ℕ)) (told : List Told)
    → all ≡ before ++ lines → TellAll blocks n before told → AllFit blocks [] told → ProposedOrNot blocks n all
from_here blocks n all before [] told whole tell fit = inl (
  proposals_of (length blocks) told,
  record {
    told = told;
    tell = subst (λ ls. TellAll blocks n ls told) (sym (whole ∙ append-nil before)) tell;
    fit = fit;
    are = refl;
  },
)
from_here blocks n all before (line ∷ lines) told whole tell fit =
    elim (judged blocks told line (n + length before + 1)) as (λ _. ProposedOrNot blocks n all) [
      | inl bad ↦ inr (
        bad.0,
        record {
          before = before;
          line = line;
          after = lines;
          whole = whole;
          told = told;
          tell = tell;
          fit = fit;
          faulty = bad.1;
        },
      )
      | inr good ↦ from_here blocks n all (before ++ line ∷ []) lines (told ++ good.telling ∷ [])
          (whole ∙ sym (append_assoc before (line ∷ []) lines))
          (TellAll-snoc blocks n before told line good.telling tell good.tells)
          (AllFit-snoc blocks [] told good.telling fit good.fits)
    ]

-- Texts

abbrev Answered : List ℕ → Type 0
Answered input = ((blocks : List Block) × (proposals : List Proposed) × Denotes input blocks proposals)
    ⊎ ((fault : RowsFault) × IsRefused input fault)

by_rows : (input : List ℕ) → length input ≤ MAX_INPUT → (c : AreCut (lines_of input)) (blocks : List Block)
    → files.Denotes (join_with_byte 10 c.before) blocks → 0 < length blocks → Answered input
by_rows input short c blocks file some =
    elim (from_here blocks (length c.before) c.after [] c.after [] refl tt tt) as (λ _. Answered input) [
      | inl good ↦ inl (
        blocks,
        good.0,
        record {
          short = short;
          before = c.before;
          after = c.after;
          are_lines = subst (AreLines input) c.whole (lines_are input);
          ends = c.ends;
          file = file;
          some = some;
          propose = good.1;
        },
      )
      | inr bad ↦ inr (
        bad.0,
        rows_refuse input bad.0 (record {
          short = short;
          before = c.before;
          after = c.after;
          are_lines = subst (AreLines input) c.whole (lines_are input);
          ends = c.ends;
          blocks = blocks;
          file = file;
          some = some;
          first = bad.1;
        }),
      )
    ]

by_count : (input : List ℕ) → length input ≤ MAX_INPUT → (c : AreCut (lines_of input)) (blocks : List Block)
    → files.Denotes (join_with_byte 10 c.before) blocks → Answered input
by_count input short c [] file = inr (
  NoBlocks,
  record {
    short = short;
    before = c.before;
    after = c.after;
    are_lines = subst (AreLines input) c.whole (lines_are input);
    ends = c.ends;
    file = file;
  },
)
by_count input short c (b ∷ bs) file = by_rows input short c (b ∷ bs) file (omega arith)

by_blocks : (input : List ℕ) → length input ≤ MAX_INPUT → (c : AreCut (lines_of input)) → Answered input
by_blocks input short c = elim (files_every.an_answer (join_with_byte 10 c.before)) as (λ _. Answered input) [
  | inl good ↦ by_count input short c good.0 good.1
  | inr bad ↦ inr (
    Read bad.0,
    blocks_refuse input bad.0 (record {
      short = short;
      before = c.before;
      after = c.after;
      are_lines = subst (AreLines input) c.whole (lines_are input);
      ends = c.ends;
      refused = bad.1;
    }),
  )
]

by_length : (input : List ℕ) (long : Bool) → nat_lt MAX_INPUT (length input) ≡ long → Answered input
by_length input true e = inr (Read InputTooLong, ltb-true _ _ e)
by_length input false e = by_blocks input (ltb-false _ _ e) (cut (lines_of input))

pub an_answer : TextsHaveAnAnswer
an_answer input = by_length input _ refl
