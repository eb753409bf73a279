-- What the reader has read of schedule lines, from line to line.
use Rattle.iloc_rows.proofs.Common.{◌≡◌, ℕ, suc, ◌+◌, ◌<◌, ◌≤◌, ◌≢◌, List, [], ◌∷◌, ◌++◌, length, IfErr, Some, None, Err, Option, Result, sym, refl, ap, ◌∙◌, subst, subst₂, append_assoc, append-nil, arith, length-append, Bor, join_with_byte, MAX_INPUT, Block, lines_are, lines_few, AreLines, lines_left, lines_of, NoMemory, AllFit, Fits, proposals_of, AddsTold, HasProposed, AreRefusedFor, BlocksAreRefused, Denotes, HasNoBlocks, HaveFault, HaveFirstFault, IsFaulty, IsRefused, Propose, ProposeApart, RowsAreRefused, TellAll, Tells, Told, RowsFault, Read, Proposed}
use Rattle.iloc_text.specs.declared.fault.ReadFault.{ReadFault}
use Rattle.iloc_text.specs.Files as files
use Rattle.iloc_timed.specs.Limits.{MAX_ROWS}
use Rattle.iloc_rows.specs.declared.blocks_end.CutText.{CutText}
use Rattle.iloc_rows.specs.declared.proposing.Proposing.{Proposing}
use Rattle.iloc_rows.specs.Steps.Ends.{IsCutOf}
use Rattle.iloc_rows.proofs.Picking.{last_block-nothing}
use Rattle.iloc_rows.proofs.Ends.{join-append}

pub TellAll-snoc : (blocks : List Block) (n : ℕ) (lines : List (List ℕ)) (ss : List Told) (line : List ℕ) (s : Told)
    → TellAll blocks n lines ss → Tells blocks (n + length lines + 1) line s
    → TellAll blocks n (lines ++ line ∷ []) (ss ++ s ∷ [])
TellAll-snoc blocks n [] [] line s h says =
    let number : n + 0 + 1 ≡ n + 1 = omega arith in (subst (λ m. Tells blocks m line s) number says, tt)
TellAll-snoc blocks n (l ∷ ls) (x ∷ xs) line s h says =
    let number : n + length (l ∷ ls) + 1 ≡ n + 1 + length ls + 1 = omega arith in
    (h.0, TellAll-snoc blocks (n + 1) ls xs line s h.1 (subst (λ m. Tells blocks m line s) number says))
TellAll-snoc blocks n lines ss line s h says = absurd h

pub length-TellAll : (blocks : List Block) (n : ℕ) (lines : List (List ℕ)) (ss : List Told) → TellAll blocks n lines ss
    → length ss ≡ length lines
length-TellAll blocks n [] [] h = refl
length-TellAll blocks n (l ∷ ls) (s ∷ ss) h = ap suc (length-TellAll blocks (n + 1) ls ss h.1)
length-TellAll blocks n lines ss h = absurd h

pub AllFit-snoc : (blocks : List Block) (lines ss : List Told) (s : Told) → AllFit blocks lines ss
    → Fits blocks (lines ++ ss) s → AllFit blocks lines (ss ++ s ∷ [])
AllFit-snoc blocks lines [] s h f = (subst (λ l. Fits blocks l s) (append-nil lines) f, tt)
AllFit-snoc blocks lines (x ∷ xs) s h f = (
  h.0,
  AllFit-snoc blocks (lines ++ x ∷ []) xs s h.1 (subst (λ l. Fits blocks l s)
      (sym (append_assoc lines (x ∷ []) xs)) f),
)

-- this was proposed on the first of all these lines, and the rest is still to be read
pub record Progress (blocks : List Block) (lines : ℕ) (all : List (List ℕ)) (state : Proposing) (number : ℕ)
    (rest : Option (Bor (List ℕ))) : Type 0 where
  pub before : List (List ℕ)
  pub told : List Told
  pub tell : TellAll blocks lines before told
  pub fit : AllFit blocks [] told
  pub proposed : HasProposed blocks told state
  pub number_is : number ≡ lines + length before
  pub whole : all ≡ before ++ lines_left rest

pub progress_begins : (blocks : List Block) (lines : ℕ) (state : Proposing) (rest : Option (Bor (List ℕ)))
    → state.proposals.items ≡ proposals_of (length blocks) [] → state.last ≡ 0
    → Progress blocks lines (lines_left rest) state lines rest
progress_begins blocks lines state rest p l = record {
  before = [];
  told = [];
  tell = tt;
  fit = tt;
  proposed = record { proposals = p; last = l ∙ sym last_block-nothing };
  number_is = omega arith;
  whole = refl;
}

pub progress_step : {blocks : List Block} {lines : ℕ} {all : List (List ℕ)} {state : Proposing} {number : ℕ}
    {text : Bor (List ℕ)} (p : Progress blocks lines all state number (Some text)) (line : List ℕ)
    (after : Option (Bor (List ℕ))) (s : Told) (new : Proposing)
    → lines_of text.now ≡ line ∷ lines_left after → Tells blocks (number + 1) line s
    → Fits blocks p.told s × HasProposed blocks (p.told ++ s ∷ []) new
    → Progress blocks lines all new (number + 1) after
progress_step {blocks} {lines} {all} {state} {number} {text} p line after s new split says added = record {
  before = p.before ++ line ∷ [];
  told = p.told ++ s ∷ [];
  tell = TellAll-snoc blocks lines p.before p.told line s p.tell (subst (λ n. Tells blocks (n + 1) line s) p.number_is says);
  fit = AllFit-snoc blocks [] p.told s p.fit added.0;
  proposed = added.1;
  number_is = omega (arith, length-append p.before (line ∷ []), p.number_is);
  whole = p.whole ∙ ap (λ l. p.before ++ l) split ∙ sym (append_assoc p.before (line ∷ []) (lines_left after));
}

pub progress_number : {blocks : List Block} {lines : ℕ} {all : List (List ℕ)} {state : Proposing} {number : ℕ}
    {rest : Option (Bor (List ℕ))} → Progress blocks lines all state number rest
    → number + length (lines_left rest) ≡ lines + length all
progress_number {blocks} {lines} {all} {state} {number} {rest} p =
    omega (arith, p.number_is, ap length p.whole, length-append p.before (lines_left rest))

pub progress_room : {blocks : List Block} {lines : ℕ} {all : List (List ℕ)} {state : Proposing} {number : ℕ}
    {rest : Option (Bor (List ℕ))} (p : Progress blocks lines all state number rest)
    → lines + length all ≤ MAX_INPUT + 1 → length p.told < MAX_ROWS
progress_room {blocks} {lines} {all} {state} {number} {rest} p few =
    omega (arith, length-TellAll blocks lines p.before p.told p.tell, ap length p.whole, length-append p.before (lines_left rest))

pub progress_ends : {blocks : List Block} {lines : ℕ} {all : List (List ℕ)} {state : Proposing} {number : ℕ}
    → Progress blocks lines all state number None → Propose blocks lines all state.proposals.items
progress_ends p = grind (arith, append-nil)

-- Faults

-- the line at hand has this fault
pub fault_here : {blocks : List Block} {lines : ℕ} {all : List (List ℕ)} {state : Proposing} {number : ℕ}
    {text : Bor (List ℕ)} (p : Progress blocks lines all state number (Some text)) (line : List ℕ)
    (after : Option (Bor (List ℕ))) (fault : RowsFault)
    → lines_of text.now ≡ line ∷ lines_left after → IsFaulty blocks p.told line (number + 1) fault
    → HaveFirstFault blocks lines all fault
fault_here p line after fault split faulty = grind arith

pub added_faulty : (blocks : List Block) (ss : List Told) (line : List ℕ) (s : Told) (n : ℕ) (state : Proposing)
    (fault : RowsFault) → Tells blocks n line s → AddsTold blocks ss s n state (Err fault) → fault ≢ Read NoMemory
    → IsFaulty blocks ss line n fault
added_faulty blocks ss line s n state fault says a memory = grind arith

-- the fault that a call hands on
pub err_is : {T : Type 0} (P : RowsFault → Type 0) (r : Result T RowsFault) (fault : RowsFault) → r ≡ Err fault
    → (fault ≢ Read NoMemory → P fault) → IfErr r (λ f. f ≢ Read NoMemory → P f)
err_is {T} P r fault e h = rw e h

-- The whole text

pub cut_number : {input : List ℕ} {cut : CutText} → IsCutOf input cut
    → cut.lines + length (lines_left cut.rows) ≤ length input + 1
cut_number {input} {cut} a =
    omega (arith, a.count, lines_few input, ap length a.lines, length-append a.before (lines_left cut.rows))

pub denoted : {input : List ℕ} {cut : CutText} (a : IsCutOf input cut) (blocks : List Block)
    (proposals : List Proposed) → length input ≤ MAX_INPUT → files.Denotes cut.blocks.now blocks → 0 < length blocks
    → Propose blocks cut.lines (lines_left cut.rows) proposals → Denotes input blocks proposals
denoted {input} {cut} a blocks proposals short file some propose = record {
  short = short;
  before = a.before;
  after = lines_left cut.rows;
  are_lines = subst (AreLines input) a.lines (lines_are input);
  ends = a.ends;
  file = subst (λ t. files.Denotes t blocks) a.blocks file;
  some = some;
  propose = subst (λ n. Propose blocks n (lines_left cut.rows) proposals) a.count propose;
}

front_short : (before after : List (List ℕ)) → length (join_with_byte 10 before)
    ≤ length (join_with_byte 10 (before ++ after))
front_short before [] = omega (arith, ap (λ ls. length (join_with_byte 10 ls)) (append-nil before))
front_short [] (l ∷ ls) = omega arith
front_short (x ∷ xs) (l ∷ ls) = grind (arith, join-append, length-append)

-- a refusal of the blocks refuses the text
pub blocks_refuse : (input : List ℕ) (fault : ReadFault) → BlocksAreRefused input fault → IsRefused input (Read fault)
blocks_refuse input fault b = grind (arith, front_short)

-- and so does one of the schedule lines
pub rows_refuse : (input : List ℕ) (fault : RowsFault) → RowsAreRefused input fault → IsRefused input fault
rows_refuse input fault r = grind arith

pub blocks_refused : {input : List ℕ} {cut : CutText} (a : IsCutOf input cut) (fault : ReadFault)
    → length input ≤ MAX_INPUT → files.IsRefused cut.blocks.now fault → IsRefused input (Read fault)
blocks_refused {input} {cut} a fault short h = blocks_refuse input fault (record {
  short = short;
  before = a.before;
  after = lines_left cut.rows;
  are_lines = subst (AreLines input) a.lines (lines_are input);
  ends = a.ends;
  refused = subst (λ t. files.IsRefused t fault) a.blocks h;
})

pub rows_refused : {input : List ℕ} {cut : CutText} (a : IsCutOf input cut) (blocks : List Block)
    (fault : RowsFault) → length input ≤ MAX_INPUT → files.Denotes cut.blocks.now blocks → 0 < length blocks
    → HaveFirstFault blocks cut.lines (lines_left cut.rows) fault → IsRefused input fault
rows_refused {input} {cut} a blocks fault short file some h = rows_refuse input fault (record {
  short = short;
  before = a.before;
  after = lines_left cut.rows;
  are_lines = subst (AreLines input) a.lines (lines_are input);
  ends = a.ends;
  blocks = blocks;
  file = subst (λ t. files.Denotes t blocks) a.blocks file;
  some = some;
  first = subst (λ n. HaveFirstFault blocks n (lines_left cut.rows) fault) a.count h;
})

no_blocks_are : (blocks : List Block) → length blocks ≤ 0 → blocks ≡ []
no_blocks_are [] few = refl
no_blocks_are (b ∷ bs) few = absurd (omega arith)

pub no_blocks : {input : List ℕ} {cut : CutText} (a : IsCutOf input cut) (blocks : List Block)
    → length input ≤ MAX_INPUT → files.Denotes cut.blocks.now blocks → length blocks ≤ 0 → HasNoBlocks input
no_blocks {input} {cut} a blocks short file none = record {
  short = short;
  before = a.before;
  after = lines_left cut.rows;
  are_lines = subst (AreLines input) a.lines (lines_are input);
  ends = a.ends;
  file = subst₂ (λ t bs. files.Denotes t bs) a.blocks (no_blocks_are blocks none) file;
}

-- Rows apart from their blocks

pub proposed_apart : (blocks : List Block) (input : List ℕ) (proposals : List Proposed) → length input ≤ MAX_INPUT
    → Propose blocks 0 (lines_of input) proposals → ProposeApart blocks input proposals
proposed_apart blocks input proposals short propose =
    record { short = short; lines = lines_of input; are_lines = lines_are input; propose = propose }

refused_for : (blocks : List Block) (input : List ℕ) (fault : RowsFault) → HaveFault blocks input fault
    → AreRefusedFor blocks input fault
refused_for blocks input fault h = grind arith

pub refused_apart : (blocks : List Block) (input : List ℕ) (fault : RowsFault) → length input ≤ MAX_INPUT
    → HaveFirstFault blocks 0 (lines_of input) fault → AreRefusedFor blocks input fault
refused_apart blocks input fault short first = refused_for blocks input fault
    record { short = short; lines = lines_of input; are_lines = lines_are input; first = first }
