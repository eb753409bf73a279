-- What the scanner finds in a schedule line is a text of the grammar.
use Rattle.iloc_text.proofs.Common.{◌≡◌, ℕ, Bool, true, false, cond, List, [], ◌∷◌, IfSome, ◌==◌, Some, None, codes, Option, option_map, bytes_eq, unwrap_or, refl, ap, ◌∙◌, ap₂, inl, inr, arith, eqb-true, is_ascii_alphabetic, Op, Blanks, Number, OptionalOperation, SomeBlanks, Text, is_word_byte, ◌⋅◌, BlockName, RowText, Said, SaidText, SaysWidely, SlotText, alone, cycles, head, nothing, row, total, after_blanks, after_word, capped, is_end, number_at, optional_operation_at, some_blanks_at, word_of, behind_byte, block_name_at, row_from, worded_at}
use Rattle.std.proofs.lemmas.Slice.Eq.{bytes_eq-Decides}
use Rattle.iloc_ops.specs.declared.op.Op.TheVariants.{Nop}
use Rattle.iloc_text.specs.Steps.ScheduleScan.{slot_at, row_at, number_behind, head_at, cycles_at, total_at, said_at, schedule_line_at}
use Rattle.iloc_text.proofs.Parts.{Before, Before-join, Before-all, all-Before}
use Rattle.iloc_text.proofs.Tokens.{blanks_read, some_blanks_read, number_read, some_map, word_read}
use Rattle.iloc_text.proofs.Opcodes.{bind_each}
use Rattle.iloc_text.proofs.Names.{capped_op}
use Rattle.iloc_text.proofs.Bodies.{optional_read, end_read}
use Rattle.iloc_text.proofs.Labels.{word_is_name}

-- what is said, with each number capped
abbrev pub capped_said : Said → Said
capped_said nothing = nothing
capped_said (row zero one) = row (capped_op zero) (capped_op one)
capped_said (head k name) = head (capped k) name
capped_said (cycles c) = cycles (capped c)
capped_said (total t) = total (capped t)

abbrev FindsSlot : List ℕ → Op × List ℕ → Type 0
FindsSlot bytes found = (op : Op) × Before (SlotText op) found.1 bytes × (found.0 ≡ capped_op op)

-- a slot with an operation, or without one
abbrev pub GivenSlot : Option Op → List ℕ → Type 0
GivenSlot given = Blanks ⋅ OptionalOperation given ⋅ Blanks

slot_before : (given : Option Op) {rest bytes : List ℕ} → Before (GivenSlot given) rest bytes
    → Before (SlotText (unwrap_or given Nop)) rest bytes
slot_before given b = record { front = b.front; first = (given, refl, b.first); whole = b.whole }

pub capped_given : (given : Option Op) → unwrap_or (option_map capped_op given) Nop ≡ capped_op (unwrap_or given Nop)
unfolding capped_op
capped_given None = refl
capped_given (Some op) = refl

slot_read : (bytes : List ℕ) → IfSome (slot_at bytes) (FindsSlot bytes)
unfolding slot_at
slot_read bytes = bind_each (FindsSlot bytes) (optional_operation_at (after_blanks bytes)) _
    (optional_read (after_blanks bytes)) (λ found f. (
      unwrap_or f.0 Nop,
      slot_before f.0 (Before-join (blanks_read bytes) (Before-join f.1 (blanks_read found.1))),
      ap (λ given. unwrap_or given Nop) f.2 ∙ capped_given f.0,
    ))

behind_read : (byte : ℕ) (bytes : List ℕ) → IfSome (behind_byte byte bytes) (λ rest. Before (Text (byte ∷ [])) rest bytes)
behind_read byte bytes = grind (arith, eqb-true)

pub alone_capped : (op : Op) → alone (capped_op op) ≡ (capped_op (alone op).0, capped_op (alone op).1)
unfolding capped_op
alone_capped Nop = refl
alone_capped _ = refl

abbrev pub RowBody : Op → Op → List ℕ → Type 0
RowBody zero one = RowText zero one ⋅ Text (codes "]")

abbrev FindsRow : List ℕ → Said × List ℕ → Type 0
FindsRow bytes found = (zero : Op) × (one : Op) × Before (RowBody zero one) found.1 bytes
    × (found.0 ≡ row (capped_op zero) (capped_op one))

row_read : (bytes : List ℕ) → IfSome (row_at bytes) (FindsRow bytes)
unfolding row_at
row_read bytes =
    bind_each (FindsRow bytes) (slot_at bytes) _ (slot_read bytes)
    (λ first f. by first f (behind_byte 59 first.1) (behind_read 59 first.1))
  where
    two : (zero one : Op) (rest : List ℕ) → Before (SlotText zero ⋅ Text (codes ";") ⋅ SlotText one) rest bytes
        → Before (RowText zero one) rest bytes
    two zero one rest b = record { front = b.front; first = inl b.first; whole = b.whole }

    single : (op : Op) (rest : List ℕ) → Before (SlotText op) rest bytes
        → Before (RowText (alone op).0 (alone op).1) rest bytes
    single op rest b = record { front = b.front; first = inr (op, b.first, refl); whole = b.whole }

    by : (first : Op × List ℕ) → FindsSlot bytes first → (o : Option (List ℕ))
        → IfSome o (λ middle. Before (Text (codes ";")) middle first.1) → IfSome (row_from first o) (FindsRow bytes)
    by first f None m =
        bind_each (FindsRow bytes) (behind_byte 93 first.1) _ (behind_read 93 first.1) (λ rest r. (
          (alone f.0).0,
          (alone f.0).1,
          Before-join (single f.0 first.1 f.1) r,
          ap (λ op. row (alone op).0 (alone op).1) f.2 ∙ ap (λ pair. row pair.0 pair.1) (alone_capped f.0),
        ))
    by first f (Some middle) m =
        bind_each (FindsRow bytes) (slot_at middle) _ (slot_read middle) (λ one o.
        bind_each (FindsRow bytes) (behind_byte 93 one.1) _ (behind_read 93 one.1) (λ rest r.
        (f.0, o.0, Before-join (two f.0 o.0 one.1 (Before-join f.1 (Before-join m o.1))) r, ap₂ row f.2 o.2)))

abbrev FindsBehind : List ℕ → ℕ × List ℕ → Type 0
FindsBehind bytes found = (n : ℕ) × (mid : List ℕ) × Before SomeBlanks mid bytes × Before (Number n) found.1 mid
    × (found.0 ≡ capped n)

number_behind_read : (bytes : List ℕ) → IfSome (number_behind bytes) (FindsBehind bytes)
unfolding number_behind
number_behind_read bytes = bind_each (FindsBehind bytes) (some_blanks_at bytes) number_at (some_blanks_read bytes)
    (λ mid b. some_map (λ found f. (f.0, mid, b, f.1, f.2)) (number_at mid) (number_read mid))

abbrev FindsName : List ℕ → Option (List ℕ) × List ℕ → Type 0
FindsName bytes found = Before (BlockName found.0) found.1 bytes

abbrev name_or_none : Bool → ℕ → List ℕ → Option (Option (List ℕ) × List ℕ)
name_or_none b c cs = cond b (Some (Some (word_of (c ∷ cs)), after_word (c ∷ cs))) None

abbrev dash_or_name : Bool → ℕ → List ℕ → Option (Option (List ℕ) × List ℕ)
dash_or_name b c cs = cond b (Some (None, cs)) (name_or_none (is_ascii_alphabetic c) c cs)

block_name_read : (bytes : List ℕ) → IfSome (block_name_at bytes) (FindsName bytes)
block_name_read [] = tt
block_name_read (c ∷ cs) = by (c == 45) refl
  where
    named : (b : Bool) → is_ascii_alphabetic c ≡ b → IfSome (name_or_none b c cs) (FindsName (c ∷ cs))
    named true e = record {
      front = word_of (c ∷ cs);
      first = (word_is_name c cs e, refl);
      whole = (word_read (c ∷ cs)).1;
    }
    named false e = tt

    by : (b : Bool) → (c == 45) ≡ b → IfSome (dash_or_name b c cs) (FindsName (c ∷ cs))
    by true e = record { front = c ∷ []; first = ap (λ d. d ∷ []) (eqb-true c 45 e); whole = refl }
    by false e = named (is_ascii_alphabetic c) refl

abbrev FindsSaid : List ℕ → Said × List ℕ → Type 0
FindsSaid bytes found = (said : Said) × Before (SaidText said) found.1 bytes × (found.0 ≡ capped_said said)

head_read : (bytes rest : List ℕ) → Before (Text (codes "block")) rest bytes → IfSome (head_at rest) (FindsSaid bytes)
unfolding head_at
head_read bytes rest w =
    bind_each (FindsSaid bytes) (number_behind rest) _ (number_behind_read rest) (λ found f.
    bind_each (FindsSaid bytes) (some_blanks_at found.1) _ (some_blanks_read found.1) (λ behind b.
    bind_each (FindsSaid bytes) (block_name_at behind) _ (block_name_read behind) (λ name n. (
      head f.0 name.0,
      Before-join w (Before-join f.2 (Before-join f.3 (Before-join b n))),
      ap (λ k. head k name.0) f.4,
    ))))

cycles_read : (bytes rest : List ℕ) → Before (Text (codes "cycles")) rest bytes
    → IfSome (cycles_at rest) (FindsSaid bytes)
unfolding cycles_at
cycles_read bytes rest w = bind_each (FindsSaid bytes) (number_behind rest) _ (number_behind_read rest)
    (λ found f. (cycles f.0, Before-join w (Before-join f.2 f.3), ap cycles f.4))

total_read : (bytes rest : List ℕ) → Before (Text (codes "total")) rest bytes
    → IfSome (total_at rest) (FindsSaid bytes)
unfolding total_at
total_read bytes rest w = bind_each (FindsSaid bytes) (number_behind rest) _ (number_behind_read rest)
    (λ found f. (total f.0, Before-join w (Before-join f.2 f.3), ap total f.4))

worded_read : (bytes : List ℕ) → IfSome (worded_at (word_of bytes) (after_word bytes)) (FindsSaid bytes)
worded_read bytes = grind (arith, bytes_eq, bytes_eq-Decides, codes, cycles_read, head_read, total_read, word_read)

nothing_said : (bytes : List ℕ) → FindsSaid bytes (nothing, bytes)
nothing_said bytes = (nothing, record { front = []; first = refl; whole = refl }, refl)

said_read : (bytes : List ℕ) → IfSome (said_at bytes) (FindsSaid bytes)
unfolding said_at
said_read [] = nothing_said []
said_read (c ∷ cs) = by (c == 91) refl
  where
    worded : (b : Bool) → IfSome (cond b (worded_at (word_of (c ∷ cs)) (after_word (c ∷ cs)))
        (Some (nothing, c ∷ cs))) (FindsSaid (c ∷ cs))
    worded true = worded_read (c ∷ cs)
    worded false = nothing_said (c ∷ cs)

    by : (b : Bool) → (c == 91) ≡ b → IfSome (cond b (row_at cs) (cond (is_word_byte c)
        (worded_at (word_of (c ∷ cs)) (after_word (c ∷ cs))) (Some (nothing, c ∷ cs)))) (FindsSaid (c ∷ cs))
    by true e = some_map (λ found f. (
      row f.0 f.1,
      Before-join (record { front = c ∷ []; first = ap (λ d. d ∷ []) (eqb-true c 91 e); whole = refl }) f.2,
      f.3,
    )) (row_at cs) (row_read cs)
    by false e = worded (is_word_byte c)

abbrev pub FindsSaidLine : List ℕ → Said → Type 0
FindsSaidLine bytes found = (said : Said) × SaysWidely bytes said × (found ≡ capped_said said)

pub line_read : (bytes : List ℕ) → IfSome (schedule_line_at bytes) (FindsSaidLine bytes)
unfolding schedule_line_at
line_read bytes = bind_each (FindsSaidLine bytes) (said_at (after_blanks bytes)) _ (said_read (after_blanks bytes))
    (λ found f. ends found f (is_end (after_blanks found.1)) refl)
  where
    ends : (found : Said × List ℕ) → FindsSaid (after_blanks bytes) found → (b : Bool)
        → is_end (after_blanks found.1) ≡ b → IfSome (cond b (Some found.0) None) (FindsSaidLine bytes)
    ends found f false e = tt
    ends found f true e = (
      f.0,
      Before-all (Before-join (blanks_read bytes) (Before-join f.1
          (Before-join (blanks_read found.1) (all-Before (end_read (after_blanks found.1) e))))),
      f.2,
    )
