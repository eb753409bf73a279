-- Each text of the grammar of schedule lines is found by the scanner.
use Rattle.iloc_text.proofs.Common.{◌≡◌, ℕ, Bool, true, false, ◌≢◌, List, [], ◌∷◌, ◌++◌, ◌==◌, Some, None, codes, Option, unwrap_or, sym, refl, ap, ◌∙◌, subst, ap₂, inl, inr, arith, nat_tests, is_ascii_alphabetic, is_ascii_digit, Constant, Op, IsName, Number, SomeBlanks, Text, is_blank, is_word_byte, ◌⋅◌, BlockName, RowText, Said, SaidText, SaysWidely, SlotText, alone, cycles, head, nothing, row, total, after_blanks, after_word, capped, word_of, behind_byte, block_name_at, worded_at}
use Rattle.iloc_ops.specs.declared.op.Op.TheVariants.{Nop}
use Rattle.iloc_text.specs.Steps.ScheduleScan.{slot_at, row_at, number_behind, head_at, cycles_at, total_at, said_at, schedule_line_at}
use Rattle.iloc_text.proofs.Parts.{Before, Before-split, Before-all, all-Before, starts}
use Rattle.iloc_text.proofs.Tokens.{blanks_none, blanks_over, blanks_again, some_blanks_again, number_again, IsWord, word_again}
use Rattle.iloc_text.proofs.Starts.{blanks_fail, text_starts, blank_is_no_digit, blank_is_no_word_byte, digit_is_no_blank, digit_start_by_word, some_fail, value_fails}
use Rattle.iloc_text.proofs.Names.{capped_op}
use Rattle.iloc_text.proofs.Operations.{operation_again, operation_starts}
use Rattle.iloc_text.proofs.Bodies.{optional_here, optional_none, end_again, end_starts, no_blank_start}
use Rattle.iloc_text.proofs.Labels.{name_is_word}
use Rattle.iloc_text.proofs.ScheduleLines.Read.{capped_said, GivenSlot, capped_given, alone_capped, RowBody}

given_again : (given : Option Op) (rest bytes : List ℕ) → Before (GivenSlot given) rest bytes
    → starts is_word_byte rest ≡ false → starts is_blank rest ≡ false
    → slot_at bytes ≡ Some (capped_op (unwrap_or given Nop), rest)
unfolding slot_at
given_again None rest bytes b s t =
    let first = Before-split b in
    let second = Before-split first.2 in
    let still = blanks_none rest t in
    let skipped : after_blanks bytes ≡ rest =
    blanks_over first.0 bytes first.1 ∙ ap after_blanks (second.1.whole ∙ ap (λ f. f ++ second.0) second.1.first)
    ∙ blanks_over rest second.0 second.2 ∙ still in
    rw (skipped, optional_none rest s, still) (ap (λ op. Some (op, rest)) (capped_given None))
given_again (Some op) rest bytes b s t =
    let first = Before-split b in
    let second = Before-split first.2 in
    let word = operation_starts op second.0 first.0 second.1 in
    rw (
      blanks_again first.0 bytes first.1 (no_blank_start first.0 word),
      optional_here first.0 word,
      operation_again op second.0 first.0 second.1 (blanks_fail is_word_byte blank_is_no_word_byte second.2 s),
      blanks_again rest second.0 second.2 t,
    ) refl

slot_again : (op : Op) (rest bytes : List ℕ) → Before (SlotText op) rest bytes → starts is_word_byte rest ≡ false
    → starts is_blank rest ≡ false → slot_at bytes ≡ Some (capped_op op, rest)
slot_again op rest bytes b s t =
    let again = given_again b.first.0 rest bytes (record { front = b.front; first = b.first.2; whole = b.whole }) s t in
    subst (λ o. slot_at bytes ≡ Some (capped_op o, rest)) (sym b.first.1) again

behind_again : (byte : ℕ) (rest bytes : List ℕ) → (byte == byte) ≡ true → Before (Text (byte ∷ [])) rest bytes
    → behind_byte byte bytes ≡ Some rest
behind_again byte rest bytes e b = grind arith

row_again : (zero one : Op) (rest bytes : List ℕ) → Before (RowBody zero one) rest bytes
    → row_at bytes ≡ Some (row (capped_op zero) (capped_op one), rest)
unfolding row_at
row_again zero one rest bytes b = by (Before-split b)
  where
    two : (mid : List ℕ) → Before (SlotText zero ⋅ Text (codes ";") ⋅ SlotText one) mid bytes
        → Before (Text (codes "]")) rest mid → row_at bytes ≡ Some (row (capped_op zero) (capped_op one), rest)
    two mid body end =
        let first = Before-split body in
        let second = Before-split first.2 in
        rw (
          slot_again zero first.0 bytes first.1 (text_starts is_word_byte second.1) (text_starts is_blank second.1),
          behind_again 59 second.0 first.0 refl second.1,
          slot_again one mid second.0 second.2 (text_starts is_word_byte end) (text_starts is_blank end),
          behind_again 93 rest mid refl end,
        ) refl

    single : (op : Op) (mid : List ℕ) → Before (SlotText op) mid bytes → Before (Text (codes "]")) rest mid
        → row_at bytes ≡ Some (row (capped_op (alone op).0) (capped_op (alone op).1), rest)
    single op mid body end =
        let none : behind_byte 59 mid ≡ None = ap (behind_byte 59) (end.whole ∙ ap (λ f. f ++ rest) end.first) in
        rw (
          slot_again op mid bytes body (text_starts is_word_byte end) (text_starts is_blank end),
          none,
          behind_again 93 rest mid refl end,
        ) (ap (λ pair. Some (row pair.0 pair.1, rest)) (alone_capped op))

    of_text : (mid : List ℕ) (b : Before (RowText zero one) mid bytes) → Before (Text (codes "]")) rest mid
        → row_at bytes ≡ Some (row (capped_op zero) (capped_op one), rest)
    of_text mid b end = by b.first
      where
        by : RowText zero one b.front → row_at bytes ≡ Some (row (capped_op zero) (capped_op one), rest)
        by (inl both) = two mid (record { front = b.front; first = both; whole = b.whole }) end
        by (inr one) =
            let found = single one.0 mid (record { front = b.front; first = one.1; whole = b.whole }) end in
            found ∙ ap (λ pair. Some (row (capped_op pair.0) (capped_op pair.1), rest)) (sym one.2)

    by : (mid : List ℕ) × Before (RowText zero one) mid bytes × Before (Text (codes "]")) rest mid
        → row_at bytes ≡ Some (row (capped_op zero) (capped_op one), rest)
    by split = of_text split.0 split.1 split.2

number_behind_again : (n : ℕ) (mid rest bytes : List ℕ) → Before SomeBlanks mid bytes → Before (Number n) rest mid
    → starts is_ascii_digit rest ≡ false → number_behind bytes ≡ Some (capped n, rest)
unfolding number_behind
number_behind_again n mid rest bytes b d s =
    let value = value_fails (Constant n) is_blank (record { digit = digit_is_no_blank; letter = refl }) d in
    rw (some_blanks_again mid bytes b value, number_again n rest mid d s) refl

letter_is_no_dash : (c : ℕ) → is_ascii_alphabetic c ≡ true → (c == 45) ≡ false
letter_is_no_dash c h = grind (arith, nat_tests)

letter_is_no_blank : (c : ℕ) → is_ascii_alphabetic c ≡ true → is_blank c ≡ false
letter_is_no_blank c h = grind (arith, nat_tests)

name_over : (name rest : List ℕ) → IsName name → starts is_word_byte rest ≡ false
    → block_name_at (name ++ rest) ≡ Some (Some name, rest)
name_over [] rest h s = absurd h
name_over (c ∷ cs) rest h s =
    let word = word_again (c ∷ cs) rest (name_is_word (c ∷ cs) h) s in
    let here : block_name_at (c ∷ (cs ++ rest))
    ≡ Some (Some (word_of (c ∷ (cs ++ rest))), after_word (c ∷ (cs ++ rest))) =
    rw (letter_is_no_dash c h.0, h.0) refl in
    here ∙ ap₂ (λ w r. Some (Some w, r)) word.0 word.1

block_name_again : (name : Option (List ℕ)) (rest bytes : List ℕ) → Before (BlockName name) rest bytes
    → starts is_word_byte rest ≡ false → block_name_at bytes ≡ Some (name, rest)
block_name_again name rest bytes b s = grind (arith, name_over)

block_name_starts : (name : Option (List ℕ)) (rest bytes : List ℕ) → Before (BlockName name) rest bytes
    → starts is_blank bytes ≡ false
block_name_starts name rest bytes b = grind (arith, letter_is_no_blank, text_starts)

word_here : (t rest bytes : List ℕ) → IsWord t → Before (Text t) rest bytes → starts is_word_byte rest ≡ false
    → (word_of bytes ≡ t) × (after_word bytes ≡ rest)
word_here t rest bytes w b s =
    let whole : bytes ≡ t ++ rest = b.whole ∙ ap (λ f. f ++ rest) b.first in
    let word = word_again t rest w s in (ap word_of whole ∙ word.0, ap after_word whole ∙ word.1)

word_is_no_bracket : (c : ℕ) → is_word_byte c ≡ true → (c == 91) ≡ false
word_is_no_bracket c h = grind (arith, nat_tests)

said_worded : (bytes : List ℕ) → starts is_word_byte bytes ≡ true
    → said_at bytes ≡ worded_at (word_of bytes) (after_word bytes)
unfolding said_at
said_worded bytes h = grind (arith, word_is_no_bracket)

abbrev is_bracket : ℕ → Bool
is_bracket c = c == 91

said_nothing : (bytes : List ℕ) → starts is_bracket bytes ≡ false → starts is_word_byte bytes ≡ false
    → said_at bytes ≡ Some (nothing, bytes)
unfolding said_at
said_nothing bytes h s = grind arith

-- what stands behind a word that is followed by blanks
worded_again : (t rest bytes : List ℕ) → IsWord t → Before (Text t) rest bytes → starts is_word_byte (t ++ rest) ≡ true
    → starts is_word_byte rest ≡ false → said_at bytes ≡ worded_at t rest
worded_again t rest bytes w b first s = grind (arith, said_worded, text_starts, word_here)

head_again : (k : ℕ) (name : Option (List ℕ)) (rest bytes : List ℕ)
    → Before (SomeBlanks ⋅ Number k ⋅ SomeBlanks ⋅ BlockName name) rest bytes → starts is_word_byte rest ≡ false
    → head_at bytes ≡ Some (head (capped k) name, rest)
unfolding head_at
head_again k name rest bytes b s =
    let first = Before-split b in
    let second = Before-split first.2 in
    let third = Before-split second.2 in
    rw (
      number_behind_again k first.0 second.0 bytes first.1 second.1
          (some_fail is_ascii_digit blank_is_no_digit third.1),
      some_blanks_again third.0 second.0 third.1 (block_name_starts name rest third.0 third.2),
      block_name_again name rest third.0 third.2 s,
    ) refl

cycles_again : (c : ℕ) (rest bytes : List ℕ) → Before (SomeBlanks ⋅ Number c) rest bytes
    → starts is_word_byte rest ≡ false → cycles_at bytes ≡ Some (cycles (capped c), rest)
unfolding cycles_at
cycles_again c rest bytes b s =
    let first = Before-split b in
    rw (number_behind_again c first.0 rest bytes first.1 first.2 (digit_start_by_word rest s)) refl

total_again : (t : ℕ) (rest bytes : List ℕ) → Before (SomeBlanks ⋅ Number t) rest bytes
    → starts is_word_byte rest ≡ false → total_at bytes ≡ Some (total (capped t), rest)
unfolding total_at
total_again t rest bytes b s =
    let first = Before-split b in
    rw (number_behind_again t first.0 rest bytes first.1 first.2 (digit_start_by_word rest s)) refl

no_word : {P : List ℕ → Type 0} {rest bytes : List ℕ} → Before (SomeBlanks ⋅ P) rest bytes
    → starts is_word_byte bytes ≡ false
no_word {P} {rest} {bytes} b = some_fail is_word_byte blank_is_no_word_byte (Before-split b).1

-- more than nothing is found, and it begins with no blank
something_again : (said : Said) (rest bytes : List ℕ) → said ≢ nothing → Before (SaidText said) rest bytes
    → starts is_word_byte rest ≡ false
    → (said_at bytes ≡ Some (capped_said said, rest)) × (starts is_blank bytes ≡ false)
unfolding said_at
something_again nothing rest bytes some b s = absurd (some refl)
something_again (row zero one) rest bytes some b s =
    let first = Before-split b in
    let whole : bytes ≡ codes "[" ++ first.0 = first.1.whole ∙ ap (λ f. f ++ first.0) first.1.first in
    (ap said_at whole ∙ row_again zero one rest first.0 first.2, text_starts is_blank first.1)
something_again (head k name) rest bytes some b s =
    let first = Before-split b in (
      worded_again (codes "block") first.0 bytes (refl, (refl, (refl, (refl, (refl, tt))))) first.1 refl (no_word first.2)
          ∙ head_again k name rest first.0 first.2 s,
      text_starts is_blank first.1,
    )
something_again (cycles c) rest bytes some b s =
    let first = Before-split b in (
      worded_again (codes "cycles") first.0 bytes (refl, (refl, (refl, (refl, (refl, (refl, tt)))))) first.1 refl
          (no_word first.2)
          ∙ cycles_again c rest first.0 first.2 s,
      text_starts is_blank first.1,
    )
something_again (total c) rest bytes some b s =
    let first = Before-split b in (
      worded_again (codes "total") first.0 bytes (refl, (refl, (refl, (refl, (refl, tt))))) first.1 refl (no_word first.2)
          ∙ total_again c rest first.0 first.2 s,
      text_starts is_blank first.1,
    )

something_line : (bytes : List ℕ) (said : Said) → said ≢ nothing → SaysWidely bytes said
    → schedule_line_at bytes ≡ Some (capped_said said)
unfolding schedule_line_at
something_line bytes said some r =
    let first = Before-split (all-Before r) in
    let second = Before-split first.2 in
    let third = Before-split second.2 in
    let comment = Before-all third.2 in
    let found = something_again said second.0 first.0 some second.1
    (blanks_fail is_word_byte blank_is_no_word_byte third.1 (end_starts is_word_byte refl third.0 comment)) in
    rw (
      blanks_again first.0 bytes first.1 found.1,
      found.0,
      blanks_again third.0 second.0 third.1 (end_starts is_blank refl third.0 comment),
      end_again third.0 comment,
    ) refl

pub nothing_line : (bytes : List ℕ) → SaysWidely bytes nothing → schedule_line_at bytes ≡ Some nothing
unfolding schedule_line_at
nothing_line bytes r =
    let first = Before-split (all-Before r) in
    let second = Before-split first.2 in
    let third = Before-split second.2 in
    let comment = Before-all third.2 in
    let still : after_blanks third.0 ≡ third.0 = blanks_none third.0 (end_starts is_blank refl third.0 comment) in
    let skipped : after_blanks bytes ≡ third.0 =
    blanks_over first.0 bytes first.1 ∙ ap after_blanks (second.1.whole ∙ ap (λ f. f ++ second.0) second.1.first)
    ∙ blanks_over third.0 second.0 third.1 ∙ still in
    rw (
      skipped,
      said_nothing third.0 (end_starts is_bracket refl third.0 comment) (end_starts is_word_byte refl third.0 comment),
      still,
      end_again third.0 comment,
    ) refl

pub line_again : (bytes : List ℕ) (said : Said) → SaysWidely bytes said → schedule_line_at bytes ≡ Some (capped_said said)
line_again bytes nothing r = nothing_line bytes r
line_again bytes said r = something_line bytes said (λ e. cc) r
