-- The scanner reads the lines of the grammar, and each of them.
use Rattle.iloc_text.proofs.Common.{◌≡◌, ℕ, true, false, List, ◌++◌, IfSome, nat_lt, Some, None, Option, option_map, sym, refl, ap, ◌∙◌, subst, arith, list_all, numbers, operands, Op, HasReading, HasWideReading, Reads, ReadsWidely, is_blank, is_word_byte, after_blanks, body_at, is_within, optional_label_at, ABOVE_LIMIT}
use Rattle.std.proofs.lemmas.Option.{same_Some}
use Rattle.iloc_text.specs.Steps.Scan.{line_at}
use Rattle.iloc_text.proofs.Parts.{Before-join, Before-split, Before-all, all-Before, starts}
use Rattle.iloc_text.proofs.Tokens.{blanks_read, blanks_over, blanks_again}
use Rattle.iloc_text.proofs.Opcodes.{bind_each}
use Rattle.iloc_text.proofs.Starts.{blanks_fail, blank_is_no_word_byte}
use Rattle.iloc_text.proofs.Names.{capped_op, numbers-capped}
use Rattle.iloc_text.proofs.Operations.{operation_starts, operation_colon}
use Rattle.iloc_text.proofs.Bodies.{end_starts, Body, body_read, no_blank_start, body_again, body_skips}
use Rattle.iloc_text.proofs.Labels.{is_colon, label_read, label_none, label_not_here, label_again}
use Rattle.iloc_text.proofs.Caps.{all_numbers, capped-within, small_all, within_limit}

abbrev pub FindsLine : List ℕ → Option (List ℕ) × Option Op → Type 0
FindsLine bytes found = (op : Option Op) × ReadsWidely bytes found.0 op × (found.1 ≡ option_map capped_op op)

pub line_read : (bytes : List ℕ) → IfSome (line_at bytes) (FindsLine bytes)
unfolding line_at
line_read bytes = bind_each (FindsLine bytes) (body_at (optional_label_at (after_blanks bytes)).1) _
    (body_read (optional_label_at (after_blanks bytes)).1)
    (λ op f. (
      f.0,
      Before-all (Before-join (blanks_read bytes)
          (Before-join (label_read (after_blanks bytes)) (all-Before f.1))),
      f.2,
    ))

-- no label is found in front of what stands behind one
pub body_has_no_label : (op : Option Op) (bytes : List ℕ) → Body op bytes → optional_label_at (after_blanks bytes)
    ≡ (None, after_blanks bytes)
body_has_no_label (Some op) bytes r =
    let first = Before-split (all-Before r) in
    let second = Before-split first.2 in
    let third = Before-split second.2 in
    let comment = Before-all third.2 in
    let word = operation_starts op second.0 first.0 second.1 in
    let skipped = blanks_again first.0 bytes first.1 (no_blank_start first.0 word) in
    let stop = blanks_fail is_word_byte blank_is_no_word_byte third.1 (end_starts is_word_byte refl third.0 comment) in
    let colon : starts is_colon (after_blanks second.0) ≡ false =
    ap (starts is_colon) (blanks_again third.0 second.0 third.1 (end_starts is_blank refl third.0 comment))
    ∙ end_starts is_colon refl third.0 comment in
    rw skipped (label_none first.0 (operation_colon op second.0 first.0 second.1 stop colon))
body_has_no_label None bytes r =
    let first = Before-split (all-Before r) in
    let second = Before-split first.2 in
    let third = Before-split second.2 in
    let comment = Before-all third.2 in
    let skipped : after_blanks bytes ≡ third.0 =
    blanks_over first.0 bytes first.1 ∙ ap after_blanks (second.1.whole ∙ ap (λ f. f ++ second.0) second.1.first)
    ∙ blanks_again third.0 second.0 third.1 (end_starts is_blank refl third.0 comment) in
    rw skipped (label_not_here third.0 (end_starts is_word_byte refl third.0 comment))

pub line_again : (bytes : List ℕ) (label : Option (List ℕ)) (op : Option Op) → ReadsWidely bytes label op
    → line_at bytes ≡ Some (label, option_map capped_op op)
unfolding line_at
line_again bytes (Some name) op r =
    let first = Before-split (all-Before r) in
    let second = Before-split first.2 in
    let label = label_again name second.0 first.0 second.1 in
    rw (
      blanks_again first.0 bytes first.1 (no_blank_start first.0 label.1),
      label.0,
      body_again second.0 op (Before-all second.2),
    ) refl
line_again bytes None op r =
    let first = Before-split (all-Before r) in
    let second = Before-split first.2 in
    let skipped : after_blanks bytes ≡ after_blanks second.0 =
    blanks_over first.0 bytes first.1 ∙ ap after_blanks (second.1.whole ∙ ap (λ f. f ++ second.0) second.1.first) in
    rw (
      skipped,
      body_has_no_label op second.0 (Before-all second.2),
      body_skips second.0,
      body_again second.0 op (Before-all second.2),
    ) refl

-- What the scanner's answer says

-- what was found within the limit is what the line reads as
pub reads_found : (bytes : List ℕ) (label : Option (List ℕ)) (op found : Option Op) → ReadsWidely bytes label op
    → found ≡ option_map capped_op op
    → is_within found ≡ true → Reads bytes label found
reads_found bytes label op found r e h = grind (arith, capped-within, within_limit)

-- a line that reads is found, within the limit
pub found_reads : (bytes : List ℕ) (label : Option (List ℕ)) (op : Option Op) → Reads bytes label op
    → (line_at bytes ≡ Some (label, op)) × (is_within op ≡ true)
found_reads bytes label None r = (line_again bytes label None r.0, refl)
found_reads bytes label (Some op) r = (
  line_again bytes label (Some op) r.0 ∙ ap (λ o. Some (label, Some o)) (capped-within op r.1),
  all_numbers (operands op)
      ∙ ap (list_all (λ n. nat_lt n ABOVE_LIMIT)) (ap numbers (sym (capped-within op r.1)) ∙ numbers-capped op)
      ∙ small_all (numbers op) r.1,
)

pub line_bad : (bytes : List ℕ) → line_at bytes ≡ None → HasWideReading bytes → ⊥
line_bad bytes e r = let found = sym e ∙ line_again bytes r.0 r.1 r.2 in cc

found_at : (bytes : List ℕ) (found : Option (Option (List ℕ) × Option Op)) (label : Option (List ℕ)) (op : Option Op)
    → found ≡ Some (label, op) → IfSome found (FindsLine bytes) → FindsLine bytes (label, op)
found_at bytes None label op e f = cc
found_at bytes (Some x) label op e f = let same = same_Some x (label, op) e in subst (FindsLine bytes) same f

pub line_good : (bytes : List ℕ) (label : Option (List ℕ)) (op : Option Op) → line_at bytes ≡ Some (label, op)
    → is_within op ≡ true → Reads bytes label op
line_good bytes label op e h = let f = found_at bytes (line_at bytes) label op e (line_read bytes) in
    reads_found bytes label f.0 op f.1 f.2 h

pub line_large : (bytes : List ℕ) (label : Option (List ℕ)) (op : Option Op) → line_at bytes ≡ Some (label, op)
    → is_within op ≡ false
    → HasWideReading bytes × (HasReading bytes → ⊥)
line_large bytes label op e h =
    let f = found_at bytes (line_at bytes) label op e (line_read bytes) in (
      (label, f.0, f.1),
      λ r.
          let found = found_reads bytes r.0 r.1 r.2 in
          let both : ◌≡◌ {A = Option (List ℕ) × Option Op} (label, op) (r.0, r.1) =
          same_Some (label, op) (r.0, r.1) (sym e ∙ found.0) in
          let same : op ≡ r.1 = ap (λ p. p.1) both in
          let within = found.1 in cc,
    )

-- a line has at most one reading
pub one_reading : (bytes : List ℕ) (l m : Option (List ℕ)) (a b : Option Op) → Reads bytes l a → Reads bytes m b
    → (l ≡ m) × (a ≡ b)
one_reading bytes l m a b r s =
    let both : ◌≡◌ {A = Option (List ℕ) × Option Op} (l, a) (m, b) =
    same_Some (l, a) (m, b) (sym (found_reads bytes l a r).0 ∙ (found_reads bytes m b s).0) in
    (ap (λ p. p.0) both, ap (λ p. p.1) both)
