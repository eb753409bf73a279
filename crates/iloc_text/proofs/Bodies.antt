-- The scanner reads what stands behind a label, and each text that may stand there.
use Rattle.iloc_text.proofs.Common.{◌≡◌, ℕ, Bool, true, false, cond, ◌&&◌, List, [], ◌∷◌, ◌++◌, IfSome, ◌==◌, Some, None, Option, option_map, refl, ap, ◌∙◌, arith, nat_tests, Op, Blanks, OptionalComment, OptionalOperation, is_blank, is_word_byte, ◌⋅◌, after_blanks, is_end, operation_at, ◌>>=◌}
use Rattle.iloc_text.specs.Steps.Scan.{optional_operation_at, body_at}
use Rattle.iloc_text.proofs.Parts.{Before, Before-join, Before-split, Before-all, all-Before, starts}
use Rattle.iloc_text.proofs.Tokens.{blanks_read, blanks_none, blanks_over, blanks_again, blanks_starts}
use Rattle.iloc_text.proofs.Opcodes.{bind_each}
use Rattle.iloc_text.proofs.Starts.{blanks_fail, blank_is_no_word_byte}
use Rattle.iloc_text.proofs.Names.{capped_op}
use Rattle.iloc_text.proofs.Operations.{operation_read, operation_again, operation_starts}

-- An operation or none

abbrev pub FindsOptional : List ℕ → Option Op × List ℕ → Type 0
FindsOptional bytes found = (op : Option Op) × Before (OptionalOperation op) found.1 bytes
    × (found.0 ≡ option_map capped_op op)

pub nothing_first : (bytes : List ℕ) → FindsOptional bytes (None, bytes)
nothing_first bytes = (None, record { front = []; first = refl; whole = refl }, refl)

pub optional_read : (bytes : List ℕ) → IfSome (optional_operation_at bytes) (FindsOptional bytes)
unfolding optional_operation_at
optional_read [] = nothing_first []
optional_read (c ∷ cs) = by (is_word_byte c)
  where
    by : (b : Bool) → IfSome (cond b (operation_at (c ∷ cs) >>= (λ found. Some (Some found.0, found.1)))
        (Some (None, c ∷ cs))) (FindsOptional (c ∷ cs))
    by true = bind_each (FindsOptional (c ∷ cs)) (operation_at (c ∷ cs)) (λ found. Some (Some found.0, found.1))
        (operation_read (c ∷ cs))
        (λ found f. (Some f.0, f.1, ap (λ op. Some op) f.2))
    by false = nothing_first (c ∷ cs)

pub optional_here : (bytes : List ℕ) → starts is_word_byte bytes ≡ true
    → optional_operation_at bytes ≡ (operation_at bytes >>= (λ found. Some (Some found.0, found.1)))
unfolding optional_operation_at
optional_here bytes h = grind arith

pub optional_none : (bytes : List ℕ) → starts is_word_byte bytes ≡ false
    → optional_operation_at bytes ≡ Some (None, bytes)
unfolding optional_operation_at
optional_none bytes h = grind arith

-- The end of a line

pub slashes : (c d : ℕ) → ((c == 47) && (d == 47)) ≡ true → (c ≡ 47) × (d ≡ 47)
slashes c d h = (grind (arith, nat_tests), grind (arith, nat_tests))

pub end_read : (rest : List ℕ) → is_end rest ≡ true → OptionalComment rest
end_read rest h = grind (arith, slashes)

pub end_again : (rest : List ℕ) → OptionalComment rest → is_end rest ≡ true
end_again rest h = grind arith

pub end_starts : (test : ℕ → Bool) → test 47 ≡ false → (rest : List ℕ) → OptionalComment rest → starts test rest ≡ false
end_starts test e rest h = grind arith

-- What stands behind a label

abbrev pub Body : Option Op → List ℕ → Type 0
Body op = Blanks ⋅ OptionalOperation op ⋅ Blanks ⋅ OptionalComment

abbrev pub FindsBody : List ℕ → Option Op → Type 0
FindsBody bytes found = (op : Option Op) × Body op bytes × (found ≡ option_map capped_op op)

pub body_read : (bytes : List ℕ) → IfSome (body_at bytes) (FindsBody bytes)
unfolding body_at
body_read bytes = bind_each (FindsBody bytes) (optional_operation_at (after_blanks bytes)) _
    (optional_read (after_blanks bytes)) (λ found f.
    ends found f (is_end (after_blanks found.1)) refl)
  where
    ends : (found : Option Op × List ℕ) → FindsOptional (after_blanks bytes) found → (b : Bool)
        → is_end (after_blanks found.1) ≡ b
        → IfSome (cond b (Some found.0) None) (FindsBody bytes)
    ends found f false e = tt
    ends found f true e = (
      f.0,
      Before-all (Before-join (blanks_read bytes) (Before-join f.1
          (Before-join (blanks_read found.1) (all-Before (end_read (after_blanks found.1) e))))),
      f.2,
    )

pub word_byte_is_no_blank : (c : ℕ) → is_word_byte c ≡ true → is_blank c ≡ false
word_byte_is_no_blank c h = grind (arith, nat_tests)

pub no_blank_start : (bytes : List ℕ) → starts is_word_byte bytes ≡ true → starts is_blank bytes ≡ false
no_blank_start [] h = refl
no_blank_start (c ∷ cs) h = word_byte_is_no_blank c h

pub body_again : (bytes : List ℕ) (op : Option Op) → Body op bytes → body_at bytes ≡ Some (option_map capped_op op)
unfolding body_at
body_again bytes (Some op) r =
    let first = Before-split (all-Before r) in
    let second = Before-split first.2 in
    let third = Before-split second.2 in
    let comment = Before-all third.2 in
    let word = operation_starts op second.0 first.0 second.1 in
    rw (
      blanks_again first.0 bytes first.1 (no_blank_start first.0 word),
      optional_here first.0 word,
      operation_again op second.0 first.0 second.1
          (blanks_fail is_word_byte blank_is_no_word_byte third.1 (end_starts is_word_byte refl third.0 comment)),
      blanks_again third.0 second.0 third.1 (end_starts is_blank refl third.0 comment),
      end_again third.0 comment,
    ) refl
body_again bytes None r =
    let first = Before-split (all-Before r) in
    let second = Before-split first.2 in
    let third = Before-split second.2 in
    let comment = Before-all third.2 in
    let still : after_blanks third.0 ≡ third.0 = blanks_none third.0 (end_starts is_blank refl third.0 comment) in
    let skipped : after_blanks bytes ≡ third.0 =
    blanks_over first.0 bytes first.1 ∙ ap after_blanks (second.1.whole ∙ ap (λ f. f ++ second.0) second.1.first)
    ∙ blanks_over third.0 second.0 third.1 ∙ still in
    rw (skipped, optional_none third.0 (end_starts is_word_byte refl third.0 comment), still, end_again third.0 comment)
    refl

pub body_skips : (bytes : List ℕ) → body_at (after_blanks bytes) ≡ body_at bytes
unfolding body_at
body_skips bytes = rw (blanks_none (after_blanks bytes) (blanks_starts bytes)) refl
