-- Where lines among rows stop, and what may be wanted there.
use Rattle.iloc_lint.proofs.Common.{◌≡◌, ℕ, ◌-◌, List, ◌++◌, length, take, drop, IsTrue, codes, sym, refl, ap, ◌∙◌, inl, inr, append_assoc, take-append-drop, blanks_read, blanks_in}
use Rattle.std.proofs.Math.Seq.{drop-drop}
use Rattle.iloc_lint.specs.Row.{IsAfterBlanks, IsLeft, Starts, is_in_claim, is_in_head, is_in_row}
use Rattle.iloc_lint.specs.Steps.Stopped.{Stops, StopsIn}
use Rattle.iloc_lint.specs.declared.row.Wanted.{Wanted}
use Rattle.iloc_lint.specs.declared.row.Wanted.TheVariants.{Blank, Name, OwnName}
use Rattle.iloc_lint.proofs.PartsAlong.{rest_of}
use Rattle.iloc_lint.proofs.Placed.{blanks_counted}

pub after_all_blanks : (bytes : List ℕ) (n : ℕ) → n ≡ blanks_in bytes → IsAfterBlanks bytes (take (length bytes - n) (drop n bytes))
after_all_blanks bytes n e =
    let read = blanks_read bytes in
    let rest = rest_of n bytes ∙ ap (λ k. drop k bytes) e ∙ blanks_counted bytes in
    (read.front, read.first, read.whole ∙ ap (λ r. read.front ++ r) (sym rest))

pub left_of_left : (bytes rest left : List ℕ) → IsLeft bytes rest → IsLeft rest left → IsLeft bytes left
left_of_left bytes rest left first second =
    (_, second.1 ∙ ap (λ (b : List ℕ). drop second.0 b) first.1 ∙ drop-drop second.0 first.0 bytes)

pub claim_in_head : (wanted : Wanted) → IsTrue (is_in_claim wanted) → IsTrue (is_in_head wanted)
claim_in_head Blank h = refl
claim_in_head Name h = refl
claim_in_head OwnName h = refl
claim_in_head wanted h = h

module _ (line rest after left : List ℕ) (text : List ℕ) (blanks : IsAfterBlanks line rest) (word : rest ≡ text ++ after)
    (stop : IsLeft after left) where
  abbrev passed : List ℕ
  passed = take stop.0 after

  split : after ≡ passed ++ left
  split = sym (take-append-drop stop.0 after) ∙ ap (λ r. passed ++ r) (sym stop.1)

  -- the line begins with blanks, the text and what is passed after it
  pub begun : (front : List ℕ) × (line ≡ front ++ left) × Starts text front
  begun = (
    blanks.0 ++ (text ++ passed),
    blanks.2 ∙ ap (λ r. blanks.0 ++ r) (word ∙ ap (λ r. text ++ r) split ∙ sym (append_assoc text passed left))
        ∙ sym (append_assoc blanks.0 (text ++ passed) left),
    record {
      front = blanks.0;
      rest = text ++ passed;
      first = blanks.1;
      second = record { front = text; rest = passed; first = refl; second = tt; whole = refl };
      whole = refl;
    },
  )

pub in_row : (line rest after left : List ℕ) (wanted : Wanted) → IsAfterBlanks line rest → rest ≡ codes "[" ++ after
    → StopsIn is_in_row after wanted left → Stops line wanted left
in_row line rest after left wanted blanks word stop =
    let b = begun line rest after left (codes "[") blanks word stop.0 in (b.0, b.1, inr (inl (b.2, stop.1)))

pub in_head : (line rest after left : List ℕ) (wanted : Wanted) → IsAfterBlanks line rest → rest ≡ codes "block" ++ after
    → StopsIn is_in_head after wanted left → Stops line wanted left
in_head line rest after left wanted blanks word stop =
    let b = begun line rest after left (codes "block") blanks word stop.0 in (b.0, b.1, inr (inr (inl (b.2, stop.1))))

pub in_cycles : (line rest after left : List ℕ) (wanted : Wanted) → IsAfterBlanks line rest → rest ≡ codes "cycles" ++ after
    → StopsIn is_in_claim after wanted left → Stops line wanted left
in_cycles line rest after left wanted blanks word stop =
    let b = begun line rest after left (codes "cycles") blanks word stop.0 in (b.0, b.1, inr (inr (inr (inl (b.2, stop.1)))))

pub in_total : (line rest after left : List ℕ) (wanted : Wanted) → IsAfterBlanks line rest → rest ≡ codes "total" ++ after
    → StopsIn is_in_claim after wanted left → Stops line wanted left
in_total line rest after left wanted blanks word stop =
    let b = begun line rest after left (codes "total") blanks word stop.0 in (b.0, b.1, inr (inr (inr (inr (b.2, stop.1)))))
