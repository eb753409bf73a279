-- All faults of a text, from line to line.
use Rattle.iloc_lint.proofs.Common.{◌≡◌, ℕ, ◌≤◌, List, [], ◌∷◌, ◌++◌, map, length, Some, Option, option_to_list, refl, subst, subst₂, append_assoc, append-nil, arith, length-append, AllByRecursion, join_with_byte, MAX_INPUT, lines_are, HasNoLineEnd, Reading, block_count, lines_left, lines_of, ReadFault, AreRefused, CountsAs, HasFaults, Refusal, ops_in}
use Rattle.std.specs.Borrow.{Bor}
use Rattle.iloc_lint.specs.declared.faults.counts.Counts.{Counts}
use Rattle.iloc_lint.specs.Steps.Counted.{Judged}
use Rattle.iloc_lint.specs.Steps.Noted.{refusals}

-- each line is one, and no longer than a text
abbrev pub IsFit : List ℕ → Type 0
IsFit line = HasNoLineEnd line × (length line ≤ MAX_INPUT)

joined_fit : (lines : List (List ℕ)) → AllByRecursion HasNoLineEnd lines → length (join_with_byte 10 lines) ≤ MAX_INPUT
    → AllByRecursion IsFit lines
joined_fit [] each short = tt
joined_fit (x ∷ []) each short = ((each.0, short), tt)
joined_fit (x ∷ y ∷ lines) each short =
    let size = length-append x (10 ∷ join_with_byte 10 (y ∷ lines)) in
    ((each.0, omega arith), joined_fit (y ∷ lines) each.1 (omega arith))

pub lines_fit : (text : List ℕ) → length text ≤ MAX_INPUT → AllByRecursion IsFit (lines_of text)
lines_fit text short = let are = lines_are text in
    joined_fit (lines_of text) are.each (subst (λ t. length t ≤ MAX_INPUT) are.whole short)

-- From line to line

-- whatever the faults of the lines that are left are, behind those found they are the faults of all
abbrev pub GoesOn : List (List ℕ) → List Reading → List (List ℕ) → List Refusal → Type 0
GoesOn all now left found = (rs : List Reading) (rest : List Refusal) → AreRefused now left rs rest
    → AreRefused [] all (now ++ rs) (found ++ rest)

pub begins : (all : List (List ℕ)) → GoesOn all [] all []
begins all rs rest h = h

pub one_on : (all : List (List ℕ)) (now : List Reading) (line : List ℕ) (left : List (List ℕ)) (found : List Refusal)
    (own : List ReadFault) (r : Reading) → GoesOn all now (line ∷ left) found → CountsAs now line r own
    → GoesOn all (now ++ r ∷ []) left (found ++ map (λ fault. record { line = line; fault = fault }) own)
one_on all now line left found own r on counts = grind (arith, append_assoc, subst₂)

pub at_end : (input : List ℕ) (now : List Reading) (found : List Refusal) (blocks ops : ℕ) → length input ≤ MAX_INPUT
    → GoesOn (lines_of input) now [] found → blocks ≡ block_count now → ops ≡ length (ops_in now)
    → HasFaults input found blocks ops
at_end input now found blocks ops short on b o = record {
  short = short;
  lines = lines_of input;
  are_lines = lines_are input;
  readings = now;
  refused = subst₂ (AreRefused [] (lines_of input)) (append-nil now) (append-nil found) (on [] [] refl);
  blocks_are = b;
  ops_are = o;
}

-- the line at hand fits, and so do those that are left
pub fit_first : {rest : Option (Bor (List ℕ))} {text : Bor (List ℕ)} (line : List ℕ) (more : List (List ℕ))
    → rest ≡ Some text → lines_of text.now ≡ line ∷ more → AllByRecursion IsFit (lines_left rest)
    → IsFit line × AllByRecursion IsFit more
fit_first line more some split fit = grind arith

-- the line at hand is judged
pub judged_on : (all : List (List ℕ)) (now : List Reading) {rest : Option (Bor (List ℕ))} {text : Bor (List ℕ)}
    (after : Option (Bor (List ℕ))) (line : List ℕ) (found grown : List Refusal) (fault : Option ReadFault) (counts : Counts)
    → GoesOn all now (lines_left rest) found → rest ≡ Some text → lines_of text.now ≡ line ∷ lines_left after
    → (judged : Judged now line counts fault) → grown ≡ found ++ refusals line fault
    → GoesOn all (now ++ judged.0 ∷ []) (lines_left after) grown
judged_on all now after line found grown fault counts on some split judged more = grind (arith, one_on, option_to_list)
