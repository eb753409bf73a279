-- Every text has an answer, and the answer is what it denotes: line by line, each is read or faulty.
use Rattle.iloc_text.proofs.Common.{◌≡◌, ℕ, ◌+◌, ◌≤◌, Bool, true, false, cond, ◌⊎◌, List, [], ◌∷◌, ◌++◌, length, nat_lt, Some, None, Ok, Err, Option, Result, sym, refl, subst, subst₂, inl, inr, append_assoc, append-nil, arith, length-append, ltb-false, ltb-true, AllByRecursion, MAX_BLOCKS, MAX_INPUT, MAX_OPS, Block, Op, AreLines, Denotes, HasFirstFault, IsFaulty, IsRefused, IsWithin, NoneFaulty, ReadAs, Reading, file_of, fronts, Reads, TextsHaveAnAnswer, lines_of, last_ops, limited, with_line, is_within, line_at, answer_from, on_verdict, verdict, verdict_on, ReadFault, InputTooLong, NumberTooLarge, TooManyBlocks, TooManyOperations}
use Rattle.iloc_text.proofs.Lines.{line_bad, line_good, line_large}
use Rattle.iloc_text.proofs.Splitting.{lines_are}
use Rattle.iloc_text.proofs.Counts.{fronts-snoc}
use Rattle.iloc_text.proofs.BlockLists.{length-file, last-file, file-snoc}
use Rattle.iloc_text.proofs.Answer.{answer}

-- One line

-- the line reads, and nothing is too much behind the lines with these readings
record IsRead (rs : List Reading) (line : List ℕ) (grown : List Block) : Type 0 where
  reading : Reading
  reads : Reads line reading.label reading.op
  within : IsWithin (rs ++ reading ∷ [])
  file : grown ≡ file_of (rs ++ reading ∷ [])

abbrev Judged : List Reading → List ℕ → ℕ → Result (List Block) ReadFault → Type 0
Judged rs line n (Ok grown) = IsRead rs line grown
Judged rs line n (Err fault) = IsFaulty rs line n fault

by_limits : (rs : List Reading) (line : List ℕ) (n : ℕ) (r : Reading) → Reads line r.label r.op
    → (blocks operations : Bool)
    → nat_lt MAX_BLOCKS (length (file_of (rs ++ r ∷ []))) ≡ blocks
    → nat_lt MAX_OPS (length (last_ops (file_of (rs ++ r ∷ [])))) ≡ operations
    → Judged rs line n (cond blocks (Err (TooManyBlocks n)) (cond operations (Err (TooManyOperations n))
    (Ok (file_of (rs ++ r ∷ [])))))
by_limits rs line n r reads blocks operations b o = grind (arith, last-file, length-file, ltb-false, ltb-true)

by_numbers : (rs : List Reading) (line : List ℕ) (n : ℕ) (r : Reading) → line_at line ≡ Some (r.label, r.op)
    → (within : Bool) → is_within r.op ≡ within
    → Judged rs line n (cond within (limited (with_line r.label r.op (file_of rs)) n) (Err (NumberTooLarge n)))
by_numbers rs line n r found true w = subst (λ bs. Judged rs line n (limited bs n)) (file-snoc rs r)
    (by_limits rs line n r (line_good line r.label r.op found w) _ _ refl refl)
by_numbers rs line n r found false w = let large = line_large line r.label r.op found w in (refl, large.0, large.1)

judged : (rs : List Reading) (line : List ℕ) (n : ℕ) → Judged rs line n (verdict (file_of rs) line n)
judged rs line n = by (line_at line) refl
  where
    by : (found : Option (Option (List ℕ) × Option Op)) → line_at line ≡ found
        → Judged rs line n (verdict_on found (file_of rs) n)
    by None e = (refl, line_bad line e)
    by (Some found) e = by_numbers rs line n (record { label = found.0; op = found.1 }) e _ refl

-- All lines

pub all-snoc : {A : Type 0} (P : A → Type 0) (xs : List A) (x : A) → AllByRecursion P xs → P x
    → AllByRecursion P (xs ++ x ∷ [])
all-snoc P [] x h p = (p, tt)
all-snoc P (y ∷ ys) x h p = (h.0, all-snoc P ys x h.1 p)

pub NoneFaulty-snoc : (rs : List Reading) (r : Reading) → NoneFaulty rs → IsWithin (rs ++ r ∷ [])
    → NoneFaulty (rs ++ r ∷ [])
NoneFaulty-snoc rs r h w = subst (AllByRecursion IsWithin) (sym (fronts-snoc rs r))
    (all-snoc IsWithin (fronts rs) (rs ++ r ∷ []) h w)

ReadAs-snoc : (lines : List (List ℕ)) (rs : List Reading) (line : List ℕ) (r : Reading)
    → ReadAs lines rs → Reads line r.label r.op → ReadAs (lines ++ line ∷ []) (rs ++ r ∷ [])
ReadAs-snoc [] [] line r h reads = (reads, tt)
ReadAs-snoc (l ∷ ls) (x ∷ xs) line r h reads = (h.0, ReadAs-snoc ls xs line r h.1 reads)
ReadAs-snoc lines rs line r h reads = absurd h

pub first_refused : (input : List ℕ) (fault : ReadFault) → HasFirstFault input fault → IsRefused input fault
first_refused input fault h = grind arith

-- the text denotes these blocks, or this refusal
abbrev pub Answers : List ℕ → Result (List Block) ReadFault → Type 0
Answers input (Ok blocks) = Denotes input blocks
Answers input (Err fault) = IsRefused input fault

-- where the lines before have these readings, and none of them is faulty
from_here : (input : List ℕ) → length input ≤ MAX_INPUT → (before lines : List (List ℕ)) (rs : List Reading)
    → AreLines input (before ++ lines) → ReadAs before rs → NoneFaulty rs
    → Answers input (answer_from (file_of rs) (length before + 1) lines)
from_here input short before [] rs are read none_faulty = grind (arith, append-nil)
from_here input short before (line ∷ lines) rs are read none_faulty =
    (elim (verdict (file_of rs) line (length before + 1))
    as (λ v. Judged rs line (length before + 1) v → Answers input (on_verdict (length before + 1) lines v)) [
      | Err fault ↦ λ bad. first_refused input fault (record {
        short = short;
        before = before;
        line = line;
        after = lines;
        are_lines = are;
        readings = rs;
        read = read;
        none_faulty = none_faulty;
        faulty = bad;
      })
      | Ok grown ↦ λ good. subst₂ (λ bs n. Answers input (answer_from bs (n + 1) lines)) (sym good.file)
          (length-append before (line ∷ []))
          (from_here input short (before ++ line ∷ []) lines (rs ++ good.reading ∷ [])
          (subst (AreLines input) (sym (append_assoc before (line ∷ []) lines)) are)
          (ReadAs-snoc before rs line good.reading read good.reads)
          (NoneFaulty-snoc rs good.reading none_faulty good.within))
    ]) (judged rs line (length before + 1))

pub answers : (input : List ℕ) → Answers input (answer input)
answers input = by (nat_lt MAX_INPUT (length input)) refl
  where
    by : (long : Bool) → nat_lt MAX_INPUT (length input) ≡ long
        → Answers input (cond long (Err InputTooLong) (answer_from (file_of []) 1 (lines_of input)))
    by true e = ltb-true _ _ e
    by false e = from_here input (ltb-false _ _ e) [] (lines_of input) [] (lines_are input) tt tt

pub an_answer : TextsHaveAnAnswer
an_answer input = (elim (answer input)
    as (λ r. Answers input r
    → ((blocks : List Block) × Denotes input blocks) ⊎ ((fault : ReadFault) × IsRefused input fault)) [
      | Ok blocks ↦ λ denotes. inl (blocks, denotes)
      | Err fault ↦ λ refused. inr (fault, refused)
    ]) (answers input)
