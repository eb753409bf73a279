-- The faults beside what the reader answers.
use Rattle.iloc_lint.proofs.Common.{◌≡◌, ℕ, ◌+◌, List, [], ◌∷◌, ◌++◌, map, length, sym, refl, ap, ◌∙◌, subst, subst₂, inl, inr, append_assoc, append-nil, arith, length-append, IsFaulty, NoneFaulty, ReadAs, Reading, file_of, ReadFault, AreRefused, CountsAs, Refusal}
use Rattle.iloc_text.proofs.Every.{NoneFaulty-snoc, first_refused}
use Rattle.iloc_text.proofs.BlockLists.{length-file}
use Rattle.iloc_lint.specs.Laws.{NoFaultsMeanAFile, TheFirstIsTheReaders}

-- No fault

-- lines of which none is refused
record AllRead (before : List Reading) (lines : List (List ℕ)) (readings : List Reading) : Type 0 where
  read : ReadAs lines readings
  none : NoneFaulty (before ++ readings)

all_read : (before : List Reading) (lines : List (List ℕ)) (readings : List Reading) → AreRefused before lines readings []
    → NoneFaulty before → AllRead before lines readings
all_read before [] [] h none = record { read = tt; none = subst NoneFaulty (sym (append-nil before)) none }
all_read before [] (r ∷ rs) h none = absurd h
all_read before (line ∷ lines) [] h none = absurd h
all_read before (line ∷ lines) (r ∷ rs) h none =
    by h.0 h.1 h.2 h.3 h.4 (λ more others. all_read (before ++ r ∷ []) lines rs more others)
  where
    by : (own : List ReadFault) (rest : List Refusal) → CountsAs before line r own
        → AreRefused (before ++ r ∷ []) lines rs rest
        → [] ≡ map (λ fault. record { line = line; fault = fault }) own ++ rest
        → (AreRefused (before ++ r ∷ []) lines rs [] → NoneFaulty (before ++ r ∷ []) → AllRead (before ++ r ∷ []) lines rs)
        → AllRead before (line ∷ lines) (r ∷ rs)
    by [] [] counts more e go =
        let others = go more (NoneFaulty-snoc before r none counts.1) in
        record { read = (counts.0, others.read); none = subst NoneFaulty (append_assoc before (r ∷ []) rs) others.none }
    by [] (x ∷ xs) counts more e go = cc
    by (fault ∷ faults) rest counts more e go = cc

pub no_faults : NoFaultsMeanAFile
no_faults input blocks ops (inr long) = let none = long.refused in cc
no_faults input blocks ops (inl h) =
    let all = all_read [] h.lines h.readings h.refused tt in (
      file_of h.readings,
      record {
        short = h.short;
        lines = h.lines;
        are_lines = h.are_lines;
        readings = h.readings;
        read = all.read;
        none_faulty = all.none;
        file = refl;
      },
      length-file h.readings ∙ sym h.blocks_are,
    )

-- The first fault

record FirstOf (before : List Reading) (lines : List (List ℕ)) (fault : ReadFault) : Type 0 where
  front : List (List ℕ)
  line : List ℕ
  after : List (List ℕ)
  whole : lines ≡ front ++ line ∷ after
  readings : List Reading
  read : ReadAs front readings
  none : NoneFaulty (before ++ readings)
  faulty : IsFaulty (before ++ readings) line (length before + length front + 1) fault

first_found : (before : List Reading) (lines : List (List ℕ)) (readings : List Reading) (first : Refusal)
    (others : List Refusal) → AreRefused before lines readings (first ∷ others) → NoneFaulty before
    → FirstOf before lines first.fault
first_found before [] [] first others h none = cc
first_found before [] (r ∷ rs) first others h none = absurd h
first_found before (line ∷ lines) [] first others h none = absurd h
first_found before (line ∷ lines) (r ∷ rs) first others h none =
    by h.0 h.1 h.2 h.3 h.4 (λ x xs more left. first_found (before ++ r ∷ []) lines rs x xs more left)
  where
    by : (own : List ReadFault) (rest : List Refusal) → CountsAs before line r own
        → AreRefused (before ++ r ∷ []) lines rs rest
        → first ∷ others ≡ map (λ fault. record { line = line; fault = fault }) own ++ rest
        → ((x : Refusal) (xs : List Refusal) → AreRefused (before ++ r ∷ []) lines rs (x ∷ xs)
        → NoneFaulty (before ++ r ∷ []) → FirstOf (before ++ r ∷ []) lines x.fault)
        → FirstOf before (line ∷ lines) first.fault
    by [] [] counts more e go = cc
    by [] (x ∷ xs) counts more e go =
        let same : x ≡ first = cc in
        let found = go x xs more (NoneFaulty-snoc before r none counts.1) in
        let number : length (before ++ r ∷ []) + length found.front + 1 ≡ length before + length (line ∷ found.front) + 1 =
        omega (arith, length-append before (r ∷ [])) in
        record {
          front = line ∷ found.front;
          line = found.line;
          after = found.after;
          whole = ap (λ ls. line ∷ ls) found.whole;
          readings = r ∷ found.readings;
          read = (counts.0, found.read);
          none = subst NoneFaulty (append_assoc before (r ∷ []) found.readings) found.none;
          faulty = subst (λ f. IsFaulty (before ++ r ∷ found.readings) found.line (length before + length (line ∷ found.front) + 1) f.fault)
              same (subst₂ (λ rs n. IsFaulty rs found.line n x.fault) (append_assoc before (r ∷ []) found.readings) number
              found.faulty);
        }
    by (fault ∷ []) rest counts more e go =
        let same : first ≡ record { line = line; fault = fault } = cc in
        let number : length before + 1 ≡ length before + length {A = List ℕ} [] + 1 = omega arith in
        record {
          front = [];
          line = line;
          after = lines;
          whole = refl;
          readings = [];
          read = tt;
          none = subst NoneFaulty (sym (append-nil before)) none;
          faulty = subst₂ (λ rs n. IsFaulty rs line n first.fault) (sym (append-nil before)) number
              (subst (λ f. IsFaulty before line (length before + 1) f.fault) (sym same) counts.0);
        }
    by (fault ∷ other ∷ more) rest counts left e go = absurd counts

at_first : (n : ℕ) → length {A = Reading} [] + n + 1 ≡ n + 1
at_first n = omega arith

pub first_fault : TheFirstIsTheReaders
first_fault = grind (arith, at_first, first_found, first_refused)
