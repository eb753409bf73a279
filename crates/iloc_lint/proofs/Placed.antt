-- The place of a line, with its label.
use Rattle.iloc_lint.proofs.Common.{◌≡◌, ℕ, ◌+◌, ◌-◌, ◌<◌, ◌≤◌, Bool, true, false, cond, ◌⊎◌, List, [], ◌∷◌, ◌++◌, length, take, drop, nat_lt, ◌==◌, Some, None, Option, sym, refl, ap, ◌∙◌, subst, inl, inr, append_assoc, arith, length-append, length-drop, nat_tests, take-append-drop, take_all, is_ascii_alphabetic, opcodes, Before, Before-all, Before-join, Before-split, all-Before, blanks_again, blanks_over, blanks_read, Blanks, OptionalLabel, ◌⋅◌, after_blanks, after_colon, after_word, label_or_none, word_of, Bodies, Longest, blanks_in, label_in, named_in, starts, word_in}
use Rattle.std.proofs.Math.Seq.{drop-drop, take-add, take-append_seam}
use Rattle.iloc_text.specs.Steps.Scan.{optional_label_at}
use Rattle.iloc_text.proofs.Bodies.{no_blank_start}
use Rattle.iloc_text.proofs.Labels.{label_read, label_again}
use Rattle.iloc_text.proofs.Lines.{body_has_no_label}
use Rattle.iloc_lint.specs.Place.{BeginsALine, ReadsSoFar, IsPlace}
use Rattle.iloc_lint.proofs.Longest.{no_blanks, some_text}
use Rattle.iloc_lint.proofs.PartsAlong.{grouped_right, rest_of}
use Rattle.iloc_lint.proofs.Languages.{Plain, blanks_read_on, plain_along}

-- Blanks and words are counted as the reader finds them

pub blanks_counted : (bytes : List ℕ) → drop (blanks_in bytes) bytes ≡ after_blanks bytes
blanks_counted [] = refl
blanks_counted (c ∷ cs) = grind (arith, blanks_counted cs)

word_counted : (bytes : List ℕ) → drop (word_in bytes) bytes ≡ after_word bytes
word_counted [] = refl
word_counted (c ∷ cs) = grind (arith, word_counted cs)

-- The label

-- no label is found, or one before so many bytes are over
abbrev LabelFound : List ℕ → ℕ → Option (List ℕ) × List ℕ → Type 0
LabelFound line n found = ((n ≡ 0) × (found ≡ (None, after_blanks line)))
    ⊎ ((name : List ℕ) × (found ≡ (Some name, drop n line)))

colon_found : (line name word : List ℕ) (start end : ℕ) → drop start line ≡ name → after_blanks line ≡ name
    → (rest : List ℕ) → drop end name ≡ rest
    → LabelFound line (cond (starts (λ c. c == 58) rest) (start + end + 1) 0) (label_or_none name (after_colon rest))
colon_found line name word start end here front [] e = inl (refl, ap (λ t. (None, t)) (sym front))
colon_found line name word start end here front (d ∷ ds) e = by (d == 58)
  where
    after : ds ≡ drop (start + end + 1) line
    after = ap (drop 1) (sym e ∙ ap (drop end) (sym here)) ∙ ap (drop 1) (drop-drop end start line)
        ∙ drop-drop 1 (start + end) line

    by : (b : Bool) → LabelFound line (cond b (start + end + 1) 0) (label_or_none name (cond b (Some ds) None))
    by true = inr (word_of name, ap (λ t. (Some (word_of name), t)) after)
    by false = inl (refl, ap (λ t. (None, t)) (sym front))

named_found : (line : List ℕ) (start : ℕ) (name : List ℕ) → drop start line ≡ name → after_blanks line ≡ name
    → LabelFound line (named_in start name) (optional_label_at name)
unfolding optional_label_at
named_found line start [] here front = inl (refl, ap (λ t. (None, t)) (sym front))
named_found line start (c ∷ cs) here front = by (is_ascii_alphabetic c)
  where
    name : List ℕ
    name = c ∷ cs

    end : ℕ
    end = word_in name + blanks_in (drop (word_in name) name)

    rest : drop end name ≡ after_blanks (after_word name)
    rest = sym (drop-drop (blanks_in (drop (word_in name) name)) (word_in name) name)
        ∙ blanks_counted (drop (word_in name) name) ∙ ap after_blanks (word_counted name)

    found : LabelFound line (cond (starts (λ c. c == 58) (drop end name)) (start + end + 1) 0)
        (label_or_none name (after_colon (after_blanks (after_word name))))
    found = subst (λ r. LabelFound line (cond (starts (λ c. c == 58) r) (start + end + 1) 0)
        (label_or_none name (after_colon (after_blanks (after_word name))))) (sym rest)
        (colon_found line name name start end here front (after_blanks (after_word name)) rest)

    by : (b : Bool) → LabelFound line (cond b (cond (starts (λ c. c == 58) (drop end name)) (start + end + 1) 0) 0)
        (cond b (label_or_none name (after_colon (after_blanks (after_word name)))) (None, name))
    by true = found
    by false = inl (refl, ap (λ t. (None, t)) (sym front))

label_found : (line : List ℕ) → LabelFound line (label_in line) (optional_label_at (after_blanks line))
label_found line = grind (arith, blanks_counted, named_found)

-- a label at the front is found
labelled : (name rest w : List ℕ) → Before (Blanks ⋅ OptionalLabel (Some name)) rest w
    → optional_label_at (after_blanks w) ≡ (Some name, rest)
labelled name rest w b =
    let first = Before-split b in
    let label = label_again name rest first.0 first.2 in
    ap optional_label_at (blanks_again first.0 w first.1 (no_blank_start first.0 label.1)) ∙ label.0

-- none is found in a line that reads without one
unlabelled : (w : List ℕ) → Plain w → (t : List ℕ) × (optional_label_at (after_blanks w) ≡ (None, t))
unlabelled w p =
    let first = Before-split (all-Before p.1.0) in
    let second = Before-split first.2 in
    let skipped : after_blanks w ≡ after_blanks second.0 =
    blanks_over first.0 w first.1 ∙ ap after_blanks (second.1.whole ∙ ap (λ f. f ++ second.0) second.1.first) in (
      after_blanks second.0,
      ap optional_label_at skipped ∙ body_has_no_label p.0 second.0 (Before-all second.2),
    )

-- what is found of a prefix with a label
record Labelled (name line : List ℕ) (j : ℕ) : Type 0 where
  rest : List ℕ
  begins : BeginsALine rest
  found : optional_label_at (after_blanks line) ≡ (Some name, rest ++ drop j line)

prefix_labelled : (name line : List ℕ) (j : ℕ) → (Blanks ⋅ OptionalLabel (Some name) ⋅ BeginsALine) (take j line)
    → Labelled name line j
prefix_labelled name line j r =
    let whole : line ≡ r.front ++ (r.second.front ++ (r.second.rest ++ drop j line)) =
    sym (take-append-drop j line) ∙ ap (λ t. t ++ drop j line) r.whole ∙ append_assoc r.front r.rest (drop j line)
    ∙ ap (λ t. r.front ++ (t ++ drop j line)) r.second.whole
    ∙ ap (λ t. r.front ++ t) (append_assoc r.second.front r.second.rest (drop j line)) in
    record {
      rest = r.second.rest;
      begins = r.second.second;
      found = labelled name (r.second.rest ++ drop j line) line
          (Before-join (record { front = r.front; first = r.first; whole = whole })
          (record { front = r.second.front; first = r.second.first; whole = refl }));
    }

-- a prefix without a label begins a line
prefix_unlabelled : (front : List ℕ) → (Blanks ⋅ OptionalLabel None ⋅ BeginsALine) front
    → (tail : List ℕ) × Plain (front ++ tail)
prefix_unlabelled front r =
    let rest : List ℕ = r.second.rest in
    let begins = r.second.second in
    let same : r.rest ≡ rest = r.second.whole ∙ ap (λ f. f ++ rest) r.second.first in
    let whole : front ++ begins.0 ≡ r.front ++ (rest ++ begins.0) =
    ap (λ t. t ++ begins.0) (r.whole ∙ ap (λ t. r.front ++ t) same) ∙ append_assoc r.front rest begins.0 in (
      begins.0,
      blanks_read_on (front ++ begins.0) (record {
        front = r.front;
        rest = rest ++ begins.0;
        first = r.first;
        second = (begins.1, begins.2);
        whole = whole;
      }),
    )

-- The place

without_label : (line : List ℕ) (k : ℕ) → optional_label_at (after_blanks line) ≡ (None, after_blanks line)
    → Longest Plain line k → IsPlace line k
without_label line k none l = record {
  within = l.within;
  reads = (
    None,
    no_blanks (take k line) (some_text [] (take k line) (l.goes_on.0, l.goes_on.1.0, l.goes_on.1.1)),
  );
  longest = further;
}
  where
    further : (j : ℕ) → j ≤ length line → ReadsSoFar (take j line) → j ≤ k
    further j h (None, r) = let p = prefix_unlabelled (take j line) r in l.longest j p.0 h p.1
    further j h (Some name, r) =
        let found : ◌≡◌ {A = Option (List ℕ)} (Some name) None =
        ap (λ f. f.0) (sym (prefix_labelled name line j r).found ∙ none) in cc

with_label : (line name : List ℕ) (n k : ℕ) → n ≤ length line → optional_label_at (after_blanks line) ≡ (Some name, drop n line)
    → Longest Plain (drop n line) k → IsPlace line (n + k)
with_label line name n k inside found l = record {
  within = omega (arith, l.within, length-drop n line);
  reads = (
    Some name,
    subst (Blanks ⋅ OptionalLabel (Some name) ⋅ BeginsALine) (sym (take-add n k line))
        (grouped_right (take n line ++ take k (drop n line)) (record {
          front = take n line;
          rest = take k (drop n line);
          first = label_text;
          second = (l.goes_on.0, l.goes_on.1.0, l.goes_on.1.1);
          whole = refl;
        })),
  );
  longest = further;
}
  where
    before : Before (Blanks ⋅ OptionalLabel (Some name)) (drop n line) line
    before = rw found at (Before-join (blanks_read line) (label_read (after_blanks line)))

    size : length before.front ≡ n
    size = omega (arith, ap length before.whole, length-append before.front (drop n line), length-drop n line)

    front_is : before.front ≡ take n line
    front_is = sym (take-append_seam before.front (drop n line)) ∙ ap (take (length before.front)) (sym before.whole)
        ∙ ap (λ m. take m line) size

    label_text : (Blanks ⋅ OptionalLabel (Some name)) (take n line)
    label_text = subst (Blanks ⋅ OptionalLabel (Some name)) front_is before.first

    further_labelled : (j : ℕ) (other : List ℕ) → j ≤ length line → Labelled other line j → j ≤ n + k
    further_labelled j other h p =
        let rest_is : p.rest ++ drop j line ≡ drop n line = ap (λ f. f.1) (sym p.found ∙ found) in
        let sizes : length p.rest + n ≡ j =
        omega (arith, ap length rest_is, length-append p.rest (drop j line), length-drop j line, length-drop n line) in
        let front : p.rest ≡ take (length p.rest) (drop n line) =
        sym (take-append_seam p.rest (drop j line)) ∙ ap (take (length p.rest)) rest_is in
        let begins = p.begins in
        let plain : Plain (take (length p.rest) (drop n line) ++ begins.0) =
        subst (λ t. Plain (t ++ begins.0)) front (begins.1, begins.2) in
        let least = l.longest (length p.rest) begins.0 (omega (arith, length-drop n line)) plain in
        omega (arith, least)

    -- a prefix with the label reads with it alone
    clash : (j : ℕ) (tail : List ℕ) → n < j → j ≤ length line → Plain (take j line ++ tail) → ⊥
    clash j tail more h p =
        let split : take j line ≡ take n line ++ take (j - n) (drop n line) =
        ap (λ m. take m line) (let e : j ≡ n + (j - n) = omega arith in e) ∙ take-add n (j - n) line in
        let rest = take (j - n) (drop n line) ++ tail in
        let whole : take j line ++ tail ≡ take n line ++ rest =
        ap (λ t. t ++ tail) split ∙ append_assoc (take n line) (take (j - n) (drop n line)) tail in
        let here = labelled name rest (take j line ++ tail) (record { front = take n line; first = label_text; whole = whole }) in
        let none = unlabelled (take j line ++ tail) p in
        let same : ◌≡◌ {A = Option (List ℕ)} (Some name) None = ap (λ f. f.0) (sym here ∙ none.1) in cc

    further_unlabelled : (j : ℕ) → j ≤ length line → (tail : List ℕ) × Plain (take j line ++ tail) → (b : Bool)
        → nat_lt n j ≡ b → j ≤ n + k
    further_unlabelled j h p true e = absurd (clash j p.0 (let m : n < j = grind (arith, nat_tests) in m) h p.1)
    further_unlabelled j h p false e = let m : j ≤ n = grind (arith, nat_tests) in omega arith

    further : (j : ℕ) → j ≤ length line → ReadsSoFar (take j line) → j ≤ n + k
    further j h (Some other, r) = further_labelled j other h (prefix_labelled other line j r)
    further j h (None, r) = further_unlabelled j h (prefix_unlabelled (take j line) r) (nat_lt n j) refl

pub placed : (line : List ℕ) (k : ℕ) → label_in line ≤ length line → Longest Plain (drop (label_in line) line) k
    → IsPlace line (label_in line + k)
placed line k inside l = by (label_found line)
  where
    by : LabelFound line (label_in line) (optional_label_at (after_blanks line)) → IsPlace line (label_in line + k)
    by (inl none) =
        let size : k ≡ label_in line + k = omega (arith, none.0) in
        subst (IsPlace line) size
        (without_label line k none.1 (subst (λ n. Longest Plain (drop n line) k) none.0 l))
    by (inr some) = with_label line some.0 (label_in line) k inside some.1 l

pub place_found : (line : List ℕ) (label blanks most i : ℕ) → label ≡ label_in line → label ≤ length line
    → blanks ≡ blanks_in (take (length line - label) (drop label line)) → 17 ≤ i
    → Longest (Bodies (take i opcodes)) (take (length line - (label + blanks)) (drop (label + blanks) line)) most
    → IsPlace line (label + blanks + most)
place_found line label blanks most i l inside b all h =
    let rest = drop label line in
    let blanks_is : blanks ≡ blanks_in rest = b ∙ ap blanks_in (rest_of label line) in
    let there : take (length line - (label + blanks)) (drop (label + blanks) line) ≡ drop (blanks_in rest) rest =
    rest_of (label + blanks) line ∙ sym (drop-drop blanks label line) ∙ ap (λ n. drop n rest) blanks_is in
    let bodies = subst (λ os. Longest (Bodies os) (drop (blanks_in rest) rest) most) (take_all i opcodes all)
    (subst (λ t. Longest (Bodies (take i opcodes)) t most) there h) in
    let plain = plain_along rest most bodies in
    let place = placed line (blanks_in rest + most) (subst (λ n. n ≤ length line) l inside)
    (subst (λ n. Longest Plain (drop n line) (blanks_in rest + most)) l plain) in
    subst (IsPlace line) (omega (arith, l, blanks_is)) place
