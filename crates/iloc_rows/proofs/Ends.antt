-- Where the blocks of a text end.
use Rattle.iloc_rows.proofs.Common.{◌≡◌, ℕ, ◌+◌, ◌-◌, ◌≤◌, Bool, not, ◌≢◌, List, [], ◌∷◌, ◌++◌, length, take, Some, None, MatchBool, Option, sym, refl, ap, ◌∙◌, subst, append_assoc, append-nil, arith, length-append, Bor, AllByRecursion, join_with_byte, nothing_alone, lines_few, lines_left, lines_of, IsScheduleLine, Said, Says, SaysSomething, SaysSomethingWidely, SaysWidely, cycles, head, nothing, row, total, StartWithSchedule}
use Rattle.std.proofs.Math.Seq.{take-append_seam}
use Rattle.std.proofs.lemmas.List.Splits.{join_with_byte-slice_split}
use Rattle.iloc_text.proofs.Every.{all-snoc}
use Rattle.iloc_rows.specs.Steps.Ends.{is_nothing}

-- Schedule lines

pub nothing_is_none : (line : List ℕ) → SaysWidely line nothing → IsScheduleLine line → ⊥
nothing_is_none line h s = s.1 (nothing_alone line s.0 h s.2)

-- more than nothing is said, or nothing
pub something_is_one : (line : List ℕ) (said : Said) (b : Bool) → Says line said → b ≡ is_nothing said
    → MatchBool (not b) (IsScheduleLine line) (IsScheduleLine line → ⊥)
something_is_one line nothing b h e = rw e (nothing_is_none line h.0)
something_is_one line (row zero one) b h e = rw e (row zero one, λ k. cc, h.0)
something_is_one line (head k name) b h e = rw e (head k name, λ k. cc, h.0)
something_is_one line (cycles c) b h e = rw e (cycles c, λ k. cc, h.0)
something_is_one line (total t) b h e = rw e (total t, λ k. cc, h.0)

pub bad_is_none : (line : List ℕ) → (SaysSomethingWidely line → ⊥) → IsScheduleLine line → ⊥
bad_is_none line h s = h (s.0, s.2)

-- what has a number too large is more than nothing
pub large_is_one : (line : List ℕ) → SaysSomethingWidely line → (SaysSomething line → ⊥) → IsScheduleLine line
large_is_one line w h = (w.0, λ e. h (nothing, (subst (SaysWidely line) e w.1, tt)), w.1)

-- From line to line

pub join-append : (before : List (List ℕ)) (line : List ℕ) (after : List (List ℕ)) → before ≢ []
    → join_with_byte 10 (before ++ line ∷ after) ≡ join_with_byte 10 before ++ 10 ∷ join_with_byte 10 (line ∷ after)
join-append [] line after some = absurd (some refl)
join-append (x ∷ []) line after some = refl
join-append (x ∷ y ∷ xs) line after some = grind (arith, append_assoc, join-append (y ∷ xs) line after (λ e. cc))

pub joined : (text : List ℕ) → join_with_byte 10 (lines_of text) ≡ text
joined text = join_with_byte-slice_split 10 text

-- where the lines before a rest end
pub record EndsBefore (input text blocks : List ℕ) : Type 0 where
  pub within : length text ≤ length input
  pub here : take (length input - length text - 1) input ≡ blocks

pub end_here : (input text : List ℕ) (before : List (List ℕ)) (line : List ℕ) (after : List (List ℕ))
    → lines_of text ≡ line ∷ after → lines_of input ≡ before ++ lines_of text
    → EndsBefore input text (join_with_byte 10 before)
end_here input text [] line after split h =
    let same : input ≡ text = sym (joined input) ∙ ap (join_with_byte 10) h ∙ joined text in
    let long = ap length same in
    record {
      within = omega arith;
      here = ap (λ n. take n input) (zero_left (length input) (length text) long);
    }
  where
    zero_left : (a b : ℕ) → a ≡ b → a - b - 1 ≡ 0
    zero_left a b e = omega arith
end_here input text (x ∷ xs) line after split h =
    let whole : input ≡ join_with_byte 10 (x ∷ xs) ++ 10 ∷ text =
    sym (joined input) ∙ ap (join_with_byte 10) (h ∙ ap (λ ls. (x ∷ xs) ++ ls) split)
    ∙ join-append (x ∷ xs) line after (λ e. cc)
    ∙ ap (λ t. join_with_byte 10 (x ∷ xs) ++ 10 ∷ t) (ap (join_with_byte 10) (sym split) ∙ joined text) in
    let front = join_with_byte 10 (x ∷ xs) in
    let long : length input ≡ length front + (1 + length text) =
    omega (arith, ap length whole, length-append front (10 ∷ text)) in
    record {
      within = omega arith;
      here = ap (λ n. take n input) (seam (length input) (length text) (length front) long)
          ∙ ap (take (length front)) whole ∙ take-append_seam front (10 ∷ text);
    }
  where
    seam : (a b f : ℕ) → a ≡ f + (1 + b) → a - b - 1 ≡ f
    seam a b f e = omega arith

-- the lines so far, none of which is a schedule line
pub record AreBlocks (input : List ℕ) (number : ℕ) (rest : Option (Bor (List ℕ))) : Type 0 where
  pub before : List (List ℕ)
  pub none : AllByRecursion (λ line. IsScheduleLine line → ⊥) before
  pub lines : lines_of input ≡ before ++ lines_left rest
  pub count : number ≡ length before

pub blocks_step : {input : List ℕ} {number : ℕ} {text : Bor (List ℕ)} (p : AreBlocks input number (Some text))
    (line : List ℕ) (after : Option (Bor (List ℕ))) → lines_of text.now ≡ line ∷ lines_left after
    → (IsScheduleLine line → ⊥) → AreBlocks input (number + 1) after
blocks_step p line after split h = grind (arith, all-snoc, append_assoc, length-append)

pub blocks_number : {input : List ℕ} {number : ℕ} {rest : Option (Bor (List ℕ))} → AreBlocks input number rest
    → number + length (lines_left rest) ≤ length input + 1
blocks_number {input} {number} {rest} p =
    omega (arith, p.count, lines_few input, ap length p.lines, length-append p.before (lines_left rest))

pub starts : (lines more : List (List ℕ)) (line : List ℕ) → lines ≡ line ∷ more → IsScheduleLine line
    → StartWithSchedule lines
starts lines more line e h = subst StartWithSchedule (sym e) h

-- the text is all blocks
pub all_blocks : {input : List ℕ} {number : ℕ} (p : AreBlocks input number None) → input ≡ join_with_byte 10 p.before
all_blocks {input} {number} p = sym (joined input) ∙ ap (join_with_byte 10) (p.lines ∙ append-nil p.before)
