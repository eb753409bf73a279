-- How a text falls into its lines.
use Rattle.iloc_text.proofs.Common.{◌≡◌, ℕ, ◌+◌, ◌≤◌, false, cond, List, [], ◌∷◌, length, take, drop, nat_lt, slice_index, Some, None, Option, sym, refl, arith, lt-ltb, false_from_ne_true, nat_tests, AllByRecursion, onto_first, position_or_len, AreLines, HasNoLineEnd, is_line_end, line_end, lines_of}
use Rattle.std.proofs.lemmas.List.Sums.{position_or_len_is, count_by-le-length}
use Rattle.memchr.specs.Find.{IsFirstByte, is_byte}
use Rattle.std.proofs.lemmas.List.Splits.{slice_split_first, length-slice_split, join_with_byte-slice_split}

at_place : (text : List ℕ) (i : ℕ) (r : Option ℕ) → position_or_len is_line_end text ≡ i
    → cond (nat_lt i (length text)) (Some i) None ≡ r → r ≡ line_end text
at_place text i r e f = rw e (sym f)

past_text : (n : ℕ) → nat_lt n n ≡ false
past_text n = grind (arith, nat_tests)

-- the first place at which a line end stands is the place of the first line end
pub first_line_end : (text : List ℕ) (r : Option ℕ) → IsFirstByte (is_byte 10) text r → r ≡ line_end text
first_line_end text None h =
    let end = position_or_len_is is_line_end text (length text) 0 (omega arith)
    (λ k below. false_from_ne_true (is_line_end (slice_index text k)) (h k (omega arith) below))
    (λ inside. absurd (omega arith)) in
    at_place text (length text) None end (rw (past_text (length text)) refl)
first_line_end text (Some i) h = grind (arith, at_place, false_from_ne_true, lt-ltb, position_or_len_is)

whole_line : (text : List ℕ) → length text ≤ position_or_len is_line_end text → lines_of text ≡ text ∷ []
whole_line [] h = refl
whole_line (c ∷ cs) h = grind (arith, whole_line cs)

pub line_none : (text : List ℕ) → line_end text ≡ None → lines_of text ≡ text ∷ []
line_none text e = grind (arith, nat_tests, whole_line)

pub line_some : (text : List ℕ) (end : ℕ) → line_end text ≡ Some end
    → lines_of text ≡ take end text ∷ lines_of (drop (end + 1) text)
line_some text end e = grind (arith, nat_tests, slice_split_first)

pub no_line_end : (c : ℕ) → (c ≡ 10 → ⊥) → is_line_end c ≡ false
no_line_end c h = grind (arith, nat_tests)

is_line_end_tells : (c : ℕ) → is_line_end c ≡ false → c ≡ 10 → ⊥
is_line_end_tells c h = grind (arith, nat_tests)

front_line : (c : ℕ) (lines : List (List ℕ)) → is_line_end c ≡ false → AllByRecursion HasNoLineEnd lines
    → AllByRecursion HasNoLineEnd (onto_first c lines)
front_line c [] h each = ((is_line_end_tells c h, tt), tt)
front_line c (line ∷ lines) h each = ((is_line_end_tells c h, each.0), each.1)

no_line_ends : (text : List ℕ) → AllByRecursion HasNoLineEnd (lines_of text)
no_line_ends [] = (tt, tt)
no_line_ends (c ∷ cs) = grind (arith, front_line, no_line_ends cs)

pub lines_are : (text : List ℕ) → AreLines text (lines_of text)
lines_are text = record {
  some = omega (arith, length-slice_split is_line_end text);
  each = no_line_ends text;
  whole = sym (join_with_byte-slice_split 10 text);
}

pub lines_few : (text : List ℕ) → length (lines_of text) ≤ length text + 1
lines_few text = omega (arith, length-slice_split is_line_end text, count_by-le-length is_line_end text)
