-- How far bytes go along each part of an operation, whatever follows it.
use Rattle.iloc_lint.proofs.Common.{◌≡◌, ℕ, suc, ◌+◌, ◌-◌, ◌<◌, ◌≤◌, Bool, true, false, cond, not, ◌&&◌, List, [], ◌∷◌, ◌++◌, length, get_or, take, drop, nat_lt, ◌==◌, codes, sym, refl, ap, ◌∙◌, subst, true≢false, append_assoc, arith, and_parts, eqb-true, not-true, nat_tests, drop_more, take_all, is_ascii_digit, Blanks, Text, is_blank, ◌⋅◌, Longest, NumberAt, PartAt, RegisterAt, Rest, SignAt, SmallNumber, alternate, blanks_in, comment_in, common_in, starts_with_value}
use Rattle.std.proofs.Math.Seq.{drop-drop}
use Rattle.std.proofs.Math.ListN.{drop_of_length-le}
use Rattle.std.proofs.lemmas.List.{length-drop}
use Rattle.iloc_lint.specs.declared.place.Part.{Part}
use Rattle.iloc_lint.specs.declared.place.Part.TheVariants as part
use Rattle.iloc_lint.proofs.Longest.{NoBlank, NoDigit, at_length, same, blanks_none, no_blanks, blanks_along, some_less, some_more, some_along, some_stop, text_first, some_text, text_along, text_stop, number_less, some_number, number_along, number_stop, no_comment, comment_no_blank, comment_no_digit, comment_along}

-- Three languages in a row

pub grouped_right : {A B C : List ℕ → Type 0} (w : List ℕ) → ((A ⋅ B) ⋅ C) w → (A ⋅ (B ⋅ C)) w
grouped_right w j = grind (arith, append_assoc)

pub grouped_left : {A B C : List ℕ → Type 0} (w : List ℕ) → (A ⋅ (B ⋅ C)) w → ((A ⋅ B) ⋅ C) w
grouped_left w j = record {
  front = j.front ++ j.second.front;
  rest = j.second.rest;
  first = record { front = j.front; rest = j.second.front; first = j.first; second = j.second.first; whole = refl };
  second = j.second.second;
  whole = j.whole ∙ ap (λ r. j.front ++ r) j.second.whole ∙ sym (append_assoc j.front j.second.front j.second.rest);
}

-- the first of the two in another form
pub with_rest : {A B C : List ℕ → Type 0} → ((w : List ℕ) → B w → C w) → (w : List ℕ) → (A ⋅ B) w → (A ⋅ C) w
with_rest f w j =
    record { front = j.front; rest = j.rest; first = j.first; second = f j.rest j.second; whole = j.whole }

-- What texts begin with

digit_no_blank : (c : ℕ) → is_ascii_digit c ≡ true → is_blank c ≡ false
digit_no_blank c h = grind (arith, nat_tests)

blanks_no_digit : {Q : List ℕ → Type 0} → NoDigit Q → NoDigit (Blanks ⋅ Q)
blanks_no_digit never c w digit j = never c w digit (blanks_none c w (digit_no_blank c digit) j)

text_no_digit : {Q : List ℕ → Type 0} (t : ℕ) (ts : List ℕ) → is_ascii_digit t ≡ false → NoDigit (Text (t ∷ ts) ⋅ Q)
text_no_digit t ts other c w digit j =
    absurd (true≢false (sym digit ∙ ap is_ascii_digit (text_first t c ts w j) ∙ other))

text_no_blank : {Q : List ℕ → Type 0} (t : ℕ) (ts : List ℕ) → is_blank t ≡ false → NoBlank (Text (t ∷ ts) ⋅ Q)
text_no_blank t ts other c w blank j = absurd (true≢false (sym blank ∙ ap is_blank (text_first t c ts w j) ∙ other))

sign_no_digit : {Q : List ℕ → Type 0} (t : ℕ) (ts : List ℕ) → is_ascii_digit t ≡ false
    → NoDigit ((Blanks ⋅ Text (t ∷ ts) ⋅ Blanks) ⋅ Q)
sign_no_digit t ts other c w digit j =
    blanks_no_digit (text_no_digit t ts other) c w digit (with_rest grouped_right (c ∷ w) (grouped_right (c ∷ w) j))

no_blank : (parts : List Part) → starts_with_value parts ≡ true → NoBlank (Rest parts)
no_blank (part.Register ∷ more) e c w blank j = text_no_blank 114 [] refl c w blank (grouped_right (c ∷ w) j)
no_blank (part.Constant ∷ more) e c w blank j =
    absurd (true≢false (sym blank ∙ digit_no_blank c (number_less {Q = Rest more} c w j).0))
no_blank parts e c w blank j = absurd (true≢false (sym e))

no_digit : (parts : List Part) → starts_with_value parts ≡ false → NoDigit (Rest parts)
no_digit [] e c w digit j = blanks_no_digit comment_no_digit c w digit j
no_digit (part.Space ∷ more) e c w digit j =
    absurd (true≢false (sym (some_less {Q = Rest more} c w j).0 ∙ digit_no_blank c digit))
no_digit (part.Comma ∷ more) e c w digit j = sign_no_digit {Q = Rest more} 44 [] refl c w digit j
no_digit (part.Arrow ∷ more) e c w digit j = sign_no_digit {Q = Rest more} 61 (62 ∷ []) refl c w digit j
no_digit parts e c w digit j = absurd (true≢false e)

-- Each list of parts has a text

sign_text : {Q : List ℕ → Type 0} (sign q : List ℕ) → Q q → ((Blanks ⋅ Text sign ⋅ Blanks) ⋅ Q) (sign ++ q)
sign_text sign q is = grouped_left (sign ++ q)
    (no_blanks (sign ++ q) (grouped_left (sign ++ q) (some_text sign q (no_blanks q is))))

register_text : {Q : List ℕ → Type 0} (q : List ℕ) → Q q → ((Text (codes "r") ⋅ SmallNumber) ⋅ Q) (114 ∷ 48 ∷ q)
register_text q is = grouped_left (114 ∷ 48 ∷ q) (some_text (codes "r") (48 ∷ q) (some_number q is))

with_part : (p : Part) (more : List Part) (q : List ℕ) → Rest more q → (w : List ℕ) × Rest (p ∷ more) w
with_part part.Space more q is = (32 ∷ q, some_more 32 q refl (no_blanks q is))
with_part part.Comma more q is = (codes "," ++ q, sign_text (codes ",") q is)
with_part part.Arrow more q is = (codes "=>" ++ q, sign_text (codes "=>") q is)
with_part part.Register more q is = (114 ∷ 48 ∷ q, register_text q is)
with_part part.Constant more q is = (48 ∷ q, some_number q is)

pub some_rest : (parts : List Part) → (w : List ℕ) × Rest parts w
some_rest [] = ([], no_blanks [] no_comment)
some_rest (p ∷ more) = let rest = some_rest more in with_part p more rest.0 rest.1

-- What follows a part

pub alternate_more : (p : Part) (more : List Part) → alternate (p ∷ more) ≡ true → alternate more ≡ true
alternate_more p more h = (and_parts _ (alternate more) h).1

-- Signs

sign_along : {Q : List ℕ → Type 0} → NoBlank Q → (t : ℕ) (ts bytes : List ℕ) (count k : ℕ) → is_blank t ≡ false
    → SignAt (t ∷ ts) bytes count true → Longest Q (drop count bytes) k
    → Longest ((Blanks ⋅ Text (t ∷ ts) ⋅ Blanks) ⋅ Q) bytes (count + k)
sign_along {Q} never t ts bytes count k other at l =
    let before = blanks_in bytes in
    let size = length (t ∷ ts) in
    let second = drop size (drop before bytes) in
    let here : drop count bytes ≡ drop (blanks_in second) second =
    ap (λ n. drop n bytes) at.1 ∙ sym (drop-drop (size + blanks_in second) before bytes)
    ∙ sym (drop-drop (blanks_in second) size (drop before bytes)) in
    let inner = blanks_along never second k (subst (λ r. Longest Q r k) here l) in
    let middle = text_along (t ∷ ts) (drop before bytes) (blanks_in second + k) at.0 inner in
    let outer = blanks_along (text_no_blank t ts other) bytes (size + (blanks_in second + k)) middle in
    at_length (omega (arith, at.1))
    (same (λ w j. grouped_left w (with_rest grouped_left w j)) (λ w j. with_rest grouped_right w (grouped_right w j)) outer)

sign_stop : {Q : List ℕ → Type 0} (q : List ℕ) → Q q → (t : ℕ) (ts bytes : List ℕ) (count : ℕ) → is_blank t ≡ false
    → SignAt (t ∷ ts) bytes count false → Longest ((Blanks ⋅ Text (t ∷ ts) ⋅ Blanks) ⋅ Q) bytes count
sign_stop {Q} q is t ts bytes count other at =
    let inner = text_stop q (no_blanks {Q = Q} q is) (t ∷ ts) (drop (blanks_in bytes) bytes) at.0 in
    let outer = blanks_along (text_no_blank t ts other) bytes (common_in (t ∷ ts) (drop (blanks_in bytes) bytes)) inner in
    at_length (sym at.1)
    (same (λ w j. grouped_left w (with_rest grouped_left w j)) (λ w j. with_rest grouped_right w (grouped_right w j)) outer)

-- Each part

pub space_at : (bytes : List ℕ) → PartAt part.Space bytes (blanks_in bytes) (nat_lt 0 (blanks_in bytes))
space_at bytes = by (nat_lt 0 (blanks_in bytes)) refl
  where
    by : (b : Bool) → nat_lt 0 (blanks_in bytes) ≡ b → PartAt part.Space bytes (blanks_in bytes) b
    by true e = λ more k alt l. some_along (no_blank more (and_parts (starts_with_value more) (alternate more) alt).0) bytes k e l
    by false e = λ more alt. let rest = some_rest more in some_stop rest.0 rest.1 bytes e

pub comma_at : (bytes : List ℕ) (count : ℕ) (whole : Bool) → SignAt (codes ",") bytes count whole
    → PartAt part.Comma bytes count whole
comma_at bytes count true at = λ more k alt l.
    sign_along (no_blank more (and_parts (starts_with_value more) (alternate more) alt).0) 44 [] bytes count k refl at l
comma_at bytes count false at = λ more alt. let rest = some_rest more in sign_stop rest.0 rest.1 44 [] bytes count refl at

pub arrow_at : (bytes : List ℕ) (count : ℕ) (whole : Bool) → SignAt (codes "=>") bytes count whole
    → PartAt part.Arrow bytes count whole
arrow_at bytes count true at = λ more k alt l.
    sign_along (no_blank more (and_parts (starts_with_value more) (alternate more) alt).0) 61 (62 ∷ []) bytes count k refl at l
arrow_at bytes count false at = λ more alt.
    let rest = some_rest more in sign_stop rest.0 rest.1 61 (62 ∷ []) bytes count refl at

after_value : (more : List Part) → (not (starts_with_value more) && alternate more) ≡ true → NoDigit (Rest more)
after_value more alt =
    no_digit more (not-true (starts_with_value more) (and_parts (not (starts_with_value more)) (alternate more) alt).0)

pub constant_at : (bytes : List ℕ) (count : ℕ) (whole : Bool) → NumberAt bytes count whole
    → PartAt part.Constant bytes count whole
constant_at bytes count true at = λ more k alt l. number_along (after_value more alt) bytes count k at l
constant_at bytes count false at = λ more alt.
    let rest = some_rest more in number_stop (after_value more alt) rest.0 rest.1 bytes count at

letter_first : {Q : List ℕ → Type 0} (digits : List ℕ) (k : ℕ) → Longest (SmallNumber ⋅ Q) digits k
    → Longest ((Text (codes "r") ⋅ SmallNumber) ⋅ Q) (114 ∷ digits) (1 + k)
letter_first digits k l = same grouped_left grouped_right (text_along (codes "r") (114 ∷ digits) k refl l)

registered : (digits : List ℕ) (count : ℕ) (whole : Bool) → NumberAt digits count whole
    → PartAt part.Register (114 ∷ digits) (count + 1) whole
registered digits count true at = λ more k alt l.
    let next : count + 1 ≡ suc count = omega arith in
    let rest = subst (λ n. Longest (Rest more) (drop n (114 ∷ digits)) k) next l in
    at_length (omega arith) (letter_first digits (count + k) (number_along (after_value more alt) digits count k at rest))
registered digits count false at = λ more alt.
    let rest = some_rest more in
    at_length (omega arith) (letter_first digits count (number_stop (after_value more alt) rest.0 rest.1 digits count at))

unregistered : (bytes : List ℕ) → common_in (codes "r") bytes ≡ 0 → PartAt part.Register bytes 0 false
unregistered bytes none = λ more alt.
    let rest = some_rest more in
    let stopped = text_stop (48 ∷ rest.0) (some_number rest.0 rest.1) (codes "r") bytes (omega (arith, none)) in
    at_length none (same grouped_left grouped_right stopped)

pub register_at : (bytes : List ℕ) (count : ℕ) (whole : Bool) → RegisterAt bytes count whole
    → PartAt part.Register bytes count whole
register_at bytes count whole at = by bytes at.named at.other
  where
    by : (bytes : List ℕ) → ((digits : List ℕ) → bytes ≡ 114 ∷ digits → (n : ℕ) × NumberAt digits n whole × (count ≡ n + 1))
        → (common_in (codes "r") bytes ≡ 0 → (count ≡ 0) × (whole ≡ false)) → PartAt part.Register bytes count whole
    by [] named other = let none = other refl in rw (none.0, none.1) (unregistered [] refl)
    by (c ∷ cs) named other = here (c == 114) refl
      where
        here : (b : Bool) → (c == 114) ≡ b → PartAt part.Register (c ∷ cs) count whole
        here true e =
            let letter = eqb-true c 114 e in
            let n = named cs (ap (λ x. x ∷ cs) letter) in
            subst (λ x. PartAt part.Register (x ∷ cs) count whole) (sym letter)
            (subst (λ m. PartAt part.Register (114 ∷ cs) m whole) (sym n.2) (registered cs n.0 whole n.1))
        here false e =
            let none : common_in (codes "r") (c ∷ cs) ≡ 0 = ap (λ b. cond b 1 0) e in
            let at = other none in rw (at.0, at.1) (unregistered (c ∷ cs) none)

-- The end

pub end_along : (bytes : List ℕ) → Longest (Rest []) bytes (blanks_in bytes + comment_in (drop (blanks_in bytes) bytes))
end_along bytes = blanks_along comment_no_blank bytes (comment_in (drop (blanks_in bytes) bytes))
    (comment_along (drop (blanks_in bytes) bytes))

-- From part to part

-- the bytes from a place on go along the parts from one on, and so do all bytes along all parts
abbrev pub GoesOn : List Part → List ℕ → ℕ → ℕ → Type 0
GoesOn parts bytes i at = (k : ℕ) → Longest (Rest (drop i parts)) (drop at bytes) k → Longest (Rest parts) bytes (at + k)

pub part_fits : (parts : List Part) (i : ℕ) (d : Part) → i < length parts → alternate (drop i parts) ≡ true
    → alternate (drop (i + 1) parts) ≡ true
part_fits parts i d h fit =
    alternate_more (get_or parts i d) (drop (i + 1) parts) (ap alternate (sym (drop_more parts i d h)) ∙ fit)

pub part_over : (parts : List Part) (bytes : List ℕ) (i at count : ℕ) (d : Part) → i < length parts
    → alternate (drop i parts) ≡ true → GoesOn parts bytes i at → PartAt (get_or parts i d) (drop at bytes) count true
    → GoesOn parts bytes (i + 1) (at + count)
part_over parts bytes i at count d h fit on over k l =
    let next = drop_more parts i d h in
    let rest = subst (λ b. Longest (Rest (drop (i + 1) parts)) b k) (sym (drop-drop count at bytes)) l in
    let here = over (drop (i + 1) parts) k (ap alternate (sym next) ∙ fit) rest in
    at_length (omega arith) (on (count + k) (subst (λ ps. Longest (Rest ps) (drop at bytes) (count + k)) (sym next) here))

pub part_stops : (parts : List Part) (bytes : List ℕ) (i at count : ℕ) (d : Part) → i < length parts
    → alternate (drop i parts) ≡ true → GoesOn parts bytes i at → PartAt (get_or parts i d) (drop at bytes) count false
    → Longest (Rest parts) bytes (at + count)
part_stops parts bytes i at count d h fit on stops =
    let next = drop_more parts i d h in
    let here = stops (drop (i + 1) parts) (ap alternate (sym next) ∙ fit) in
    on count (subst (λ ps. Longest (Rest ps) (drop at bytes) count) (sym next) here)

pub all_over : (parts : List Part) (bytes : List ℕ) (i at blanks comment : ℕ) → length parts ≤ i → GoesOn parts bytes i at
    → blanks ≡ blanks_in (drop at bytes) → comment ≡ comment_in (drop (at + blanks) bytes)
    → Longest (Rest parts) bytes (at + blanks + comment)
all_over parts bytes i at blanks comment h on b e =
    let none : drop i parts ≡ [] = drop_of_length-le parts h in
    let there : drop (at + blanks) bytes ≡ drop (blanks_in (drop at bytes)) (drop at bytes) =
    sym (drop-drop blanks at bytes) ∙ ap (λ n. drop n (drop at bytes)) b in
    let rest = end_along (drop at bytes) in
    at_length (omega (arith, b, e, ap comment_in there))
    (on (blanks_in (drop at bytes) + comment_in (drop (blanks_in (drop at bytes)) (drop at bytes)))
    (subst (λ ps. Longest (Rest ps) (drop at bytes)
    (blanks_in (drop at bytes) + comment_in (drop (blanks_in (drop at bytes)) (drop at bytes)))) (sym none) rest))

-- the bytes from a place on, as the code has them
pub rest_of : (at : ℕ) (bytes : List ℕ) → take (length bytes - at) (drop at bytes) ≡ drop at bytes
rest_of at bytes = take_all (length bytes - at) (drop at bytes) (omega (arith, length-drop at bytes))
