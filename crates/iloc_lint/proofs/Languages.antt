-- A line without a label, as a language of parts.
use Rattle.iloc_lint.proofs.Common.{◌≡◌, ℕ, ◌+◌, ◌<◌, ◌≤◌, max, Bool, true, false, cond, ◌⊎◌, List, [], ◌∷◌, ◌++◌, map, length, get_or, take, drop, Some, None, Option, find, bytes_eq, sym, refl, ap, ◌∙◌, subst, inl, inr, append_assoc, arith, take_more, none-some, AllByRecursion, Lead, Operand, Value, number_in, number_of, op_of, opcode, opcode_text, opcodes, operands, space, Constant, Definition, Use, MAX_NUMBER, Opcode, Op, Nop, opcode-op_of, opcode_found, operands-op_of, Blanks, LeadText, OperandsText, OptionalComment, Reads, Text, ValueText, is_blank, ◌⋅◌, Bodies, Called, Longest, PartText, Rest, blanks_in, common_in, lead_part, parts, parts_in, value_part}
use Rattle.std.specs.Prelude.{unwrap_or}
use Rattle.iloc_ops.specs.declared.forms.Opcode.TheVariants as O
use Rattle.iloc_text.specs.Steps.Opcodes.{operands_of}
use Rattle.iloc_text.proofs.Operands.{with_number, filled}
use Rattle.iloc_text.proofs.Parts.{starts}
use Rattle.iloc_lint.proofs.Longest.{NoBlank, same, either, blanks_along, no_blanks, some_text, text_nothing, text_along, text_stop, comment_no_blank}
use Rattle.iloc_lint.proofs.PartsAlong.{grouped_left, grouped_right, with_rest, some_rest}

-- blanks and a comment
abbrev End : List ℕ → Type 0
End = Blanks ⋅ OptionalComment

-- Operands are parts

lead_text : (lead : Lead) (w : List ℕ) → LeadText lead w → PartText (lead_part lead) w
lead_text space w h = h
lead_text _ w h = h

text_lead : (lead : Lead) (w : List ℕ) → PartText (lead_part lead) w → LeadText lead w
text_lead space w h = h
text_lead _ w h = h

value_text : (value : Value) (w : List ℕ) → number_in value ≤ MAX_NUMBER → ValueText value w
    → PartText (value_part value) w
value_text (Use r) w small h = with_rest (λ v n. (r.0, small, n)) w h
value_text (Definition r) w small h = with_rest (λ v n. (r.0, small, n)) w h
value_text (Constant n) w small h = (n, small, h)

-- a value of this kind, with its number
abbrev Valued : Value → List ℕ → Type 0
Valued value w = (n : ℕ) × (number_in (with_number value n) ≤ MAX_NUMBER) × ValueText (with_number value n) w

text_value : (value : Value) (w : List ℕ) → PartText (value_part value) w → Valued value w
text_value (Constant n) w j = (j.0, j.1, j.2)
text_value value w j = grind arith

with_first : {A B C : List ℕ → Type 0} → ((w : List ℕ) → A w → B w) → (w : List ℕ) → (A ⋅ C) w → (B ⋅ C) w
with_first f w j =
    record { front = j.front; rest = j.rest; first = f j.front j.first; second = j.second; whole = j.whole }

abbrev AreSmall : List ℕ → Type 0
AreSmall ns = AllByRecursion (λ n. n ≤ MAX_NUMBER) ns

operands_parts : (os : List Operand) (w : List ℕ) → AreSmall (map number_of os) → (OperandsText os ⋅ End) w
    → Rest (parts_in os) w
operands_parts [] w small j = text_nothing w j
operands_parts (o ∷ more) w small j =
    with_first (lead_text o.lead) w
    (with_rest (λ v k. with_first (λ u h. value_text o.value u small.0 h) v
    (with_rest (λ u h. operands_parts more u small.1 h) v (grouped_right v k))) w (grouped_right w j))

-- operands of these kinds
abbrev Filled : List Operand → List ℕ → Type 0
Filled os w = (ns : List ℕ) × AreSmall (map number_of (filled os ns)) × (OperandsText (filled os ns) ⋅ End) w

parts_operands : (os : List Operand) (w : List ℕ) → Rest (parts_in os) w → Filled os w
parts_operands [] w j = ([], tt, some_text [] w j)
parts_operands (o ∷ more) w j =
    let value = text_value o.value j.second.front j.second.first in
    let others = parts_operands more j.second.rest j.second.second in (
      value.0 ∷ others.0,
      (value.1, others.1),
      grouped_left w (record {
        front = j.front;
        rest = j.rest;
        first = text_lead o.lead j.front j.first;
        second = grouped_left j.rest (record {
          front = j.second.front;
          rest = j.second.rest;
          first = value.2;
          second = others.2;
          whole = j.second.whole;
        });
        whole = j.whole;
      }),
    )

-- What reads

-- a line without a label that reads
abbrev pub Plain : List ℕ → Type 0
Plain w = (op : Option Op) × Reads w None op

reads_as : (op : Op) (o : Opcode) (os : List Operand) (w : List ℕ) → opcode op ≡ o → operands op ≡ os
    → AreSmall (map number_of os) → (Text (opcode_text o) ⋅ (OperandsText os ⋅ End)) w → Reads w None (Some op)
reads_as op o os w e f small j =
    let named = subst (λ p. (Text (opcode_text p) ⋅ (OperandsText os ⋅ End)) w) (sym e) j in
    let whole = subst (λ ps. (Text (opcode_text (opcode op)) ⋅ (OperandsText ps ⋅ End)) w) (sym f) named in (
      no_blanks w (some_text [] w (no_blanks w (grouped_left w whole))),
      subst (λ ps. AreSmall (map number_of ps)) (sym f) small,
    )

called_reads : (o : Opcode) (w : List ℕ) → Called o w → Plain w
called_reads o w j =
    let f = parts_operands (operands_of o) j.rest j.second in (
      Some (op_of o f.0),
      reads_as (op_of o f.0) o (filled (operands_of o) f.0) w (opcode-op_of o f.0) (operands-op_of o f.0) f.1
          (record { front = j.front; rest = j.rest; first = j.first; second = f.2; whole = j.whole }),
    )

comment_reads : (w : List ℕ) → OptionalComment w → Plain w
comment_reads w h = (None, (no_blanks w (some_text [] w (no_blanks w (some_text [] w (no_blanks w h)))), tt))

bodies_read : (os : List Opcode) (w : List ℕ) → Bodies os w → Plain w
bodies_read [] w h = comment_reads w h
bodies_read (o ∷ os) w (inl h) = called_reads o w h
bodies_read (o ∷ os) w (inr h) = bodies_read os w h

blanks_join : (a b : List ℕ) → Blanks a → Blanks b → Blanks (a ++ b)
blanks_join [] b h k = k
blanks_join (c ∷ cs) b h k = (h.0, blanks_join cs b h.1 k)

-- blanks and more of them
more_blanks : {Q : List ℕ → Type 0} (w : List ℕ) → (Blanks ⋅ (Blanks ⋅ Q)) w → (Blanks ⋅ Q) w
more_blanks w j = grind (arith, append_assoc, blanks_join)

pub blanks_read_on : (w : List ℕ) → (Blanks ⋅ Plain) w → Plain w
blanks_read_on w j = (
  j.second.0,
  (
    more_blanks w (record {
      front = j.front;
      rest = j.rest;
      first = j.first;
      second = j.second.1.0;
      whole = j.whole;
    }),
    j.second.1.1,
  ),
)

-- Each opcode is among them

-- what the text of this opcode finds among these
abbrev called_among : List Opcode → Opcode → Option Opcode
called_among os o = find (λ (p : Opcode). bytes_eq (opcode_text p) (opcode_text o)) os

named : (os : List Opcode) (o : Opcode) (w : List ℕ) → called_among os o ≡ Some o → Called o w → Bodies os w
named [] o w found h = absurd (none-some o found)
named (x ∷ os) o w found h = go (bytes_eq (opcode_text x) (opcode_text o)) found (λ later. named os o w later h)
  where
    go : (b : Bool) → cond b (Some x) (called_among os o) ≡ Some o → (called_among os o ≡ Some o → Bodies os w)
        → Bodies (x ∷ os) w
    go true same rest = inl (subst (λ (p : Opcode). Called p w) (sym (ap (λ s. unwrap_or s o) same)) h)
    go false later rest = inr (rest later)

commented : (os : List Opcode) (w : List ℕ) → OptionalComment w → Bodies os w
commented [] w h = h
commented (o ∷ os) w h = inr (commented os w h)

parts_of_op : (op : Op) → parts_in (operands op) ≡ parts (opcode op)
parts_of_op Nop = refl
parts_of_op _ = refl

nothing_between : {Q : List ℕ → Type 0} (w : List ℕ) → (Blanks ⋅ (Text [] ⋅ (Blanks ⋅ Q))) w → (Blanks ⋅ Q) w
nothing_between w j = more_blanks w (with_rest text_nothing w j)

plain_bodies : (w : List ℕ) → Plain w → (Blanks ⋅ Bodies opcodes) w
plain_bodies w (None, r) =
    with_rest (commented opcodes) w (nothing_between w (with_rest (with_rest nothing_between) w r.0))
plain_bodies w (Some op, r) =
    with_rest
    (λ v j. named opcodes (opcode op) v (opcode_found op)
    (subst (λ ps. (Text (opcode_text (opcode op)) ⋅ Rest ps) v) (parts_of_op op)
    (with_rest (λ u k. operands_parts (operands op) u r.1 k) v (grouped_right v j)))) w
    (nothing_between w r.0)

-- What they begin with

opcode_no_blank : (o : Opcode) (rest : List ℕ) → starts is_blank (opcode_text o ++ rest) ≡ false
opcode_no_blank O.Nop rest = refl
opcode_no_blank _ rest = refl

bodies_no_blank : (os : List Opcode) → NoBlank (Bodies os)
bodies_no_blank [] c w blank h = comment_no_blank c w blank h
bodies_no_blank (o ∷ os) c w blank (inl j) = grind (arith, opcode_no_blank)
bodies_no_blank (o ∷ os) c w blank (inr h) = bodies_no_blank os c w blank h

-- How far the bytes go along all of them

push_body : (os : List Opcode) (o : Opcode) (w : List ℕ) → Bodies os w ⊎ Called o w → Bodies (os ++ o ∷ []) w
push_body [] o w (inl h) = inr h
push_body [] o w (inr h) = inl h
push_body (x ∷ os) o w (inl (inl h)) = inl h
push_body (x ∷ os) o w (inl (inr h)) = inr (push_body os o w (inl h))
push_body (x ∷ os) o w (inr h) = inr (push_body os o w (inr h))

pop_body : (os : List Opcode) (o : Opcode) (w : List ℕ) → Bodies (os ++ o ∷ []) w → Bodies os w ⊎ Called o w
pop_body [] o w (inl h) = inr h
pop_body [] o w (inr h) = inl h
pop_body (x ∷ os) o w (inl h) = inl (inl h)
pop_body (x ∷ os) o w (inr h) = grind (arith, pop_body os o w h)

pub one_more : (os : List Opcode) (o : Opcode) {bytes : List ℕ} {k m : ℕ} → Longest (Bodies os) bytes k
    → Longest (Called o) bytes m → Longest (Bodies (os ++ o ∷ [])) bytes (max k m)
one_more os o a b = same (push_body os o) (pop_body os o) (either a b)

pub called_stop : (o : Opcode) (bytes : List ℕ) → common_in (opcode_text o) bytes < length (opcode_text o)
    → Longest (Called o) bytes (common_in (opcode_text o) bytes)
called_stop o bytes less = let rest = some_rest (parts o) in text_stop rest.0 rest.1 (opcode_text o) bytes less

pub plain_along : (bytes : List ℕ) (k : ℕ) → Longest (Bodies opcodes) (drop (blanks_in bytes) bytes) k
    → Longest Plain bytes (blanks_in bytes + k)
plain_along bytes k l =
    same (λ w j. blanks_read_on w (with_rest (bodies_read opcodes) w j)) plain_bodies
    (blanks_along (bodies_no_blank opcodes) bytes k l)

pub called_along : (o : Opcode) (bytes : List ℕ) (count k : ℕ) → count ≡ common_in (opcode_text o) bytes
    → length (opcode_text o) ≤ count → count ≤ length (opcode_text o)
    → Longest (Rest (parts o)) (drop count bytes) k → Longest (Called o) bytes (count + k)
called_along o bytes count k e low high l =
    let all : count ≡ length (opcode_text o) = omega arith in
    subst (λ n. Longest (Called o) bytes (n + k)) (sym all)
    (text_along (opcode_text o) bytes k (sym e ∙ all) (subst (λ n. Longest (Rest (parts o)) (drop n bytes) k) all l))

-- one opcode more
pub next_opcode : (os : List Opcode) (i : ℕ) (d : Opcode) {bytes : List ℕ} {k m : ℕ} → i < length os
    → Longest (Bodies (take i os)) bytes k → Longest (Called (get_or os i d)) bytes m
    → Longest (Bodies (take (i + 1) os)) bytes (max k m)
next_opcode os i d {bytes} {k} {m} h a b =
    subst (λ ps. Longest (Bodies ps) bytes (max k m)) (sym (take_more os i d h)) (one_more (take i os) (get_or os i d) a b)
