-- Operands that are read on the fast path.
use Rattle.iloc_text.proofs.Common.{◌≡◌, ℕ, ◌+◌, ◌-◌, ◌*◌, ◌%◌, ◌^◌, ◌<◌, ◌≤◌, Bool, true, false, List, [], ◌∷◌, ◌++◌, length, get_or, drop, nat_lt, ◌==◌, Some, None, Option, option_to_list, sym, refl, ap, ◌∙◌, subst, arith, length-drop, get_or-drop, drop-drop, eqb-true, agree_below_at, nat_tests, and_le_r, and_mask, and_mod, is_ascii_digit, bit_and, number_l, Operand, op_of, Opcode, Load, LoadI, Nop, Output, Store, is_blank, IsNumber, Keeps, IsBehind, IsFound, IsMaskOf, IsRead, lead_of, lead_text, operand_of, operands_by, shape_of, tight, written, operands_of, after_blanks, is_within_limit, number_at, operands_at, ◌>>=◌, ABOVE_LIMIT}
use Rattle.iloc_text.specs.declared.line.shape.Shape.{Shape}
use Rattle.iloc_text.specs.declared.line.shape.Kind.{Kind}
use Rattle.iloc_text.specs.declared.line.shape.Kind.TheVariants.{Nothing, BlankRegister, BlankConstant, CommaRegister, CommaConstant, ArrowRegister}
use Rattle.iloc_text.specs.Steps.Scan.{operand_then, called_at}
use Rattle.iloc_text.proofs.Lanes.{Bytes}
use Rattle.iloc_text.proofs.OpcodeWords.{begins}

digit_is_not_blank : (c : ℕ) → is_ascii_digit c ≡ true → is_blank c ≡ false
digit_is_not_blank c h = grind (arith, nat_tests)

-- no blank begins a number
no_blank : (rest : List ℕ) (found : ℕ × List ℕ) → number_at rest ≡ Some found → after_blanks rest ≡ rest
no_blank [] found e = refl
no_blank (c ∷ cs) found e = by (is_ascii_digit c) refl e
  where
    by : (b : Bool) → is_ascii_digit c ≡ b → number_at (c ∷ cs) ≡ Some found → after_blanks (c ∷ cs) ≡ c ∷ cs
    by true d e = rw (digit_is_not_blank c d) refl
    by false d e = absurd (none (rw d refl ∙ e))
      where
        none : ◌≡◌ {A = Option (ℕ × List ℕ)} None (Some found) → ⊥
        none h = cc

written_at : (k : Kind) (blank : ℕ) (rest : List ℕ) (found : ℕ × List ℕ) → is_blank blank ≡ true → IsBehind k rest found
    → IsRead k (written k blank ++ rest) found
written_at Nothing blank rest found b e = e
written_at BlankRegister blank rest found b e = rw b e
written_at BlankConstant blank rest found b e = rw b (ap number_at (no_blank rest found e) ∙ e)
written_at CommaRegister blank rest found b e = rw b e
written_at CommaConstant blank rest found b e = rw b (ap number_at (no_blank rest found e) ∙ e)
written_at ArrowRegister blank rest found b e = rw b e

tight_at : (k : Kind) (rest : List ℕ) (found : ℕ × List ℕ) → IsBehind k rest found → IsRead k (tight k ++ rest) found
tight_at Nothing rest found e = e
tight_at BlankRegister rest found e = e
tight_at BlankConstant rest found e = ap number_at (no_blank rest found e) ∙ e
tight_at CommaRegister rest found e = e
tight_at CommaConstant rest found e = ap number_at (no_blank rest found e) ∙ e
tight_at ArrowRegister rest found e = e

-- as long with any blank
pub length_written : (k : Kind) (blank : ℕ) → length (written k blank) ≡ length (written k 32)
length_written Nothing blank = refl
length_written BlankRegister blank = refl
length_written BlankConstant blank = refl
length_written CommaRegister blank = refl
length_written CommaConstant blank = refl
length_written ArrowRegister blank = refl

low_known : (j word mask value low : ℕ) → mask % 2 ^ j ≡ 2 ^ j - 1 → word % 2 ^ j % 2 ^ j ≡ word % 2 ^ j → value % 2 ^ j ≡ low
    → bit_and word mask ≡ value → word % 2 ^ j ≡ low
low_known j word mask value low ones twice is e =
    sym twice ∙ sym (and_mask (word % 2 ^ j) j) ∙ ap (bit_and (word % 2 ^ j)) (sym ones) ∙ sym (and_mod word mask j)
    ∙ ap (λ n. n % 2 ^ j) e ∙ is

-- the same bits are looked at with any blank
pub mask_written : (k : Kind) (blank : ℕ) → (lead_text k (written k blank)).mask ≡ (lead_text k (written k 32)).mask
mask_written Nothing blank = refl
mask_written BlankRegister blank = refl
mask_written BlankConstant blank = refl
mask_written CommaRegister blank = refl
mask_written CommaConstant blank = refl
mask_written ArrowRegister blank = refl

-- a text of few bytes, known by some of their bits, behind which the number of an operand is read
pub record IsLead (k : Kind) (text : List ℕ) : Type 0 where
  pub bytes : Bytes text
  pub short : length text ≤ 8
  pub known : (word : ℕ) → bit_and word (lead_text k text).mask ≡ (lead_text k text).word → word % 2 ^ (8 * length text) ≡ number_l 256 text
  pub read : (rest : List ℕ) (found : ℕ × List ℕ) → IsBehind k rest found → IsRead k (text ++ rest) found

pub written_leads : (k : Kind) (blank : ℕ) → is_blank blank ≡ true → blank < 256 → IsLead k (written k blank)
written_leads k blank b below = record {
  bytes = by k;
  short = omega (arith, length_written k blank, short k);
  known = known k;
  read = λ rest found e. written_at k blank rest found b e;
}
  where
    known : (k : Kind) (word : ℕ) → bit_and word (lead_text k (written k blank)).mask ≡ (lead_text k (written k blank)).word
        → word % 2 ^ (8 * length (written k blank)) ≡ number_l 256 (written k blank)
    known Nothing word e = omega arith
    known BlankRegister word e = low_known 16 word 65535 _ _ refl (omega arith) (omega (arith, below)) e
    known BlankConstant word e = low_known 8 word 61695 _ _ refl (omega arith) (omega (arith, below)) e
    known CommaRegister word e = low_known 24 word 16777215 _ _ refl (omega arith) (omega (arith, below)) e
    known CommaConstant word e = low_known 16 word 15794175 _ _ refl (omega arith) (omega (arith, below)) e
    known ArrowRegister word e = low_known 40 word 1099511627775 _ _ refl (omega arith) (omega (arith, below)) e

    by : (k : Kind) → Bytes (written k blank)
    by Nothing = tt
    by BlankRegister = (below, (omega arith, tt))
    by BlankConstant = (below, tt)
    by CommaRegister = (omega arith, (below, (omega arith, tt)))
    by CommaConstant = (omega arith, (below, tt))
    by ArrowRegister = (below, (omega arith, (omega arith, (omega arith, (omega arith, tt)))))

    short : (k : Kind) → length (written k 32) ≤ 8
    short Nothing = omega arith
    short _ = omega arith

pub tight_leads : (k : Kind) → IsLead k (tight k)
tight_leads k = record { bytes = by k; short = short k; known = known k; read = tight_at k }
  where
    known : (k : Kind) (word : ℕ) → bit_and word (lead_text k (tight k)).mask ≡ (lead_text k (tight k)).word
        → word % 2 ^ (8 * length (tight k)) ≡ number_l 256 (tight k)
    known Nothing word e = omega arith
    known BlankRegister word e = low_known 16 word 65535 _ _ refl (omega arith) refl e
    known BlankConstant word e = low_known 8 word 61695 _ _ refl (omega arith) refl e
    known CommaRegister word e = low_known 16 word 65535 _ _ refl (omega arith) refl e
    known CommaConstant word e = low_known 8 word 61695 _ _ refl (omega arith) refl e
    known ArrowRegister word e = low_known 24 word 16777215 _ _ refl (omega arith) refl e

    by : (k : Kind) → Bytes (tight k)
    by Nothing = omega arith
    by _ = omega arith

    short : (k : Kind) → length (tight k) ≤ 8
    short Nothing = omega arith
    short _ = omega arith

-- the masks of what mostly precedes a number
pub mask_of_lead : (k : Kind) → IsMaskOf k (lead_of k).usual.mask
mask_of_lead Nothing = refl
mask_of_lead BlankRegister = λ n h. eqb-true (bit_and n 65535) n (agree_below_at (λ m. bit_and m 65535 == m) (λ m. true) 16 n refl h)
mask_of_lead BlankConstant = λ n h. eqb-true (bit_and n 61695) n (agree_below_at (λ m. bit_and m 61695 == m) (λ m. true) 16 n refl h)
mask_of_lead CommaRegister = λ n h. eqb-true (bit_and n 16777215) n (agree_below_at (λ m. bit_and m 16777215 == m) (λ m. true) 16 n refl h)
mask_of_lead CommaConstant = λ n h. eqb-true (bit_and n 15794175) n (agree_below_at (λ m. bit_and m 15794175 == m) (λ m. true) 16 n refl h)
mask_of_lead ArrowRegister = λ n h. eqb-true (bit_and n 1099511627775) n (agree_below_at (λ m. bit_and m 1099511627775 == m) (λ m. true) 16 n refl h)

some : (mask : ℕ) → Keeps mask → 0 < mask
some mask h = omega (arith, h 1 (omega arith), and_le_r 1 mask)

pub behind : (k : Kind) (mask : ℕ) (text : List ℕ) (found : ℕ × List ℕ) → IsMaskOf k mask → IsNumber mask text found → IsBehind k text found
behind Nothing mask text found e number = number.1 e
behind BlankRegister mask text found e number = number.0 (some mask e)
behind BlankConstant mask text found e number = number.0 (some mask e)
behind CommaRegister mask text found e number = number.0 (some mask e)
behind CommaConstant mask text found e number = number.0 (some mask e)
behind ArrowRegister mask text found e number = number.0 (some mask e)

-- what precedes a number is there where its bytes are
pub lead_read : (k : Kind) (text bytes : List ℕ) (at word : ℕ) (found : ℕ × List ℕ) → IsLead k text → at + 8 ≤ length bytes
    → ((i : ℕ) → get_or bytes i 0 < 256)
    → word ≡ number_l 256 (get_or bytes at 0 ∷ get_or bytes (at + 1) 0 ∷ get_or bytes (at + 2) 0 ∷ get_or bytes (at + 3) 0 ∷ get_or bytes (at + 4) 0 ∷ get_or bytes (at + 5) 0 ∷ get_or bytes (at + 6) 0 ∷ get_or bytes (at + 7) 0 ∷ [])
    → bit_and word (lead_text k text).mask ≡ (lead_text k text).word → IsBehind k (drop (at + length text) bytes) found → IsRead k (drop at bytes) found
lead_read k text bytes at word found lead long small is same e =
    let at_first : get_or (drop at bytes) 0 0 ≡ get_or bytes at 0 = get_or-drop at bytes 0 0 ∙ ap (λ n. get_or bytes n 0) (omega arith) in
    let front : word ≡ number_l 256 (get_or (drop at bytes) 0 0 ∷ get_or (drop at bytes) 1 0 ∷ get_or (drop at bytes) 2 0 ∷ get_or (drop at bytes) 3 0 ∷ get_or (drop at bytes) 4 0 ∷ get_or (drop at bytes) 5 0 ∷ get_or (drop at bytes) 6 0 ∷ get_or (drop at bytes) 7 0 ∷ [])
    = is ∙ sym (rw (at_first, get_or-drop at bytes 1 0, get_or-drop at bytes 2 0, get_or-drop at bytes 3 0, get_or-drop at bytes 4 0, get_or-drop at bytes 5 0, get_or-drop at bytes 6 0, get_or-drop at bytes 7 0) refl) in
    let whole = begins text (drop at bytes) word (omega (arith, long, length-drop at bytes))
    (λ i. subst (λ n. n < 256) (sym (get_or-drop at bytes i 0)) (small (at + i))) lead.bytes lead.short front (lead.known word same) in
    subst (λ t. IsRead k t found) (sym (whole ∙ ap (λ t. text ++ t) (drop-drop (length text) at bytes)))
    (lead.read (drop (at + length text) bytes) found e)

-- The operands of an opcode

reads : (o : Opcode) (text : List ℕ) → operands_at (operands_of o) text ≡ operands_at (operands_by (shape_of o)) text
unfolding operand_then
reads Nop text = refl
reads _ text = refl

-- the number that was found of an operand, if there is one
abbrev number : Option Operand → ℕ → List ℕ
number None n = []
number (Some o) n = n ∷ []

all_read : (x y z : Option Operand) (text : List ℕ) (a b c : ℕ) (behind further rest : List ℕ) → IsFound x text (a, behind)
    → IsFound y behind (b, further) → IsFound z further (c, rest)
    → operands_at (option_to_list x ++ option_to_list y ++ option_to_list z) text ≡ Some (number x a ++ number y b ++ number z c, rest)
unfolding operand_then
all_read None None None text a b c behind further rest x y z = rw (z, y, x) refl
all_read None None (Some o) text a b c behind further rest x y z = rw (sym x, sym y, z) refl
all_read None (Some n) None text a b c behind further rest x y z = rw (sym x, y, z) refl
all_read None (Some n) (Some o) text a b c behind further rest x y z = rw (sym x, y, z) refl
all_read (Some m) None None text a b c behind further rest x y z = rw (x, z, y) refl
all_read (Some m) None (Some o) text a b c behind further rest x y z = rw (x, sym y, z) refl
all_read (Some m) (Some n) None text a b c behind further rest x y z = rw (x, y, z) refl
all_read (Some m) (Some n) (Some o) text a b c behind further rest x y z = rw (x, y, z) refl

-- numbers without an operand stand for nothing
numbers_of : (o : Opcode) (a b c : ℕ)
    → op_of o (number (operand_of (shape_of o).first.kind) a ++ number (operand_of (shape_of o).second.kind) b ++ number (operand_of (shape_of o).third.kind) c)
    ≡ op_of o (a ∷ b ∷ c ∷ [])
numbers_of Nop a b c = refl
numbers_of _ a b c = refl

pub called_of : (o : Opcode) (text : List ℕ) (a b c : ℕ) (behind further rest : List ℕ)
    → IsRead (shape_of o).first.kind text (a, behind) → IsRead (shape_of o).second.kind behind (b, further)
    → IsRead (shape_of o).third.kind further (c, rest) → called_at o text ≡ Some (op_of o (a ∷ b ∷ c ∷ []), rest)
unfolding called_at
called_of o text a b c behind further rest first second third =
    ap (λ (found : Option (List ℕ × List ℕ)). found >>= (λ f. Some (op_of o f.0, f.1)))
    (reads o text ∙ all_read (operand_of (shape_of o).first.kind) (operand_of (shape_of o).second.kind) (operand_of (shape_of o).third.kind)
    text a b c behind further rest first second third)
    ∙ ap (λ op. Some (op, rest)) (numbers_of o a b c)

pub called : (o : Opcode) (s : Shape) (text : List ℕ) (a b c : ℕ) (behind further rest : List ℕ) → s ≡ shape_of o
    → IsRead s.first.kind text (a, behind) → IsRead s.second.kind behind (b, further) → IsRead s.third.kind further (c, rest)
    → called_at o text ≡ Some (op_of o (a ∷ b ∷ c ∷ []), rest)
called o s text a b c behind further rest is first second third =
    called_of o text a b c behind further rest (subst (λ t. IsRead t.first.kind text (a, behind)) is first)
    (subst (λ t. IsRead t.second.kind behind (b, further)) is second) (subst (λ t. IsRead t.third.kind further (c, rest)) is third)

first_of : (o : Opcode) → (shape_of o).first ≡ lead_of (shape_of o).first.kind
first_of Nop = refl
first_of _ = refl

pub first_lead : (o : Opcode) (s : Shape) → s ≡ shape_of o → s.first ≡ lead_of s.first.kind
first_lead o s is = subst (λ t. t.first ≡ lead_of t.first.kind) (sym is) (first_of o)

second_of : (o : Opcode) → (shape_of o).second ≡ lead_of (shape_of o).second.kind
second_of Nop = refl
second_of _ = refl

pub second_lead : (o : Opcode) (s : Shape) → s ≡ shape_of o → s.second ≡ lead_of s.second.kind
second_lead o s is = subst (λ t. t.second ≡ lead_of t.second.kind) (sym is) (second_of o)

third_of : (o : Opcode) → (shape_of o).third ≡ lead_of (shape_of o).third.kind
third_of Nop = refl
third_of _ = refl

pub third_lead : (o : Opcode) (s : Shape) → s ≡ shape_of o → s.third ≡ lead_of s.third.kind
third_lead o s is = subst (λ t. t.third ≡ lead_of t.third.kind) (sym is) (third_of o)

-- an operation of small numbers is within the limit
pub small_op : (o : Opcode) (a b c : ℕ) → nat_lt a ABOVE_LIMIT ≡ true → nat_lt b ABOVE_LIMIT ≡ true
    → nat_lt c ABOVE_LIMIT ≡ true → is_within_limit (op_of o (a ∷ b ∷ c ∷ [])) ≡ true
small_op Nop a b c ha hb hc = refl
small_op Output a b c ha hb hc = rw ha refl
small_op Load a b c ha hb hc = rw (ha, hb) refl
small_op LoadI a b c ha hb hc = rw (ha, hb) refl
small_op Store a b c ha hb hc = rw (ha, hb) refl
small_op _ a b c ha hb hc = rw (ha, hb, hc) refl
