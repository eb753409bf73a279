-- The text that bytes begin with, where its number and that of the first eight are the same in its bits.
use Rattle.iloc_text.proofs.Common.{◌≡◌, ℕ, ◌*◌, ◌%◌, ◌^◌, ◌<◌, ◌≤◌, List, [], ◌∷◌, ◌++◌, length, get_or, drop, sym, refl, ap, ◌∙◌, arith, take-append-drop, take-append-le, and_mask, bit_and, number_l, opcode_text, Opcode, Nop, shape_of, text_of}
use Rattle.iloc_text.specs.declared.line.shape.Text.{Text}
use Rattle.iloc_text.proofs.Lanes.{Bytes, eight, front_is}

pub begins : (text bytes : List ℕ) (front : ℕ) → 8 ≤ length bytes → ((i : ℕ) → get_or bytes i 0 < 256) → Bytes text → length text ≤ 8
    → front ≡ number_l 256 (get_or bytes 0 0 ∷ get_or bytes 1 0 ∷ get_or bytes 2 0 ∷ get_or bytes 3 0 ∷ get_or bytes 4 0 ∷ get_or bytes 5 0 ∷ get_or bytes 6 0 ∷ get_or bytes 7 0 ∷ [])
    → front % 2 ^ (8 * length text) ≡ number_l 256 text → bytes ≡ text ++ drop (length text) bytes
begins text (a ∷ b ∷ c ∷ d ∷ x ∷ f ∷ g ∷ h ∷ more) front long small low few is same =
    let first = a ∷ b ∷ c ∷ d ∷ x ∷ f ∷ g ∷ h ∷ [] in
    let found = front_is text first low (eight (small 0) (small 1) (small 2) (small 3) (small 4) (small 5) (small 6) (small 7)) few
    (ap (λ n. n % 2 ^ (8 * length text)) (sym is) ∙ same) in
    sym (take-append-drop (length text) (first ++ more))
    ∙ ap (λ t. t ++ drop (length text) (first ++ more)) (take-append-le (length text) first more few ∙ found)
begins text _ front long small low few is same = absurd (omega (arith, long))

pub bytes_of : (o : Opcode) → Bytes (opcode_text o) × (length (opcode_text o) ≤ 8)
bytes_of Nop = (omega arith, omega arith)
bytes_of _ = (omega arith, omega arith)

text_is : (o : Opcode) → (shape_of o).text ≡ text_of (opcode_text o)
text_is Nop = refl
text_is _ = refl

pub opcode_begins : (o : Opcode) (text : Text) (bytes : List ℕ) (front : ℕ) → 8 ≤ length bytes → ((i : ℕ) → get_or bytes i 0 < 256)
    → front ≡ number_l 256 (get_or bytes 0 0 ∷ get_or bytes 1 0 ∷ get_or bytes 2 0 ∷ get_or bytes 3 0 ∷ get_or bytes 4 0 ∷ get_or bytes 5 0 ∷ get_or bytes 6 0 ∷ get_or bytes 7 0 ∷ [])
    → text ≡ (shape_of o).text → bit_and front text.mask ≡ text.word → bytes ≡ opcode_text o ++ drop text.length bytes
opcode_begins o text bytes front long small is by same =
    let whole = by ∙ text_is o in
    begins (opcode_text o) bytes front long small (bytes_of o).0 (bytes_of o).1 is
    (sym (and_mask front (8 * length (opcode_text o))) ∙ sym (ap (λ t. bit_and front t.mask) whole) ∙ same ∙ ap (λ t. t.word) whole)
    ∙ ap (λ n. opcode_text o ++ drop n bytes) (sym (ap (λ t. t.length) whole))
