use Rattle.iloc_text.proofs.Common.{◌≡◌, ℕ, ◌+◌, ◌<◌, true, drop, sym, refl, ap, ◌∙◌, subst, arith, bit_and, is_blank, IsNumber, lead_text, written}
use Rattle.iloc_text.proofs.Tokens.{some_map}
use Rattle.iloc_text.proofs.FastPath.{behind, length_written, mask_written, lead_read, written_leads}
use Rattle.iloc_text.proofs.line.fast_path.operand_from.Goals as goal
use Rattle.iloc_text.proofs.line.fast_path.operand_from.Goals.{then-front-lead-via-then-front-lead, then-front-lead-via-else-front-lead+then-front-lead-2}

-- the blank before it is a space or a tab
pub returns-then-front-lead-clause-is : goal.returns-then-front-lead-clause-is
returns-then-front-lead-clause-is c =
    let lead = c.requires.lead in
    let kind = c.args.lead.now.kind in
    let blank : (b : ℕ) × (is_blank b ≡ true) × (b < 256)
    × (bit_and c.word_from.result c.args.lead.now.usual.mask ≡ (lead_text kind (written kind b)).word) =
    elim c.then-front-lead.branch [
      | then-front-lead-via-then-front-lead w ↦ (32, refl, omega arith, w.if-front-lead.true ∙ ap (λ l. l.usual.word) lead)
      | then-front-lead-via-else-front-lead+then-front-lead-2 w ↦
          (9, refl, omega arith, w.if-front-lead-2.true ∙ ap (λ l. l.tabbed) lead)
    ] in
    let long = length_written kind blank.0 in
    let found_in : ℕ → ℕ × ℕ → Type 0 = λ n found. IsNumber c.args.mask (drop (c.args.at + n) c.args.bytes.now) (found.0, drop found.1 c.args.bytes.now) in
    some_map (λ found e. lead_read kind (written kind blank.0) c.args.bytes.now c.args.at c.word_from.result
    (found.0, drop found.1 c.args.bytes.now) (written_leads kind blank.0 blank.1 blank.2) (omega (arith, c.requires.long))
    (λ i. (c.type_inv.bytes i).fits) c.word_from.ensures
    (ap (bit_and c.word_from.result) (mask_written kind blank.0) ∙ sym (ap (λ l. bit_and c.word_from.result l.usual.mask) lead) ∙ blank.3)
    (behind kind c.args.mask _ _ c.requires.mask (subst (λ n. found_in n found) (ap (λ l. l.usual.length) lead ∙ sym long) e)))
    c.number_from.result c.number_from.ensures.is

pub returns-clause-is : goal.returns-clause-is
returns-clause-is c =
    let some : 0 < c.place_behind-place.result = grind (arith, c.if-place-eq0.false) in
    some_map (λ found e. c.place_behind-place.ensures.is some (found.0, drop found.1 c.args.bytes.now)
    (behind c.args.lead.now.kind c.args.mask _ _ c.requires.mask e))
    c.number_from-2.result c.number_from-2.ensures.is
