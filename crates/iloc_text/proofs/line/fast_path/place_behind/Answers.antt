use Rattle.iloc_text.proofs.Common.{◌+◌, drop, sym, ap, ◌∙◌, subst, arith, bit_and, IsBehind, tight}
use Rattle.iloc_text.proofs.FastPath.{lead_read, tight_leads}
use Rattle.iloc_text.proofs.line.fast_path.place_behind.Goals as goal

pub returns-then-word_from-lead-clause-is : goal.returns-then-word_from-lead-clause-is
returns-then-word_from-lead-clause-is c some found e =
    let kind = c.args.lead.now.kind in
    let lead = c.requires.lead in
    lead_read kind (tight kind) c.args.bytes.now c.args.at c.word_from.result found (tight_leads kind) (c.requires.long)
    (λ i. (c.type_inv.bytes i).fits) c.word_from.ensures
    (sym (ap (λ l. bit_and c.word_from.result l.tight.mask) lead) ∙ c.if-word_from-lead.true ∙ ap (λ l. l.tight.word) lead)
    (subst (λ l. IsBehind kind (drop (c.args.at + l.tight.length) c.args.bytes.now) found) lead e)
