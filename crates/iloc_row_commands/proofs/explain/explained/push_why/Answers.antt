use Rattle.iloc_row_commands.proofs.Common.{◌++◌, codes, ap, ◌∙◌, append_assoc, on_ok_weaker, reasons_told}
use Rattle.iloc_row_commands.proofs.explain.explained.push_why.Goals as goal

pub returns : goal.returns
returns c =
    let why = reasons_told c.args.reasons.now in
    on_ok_weaker c.push_reasons.result (λ pushed. pushed
    ∙ (ap (λ text. text ++ why) c.in_ok-extend_from_slice.ensures.items
    ∙ append_assoc c.args.text.now.items (codes "  not lawful\n") why)) c.push_reasons.ensures
