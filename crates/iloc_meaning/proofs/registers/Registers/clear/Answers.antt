use Rattle.std.proofs.Common.{get_or, pos, [], ap, ◌∙◌}
use Rattle.iloc_meaning.proofs.RegisterValues.{value_of-alone, get_or-padded}
use Rattle.iloc_meaning.proofs.registers.Registers.clear.Goals as goal

pub returns : goal.returns
returns c = λ r.
    value_of-alone _ _ r c.clear.ensures.empty
    ∙ ap (λ table. get_or table r.0 (pos 0)) (c.fill.ensures.items (λ y same. same))
    ∙ get_or-padded [] _ r.0
