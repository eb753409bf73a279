use Rattle.iloc_terms.proofs.Common.{take, Adds}
use Rattle.iloc_terms.specs.Steps.Symbols.{HasLanded}
use Rattle.iloc_terms.proofs.symbols.land_all.Given as goal

abbrev pub invariant-loop-sent : goal.invariant-loop-sent
invariant-loop-sent l = Adds l.initial.table l.table (λ _ d.
    HasLanded d l.initial.registers l.memory (take l.sent-index l.due) l.registers l.after)
