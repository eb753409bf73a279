-- Which effects have a result.
use Rattle.std.specs.Prelude.{Option, Some, None}
use Rattle.iloc_ops.specs.declared.op.Reg.{Reg}
use Rattle.iloc_meaning.specs.declared.effect.Effect.{Effect}
use Rattle.iloc_meaning.specs.declared.effect.Effect.TheVariants.{Faults, Gives}

-- the effect is a result, or a fault
abbrev pub GivesOrFaults : Effect → Type 0
GivesOrFaults Faults = Unit {0}
GivesOrFaults (Gives result) = Unit {0}
GivesOrFaults _ = ⊥

-- the effect is no result
abbrev pub GivesNothing : Effect → Type 0
GivesNothing (Gives result) = ⊥
GivesNothing _ = Unit {0}

-- a result goes to the defined register: where one is defined there is a result or a fault, and
-- where none is there is no result
abbrev pub GoesTo : Option Reg → Effect → Type 0
GoesTo None effect = GivesNothing effect
GoesTo (Some r) effect = GivesOrFaults effect
