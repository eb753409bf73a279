use Rattle.iloc_terms.proofs.Runs.Tracking.{keeps_landing}
use Rattle.iloc_terms.proofs.symbols.Symbols.land.Goals as goal

pub returns : goal.returns
returns c = λ memory d meaning.
    let has = c.in_ok-self.ensures memory d meaning in (
      has.0,
      λ log keeps. keeps_landing memory d c.args.cycle log c.args.self.now c.land_all.new.registers
          c.in_ok-self.field-0 c.due-due.result.now c.clear.new.self c.due-due.ensures.due has.1 c.clear.ensures keeps,
    )
