use Rattle.iloc_driver.proofs.Common.{sym, subst, numbers_text}
use Rattle.std.specs.Fmt.{HasWritten}
use Rattle.iloc_driver.proofs.fault.NumbersFaultDisplay.fmt.Goals as goal

pub returns-in-OtherCount-clause-writes : goal.returns-in-OtherCount-clause-writes
returns-in-OtherCount-clause-writes g c plain ok =
    subst (λ fault. HasWritten {W = g.row.W.Denot} g.W.Write.write_str_gives c.args.f.now (numbers_text fault) c.write.new.self)
    (sym c.in-OtherCount.is) (c.write.ensures.writes plain ok)

pub returns-in-NotANumber-clause-writes : goal.returns-in-NotANumber-clause-writes
returns-in-NotANumber-clause-writes g c plain ok =
    subst (λ fault. HasWritten {W = g.row.W.Denot} g.W.Write.write_str_gives c.args.f.now (numbers_text fault) c.write-in-NotANumber.new.self)
    (sym c.in-NotANumber.is) (c.write-in-NotANumber.ensures.writes plain ok)

pub returns-in-NoBlock-clause-writes : goal.returns-in-NoBlock-clause-writes
returns-in-NoBlock-clause-writes g c plain ok =
    subst (λ fault. HasWritten {W = g.row.W.Denot} g.W.Write.write_str_gives c.args.f.now (numbers_text fault) c.write-in-NoBlock.new.self)
    (sym c.in-NoBlock.is) (c.write-in-NoBlock.ensures.writes plain ok)
