use Rattle.std.proofs.Common.{◌<◌, length, FitsSigned, w32, rules}
use Rattle.std.proofs.lemmas.Int.{to_z-of_z}
use Rattle.iloc_meaning.proofs.RegisterValues.{set_in_table}
use Rattle.iloc_meaning.proofs.registers.Registers.set.Goals as goal

pub returns-clause-ok : goal.returns-clause-ok
returns-clause-ok c =
    let fits : FitsSigned w32 c.args.value = search rules in
    let below : c.args.register.0 < length c.self.inside.table.items = search rules in
    rw (← c.self.view_is, to_z-of_z w32 c.args.value fits)
    (set_in_table c.self.inside.table.items c.self.inside.others.entries c.args.register c.args.value below)
