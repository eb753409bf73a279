use Rattle.iloc_addresses.proofs.Common.{◌≡◌, rules, word_in}
use Rattle.iloc_addresses.proofs.registers.KnownRegisters.result_of.Goals as goal

pub returns-in-Add : goal.returns-in-Add
returns-in-Add c =
    let left : c.read.result ≡ word_in c.args.self.now c.in-Add.left = search rules in
    let right : c.read-in-Add.result ≡ word_in c.args.self.now c.in-Add.right = search rules in
    rw (c.in-Add.is, ← left, ← right) c.sum.ensures
