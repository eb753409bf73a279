use Rattle.std.proofs.Common.{refl}
use Rattle.iloc_addresses.proofs.Accessed.{placed_more}
use Rattle.iloc_addresses.proofs.dependences.accesses.Accesses.note.Goals as goal

pub returns-clause-placed : goal.returns-clause-placed
returns-clause-placed c of is short =
    placed_more of c.args.self.now _ (record { op = c.args.j; address = c.args.address }) refl refl
    c.in_ok-push.ensures.items is short
