use Rattle.iloc_sched.proofs.Common.{sym, ap, ◌∙◌, on_ok_weaker, kind}
use Rattle.iloc_addresses.proofs.KnownBefore.{address_known}
use Rattle.iloc_sched.proofs.edges.by_address.LastsByAddress.take.Goals as goal

pub returns-clause-sources : goal.returns-clause-sources
returns-clause-sources c = on_ok_weaker c.take-2.result (λ known ops here was. c.in_ok-take.ensures.sources ops (record {
  kind_is = c.requires.of ∙ ap kind (sym here);
  address_is = c.address_of-address.ensures
      ∙ address_known ops c.args.j c.args.op.now c.args.self.now.registers here was.registers;
}) was.memory) c.take-2.ensures

pub returns-clause-known : goal.returns-clause-known
returns-clause-known c = on_ok_weaker c.take-2.result (λ known ops here was. record {
  registers = known ops here was.registers;
  memory = c.in_ok-take.ensures.before ops (record {
    kind_is = c.requires.of ∙ ap kind (sym here);
    address_is = c.address_of-address.ensures
        ∙ address_known ops c.args.j c.args.op.now c.args.self.now.registers here was.registers;
  }) was.memory;
}) c.take-2.ensures
