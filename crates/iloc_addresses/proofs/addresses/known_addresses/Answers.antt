use Rattle.iloc_addresses.proofs.Common.{◌≡◌, get_or, ◌∙◌, get_or_default, Op, Nop, op_at}
use Rattle.iloc_addresses.proofs.KnownBefore.{address_known, listed_more}
use Rattle.iloc_addresses.proofs.addresses.known_addresses.Goals as goal

pub loop-i-init : goal.loop-i-init
loop-i-init c = record {
  found = c.new-found.ensures.items;
  known = c.clear.ensures c.args.ops.now;
}

pub loop-i-preserved : goal.loop-i-preserved
loop-i-preserved c =
    let ops = c.args.ops.now in
    let i = c.loop-i.i in
    let here : (d : Op) → op_at ops i ≡ get_or ops i d = λ d. get_or_default ops i Nop d c.loop-i-test.true in
    record {
      found = listed_more ops i c.loop-i.found.items c.push.new.self.items c.address_of.result c.loop-i.invariant.found
          c.in_ok-push.ensures.items
          (c.address_of.ensures ∙ address_known ops i _ c.loop-i.registers (here _) c.loop-i.invariant.known);
      known = c.in_ok-take.ensures ops (here _) c.loop-i.invariant.known;
    }
