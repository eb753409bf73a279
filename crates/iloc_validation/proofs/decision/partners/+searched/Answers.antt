use Rattle.std.proofs.Common.{arith}
use Rattle.iloc_validation.proofs.NoPartner.{no_pair, no_partner, one_more_no_pair}
use Rattle.iloc_validation.proofs.decision.partners.+searched.Goals as goal

pub loop-k-preserved-in-None : goal.loop-k-preserved-in-None
loop-k-preserved-in-None t c =
    one_more_no_pair c.args.sides.now c.args.colours.now.here.items c.args.colours.now.there.items c.in-NoPartner.i
    c.loop-k.k c.loop-k.invariant (rw c.in-None.is at c.in_ok-new.ensures)

pub loop-k-preserved : goal.loop-k-preserved
loop-k-preserved t c =
    one_more_no_pair c.args.sides.now c.args.colours.now.here.items c.args.colours.now.there.items c.in-NoPartner.i
    c.loop-k.k c.loop-k.invariant
    (no_pair c.args.sides.now c.args.colours.now.here.items c.args.colours.now.there.items c.in-NoPartner.i c.loop-k.k
    c.in-Some.new (rw c.in-Some.is at c.in_ok-new.ensures) (rw c.in-Unlawful.is at c.in_ok-other.ensures))

pub returns : goal.returns
returns t c =
    no_partner c.args.sides.now c.args.colours.now.here.items c.args.colours.now.there.items c.requires.here
    c.requires.there c.in-NoPartner.i (omega arith) (λ k within. c.loop-k.invariant k (omega arith))
