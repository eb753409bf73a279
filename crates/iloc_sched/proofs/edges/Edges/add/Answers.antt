use Rattle.iloc_sched.proofs.KeptEdges.AddedEdges.{adds_one}
use Rattle.iloc_sched.proofs.edges.Edges.add.Goals as goal
use Rattle.iloc_sched.proofs.Common.{None, arith, get_or_read}

pub returns-clause-adds : goal.returns-clause-adds
returns-clause-adds c =
    adds_one c.args.self.now.edges.items c.push_reserved.new.self.items c.args.self.now.starts.items c.args.self.now.heads.items
    c.args.from c.args.to c.args.delay c.len-place.result c.index-previous.result.now
    c.requires.there (omega arith) (get_or_read c.args.self.now.heads.items c.args.from c.index-previous.result.now
    c.requires.there c.index-previous.ensures None) c.push_reserved.ensures.items
