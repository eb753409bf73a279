use Rattle.iloc_explain.proofs.Common.{◌<◌, length, ap, arith}
use Rattle.iloc_explain.proofs.ChainLengths.{length-chains}
use Rattle.iloc_explain.proofs.Links.{continues_where}
use Rattle.iloc_explain.proofs.chain.continues.Goals as goal

pub offset_bounds-chains-i : goal.offset_bounds-chains-i
offset_bounds-chains-i c =
    let order : c.args.i < c.args.j = c.requires.order in
    let within : c.args.j < length c.args.delays.now.ops.now = c.requires.within in
    let there : c.args.i < length c.args.chains.now =
    omega (arith, ap length c.requires.chains, length-chains c.args.delays.now.rule c.args.delays.now.latencies.now c.args.delays.now.ops.now) in
    omega arith

pub offset_bounds-chains-j : goal.offset_bounds-chains-j
offset_bounds-chains-j c =
    let within : c.args.j < length c.args.delays.now.ops.now = c.requires.within in
    let there : c.args.j < length c.args.chains.now =
    omega (arith, ap length c.requires.chains, length-chains c.args.delays.now.rule c.args.delays.now.latencies.now c.args.delays.now.ops.now) in
    omega arith

pub bounds-chains-i : goal.bounds-chains-i
bounds-chains-i c =
    let order : c.args.i < c.args.j = c.requires.order in
    let within : c.args.j < length c.args.delays.now.ops.now = c.requires.within in
    omega (arith, ap length c.requires.chains, length-chains c.args.delays.now.rule c.args.delays.now.latencies.now c.args.delays.now.ops.now)

pub bounds-chains-j : goal.bounds-chains-j
bounds-chains-j c =
    let within : c.args.j < length c.args.delays.now.ops.now = c.requires.within in
    omega (arith, ap length c.requires.chains, length-chains c.args.delays.now.rule c.args.delays.now.latencies.now c.args.delays.now.ops.now)

pub returns-then-next-own : goal.returns-then-next-own
returns-then-next-own c =
    continues_where c.args.delays.now.rule c.args.delays.now.latencies.now c.args.delays.now.ops.now c.args.i c.args.j c.args.chains.now c.from.result
    c.has.result c.requires.order c.requires.within c.requires.chains c.if-next-own.true c.from.ensures c.has.ensures
