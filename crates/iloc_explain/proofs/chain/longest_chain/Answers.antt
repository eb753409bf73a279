use Rattle.iloc_explain.proofs.Common.{◌≡◌, length, ap, ◌∙◌, iff_false}
use Rattle.iloc_explain.proofs.ChainLengths.{length-chains}
use Rattle.iloc_explain.specs.Chain.{IsLongestChain}
use Rattle.iloc_explain.proofs.Links.{chain_start, chain_more, chain_kept, chain_ends, first_of_greatest, longest_spans}
use Rattle.iloc_explain.proofs.chain.longest_chain.Goals as goal
use Rattle.iloc_explain.proofs.chain.longest_chain.Goals.{then-continues+in_ok-push-2, else-continues}

pub loop-j-init : goal.loop-j-init
loop-j-init c =
    let same : length c.args.chains.now ≡ length c.args.delays.now.ops.now =
    ap length c.requires ∙ length-chains c.args.delays.now.rule c.args.delays.now.latencies.now c.args.delays.now.ops.now in
    rw (c.in_ok-push.ensures.items, c.new-chain.ensures.items)
    (chain_start _ _ _ _ (rw same at c.in-Some.ensures.known))

pub loop-j-preserved : goal.loop-j-preserved
loop-j-preserved c = elim c.if-continues.branch [
  | then-continues+in_ok-push-2 w ↦
      rw (w.chain-is, w.last-is, w.in_ok-push-2.ensures.items)
      (chain_more _ _ _ _ _ _ _ c.loop-j.invariant c.loop-j-test.true (c.continues.ensures.0 w.if-continues.true))
  | else-continues w ↦
      rw (w.chain-is, w.last-is)
      (chain_kept _ _ _ _ _ _ _ c.loop-j.invariant (iff_false c.continues.ensures w.if-continues.false))
]

pub returns : goal.returns
returns c =
    let first = first_of_greatest c.args.delays.now.rule c.args.delays.now.latencies.now c.args.delays.now.ops.now c.args.chains.now _ c.requires
    c.in-Some.ensures.known c.in-Some.ensures.most c.in-Some.ensures.first in
    let chosen : IsLongestChain c.args.delays.now.rule c.args.delays.now.latencies.now c.args.delays.now.ops.now c.loop-j.chain.items =
    chain_ends _ _ _ _ _ _ _ c.loop-j.invariant c.loop-j-test.false first in
    record { chosen = chosen; longest = longest_spans _ _ _ _ chosen }
