use Rattle.iloc_bound.proofs.Common.{◌≡◌, ℕ, ◌+◌, ◌-◌, ◌^◌, ◌<◌, ◌≤◌, List, [], length, get_or, drop, set, sym, ap, ◌∙◌, subst, arith, drop_all, get_or_read, length-map, Op, op_at, kind, Kind, Latencies, load_tails, tail, tails, IsTailed, chain_tail, loads_by, loads_from, tail_by}
use Rattle.iloc_sched.proofs.KeptEdges.ListedKinds.{kind_listed}
use Rattle.iloc_bound.proofs.TailBound.{tail_most}
use Rattle.iloc_bound.proofs.TailParts.{tail_by_store, load_kept}
use Rattle.iloc_bound.proofs.TailsFound.{none_tailed, tails_found, chain_found, tail_found}
use Rattle.iloc_bound.proofs.tails.fill_by_the_book.Goals as goal

no_loads : (lat : Latencies) (ops : List Op) (n : ℕ) → length ops ≤ n → [] ≡ loads_from lat ops n
no_loads lat ops n all = ap (λ os. load_tails os (drop n (tails lat ops))) (sym (drop_all n ops all))

-- operation j, before `next`, of which kind and chain were read
module _ (lat : Latencies) (ops : List Op) (found loads : List ℕ) (next j chain : ℕ) (k : Kind) (is_next : next ≡ j + 1)
    (below : j < length ops) (tailed : IsTailed lat ops found next next) (loads_are : loads ≡ loads_from lat ops next)
    (chain_is : chain ≡ get_or found j chain) (kind_is : k ≡ kind (op_at ops j)) where
  tailed_here : IsTailed lat ops found (j + 1) (j + 1)
  tailed_here = subst (λ n. IsTailed lat ops found n n) is_next tailed

  chain_left : chain ≡ chain_tail lat ops j
  chain_left = get_or_read found j chain (omega (arith, below, tailed.size)) chain_is 0
      ∙ chain_found lat ops found j tailed_here below

  loads_here : loads ≡ loads_from lat ops (j + 1)
  loads_here = loads_are ∙ ap (loads_from lat ops) is_next

  pub tail_is : (store : ℕ) → store ≡ lat.store → tail_by k chain store loads ≡ tail lat ops j
  tail_is store store_is = rw (kind_is, chain_left, loads_here, store_is) (tail_by_store lat ops j below)

  pub tail_small : (store : ℕ) → store ≡ lat.store → length ops ≤ 10000 → tail_by k chain store loads < 2 ^ 32
  tail_small store store_is few = omega (arith, tail_is store store_is, tail_most lat ops j below)

  pub tail_set : (store v : ℕ) → store ≡ lat.store → v ≡ tail_by k chain store loads
      → IsTailed lat ops (set found j v) j (j + 1)
  tail_set store v store_is is = tail_found lat ops found j tailed_here below v (is ∙ tail_is store store_is)

  pub loads_next : loads_by k chain loads ≡ loads_from lat ops j
  loads_next = rw (kind_is, chain_left, loads_here) (load_kept lat ops j below)

pub loop-j-init : goal.loop-j-init
loop-j-init c =
    let g = c.args.graph.now in
    let size : length c.kinds-kinds.result.now ≡ length g.ops =
    ap length c.kinds-kinds.ensures.kinds ∙ length-map g.ops kind in
    record {
      tailed = subst (λ n. IsTailed g.latencies g.ops c.rank.new.found.items n n) (sym size)
          (none_tailed g.latencies g.ops c.rank.new.found.items c.in_ok-rank.ensures);
      loads = c.new-loads.ensures.items ∙ no_loads g.latencies g.ops (length c.kinds-kinds.result.now) (omega arith);
    }

pub tail_of-requires : goal.tail_of-requires
tail_of-requires c =
    let g = c.args.graph.now in
    let before = c.loop-j.invariant in
    let size : length c.kinds-kinds.result.now ≡ length g.ops =
    ap length c.kinds-kinds.ensures.kinds ∙ length-map g.ops kind in
    tail_small g.latencies g.ops c.loop-j.found.items c.loop-j.loads.items c.loop-j.j (c.loop-j.j - 1)
    c.index-chain.result.now _ (omega arith) (omega arith) before.tailed before.loads c.index-chain.ensures
    (kind_listed g.ops c.kinds-kinds.result.now (c.loop-j.j - 1) _ c.kinds-kinds.ensures.kinds (omega arith))
    c.latencies.result.now.store (ap (λ lat. lat.store) c.latencies.ensures) (omega (arith, c.kinds-kinds.ensures.few))

pub raise_sources-requires-clause-tailed : goal.raise_sources-requires-clause-tailed
raise_sources-requires-clause-tailed c =
    let g = c.args.graph.now in
    let before = c.loop-j.invariant in
    let size : length c.kinds-kinds.result.now ≡ length g.ops =
    ap length c.kinds-kinds.ensures.kinds ∙ length-map g.ops kind in
    tail_set g.latencies g.ops c.loop-j.found.items c.loop-j.loads.items c.loop-j.j (c.loop-j.j - 1)
    c.index-chain.result.now _ (omega arith) (omega arith) before.tailed before.loads c.index-chain.ensures
    (kind_listed g.ops c.kinds-kinds.result.now (c.loop-j.j - 1) _ c.kinds-kinds.ensures.kinds (omega arith))
    c.latencies.result.now.store c.in_ok-tail.tail (ap (λ lat. lat.store) c.latencies.ensures) c.in_ok-tail.ensures.tail

pub loop-j-preserved : goal.loop-j-preserved
loop-j-preserved c =
    let g = c.args.graph.now in
    let before = c.loop-j.invariant in
    let size : length c.kinds-kinds.result.now ≡ length g.ops =
    ap length c.kinds-kinds.ensures.kinds ∙ length-map g.ops kind in
    record {
      tailed = c.raise_sources.ensures;
      loads = c.in_ok-tail.ensures.loads
          ∙ loads_next g.latencies g.ops c.loop-j.found.items c.loop-j.loads.items c.loop-j.j (c.loop-j.j - 1)
          c.index-chain.result.now _ (omega arith) (omega arith) before.tailed before.loads c.index-chain.ensures
          (kind_listed g.ops c.kinds-kinds.result.now (c.loop-j.j - 1) _ c.kinds-kinds.ensures.kinds (omega arith));
    }

pub returns : goal.returns
returns c =
    let g = c.args.graph.now in
    let end : c.loop-j.j ≡ 0 = omega arith in
    tails_found g.latencies g.ops c.loop-j.found.items c.loop-j.j
    (subst (λ n. IsTailed g.latencies g.ops c.loop-j.found.items n c.loop-j.j) end c.loop-j.invariant.tailed)
