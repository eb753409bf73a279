use Rattle.iloc_explain.proofs.Common.{◌≡◌, ◌+◌, ◌<◌, max, length, get_or, slice_index, ap, ◌∙◌, arith, get_or_default, take_more}
use Rattle.iloc_explain.proofs.ReadyCycles.{max_of, no_pair, one_more_ready, pair_there}
use Rattle.iloc_explain.proofs.ready.ready_cycles.Goals as goal

pub offset_bounds-issued-pair : goal.offset_bounds-issued-pair
offset_bounds-issued-pair c =
    let pairs = c.args.pairs.now in
    let within : (get_or pairs c.loop-pair.pair-index no_pair).first < length c.args.issued.now =
    c.requires.first (get_or pairs c.loop-pair.pair-index no_pair) (pair_there pairs c.loop-pair.pair-index c.loop-pair-test.true) in
    omega arith

pub bounds-issued-pair : goal.bounds-issued-pair
bounds-issued-pair c =
    c.requires.first (get_or c.args.pairs.now c.loop-pair.pair-index no_pair)
    (pair_there c.args.pairs.now c.loop-pair.pair-index c.loop-pair-test.true)

pub overflow_add-over : goal.overflow_add-over
overflow_add-over c =
    let pair = get_or c.args.pairs.now c.loop-pair.pair-index no_pair in
    let there = pair_there c.args.pairs.now c.loop-pair.pair-index c.loop-pair-test.true in
    omega (arith, c.requires.early pair.first (c.requires.first pair there), c.requires.short pair there)

pub index-requires : goal.index-requires
index-requires c =
    let pair = get_or c.args.pairs.now c.loop-pair.pair-index no_pair in
    let there = pair_there c.args.pairs.now c.loop-pair.pair-index c.loop-pair-test.true in
    omega (arith, c.requires.second pair there, c.loop-pair.invariant.size)

pub index_mut-requires : goal.index_mut-requires
index_mut-requires c =
    let pair = get_or c.args.pairs.now c.loop-pair.pair-index no_pair in
    let there = pair_there c.args.pairs.now c.loop-pair.pair-index c.loop-pair-test.true in
    omega (arith, c.requires.second pair there, c.loop-pair.invariant.size)

pub loop-pair-preserved : goal.loop-pair-preserved
loop-pair-preserved c =
    let pairs = c.args.pairs.now in
    let issued = c.args.issued.now in
    let ready = c.loop-pair.ready.items in
    let pair = get_or pairs c.loop-pair.pair-index no_pair in
    let second : pair.second < length issued =
    c.requires.second pair (pair_there pairs c.loop-pair.pair-index c.loop-pair-test.true) in
    let read : c.index.result.now ≡ slice_index ready pair.second =
    c.index.ensures ∙ get_or_default ready pair.second _ 0 (omega (arith, second, c.loop-pair.invariant.size)) in
    let raised : c.max.result ≡ max (slice_index ready pair.second) (slice_index issued pair.first + pair.delay) =
    c.max.ensures ∙ max_of _ _ ∙ ap (λ n. max n (slice_index issued pair.first + pair.delay)) read in
    rw (raised, take_more pairs c.loop-pair.pair-index no_pair c.loop-pair-test.true)
    (one_more_ready _ pair issued ready c.loop-pair.invariant second)
