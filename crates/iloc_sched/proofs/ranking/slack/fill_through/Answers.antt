use Rattle.iloc_sched.proofs.Common.{◌≡◌, ◌+◌, map, length, get_or, sym, ap, ◌∙◌, arith, ext_get_or, get_or-map-range_with_len, length-map-range_with_len, range_with_len, length_where, priority_most_where, length-starts_where, start_most_where, through_where, counts_by, start_where, starts_where}
use Rattle.iloc_sched.proofs.ranking.slack.fill_through.Goals as goal

pub add_each-requires-clause-size : goal.add_each-requires-clause-size
add_each-requires-clause-size c = grind (arith, length_where, length-starts_where)

pub add_each-requires-clause-small : goal.add_each-requires-clause-small
add_each-requires-clause-small c = grind (arith, length-starts_where, priority_most_where, start_most_where)

pub returns : goal.returns
returns c =
    let t = c.args.tables.now in
    let counts = counts_by t.rule t.ops.items in
    let sums = through_where counts t.latencies t.ops.items in
    let starts_are : c.deref.result.now ≡ starts_where counts t.latencies t.ops.items =
    c.deref.ensures.value ∙ c.in_ok-fill_starts.ensures in
    let size : length c.deref.result.now ≡ length t.ops.items =
    ap length starts_are ∙ length-starts_where counts t.latencies t.ops.items in
    let prios_size : length c.fill_chains.new.found.items ≡ length t.ops.items =
    ap length c.in_ok-fill_chains.ensures ∙ length_where counts t.latencies t.ops.items in
    ext_get_or 0 c.add_each.new.sums.items (map sums (range_with_len 0 (length t.ops.items)))
    (c.add_each.ensures.size ∙ prios_size ∙ sym (length-map-range_with_len sums 0 (length t.ops.items)))
    (λ i below.
    c.add_each.ensures.each i (omega (arith, c.add_each.ensures.size))
    ∙ ap (λ xs. get_or xs i 0 + get_or c.fill_chains.new.found.items i 0) starts_are
    ∙ ap (λ xs. start_where counts t.latencies t.ops.items i + get_or xs i 0) c.in_ok-fill_chains.ensures
    ∙ sym (get_or-map-range_with_len sums 0 (length t.ops.items) i i 0 (omega (arith, c.add_each.ensures.size)) (omega arith)))
