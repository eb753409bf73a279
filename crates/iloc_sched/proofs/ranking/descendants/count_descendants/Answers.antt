use Rattle.iloc_sched.proofs.Common.{◌≡◌, ℕ, ◌+◌, ◌*◌, ◌/◌, ◌%◌, ◌≤◌, min, List, map, length, get_or, count_ones, count_by, sym, ap, ◌∙◌, subst, arith, ext_get_or, div_ceil_times, get_or-map-range_with_len, length-map-range_with_len, length-range_with_len, count_by-le-length, range_with_len, depends_on_where, descendants_where, counts_by, AreMarked}
use Rattle.iloc_sched.proofs.PriorityValues.DependentsCounted.{counted_more, counted_all}
use Rattle.iloc_sched.proofs.ranking.descendants.count_descendants.Goals as goal

pub add_counts-requires-clause-small : goal.add_counts-requires-clause-small
add_counts-requires-clause-small c = grind (arith, count_by-le-length, length-range_with_len)

pub loop-chunk-preserved : goal.loop-chunk-preserved
loop-chunk-preserved c =
    let lat = c.args.tables.now.latencies in
    let ops = c.args.tables.now.ops.items in
    let counts = counts_by c.args.tables.now.rule ops in
    let marks : List ℕ = c.deref.result.now in
    let base : ℕ = 64 * c.loop-chunk.chunk in
    record {
      size = c.add_counts.ensures.size ∙ c.loop-chunk.invariant.size;
      counted = λ i within.
          let marked : AreMarked counts lat ops base marks =
          subst (λ ms. AreMarked counts lat ops base ms) (sym c.deref.ensures.value) c.mark.ensures in
          let marked_size : length marks ≡ length ops = marked.size in
          let each = c.add_counts.ensures.each i (omega arith) in
          let old : get_or c.loop-chunk.found.items i 0 ≡ count_by (depends_on_where counts lat ops i) (range_with_len 0 base) =
          c.loop-chunk.invariant.counted i within in
          let more : count_by (depends_on_where counts lat ops i) (range_with_len 0 base) + count_ones (get_or marks i 0)
          ≡ count_by (depends_on_where counts lat ops i) (range_with_len 0 (base + 64)) =
          counted_more counts lat ops base i marks marked within each.0 in
          let next : base + 64 ≡ 64 * (c.loop-chunk.chunk + 1) = omega arith in
          each.1 ∙ ap (λ n. n + count_ones (get_or marks i 0)) old ∙ more
          ∙ ap (λ n. count_by (depends_on_where counts lat ops i) (range_with_len 0 n)) next;
    }

pub returns : goal.returns
returns c =
    let lat = c.args.tables.now.latencies in
    let ops = c.args.tables.now.ops.items in
    let counts = counts_by c.args.tables.now.rule ops in
    let heads : length c.args.tables.now.edges.heads.items ≡ length ops = c.requires.graph.size in
    let goal_size : length (map (descendants_where counts lat ops) (range_with_len 0 (length ops))) ≡ length ops =
    length-map-range_with_len (descendants_where counts lat ops) 0 (length ops) in
    let chunks : c.div_ceil-chunk-end.result ≡ c.op_count-count.result / 64 + min 1 (c.op_count-count.result % 64) =
    c.div_ceil-chunk-end.ensures in
    let enough : c.op_count-count.result
    ≤ (c.op_count-count.result / 64 + min 1 (c.op_count-count.result % 64)) * 64 =
    (div_ceil_times c.op_count-count.result 64 (omega arith)).0 in
    let count : c.op_count-count.result ≡ length c.args.tables.now.edges.heads.items = c.op_count-count.ensures in
    let end : c.div_ceil-chunk-end.result ≤ c.loop-chunk.chunk = omega arith in
    ext_get_or 0 c.loop-chunk.found.items (map (descendants_where counts lat ops) (range_with_len 0 (length ops)))
    (c.loop-chunk.invariant.size ∙ sym goal_size)
    (λ i below.
    c.loop-chunk.invariant.counted i (omega arith)
    ∙ counted_all counts lat ops i (64 * c.loop-chunk.chunk) (omega arith)
    ∙ sym (get_or-map-range_with_len (descendants_where counts lat ops) 0 (length ops) i i 0 (omega arith) (omega arith)))
