use Rattle.std.proofs.Common.{◌≡◌, ◌+◌, ◌-◌, ◌<◌, ◌≤◌, ℕ, length, max, ap, ◌∙◌, subst, arith}
use Rattle.iloc_timed.specs.Rows.{row_at}
use Rattle.iloc_timed.proofs.Arrivals.{IsLastFrom, arrival_by_kind, arrival_in, zero_numbered, one_numbered, none_from_end, one_row_more, last_is_cycles}
use Rattle.iloc_timed.proofs.timing.cycles_of.Goals as goal

pub arrival-requires-clause-issued : goal.arrival-requires-clause-issued
arrival-requires-clause-issued c =
    zero_numbered _ _ (c.loop-left.left - 1) c.requires.numbered

pub arrival-requires-in-loop-left-clause-issued : goal.arrival-requires-in-loop-left-clause-issued
arrival-requires-in-loop-left-clause-issued c =
    one_numbered _ _ (c.loop-left.left - 1) c.requires.numbered

pub loop-left-init : goal.loop-left-init
loop-left-init c =
    (none_from_end c.args.latencies.now c.args.ops.now c.args.rows.now c.requires.numbered, omega arith)

pub loop-left-preserved : goal.loop-left-preserved
loop-left-preserved c =
    let lat = c.args.latencies.now in
    let ops = c.args.ops.now in
    let rows = c.args.rows.now in
    let at : ℕ = c.loop-left.left - 1 in
    let most : c.loop-left.left ≤ length c.args.rows.now = c.loop-left.invariant.1 in
    let within : at < length c.args.rows.now = omega arith in
    let by_zero : c.arrival.result ≡ arrival_in lat ops at (row_at rows at).zero =
    c.arrival.ensures ∙ arrival_by_kind lat c.by_kind-by_kind.result ops at (row_at rows at).zero c.by_kind-by_kind.ensures in
    let by_one : c.arrival-in-loop-left.result ≡ arrival_in lat ops at (row_at rows at).one =
    c.arrival-in-loop-left.ensures ∙ arrival_by_kind lat c.by_kind-by_kind.result ops at (row_at rows at).one c.by_kind-by_kind.ensures in
    let before : c.loop-left.left ≡ at + 1 = omega arith in (
      one_row_more lat ops rows at c.loop-left.last c.max-last.result c.max-last-in-loop-left.result
          c.requires.numbered within
          (subst (λ n. IsLastFrom lat ops rows n c.loop-left.last) before c.loop-left.invariant.0)
          (c.max-last.ensures ∙ ap (λ n. max n c.loop-left.last) by_zero)
          (c.max-last-in-loop-left.ensures ∙ ap (λ n. max n c.max-last.result) by_one),
      omega arith,
    )

pub returns-else-last-left : goal.returns-else-last-left
returns-else-last-left c =
    last_is_cycles c.args.latencies.now c.args.ops.now c.args.rows.now c.loop-left.left
    c.loop-left.last (λ some. omega arith) c.loop-left.invariant.0

pub returns-after-loop-left : goal.returns-after-loop-left
returns-after-loop-left c =
    last_is_cycles c.args.latencies.now c.args.ops.now c.args.rows.now c.loop-left.left
    c.loop-left.last (λ some. absurd (omega arith)) c.loop-left.invariant.0
