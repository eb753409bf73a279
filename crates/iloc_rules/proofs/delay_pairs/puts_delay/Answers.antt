use Rattle.iloc_rules.proofs.Common.{◌||◌, sym, ◌∙◌, ap₂, kind, latency, keeps_order, reads_stored, uses_result}
use Rattle.iloc_rules.proofs.DelayPairs.PutDelays.{put_delay}
use Rattle.iloc_rules.proofs.delay_pairs.puts_delay.Goals as goal

pub returns-else-waits_in_order : goal.returns-else-waits_in_order
returns-else-waits_in_order c =
    let first = c.args.first.now in
    let second = c.args.second.now in
    ap₂ (λ a b. a || b) (sym c.if-waits_in_order.false ∙ (rw (c.of.ensures, c.of-2.ensures) at c.waits_in_order.ensures))
    c.waits_for_result.ensures
    ∙ sym (put_delay (uses_result first second) (reads_stored (kind first) (kind second))
    (keeps_order (kind first) (kind second)) (latency c.args.latencies.now first) c.args.delay)
