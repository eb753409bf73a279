use Rattle.iloc_reasons.proofs.Common.{◌≡◌, ◌+◌, length, ap, ◌∙◌, arith}
use Rattle.std.proofs.lemmas.List.{length_push}
use Rattle.iloc_reasons.proofs.Numbering.{known_more}
use Rattle.iloc_reasons.proofs.origins.known_origins.Goals as goal

pub loop-k-preserved : goal.loop-k-preserved
loop-k-preserved c =
    let sides = c.args.sides.now in
    let known = c.loop-k.known.items in
    let origin = c.known_origin-origin.result in
    record {
      size = ap length c.in_ok-push.ensures.items ∙ length_push known origin ∙ ap (λ n. n + 1) c.loop-k.invariant.size;
      each = rw c.in_ok-push.ensures.items (known_more sides.latencies.now sides.block.items sides.schedule.now.ops
          sides.schedule.now.rows known origin c.loop-k.k c.loop-k.invariant.size c.loop-k.invariant.each
          (rw c.deref-in-loop-k.ensures.value at c.known_origin-origin.ensures));
    }

pub returns-clause-each : goal.returns-clause-each
returns-clause-each c = λ i k within. c.loop-k.invariant.each i k
    (omega (arith, within, c.loop-k-test.false, c.len.ensures, ap length c.ops-count.ensures.ops))
