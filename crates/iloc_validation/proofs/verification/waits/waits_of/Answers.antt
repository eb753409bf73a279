use Rattle.iloc_validation.proofs.Common.{◌≡◌, ℕ, ◌+◌, length, slice_index, refl, ap, ◌∙◌, get_or_default, length_push, Nop, op_at, kind, push_more, reading_at, earliest, wait_of}
use Rattle.iloc_validation.proofs.EarliestCycles.{noted_next}
use Rattle.iloc_validation.proofs.verification.waits.waits_of.Goals as goal

pub loop-i-preserved : goal.loop-i-preserved
loop-i-preserved c =
    let lat = c.args.latencies.now in
    let block = c.args.block.now in
    let cycle : ℕ → ℕ = λ j. (reading_at c.args.readings.now (slice_index c.args.partner.now j)).cycle in
    let is : c.of-kind.result ≡ kind (op_at block c.loop-i.i) =
    c.of-kind.ensures ∙ ap kind (get_or_default block c.loop-i.i _ Nop c.loop-i-test.true) in
    let now : c.of.result ≡ earliest lat block cycle c.loop-i.i (kind (op_at block c.loop-i.i)) =
    c.of.ensures ∙ ap (wait_of c.loop-i.waits) is ∙ c.loop-i.invariant.now (kind (op_at block c.loop-i.i)) in
    record {
      now = noted_next lat block cycle c.loop-i.i _ c.of-kind.result c.loop-i.waits c.note.new.self is refl c.loop-i.invariant.now
          c.note.ensures;
      size = ap length c.in_ok-push.ensures.items ∙ length_push c.loop-i.all.items c.of.result ∙ ap (λ n. n + 1) c.loop-i.invariant.size;
      each = rw c.in_ok-push.ensures.items
          (push_more (λ j (n : ℕ). n ≡ earliest lat block cycle j (kind (op_at block j))) c.loop-i.all.items c.of.result 0
          c.loop-i.i c.loop-i.invariant.size c.loop-i.invariant.each now);
    }
