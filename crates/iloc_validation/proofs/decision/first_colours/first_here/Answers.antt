use Rattle.iloc_validation.proofs.Common.{◌≡◌, ℕ, ◌+◌, length, get_or, ap, ◌∙◌, ap₂, arith, get_or_default, length_push, Op, Nop, op_at, push_more, first_colour, first_here, with_op}
use Rattle.iloc_validation.proofs.PlacesKept.{places_next}
use Rattle.iloc_validation.proofs.decision.first_colours.first_here.Goals as goal

pub loop-i-preserved : goal.loop-i-preserved
loop-i-preserved c =
    let block = c.args.block.now in
    let same : (d : Op) → get_or block c.loop-i.i d ≡ op_at block c.loop-i.i = λ d. get_or_default block c.loop-i.i d Nop c.loop-i-test.true in
    let now : c.colour.result ≡ first_here c.args.labels.now block c.loop-i.i =
    c.colour.ensures
    ∙ ap (first_colour c.args.labels.now c.loop-i.places.stores c.loop-i.places.outputs) (same _)
    ∙ ap₂ (λ s o. first_colour c.args.labels.now s o (op_at block c.loop-i.i)) c.loop-i.invariant.places.stores
    c.loop-i.invariant.places.outputs in
    record {
      size = ap length c.in_ok-push.ensures.items ∙ length_push c.loop-i.colours.items c.colour.result ∙ ap (λ n. n + 1) c.loop-i.invariant.size;
      each = rw c.in_ok-push.ensures.items
          (push_more (λ j (n : ℕ). n ≡ first_here c.args.labels.now block j) c.loop-i.colours.items c.colour.result 0 c.loop-i.i
          c.loop-i.invariant.size c.loop-i.invariant.each now);
      places = places_next block c.loop-i.i (c.loop-i.i + 1) c.loop-i.places c.note.new.self (omega arith)
          (c.note.ensures ∙ ap (λ op. with_op op c.loop-i.places) (same _)) c.loop-i.invariant.places;
    }
