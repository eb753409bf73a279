use Rattle.iloc_reasons.proofs.Common.{◌≡◌, ℕ, ◌+◌, ◌⊎◌, ◌↔◌, length, Some, None, Option, ap, ◌∙◌, arith}
use Rattle.std.proofs.lemmas.List.{length_push}
use Rattle.iloc_facts.proofs.GivenSources.{push_more}
use Rattle.iloc_reasons.specs.Origins.{origin_at, AreLast}
use Rattle.iloc_reasons.proofs.origins.origins_among.Goals as goal

pub loop-k-preserved : goal.loop-k-preserved
loop-k-preserved c =
    let sides = c.args.sides.now in
    let known = c.args.known.now in
    let origins = c.loop-k.origins.items in
    record {
      size = ap length c.in_ok-push.ensures.items ∙ length_push origins c.origin_of.result ∙ ap (λ n. n + 1) c.loop-k.invariant.size;
      each = rw c.in_ok-push.ensures.items (push_more
          (λ j (o : Option ℕ). (i : ℕ) → (o ≡ Some i)
          ↔ ((origin_at known j ≡ Some i) ⊎ AreLast sides.block.items sides.schedule.now.ops known i j))
          origins c.origin_of.result None c.loop-k.k c.loop-k.invariant.size c.loop-k.invariant.each
          (rw (c.ops-ops.ensures.ops) at (c.origin_of.ensures sides.block.items c.in_ok-partners.partners.items
          (omega (arith, c.in_ok-partners.ensures.size, c.len.ensures, sides.block.ok)) (c.in_ok-partners.ensures.each)
          (rw (c.deref.ensures.value, c.deref-2.ensures.value) at c.in_ok-here.ensures))));
    }

pub returns : goal.returns
returns c = record {
  known = c.args.known.now;
  known_size = c.requires.size;
  are_known = c.requires.each;
  size = omega (arith, c.loop-k.invariant.size, c.loop-k-test.false, ap length c.ops-ops.ensures.ops);
  each = λ i k within. c.loop-k.invariant.each k
      (omega (arith, within, c.loop-k-test.false, ap length c.ops-ops.ensures.ops)) i;
}
