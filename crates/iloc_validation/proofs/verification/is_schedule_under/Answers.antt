use Rattle.iloc_validation.proofs.Common.{◌≡◌, true, sym, refl, ◌∙◌, true≢false, arith, below_more, false≢true}
use Rattle.iloc_validation.proofs.Kept.{issued_early, are_kept, is_under}
use Rattle.iloc_validation.proofs.verification.is_schedule_under.Goals as goal

pub waits_of-requires-clause-early : goal.waits_of-requires-clause-early
waits_of-requires-clause-early c =
    rw c.deref-3.ensures.value (issued_early c.args.sides.now _ _ c.requires.origins c.requires.partners)

pub returns-then-not-is_kept : goal.returns-then-not-is_kept
returns-then-not-is_kept c = (
  λ no. absurd (false≢true no),
  λ under.
      let kept = are_kept c.args.sides.now _ _ c.requires.origins c.requires.partners c.in_ok-waits.waits.items
      (rw (c.deref.ensures.value, c.deref-2.ensures.value, c.deref-3.ensures.value) at c.in_ok-waits.ensures.each)
      under c.loop-k.k (omega (arith, c.args.sides.now.reading_count)) in
      let yes : c.is_kept.result ≡ true = c.is_kept.ensures.1 (rw c.deref-in-loop-k.ensures.value kept) in
      absurd (true≢false (sym yes ∙ c.if-not-is_kept.true)),
)

pub loop-k-preserved : goal.loop-k-preserved
loop-k-preserved c = below_more _ _ c.loop-k.invariant
    (rw c.deref-in-loop-k.ensures.value at (c.is_kept.ensures.0 c.if-not-is_kept.false))

pub returns : goal.returns
returns c = (
  λ _.
      let leads = c.is_one_to_one.ensures.0 c.if-not-is_one_to_one.false in
      is_under c.args.sides.now _ _ c.requires.origins c.requires.partners c.in_ok-waits.waits.items
      (rw (c.deref.ensures.value, c.deref-2.ensures.value, c.deref-3.ensures.value) at c.in_ok-waits.ensures.each)
      leads.0 leads.1 (λ k here. c.loop-k.invariant k (omega (arith, c.args.sides.now.reading_count))),
  λ _. refl,
)
