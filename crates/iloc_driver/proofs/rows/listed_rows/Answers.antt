use Rattle.iloc_driver.proofs.Common.{◌≡◌, ◌≤◌, ◌++◌, length, zip, sym, ap, ◌∙◌, inl, inr, arith, list_all, MAX_BLOCKS, finding_of}
use Rattle.std.proofs.lemmas.Slice.Zip.{length-zip}
use Rattle.iloc_rows.specs.EitherSlot.{placed}
use Rattle.iloc_args.specs.Flags.{has}
use Rattle.iloc_args.specs.declared.flag.Flag.TheVariants.{EitherSlot}
use Rattle.iloc_driver.proofs.RowListing.{all_listed, both_next, found_few, none_listed, one_listed}
use Rattle.iloc_driver.proofs.rows.listed_rows.Goals as goal

pub loop-block-init : goal.loop-block-init
loop-block-init g c =
    let blocks : c.into_iter-block-iterator.result.a.rest.items ≡ c.args.submission.blocks =
    ap (λ z. z.a.rest.items) c.into_iter-block-iterator.ensures.into_iter_gives
    ∙ (ap (λ i. i.rest.items) c.zip-block-items.ensures.first ∙ (c.into_iter.ensures.rest ∙ c.into_vec-blocks.ensures)) in
    let proposals : c.into_iter-block-iterator.result.b.rest.items
    ≡ placed (has c.args.request.now.flags EitherSlot) c.args.submission.proposals =
    ap (λ z. z.b.rest.items) c.into_iter-block-iterator.ensures.into_iter_gives
    ∙ (c.zip-block-items.ensures.second.0 ∙ (c.into_vec-proposals.ensures ∙ (c.placed.ensures
    ∙ ap (λ either. placed either c.args.submission.proposals) c.has-either_slot.ensures))) in
    let limits = c.placed_rows_are_within_limits.ensures (has c.args.request.now.flags EitherSlot) c.args.submission.blocks
    c.args.submission.proposals c.requires in
    record {
      so_far = none_listed (g.L.RowLister.lists c.args.request.now) g.L.RowLister.fits
          (g.L.RowLister.opening c.args.request.now) _ _ _ _ (λ i. zip (blocks i) (proposals i))
          (rw c.new-text.ensures.items at c.in_ok-push_opening.ensures) c.new-found.ensures.items;
      starts = c.in_ok-lister.ensures;
      beside = ap length proposals ∙ (limits.as_many ∙ sym (ap length blocks));
      short = rw blocks c.requires.short_blocks;
    }

pub invariant_of-job : goal.invariant_of-job
invariant_of-job g c =
    let few = found_few _ _ _ _ _ _ _ c.loop-block.invariant.so_far in
    let many = length-zip c.args.submission.blocks (placed (has c.args.request.now.flags EitherSlot) c.args.submission.proposals) in
    let most : length c.args.submission.blocks ≤ MAX_BLOCKS = c.requires.few_blocks in
    record {
      few = omega arith;
      short = (rw c.in-Some.ensures.steps.0.0 at c.loop-block.invariant.short).0;
      each = tt;
    }

pub loop-block-preserved : goal.loop-block-preserved
loop-block-preserved g c =
    let request = c.args.request.now in
    let so_far = c.loop-block.invariant in
    let blocks = c.in-Some.ensures.steps.0.0 in
    let proposals = c.in-Some.ensures.steps.1.0 in
    record {
      so_far = one_listed (g.L.RowLister.lists request) g.L.RowLister.fits (g.L.RowLister.opening request) _ _ _
          (c.in-Some.block, c.in-Some.proposal) c.loop-block.text.items _ c.loop-block.found.items _ c.in_ok-one.one _
          (both_next _ _ _ _ _ _ blocks proposals) so_far.so_far (omega arith) c.in_ok-one.ensures.listed
          c.in_ok-one.ensures.small c.in_ok-push.ensures.items;
      starts = c.list.ensures.starts;
      beside = omega (arith, ap length blocks, ap length proposals, so_far.beside);
      short = (rw blocks at so_far.short).1;
    }

-- whether or not a block that is let go has a name
pub loop-block-preserved-in_ok-push : goal.loop-block-preserved-in_ok-push
loop-block-preserved-in_ok-push g c =
    let request = c.args.request.now in
    let so_far = c.loop-block.invariant in
    let blocks = c.in-Some.ensures.steps.0.0 in
    let proposals = c.in-Some.ensures.steps.1.0 in
    record {
      so_far = one_listed (g.L.RowLister.lists request) g.L.RowLister.fits (g.L.RowLister.opening request) _ _ _
          (c.in-Some.block, c.in-Some.proposal) c.loop-block.text.items _ c.loop-block.found.items _ c.in_ok-one.one _
          (both_next _ _ _ _ _ _ blocks proposals) so_far.so_far (omega arith) c.in_ok-one.ensures.listed
          c.in_ok-one.ensures.small c.in_ok-push.ensures.items;
      starts = c.list.ensures.starts;
      beside = omega (arith, ap length blocks, ap length proposals, so_far.beside);
      short = (rw blocks at so_far.short).1;
    }

pub push_ending-requires-clause-few : goal.push_ending-requires-clause-few
push_ending-requires-clause-few g c =
    let few = found_few _ _ _ _ _ _ _ c.loop-block.invariant.so_far in
    let many = length-zip c.args.submission.blocks (placed (has c.args.request.now.flags EitherSlot) c.args.submission.proposals) in
    let most : length c.args.submission.blocks ≤ MAX_BLOCKS = c.requires.few_blocks in
    omega (arith, ap length c.deref.ensures.value)

pub returns : goal.returns
returns g c =
    let request = c.args.request.now in
    let limits = c.placed_rows_are_within_limits.ensures (has request.flags EitherSlot) c.args.submission.blocks
    c.args.submission.proposals c.requires in
    let blocks = c.loop-block.block-iterator.a.rest in
    let proposals = c.loop-block.block-iterator.b.rest in
    let none : length blocks.items ≡ 0 = elim c.in-None.ensures.steps [
      | inl h ↦ omega (arith, blocks.ok.0, h.1.0)
      | inr h ↦ omega (arith, proposals.ok.0, h.1.0, c.loop-block.invariant.beside)
    ] in
    all_listed (g.L.RowLister.lists request) g.L.RowLister.fits (g.L.RowLister.opening request)
    (g.L.RowLister.ending request) (g.L.RowLister.passes request) c.args.submission.blocks blocks.items
    (placed (has request.flags EitherSlot) c.args.submission.proposals) proposals.items c.loop-block.text.items _
    c.loop-block.found.items _ limits.as_many none c.loop-block.invariant.so_far
    (c.of_text.ensures ∙ (c.in_ok-push_ending.ensures
    ∙ ap (λ fs. c.loop-block.text.items ++ g.L.RowLister.ending request fs) c.deref.ensures.value))
    (c.finding-finding.ensures ∙ ap (λ fs. finding_of (list_all (g.L.RowLister.passes request) fs)) c.deref-2.ensures.value)
