use Rattle.iloc_driver.proofs.Common.{◌≡◌, ◌+◌, ◌≤◌, [], length, drop, slice_get, Some, IfSome, option_copied, sym, refl, ap, subst, arith, length-drop, MAX_BLOCKS, AppendsEntry, own_of}
use Rattle.std.proofs.lemmas.Option.{slice_get_read}
use Rattle.iloc_rules.specs.Renaming.{without_nops}
use Rattle.iloc_driver.proofs.RowListing.{found_few, next_left, none_listed, one_listed}
use Rattle.iloc_driver.proofs.lister.listed_ranked.Goals as goal

pub loop-block-init : goal.loop-block-init
loop-block-init g c = record {
  so_far = none_listed (λ k. g.L.Lister.lists c.args.request.now (own_of c.args.priorities.now k) k) (λ _. Unit {0}) []
      c.as_slice-block-items.result.now _ _ _ refl c.new-text.ensures.items c.new-found.ensures.items;
  starts = c.in_ok-lister.ensures;
}

pub invariant_of-job-clause-few : goal.invariant_of-job-clause-few
invariant_of-job-clause-few g c =
    let few = found_few _ _ _ _ _ _ _ c.loop-block.invariant.so_far in
    let most : length c.args.blocks.now ≤ MAX_BLOCKS = c.requires.few.0 in
    omega (arith, ap length c.as_slice-block-items.ensures, c.len-number.ensures)

pub invariant_of-job-clause-each : goal.invariant_of-job-clause-each
invariant_of-job-clause-each g c =
    let items = c.as_slice-block-items.result.now in
    let index = c.loop-block.block-index in
    let item = c.block-item.result in
    let few = found_few _ _ _ _ _ _ _ c.loop-block.invariant.so_far in
    let place : index ≡ c.len-number.result =
    omega (arith, length-drop index items, c.loop-block-test.true, c.len-number.ensures) in
    let here : slice_get items index ≡ Some item =
    slice_get_read items (length items) index item refl c.loop-block-test.true c.block-item.is in
    let at : slice_get c.args.blocks.now c.len-number.result ≡ Some item =
    subst (λ n. slice_get c.args.blocks.now n ≡ Some item) place
    (subst (λ xs. slice_get xs index ≡ Some item) c.as_slice-block-items.ensures here) in
    subst (λ own. IfSome own (λ numbers. length numbers ≡ length (without_nops item.ops))) (sym c.of-own.ensures)
    (c.requires.each c.len-number.result item at)

pub loop-block-preserved : goal.loop-block-preserved
loop-block-preserved g c =
    let request = c.args.request.now in
    let items = c.as_slice-block-items.result.now in
    let number = c.len-number.result + 1 in
    let block = c.block-item.result in
    let found = c.in_ok-list.field-0 in
    record {
      so_far = one_listed (λ k. g.L.Lister.lists request (own_of c.args.priorities.now k) k) (λ _. Unit {0}) [] items _ _ block
          c.loop-block.text.items _ c.loop-block.found.items _ found number
          (next_left items c.loop-block.block-index block c.loop-block-test.true c.block-item.is) c.loop-block.invariant.so_far
          (omega (arith, c.len-number.ensures))
          (subst (λ own. AppendsEntry (g.L.Lister.lists request own number block) c.loop-block.text.items c.list.new.text.items found)
          c.of-own.ensures c.in_ok-list.ensures.listed) tt c.in_ok-push.ensures.items;
      starts = c.list.ensures.starts;
    }

pub push_ending-requires : goal.push_ending-requires
push_ending-requires g c =
    let few = found_few _ _ _ _ _ _ _ c.loop-block.invariant.so_far in
    let most : length c.args.blocks.now ≤ MAX_BLOCKS = c.requires.few.0 in
    omega (arith, ap length c.as_slice-block-items.ensures, ap length c.deref.ensures.value)
