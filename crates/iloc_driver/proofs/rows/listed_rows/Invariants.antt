use Rattle.iloc_driver.proofs.Common.{◌≡◌, ◌≤◌, length, zip, AllByRecursion, MAX_OPS, initial_memory, AreListedTo}
use Rattle.iloc_rows.specs.EitherSlot.{placed}
use Rattle.iloc_args.specs.Flags.{has}
use Rattle.iloc_args.specs.declared.flag.Flag.TheVariants.{EitherSlot}
use Rattle.iloc_driver.proofs.rows.listed_rows.Given as goal

abbrev pub invariant-loop-block : goal.invariant-loop-block
invariant-loop-block g l =
    let blocks = l.block-iterator.a.rest.items in
    let proposals = l.block-iterator.b.rest.items in
    record {
      so_far : AreListedTo (g.L.RowLister.lists l.request) g.L.RowLister.fits (g.L.RowLister.opening l.request)
          (zip l.fn.submission.blocks (placed (has l.request.flags EitherSlot) l.fn.submission.proposals)) (zip blocks proposals)
          l.text.items l.found.items;
      starts : g.L.RowLister.memory l.request l.lister ≡ initial_memory l.request;
      beside : length proposals ≡ length blocks;
      short : AllByRecursion (λ b. length b.ops ≤ MAX_OPS) blocks;
    }
