use Rattle.iloc_driver.proofs.Common.{◌≡◌, [], drop, initial_memory, own_of, AreListedTo}
use Rattle.iloc_driver.proofs.lister.listed_ranked.Given as goal

abbrev pub invariant-loop-block : goal.invariant-loop-block
invariant-loop-block g l = record {
  so_far : AreListedTo (λ k. g.L.Lister.lists l.request (own_of l.priorities k) k) (λ _. Unit {0}) [] l.block-items
      (drop l.block-index l.block-items) l.text.items l.found.items;
  starts : g.L.Lister.memory l.request l.lister ≡ initial_memory l.request;
}
