use Rattle.iloc_driver.proofs.Common.{◌≡◌, ◌++◌, map, OnOk, All, IsDone}
use Rattle.iloc_driver.proofs.workers.gather_all.Given as goal

-- where memory sufficed so far, what was gathered and what is left make up the whole
abbrev pub invariant-loop-shift : goal.invariant-loop-shift
invariant-loop-shift g l = record {
  own : l.root.board ≡ l.board;
  made : l.root.made ≡ l.fn.root.made;
  each : All (λ w. (w.pass.board ≡ l.board) × OnOk w.done (IsDone w.pass.journal)) l.shift-iterator.rest.items;
  gathered : OnOk l.all (l.root.gathered ++ map (λ w. w.pass.journal) l.shift-iterator.rest.items ≡ l.fn.root.gathered
      ++ map (λ w. w.pass.journal) l.fn.worked.items);
  done : OnOk l.all (All (λ w. IsDone w.pass.journal) l.shift-iterator.rest.items
      → All (λ w. IsDone w.pass.journal) l.fn.worked.items);
}
