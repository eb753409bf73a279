use Rattle.iloc_text.proofs.Common.{◌≡◌, ◌+◌, [], ◌++◌, length, drop, sum_by, all_of, taken_apart}
use Rattle.std.specs.Arc.{arc_value}
use Rattle.std.specs.Vec.Iter.{drain_items, drain_kept}
use Rattle.iloc_text.proofs.reader.copies.Copies.settle.Given as goal

-- those that are left wait for what is left of the list
abbrev pub invariant-loop-block : goal.invariant-loop-block
invariant-loop-block l = record {
  all : l.self.done.items ++ taken_apart (drain_items l.block-iterator) (drop l.start (arc_value l.all).items) ≡ all_of l.fn.self;
  fits : l.start + sum_by (λ w. w.count) (drain_items l.block-iterator) ≡ length (arc_value l.all).items;
  waiting : l.self.unsettled.items ≡ [];
  ops : l.self.ops.items ≡ [];
  kept : drain_kept l.block-iterator ≡ [];
}
