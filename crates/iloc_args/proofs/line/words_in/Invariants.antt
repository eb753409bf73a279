use Rattle.iloc_args.proofs.Common.{◌≡◌, ◌++◌, map, codes, values_left, found_of, rows_of, number_of, numbers_in, AreNumbersIn}
use Rattle.iloc_args.proofs.line.words_in.Given as goal

abbrev pub invariant-loop-value : goal.invariant-loop-value
invariant-loop-value l = record {
  numbers : l.words.items ++ map number_of (values_left l.value-iterator)
      ≡ numbers_in (codes "words") (rows_of (found_of l.fn.given));
  in_range : AreNumbersIn 0 4294967295 (values_left l.value-iterator);
}
