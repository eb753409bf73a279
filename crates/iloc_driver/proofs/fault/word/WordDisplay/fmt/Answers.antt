use Rattle.std.proofs.Common.{◌++◌, rules, encode_utf8, ap₂}
use Rattle.std.proofs.Output.{has_written_append, has_written_of_eq}
use Rattle.iloc_driver.proofs.Quoted.{next_shown, none_shown}
use Rattle.iloc_driver.proofs.fault.word.WordDisplay.fmt.Goals as goal

pub loop-byte-preserved : goal.loop-byte-preserved
loop-byte-preserved g c = λ plain.
    let so_far = c.loop-byte.invariant plain in
    let steps = c.in-Some.ensures.steps in (
      so_far.0 ++ encode_utf8 c.shown_byte.result,
      has_written_append _ _ _ _ _ _ so_far.1 (search rules),
      next_shown so_far.0 _ _ _ _ _ c.in-Some.byte.now _ c.shown_byte.ensures steps.0 steps.1 so_far.2,
    )

pub returns-clause-writes : goal.returns-clause-writes
returns-clause-writes g c = λ plain ok.
    let so_far = c.loop-byte.invariant plain in
    let shown = none_shown so_far.0 _ _ _ (λ more. (c.in-None.ensures.steps more).0) so_far.2 in
    has_written_of_eq _ _ _ _ _ (ap₂ (λ xs ys. xs ++ ys) shown c.end.ensures)
    (has_written_append _ _ _ _ _ _ so_far.1 (search rules))
