use Rattle.std.proofs.Common.{◌≡◌, ◌++◌, ℕ, List, length}
use Rattle.iloc_text.specs.Lines.{lines_of}
use Rattle.iloc_farm.proofs.reason.line_at.Given as goal

abbrev pub invariant-loop : goal.invariant-loop
invariant-loop l =
    (before : List (List ℕ)) × (length before ≡ l.counter) × (lines_of l.fn.text ≡ before ++ lines_of l.rest)
