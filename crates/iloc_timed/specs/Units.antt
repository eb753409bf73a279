-- The rules of the two units, by kinds of operations.
use Rattle.std.specs.Prelude.{Bool}
use Rattle.iloc_timed.specs.declared.kind.Kind.{Kind}
use Rattle.iloc_timed.specs.Kinds.{is_memory, is_mult, is_output}

-- loads and stores run on unit 0
abbrev pub needs_zero : Kind → Bool
needs_zero k = is_memory k

-- products run on unit 1
abbrev pub needs_one : Kind → Bool
needs_one k = is_mult k

-- a row has at most one output
abbrev pub stands_alone : Kind → Bool
stands_alone k = is_output k
