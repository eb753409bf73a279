-- The wheel of what is under way: a list for each cycle, modulo the longest latency.
use Rattle.std.specs.Prelude.{ℕ, ◌%◌, List, [], slice_index_or}
use Rattle.iloc_timed.specs.Limits.{LONGEST_LATENCY}

-- the list of cycle c
abbrev pub list_at : {A : Type 0} → List (List A) → ℕ → List A
list_at lists c = slice_index_or lists (c % LONGEST_LATENCY) []
