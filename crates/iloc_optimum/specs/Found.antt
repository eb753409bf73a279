-- What a search finds.
use Rattle.std.specs.Prelude.{◌≡◌, List, length}
use Rattle.iloc_timed.specs.declared.kind.Kind.{Kind}
use Rattle.iloc_optimum.specs.declared.search.Found.{Found}
use Rattle.iloc_optimum.specs.declared.search.Found.TheVariants as found
use Rattle.iloc_sched.specs.declared.edges.Edge.{Edge}
use Rattle.iloc_optimum.specs.declared.windows.Windows.{Windows}
use Rattle.iloc_optimum.specs.Timing.{HasNone}

-- where it finds nothing there is nothing, and where it finds cycles there is one for each operation
abbrev pub IsFound : List Edge → List Kind → Windows → Found → Type 0
IsFound edges kinds root found.Nothing = HasNone edges kinds root
IsFound edges kinds root (found.Cycles cycles) = length cycles.items ≡ length kinds
IsFound edges kinds root found.Unknown = Unit {0}
