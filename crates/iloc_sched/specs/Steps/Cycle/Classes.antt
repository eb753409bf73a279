-- Classes of operations: which of them can be issued together.
use Rattle.std.specs.Prelude.{ℕ, Bool, true, false}
use Rattle.iloc_timed.specs.declared.kind.Kind.{Kind}
use Rattle.iloc_timed.specs.declared.kind.Kind.TheVariants as K
use Rattle.iloc_sched.specs.declared.cycle.class.Class.{Class}
use Rattle.iloc_sched.specs.declared.cycle.class.Class.TheVariants as C

-- the class of a kind of operations
abbrev pub class_of : Kind → Class
class_of K.Load = C.Memory
class_of K.Store = C.Memory
class_of K.Mult = C.Product
class_of K.Output = C.Output
class_of K.Other = C.Rest

-- whether an operation of the first class keeps every one of the second out of its row
abbrev pub excludes : Class → Class → Bool
excludes C.Memory C.Memory = true
excludes C.Product C.Product = true
excludes C.Output C.Output = true
excludes _ _ = false

-- the place of a class among all
abbrev pub place_of : Class → ℕ
place_of C.Memory = 0
place_of C.Product = 1
place_of C.Output = 2
place_of C.Rest = 3
