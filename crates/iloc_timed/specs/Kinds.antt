-- The kinds of operations that the machine tells apart.
use Rattle.std.specs.Prelude.{Bool, true, false, ◌||◌}
use Rattle.iloc_ops.specs.declared.op.Op.{Op}
use Rattle.iloc_ops.specs.declared.op.Op.TheVariants.{Load, LoadAI, Store, StoreAI, Mult, MultI, Output}
use Rattle.iloc_timed.specs.declared.kind.Kind.{Kind}
use Rattle.iloc_timed.specs.declared.kind.Kind.TheVariants as K

-- `output`, the loads, the stores and the products have kinds of their own
abbrev pub kind : Op → Kind
kind (Load addr dest) = K.Load
kind (LoadAI addr offset dest) = K.Load
kind (Store value addr) = K.Store
kind (StoreAI value addr offset) = K.Store
kind (Mult left right dest) = K.Mult
kind (MultI left value dest) = K.Mult
kind (Output addr) = K.Output
kind _ = K.Other

abbrev pub is_load : Kind → Bool
is_load K.Load = true
is_load _ = false

abbrev pub is_store : Kind → Bool
is_store K.Store = true
is_store _ = false

abbrev pub is_mult : Kind → Bool
is_mult K.Mult = true
is_mult _ = false

abbrev pub is_output : Kind → Bool
is_output K.Output = true
is_output _ = false

-- the memory operations
abbrev pub is_memory : Kind → Bool
is_memory k = is_load k || is_store k
