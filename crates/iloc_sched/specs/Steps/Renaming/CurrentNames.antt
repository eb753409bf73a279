-- The names that registers have at a point of a walk.
use Rattle.std.specs.Prelude.{ℕ, Option}
use Rattle.iloc_ops.specs.declared.op.Reg.{Reg}
use Rattle.iloc_sched.specs.declared.renaming.Names.{Names}
use Rattle.iloc_sched.specs.Steps.Renaming.ByRegister.{number_at}

-- the number of a register's name, if it has one
abbrev pub current_of : Names → Reg → Option ℕ
current_of names r = number_at names.current r.0
