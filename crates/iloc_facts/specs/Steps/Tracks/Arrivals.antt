-- Results under way, and a log in which each operation has its own number for a result.
use Rattle.std.specs.Prelude.{ℕ, suc, ◌+◌, ◌==◌, if◌then◌else◌, List, ◌∷◌, Option, Some, None, ℤ, pos}
use Rattle.iloc_ops.specs.declared.op.Reg.{Reg}
use Rattle.iloc_ops.specs.declared.op.Op.{Op}
use Rattle.iloc_ops.specs.Registers.{defined}
use Rattle.iloc_meaning.specs.declared.effect.Effect.{Effect}
use Rattle.iloc_meaning.specs.declared.effect.Effect.TheVariants.{Gives, Nothing}
use Rattle.iloc_meaning.specs.Trace.{op_at}
use Rattle.iloc_timed.specs.declared.latencies.Latencies.{Latencies}
use Rattle.iloc_timed.specs.declared.wheel.Pending.{Pending}
use Rattle.iloc_timed.specs.declared.wheel.Pending.TheVariants.{Register}
use Rattle.iloc_timed.specs.Latency.{latency}
use Rattle.iloc_timed.specs.Timed.{Issued}
use Rattle.iloc_facts.specs.declared.reading.run.Arrival.{Arrival}

-- what register r holds, once a result has landed
abbrev pub landed_at : Reg → Option ℕ → Arrival → Option ℕ
landed_at r old arrival = if r.0 == arrival.register.0 then Some arrival.op else old

-- an operation by its number, told apart from none
abbrev pub mark : Option ℕ → ℤ
mark None = pos 0
mark (Some k) = pos (suc k)

-- what an operation gives, where it is its own number
abbrev pub marked_by : Option Reg → ℕ → Effect
marked_by None k = Nothing
marked_by (Some r) k = Gives (mark (Some k))

-- an operation of this number, issued so that its result is due at this cycle
abbrev pub marked : ℕ → Op → ℕ → Issued
marked due op k = record { due = due; executed = record { op = op; effect = marked_by (defined op) k } }

-- the log with what stands in a slot of the row of cycle c
abbrev pub with_slot : Latencies → List Op → ℕ → Option ℕ → List Issued → List Issued
with_slot lat ops c None log = log
with_slot lat ops c (Some k) log = marked (c + latency lat (op_at ops k)) (op_at ops k) k ∷ log

-- a result under way, as the timed machine has it
abbrev pub sent_as : Arrival → Pending
sent_as arrival = Register arrival.register (mark (Some arrival.op))
