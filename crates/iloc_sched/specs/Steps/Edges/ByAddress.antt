-- What holds while edges are added by address.
use Rattle.std.specs.Prelude.{ℕ, if◌then◌else◌, List}
use Rattle.iloc_ops.specs.declared.op.Op.{Op}
use Rattle.iloc_meaning.specs.Trace.{op_at}
use Rattle.iloc_timed.specs.declared.kind.Kind.{Kind}
use Rattle.iloc_timed.specs.declared.latencies.Latencies.{Latencies}
use Rattle.iloc_timed.specs.Kinds.{kind}
use Rattle.iloc_rules.specs.Delays.{reads_stored}
use Rattle.iloc_rules.specs.Steps.Members.{In}
use Rattle.iloc_addresses.specs.Steps.Dependences.{IsBefore}
use Rattle.iloc_addresses.specs.Steps.Registers.{AreBefore}
use Rattle.iloc_sched.specs.declared.edges.by_address.LastsByAddress.{LastsByAddress}
use Rattle.iloc_sched.specs.Steps.Graph.{Graph}
use Rattle.iloc_sched.specs.Steps.Edges.PartialGraph.{HasEdge}

-- how long an operation of the second kind waits for one of the first, where it waits by memory or outputs
abbrev pub delay_after : Latencies → Kind → Kind → ℕ
delay_after lat i j = if reads_stored i j then lat.store else 1

-- operation `j` has an edge from each of `sources`
abbrev pub CoversSources : Latencies → List Op → Graph → ℕ → List ℕ → Type 0
CoversSources lat ops graph j sources =
    (i : ℕ) → In sources i → HasEdge graph j i (delay_after lat (kind (op_at ops i)) (kind (op_at ops j)))

-- this is known before operation j of registers, and of what it may have to wait for
pub record AreKnown (ops : List Op) (lasts : LastsByAddress) (j : ℕ) : Type 0 where
  pub registers : AreBefore ops j lasts.registers
  pub memory : IsBefore ops lasts.dependences j
