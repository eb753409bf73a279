-- Latencies as they are looked up.
use Rattle.std.specs.Prelude.{ℕ, max, List, [], ◌∷◌}
use Rattle.iloc_timed.specs.declared.kind.Kind.{Kind}
use Rattle.iloc_timed.specs.declared.kind.Kind.TheVariants as K
use Rattle.iloc_timed.specs.declared.latencies.Latencies.{Latencies}

abbrev pub longest : Latencies → ℕ
longest lat = max (max lat.load lat.store) lat.mult

-- the latency of each kind, in the order of the kinds
abbrev pub by_kind : Latencies → List ℕ
by_kind lat = lat.load ∷ lat.store ∷ lat.mult ∷ 1 ∷ 1 ∷ []

-- where the latency of a kind stands
abbrev pub place : Kind → ℕ
place K.Load = 0
place K.Store = 1
place K.Mult = 2
place K.Output = 3
place K.Other = 4
