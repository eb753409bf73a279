-- A narrower window, where no operation is issued outside it.
use Rattle.iloc_optimum.proofs.Common.{ℕ, ◌+◌, ◌<◌, ◌≤◌, List, length, set, slice_index_or, arith, length-set, get_or-set_other, get_or-set_same, All-get_or, Edge, LeadsBetween, WaitsFor, Within}
use Rattle.iloc_sched.specs.Steps.Views.{no_edge}
use Rattle.iloc_sched.proofs.Basics.Cases.{by_eq}

pub raised : (firsts lasts : List ℕ) (t : ℕ → ℕ) (k v : ℕ) → k < length firsts → v ≤ t k → Within firsts lasts t
    → Within (set firsts k v) lasts t
raised firsts lasts t k v there low w = grind (arith, length-set, by_eq, get_or-set_same, get_or-set_other)

pub lowered : (firsts lasts : List ℕ) (t : ℕ → ℕ) (k v : ℕ) → k < length lasts → t k ≤ v → Within firsts lasts t
    → Within firsts (set lasts k v) t
lowered firsts lasts t k v there low w = grind (arith, length-set, by_eq, get_or-set_same, get_or-set_other)

abbrev pub edge_at : List Edge → ℕ → Edge
edge_at edges x = slice_index_or edges x no_edge

pub waits_at : (edges : List Edge) (t : ℕ → ℕ) (x : ℕ) → x < length edges → WaitsFor edges t
    → t (edge_at edges x).from + (edge_at edges x).delay ≤ t (edge_at edges x).to
waits_at edges t x within waits =
    All-get_or (λ (e : Edge). t e.from + e.delay ≤ t e.to) edges x no_edge within waits

pub ends_at : (count : ℕ) (edges : List Edge) (x : ℕ) → x < length edges → LeadsBetween count edges
    → ((edge_at edges x).from < count) × ((edge_at edges x).to < count)
ends_at count edges x within there =
    All-get_or (λ (e : Edge). (e.from < count) × (e.to < count)) edges x no_edge within there
