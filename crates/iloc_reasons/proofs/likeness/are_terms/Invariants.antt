use Rattle.iloc_reasons.proofs.Common.{◌≡◌, ℕ, ◌<◌, slice_index, op_at, sources_at, behind, label_number, values_of}
use Rattle.iloc_reasons.proofs.likeness.are_terms.Given as goal

abbrev pub invariant-loop-k : goal.invariant-loop-k
invariant-loop-k l = (k : ℕ) → k < l.k
    → slice_index l.terms k ≡ behind (values_of l.terms (sources_at l.sources k)) (label_number (op_at l.ops k))
