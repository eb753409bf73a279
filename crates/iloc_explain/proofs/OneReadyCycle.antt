-- There is one cycle at which an operation is ready.
use Rattle.iloc_explain.proofs.Common.{◌≡◌, ℕ, ◌+◌, ◌≤◌, List, inl, inr, arith, Op, issue_cycle, Latencies, MemoryRule, Row, IsReadyAt}

ready_below : (rule : MemoryRule) (lat : Latencies) (ops : List Op) (rows : List Row) (j c d : ℕ) → IsReadyAt rule lat ops rows j c
    → IsReadyAt rule lat ops rows j d → c ≤ d
ready_below rule lat ops rows j c d is also = elim is.earliest [
  | inl start ↦ omega arith
  | inr (i, waits) ↦
      let over : issue_cycle rows i + waits.delay ≤ d = also.over i waits.delay waits.pair in
      let ends : issue_cycle rows i + waits.delay ≡ c = waits.ends in
      omega arith
]

pub ready_same : (rule : MemoryRule) (lat : Latencies) (ops : List Op) (rows : List Row) (j c d : ℕ) → IsReadyAt rule lat ops rows j c
    → IsReadyAt rule lat ops rows j d → c ≡ d
ready_same rule lat ops rows j c d is also =
    let low : c ≤ d = ready_below rule lat ops rows j c d is also in
    let high : d ≤ c = ready_below rule lat ops rows j d c also is in
    omega arith
