-- A path, stretch by stretch, from its end back.
use Rattle.iloc_explain.proofs.Common.{◌≡◌, ℕ, ◌+◌, ◌-◌, ◌<◌, ◌≤◌, List, [], ◌∷◌, ◌++◌, map, reverse, length, get_or, slice_index, ap, ◌∙◌, append_assoc, append-nil, arith, get_or_default, get_or-map-range_with_len, length-map-range_with_len, map-range_with_len_more, range_with_len, Op, op_at, arrival_le_cycles, cycles_le, cycles, latency, IsTable, issue_cycle, Latencies, MemoryRule, Row, Begins, Binds, IsLastToArrive, IsPath, origin, span, Delay}
use Rattle.iloc_explain.specs.declared.path.Stretch.{Stretch}
use Rattle.iloc_explain.specs.Steps.Greatest.{IsPlaceOfGreatest}
use Rattle.iloc_explain.specs.Steps.Walk.{IsWalked}
use Rattle.iloc_explain.proofs.Stretches.{binds_from}

pub walk_start : (rule : MemoryRule) (lat : Latencies) (ops : List Op) (rows : List Row) (last c : ℕ) (path : List Stretch) → last < length ops
    → c ≡ issue_cycle rows last → path ≡ Delay last (latency lat (op_at ops last)) ∷ []
    → IsWalked rule lat ops rows last last c path
walk_start rule lat ops rows last c path known at is = grind arith

pub walk_more : (rule : MemoryRule) (lat : Latencies) (ops : List Op) (rows : List Row) (last j c i b : ℕ) (s : Stretch) (path more : List Stretch)
    → IsTable ops rows → IsWalked rule lat ops rows last j c path → Binds rule lat ops rows j c s → more ≡ path ++ s ∷ []
    → i ≡ origin s j → b ≡ c - span s → IsWalked rule lat ops rows last i b more
walk_more rule lat ops rows last j c i b s path more table walked binds added from at = grind (arith, append_assoc, binds_from)

-- the place of the greatest arrival is the first operation whose result arrives last
pub last_to_arrive : (lat : Latencies) (ops : List Op) (rows : List Row) (numbers : List ℕ) (j : ℕ)
    → numbers ≡ map (λ i. issue_cycle rows i + latency lat (op_at ops i)) (range_with_len 0 (length ops))
    → IsPlaceOfGreatest numbers j → IsLastToArrive lat ops rows j
last_to_arrive lat ops rows numbers j are is =
    let size : length numbers ≡ length ops =
    ap length are ∙ length-map-range_with_len (λ i. issue_cycle rows i + latency lat (op_at ops i)) 0 (length ops) in
    let within : j < length numbers = is.known in
    let known : j < length ops = omega arith in
    let at : (i : ℕ) → i < length ops → slice_index numbers i ≡ issue_cycle rows i + latency lat (op_at ops i) =
    (λ i below. ap (λ xs. slice_index xs i) are
    ∙ get_or-map-range_with_len (λ i. issue_cycle rows i + latency lat (op_at ops i)) 0 (length ops) i i 0 below (omega arith)) in
    let low : issue_cycle rows j + latency lat (op_at ops j) ≤ cycles lat ops rows = arrival_le_cycles lat ops rows j known in
    let high : cycles lat ops rows ≤ issue_cycle rows j + latency lat (op_at ops j) =
    cycles_le lat ops rows (issue_cycle rows j + latency lat (op_at ops j)) (λ i below.
    let most : slice_index numbers i ≤ slice_index numbers j = is.most i (omega arith) in
    rw (at i below, at j known) at most) in
    record {
      known = known;
      last = omega arith;
      first = λ k before.
          let less : slice_index numbers k < slice_index numbers j = is.first k before in
          let own : issue_cycle rows k + latency lat (op_at ops k) < issue_cycle rows j + latency lat (op_at ops j) =
          rw (at k (omega arith), at j known) at less in
          omega arith;
    }

-- what was walked back to its beginning is the path, turned round
pub walk_ends : (rule : MemoryRule) (lat : Latencies) (ops : List Op) (rows : List Row) (last j c : ℕ) (back path : List Stretch)
    → IsLastToArrive lat ops rows last → IsWalked rule lat ops rows last j c back → Begins rule lat ops rows j c → path ≡ reverse back
    → IsPath rule lat ops rows path
walk_ends rule lat [] rows last j c back path is walked begins turned = absurd (let known : last < 0 = is.known in omega arith)
walk_ends rule lat (op ∷ ops) rows last j c back path is walked begins turned = (
  last,
  walked.done,
  is,
  rw append-nil at (walked.leads [] begins),
  turned ∙ ap reverse walked.whole,
)

-- one more arrival
pub arrival_more : (f : ℕ → ℕ) (found more : List ℕ) (i x : ℕ) → found ≡ map f (range_with_len 0 i) → more ≡ found ++ x ∷ []
    → x ≡ f i → more ≡ map f (range_with_len 0 (i + 1))
arrival_more f found more i x so_far added is = grind (arith, map-range_with_len_more)

-- when the result of an operation that was read arrives
pub arrival_read : (lat : Latencies) (ops lent : List Op) (rows : List Row) (i cycle time : ℕ) (other : Op) → i < length ops
    → lent ≡ ops → cycle ≡ issue_cycle rows i → time ≡ latency lat (get_or lent i other)
    → cycle + time ≡ issue_cycle rows i + latency lat (op_at ops i)
arrival_read lat ops lent rows i cycle time other within same at takes = grind (arith, get_or_default)

-- the first stretch, which is the latency of an operation that was read
pub last_latency : (lat : Latencies) (ops lent : List Op) (last time : ℕ) (other : Op) (none path : List Stretch) → last < length ops
    → lent ≡ ops → time ≡ latency lat (get_or lent last other) → none ≡ [] → path ≡ none ++ Delay last time ∷ []
    → path ≡ Delay last (latency lat (op_at ops last)) ∷ []
last_latency lat ops lent last time other none path within same takes empty pushed = grind (arith, get_or_default)
