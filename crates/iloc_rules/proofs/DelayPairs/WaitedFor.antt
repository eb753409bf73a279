-- What arrives in time where each delay is waited for; for `laws::lawful_schedules_keep_the_outcome`.
use Rattle.iloc_rules.proofs.Common.{◌≡◌, ℕ, ◌+◌, ◌<◌, ◌≤◌, Bool, true, List, length, Some, refl, arith, and_from, false≢true, or_right, defined, used, Op, Reg, is_register, op_at, is_output, is_store, kind, latency, issue_cycle, Kind, Latencies, Row, Counts, IsDelayPairWhere, all_count, delays_where, keeps_order, keeps_order_where, memory_delays_where, uses_result, when, In}
use Rattle.iloc_rules.proofs.Basics.Members.{contains_from, in_left, in_right, any_at}
use Rattle.iloc_rules.proofs.Outcome.UsedEffects.{reads_memory}
use Rattle.iloc_rules.proofs.DelayPairs.DelayBounds.{in_when}
use Rattle.iloc_rules.proofs.Basics.Registers.{is_register_from}

-- each delay is waited for, where these count
abbrev pub WaitsWhere : Counts → Latencies → List Op → List Row → Type 0
WaitsWhere counts lat ops rows =
    (i j d : ℕ) → IsDelayPairWhere counts lat ops i j d → issue_cycle rows i + d ≤ issue_cycle rows j

abbrev pub Waits : Latencies → List Op → List Row → Type 0
Waits = WaitsWhere all_count

module _ {counts : Counts} (lat : Latencies) (ops : List Op) (rows : List Row) (waits : WaitsWhere counts lat ops rows) where
  -- what is used was issued so early that it has arrived
  pub used_in_time : (i k : ℕ) (r : Reg) → i < length ops → k < i → In (used (op_at ops i)) r
      → defined (op_at ops k) ≡ Some r → issue_cycle rows k + latency lat (op_at ops k) ≤ issue_cycle rows i
  used_in_time i k r within before uses defines =
      let test : uses_result (op_at ops k) (op_at ops i) ≡ true =
      any_at (λ s. is_register s (defined (op_at ops k))) (used (op_at ops i)) r uses
      (is_register_from r (defined (op_at ops k)) defines) in
      waits k i (latency lat (op_at ops k)) record {
        order = before;
        within = within;
        delay = contains_from (delays_where (counts k i) lat (op_at ops k) (op_at ops i)) (latency lat (op_at ops k))
            (in_left (when (uses_result (op_at ops k) (op_at ops i)) (latency lat (op_at ops k)))
            (memory_delays_where (counts k i) lat (op_at ops k) (op_at ops i)) _ (in_when _ _ test));
      }

  by_memory : (k i d : ℕ) → i < length ops → k < i
      → In (memory_delays_where (counts k i) lat (op_at ops k) (op_at ops i)) d
      → issue_cycle rows k + d ≤ issue_cycle rows i
  by_memory k i d within before there = waits k i d grind (arith, contains_from, in_right)

  -- what is read was stored so early that it has arrived, where the two count
  pub stored_where_counted : (i k : ℕ) → i < length ops → k < i → counts k i ≡ true → is_store (kind (op_at ops k)) ≡ true
      → reads_memory (kind (op_at ops i)) ≡ true → issue_cycle rows k + latency lat (op_at ops k) ≤ issue_cycle rows i
  stored_where_counted i k within before count store reads =
      by_memory k i (latency lat (op_at ops k)) within before
      (grind (arith, and_from, in_left, in_when))

  -- what has to come after is issued later
  pub kept_in_order : (k i : ℕ) → i < length ops → k < i
      → keeps_order_where (counts k i) (kind (op_at ops k)) (kind (op_at ops i)) ≡ true
      → issue_cycle rows k < issue_cycle rows i
  kept_in_order k i within before order =
      let later : issue_cycle rows k + 1 ≤ issue_cycle rows i =
      by_memory k i 1 within before
      (grind (arith, in_right, in_when)) in
      omega arith

-- what is read was stored so early that it has arrived, where all count
pub stored_in_time : (lat : Latencies) (ops : List Op) (rows : List Row) → Waits lat ops rows → (i k : ℕ)
    → i < length ops → k < i → is_store (kind (op_at ops k)) ≡ true → reads_memory (kind (op_at ops i)) ≡ true
    → issue_cycle rows k + latency lat (op_at ops k) ≤ issue_cycle rows i
stored_in_time lat ops rows waits i k within before = stored_where_counted lat ops rows waits i k within before refl

-- where two operations count, they are kept in order as where all do
pub kept_where_counted : (counts : Bool) (a b : Kind) → counts ≡ true → keeps_order a b ≡ true
    → keeps_order_where counts a b ≡ true
kept_where_counted counts a b count keeps = rw count keeps

pub read_then_store : (a b : Kind) → reads_memory a ≡ true → is_store b ≡ true → keeps_order a b ≡ true
read_then_store a b reads store = grind (arith, false≢true)

pub store_then_store : (a b : Kind) → is_store a ≡ true → is_store b ≡ true → keeps_order a b ≡ true
store_then_store a b first second = grind (arith, false≢true)

pub output_then_output : (counts : Bool) (a b : Kind) → is_output a ≡ true → is_output b ≡ true
    → keeps_order_where counts a b ≡ true
output_then_output counts a b first second =
    let both = and_from (is_output a) (is_output b) first second in
    and_from _ _ (or_right counts _ both) (or_right _ _ both)
