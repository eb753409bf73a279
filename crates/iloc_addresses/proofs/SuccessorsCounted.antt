-- The operations that wait for each directly, counted by use and by memory; for `count_successors`.
use Rattle.iloc_addresses.proofs.Common.{◌≡◌, ℕ, suc, ◌+◌, ◌-◌, ◌<◌, ◌≤◌, Bool, true, false, cond, not, ◌&&◌, ◌||◌, ◌≢◌, List, [], ◌∷◌, ◌++◌, map, length, get_or, set, if◌then◌else◌, nat_lt, ◌==◌, Some, None, count_by, Option, nat_cmp, sym, refl, ap, ◌∙◌, inl, inr, true≢false, arith, length-set, get_or-set_other, get_or-set_same, ext_get_or, ltb-true, lt-ltb, eqb-true, cases_eq, cases_lt, get, is_at, list_any, range_with_len, defined, used, Op, Reg, by_bool, is_register, op_at, kind, latency, Kind, Latencies, keeps_order_where, reads_stored, uses_result, when, Counts, Word, IsShort, constant_of, AreCounted, AreCounts, AreDefiners, AreNoted, AreReached, AreUsesCounted, count_from, definer, is_by_memory, is_by_use, is_number, noted, uses_before, waiting_for, waits_by_memory}
use Rattle.std.proofs.lemmas.List.FromFn.{length-map-range_with_len, get_or-map-range_with_len}
use Rattle.iloc_rules.specs.Heuristics.{waits_for_where, successors_where}
use Rattle.iloc_rules.specs.Renaming.{IsRenamed}
use Rattle.iloc_rules.proofs.Basics.Registers.{is_register_same}
use Rattle.iloc_rules.proofs.Basics.CountedRanges.{count_first, count_range, none_in_range, count_sum, count_most}
use Rattle.iloc_addresses.specs.declared.successors.definers.Definers.{Definers}
use Rattle.iloc_addresses.specs.declared.successors.later.Later.{Later}
use Rattle.iloc_addresses.proofs.AddressesCounted.{numbers_are}
use Rattle.iloc_timed.specs.Kinds.{is_memory, is_output}

-- there is a delay just where the result is used, or memory or outputs ask for one
some_delay : (a b c : Bool) (d : ℕ) → nat_lt 0 (length (when a d ++ (when b d ++ when c 1))) ≡ (a || (b || c))
some_delay a b c d = grind (arith, lt-ltb)

waits_are : (counts : Counts) (lat : Latencies) (ops : List Op) (reached : List (Option Word)) (i j : ℕ)
    → AreReached counts ops reached → i < length ops → j < length ops → waits_for_where counts lat ops i j
    ≡ (nat_lt i j && (uses_result (op_at ops i) (op_at ops j) || is_by_memory ops reached i j))
waits_are counts lat ops reached i j are first second = ap (λ b. nat_lt i j && b)
    (some_delay (uses_result (op_at ops i) (op_at ops j))
    (counts i j && reads_stored (kind (op_at ops i)) (kind (op_at ops j)))
    (keeps_order_where (counts i j) (kind (op_at ops i)) (kind (op_at ops j))) (latency lat (op_at ops i))
    ∙ ap (λ b. uses_result (op_at ops i) (op_at ops j) || b) (are.waits i j first second))

-- by use or by memory, each once
parted : (u m : Bool) → cond {A = ℕ} (u || m) 1 0 ≡ cond {A = ℕ} (u && not m) 1 0 + cond {A = ℕ} m 1 0
parted true true = refl
parted true false = refl
parted false true = refl
parted false false = refl

later_one : (i j : ℕ) → i < j → nat_lt i j ≡ true
later_one i j before = lt-ltb i j before

no_later : (i j : ℕ) → j ≤ i → nat_lt i j ≡ false
no_later i j after = by_bool (nat_lt i j) (λ t. absurd (let before : i < j = ltb-true i j t in omega arith)) (λ f. f)

-- the later operations that wait, by use and by memory
pub successors_are : (counts : Counts) (lat : Latencies) (ops : List Op) (reached : List (Option Word)) (i : ℕ)
    → AreReached counts ops reached → i < length ops → successors_where counts lat ops i
    ≡ uses_before ops reached i (length ops) + count_from (is_by_memory ops reached i) ops (i + 1)
successors_are counts lat ops reached i are within =
    let rest : ℕ = length ops - (i + 1) in
    let size : (i + 1) + rest ≡ length ops = omega arith in
    let waits : ℕ → Bool = waits_for_where counts lat ops i in
    let all : count_by waits (range_with_len 0 (length ops))
    ≡ count_by waits (range_with_len 0 (i + 1)) + count_by waits (range_with_len (i + 1) rest) =
    ap (λ n. count_by waits (range_with_len 0 n)) (sym size) ∙ count_range waits 0 (i + 1) rest (i + 1) (omega arith) in
    let uses : uses_before ops reached i (length ops) ≡ uses_before ops reached i (i + 1) + count_by (is_by_use ops reached i) (range_with_len (i + 1) rest) =
    ap (λ n. count_by (is_by_use ops reached i) (range_with_len 0 n)) (sym size)
    ∙ count_range (is_by_use ops reached i) 0 (i + 1) rest (i + 1) (omega arith) in
    let none : count_by waits (range_with_len 0 (i + 1)) ≡ 0 =
    none_in_range waits 0 (i + 1) (λ k after below. waits_are counts lat ops reached i k are within (omega arith)
    ∙ ap (λ b. b && (uses_result (op_at ops i) (op_at ops k) || is_by_memory ops reached i k)) (no_later i k (omega arith))) in
    let unused : uses_before ops reached i (i + 1) ≡ 0 =
    none_in_range (is_by_use ops reached i) 0 (i + 1) (λ k after below.
    ap (λ b. b && (uses_result (op_at ops i) (op_at ops k) && not (is_by_memory ops reached i k))) (no_later i k (omega arith))) in
    let both : count_by waits (range_with_len (i + 1) rest)
    ≡ count_by (is_by_use ops reached i) (range_with_len (i + 1) rest) + count_by (is_by_memory ops reached i) (range_with_len (i + 1) rest) =
    count_sum waits (is_by_use ops reached i) (is_by_memory ops reached i) (i + 1) rest (λ k after below.
    let later = later_one i k (omega arith) in
    let u : Bool = uses_result (op_at ops i) (op_at ops k) in
    let m : Bool = is_by_memory ops reached i k in
    ap (λ b. cond {A = ℕ} b 1 0) (waits_are counts lat ops reached i k are within (omega arith) ∙ ap (λ b. b && (u || m)) later)
    ∙ parted u m ∙ ap (λ b. cond {A = ℕ} (b && (u && not m)) 1 0 + cond {A = ℕ} m 1 0) (sym later)) in
    omega arith

-- one number more at the end, and one more at the front
count_last : (p : ℕ → Bool) (n : ℕ) → count_by p (range_with_len 0 (n + 1))
    ≡ count_by p (range_with_len 0 n) + cond {A = ℕ} (p n) 1 0
count_last p n =
    let one : count_by p (range_with_len n 1) ≡ cond (p n) 1 0 + count_by p (range_with_len (suc n) 0) = count_first p n 0 in
    let none : count_by p (range_with_len (suc n) 0) ≡ 0 = refl in
    let all : count_by p (range_with_len 0 (n + 1)) ≡ count_by p (range_with_len 0 n) + count_by p (range_with_len n 1) =
    count_range p 0 n 1 n (omega arith) in
    omega arith

front_one : (p : ℕ → Bool) (ops : List Op) (j : ℕ) → j < length ops
    → count_from p ops j ≡ cond {A = ℕ} (p j) 1 0 + count_from p ops (j + 1)
front_one p ops j within =
    let size : length ops - j ≡ suc (length ops - (j + 1)) = omega arith in
    let next : suc j ≡ j + 1 = omega arith in
    ap (λ n. count_by p (range_with_len j n)) size ∙ count_first p j (length ops - (j + 1))
    ∙ ap (λ k. cond {A = ℕ} (p j) 1 0 + count_by p (range_with_len k (length ops - (j + 1)))) next

at_end : (p : ℕ → Bool) (ops : List Op) (j : ℕ) → length ops ≤ j → count_from p ops j ≡ 0
at_end p ops j after =
    let none : length ops - j ≡ 0 = omega arith in ap (λ n. count_by p (range_with_len j n)) none

by_eq : {P : Type 0} → (a b : ℕ) → (a ≡ b → P) → (a ≢ b → P) → P
by_eq a b same apart = elim (cases_eq a b) [ inl e ↦ same e | inr e ↦ apart e ]

same_number : (a b : ℕ) → a ≡ b → (a == b) ≡ true
same_number a b e = grind arith

other_number : (a b : ℕ) → a ≢ b → (a == b) ≡ false
other_number a b apart = by_bool (a == b) (λ t. absurd (apart (eqb-true a b t))) (λ f. f)

pub is_its : (i : ℕ) (o : Option ℕ) → o ≡ Some i → is_number i o ≡ true
is_its i o is = ap (is_number i) is ∙ same_number i i refl

not_its : (i j : ℕ) (o : Option ℕ) → o ≡ Some j → i ≢ j → is_number i o ≡ false
not_its i j o is apart = ap (is_number i) is ∙ other_number j i (λ e. apart (sym e))

-- before the next operation
next_later : (i j : ℕ) → i ≢ j → nat_lt i (j + 1) ≡ nat_lt i j
next_later i j apart = elim (cases_lt i j) [
  | inl before ↦ later_one i (j + 1) (omega arith) ∙ sym (later_one i j before)
  | inr after ↦ no_later i (j + 1) (omega arith) ∙ sym (no_later i j after)
]

-- after operation j, which defines this register
module _ (ops : List Op) (j : ℕ) (old : Definers) (before : AreDefiners ops j old) where
  pub definers_more : (new : Definers) (register : Reg) → IsRenamed ops → defined (op_at ops j) ≡ Some register
      → ((q : ℕ) → get nat_cmp new.ops q ≡ cond (is_at (nat_cmp register.0) q) (Some j) (get nat_cmp old.ops q))
      → AreDefiners ops (j + 1) new
  definers_more new register renamed defines updates i r =
      let value : definer new r ≡ cond (register.0 == r.0) (Some j) (definer old r) =
      updates r.0 ∙ ap (λ b. cond b (Some j) (definer old r)) (numbers_are register.0 r.0) in
      by_bool (register.0 == r.0)
      (λ t.
      let here : definer new r ≡ Some j = value ∙ ap (λ b. cond b (Some j) (definer old r)) t in
      let same : register.0 ≡ r.0 = eqb-true register.0 r.0 t in
      by_eq i j
      (λ e.
      let own : is_register r (defined (op_at ops i)) ≡ true =
      ap (λ k. is_register r (defined (op_at ops k))) e ∙ ap (is_register r) defines ∙ same_number r.0 register.0 (sym same) in
      is_its i (definer new r) (here ∙ ap Some (sym e))
      ∙ sym (both_hold (nat_lt i (j + 1)) _ (later_one i (j + 1) (omega arith)) own))
      (λ apart.
      let other : is_register r (defined (op_at ops i)) ≡ false =
      by_bool (is_register r (defined (op_at ops i)))
      (λ is. absurd (apart (renamed.once i j r (is_register_same r (defined (op_at ops i)) is)
      (defines ∙ ap (λ n. Some (record { 0 = n })) same))))
      (λ f. f) in
      not_its i j (definer new r) here apart ∙ sym (one_fails (nat_lt i (j + 1)) _ other)))
      (λ f.
      let here : definer new r ≡ definer old r = value ∙ ap (λ b. cond b (Some j) (definer old r)) f in
      let still : is_number i (definer new r) ≡ (nat_lt i j && is_register r (defined (op_at ops i))) =
      ap (is_number i) here ∙ before i r in
      by_eq i j
      (λ e.
      let other : is_register r (defined (op_at ops i)) ≡ false =
      ap (λ k. is_register r (defined (op_at ops k))) e ∙ ap (is_register r) defines
      ∙ other_number r.0 register.0 (λ s. true≢false (sym (same_number register.0 r.0 (sym s)) ∙ f)) in
      still ∙ one_fails (nat_lt i j) _ other ∙ sym (one_fails (nat_lt i (j + 1)) _ other))
      (λ apart. still ∙ ap (λ b. b && is_register r (defined (op_at ops i))) (sym (next_later i j apart))))
    where
      both_hold : (a b : Bool) → a ≡ true → b ≡ true → (a && b) ≡ true
      both_hold a b first second = grind arith

      one_fails : (a b : Bool) → b ≡ false → (a && b) ≡ false
      one_fails a b fails = grind arith

-- who defines a used register is an earlier operation whose result is used
uses_listed : (ops : List Op) (j : ℕ) (definers : Definers) → AreDefiners ops j definers → (i : ℕ) (xs : List Reg)
    → list_any (λ r. is_number i (definer definers r)) xs
    ≡ (nat_lt i j && list_any (λ r. is_register r (defined (op_at ops i))) xs)
uses_listed ops j definers are i [] = none (nat_lt i j)
  where
    none : (a : Bool) → false ≡ (a && false)
    none true = refl
    none false = refl
uses_listed ops j definers are i (r ∷ rest) =
    ap (λ b. b || list_any (λ s. is_number i (definer definers s)) rest) (are i r)
    ∙ ap (λ b. (nat_lt i j && is_register r (defined (op_at ops i))) || b) (uses_listed ops j definers are i rest)
    ∙ shared (nat_lt i j) (is_register r (defined (op_at ops i)))
    (list_any (λ s. is_register s (defined (op_at ops i))) rest)
  where
    shared : (a b c : Bool) → ((a && b) || (a && c)) ≡ (a && (b || c))
    shared true b c = refl
    shared false b c = refl

-- the sources of operation j
module _ (ops : List Op) (reached : List (Option Word)) (j : ℕ) (definers : Definers) (first second : Option ℕ) (are : AreDefiners ops j definers)
    (each : (i : ℕ) → (is_number i first || is_number i second)
    ≡ list_any (λ r. is_number i (definer definers r)) (used (op_at ops j)))
    (once : (i : ℕ) → (is_number i first && is_number i second) ≡ false) where
  sources_are : (i : ℕ) → (is_number i first || is_number i second)
      ≡ (nat_lt i j && uses_result (op_at ops i) (op_at ops j))
  sources_are i = each i ∙ uses_listed ops j definers are i (used (op_at ops j))

  by_source : (a b l u m : Bool) → (a || b) ≡ (l && u) → (a && b) ≡ false
      → cond {A = ℕ} (l && (u && not m)) 1 0 ≡ cond {A = ℕ} (a && not m) 1 0 + cond {A = ℕ} (b && not m) 1 0
  by_source a b l u m either not_both = grind arith

  -- both are counted
  pub uses_more : (found found' found'' : List ℕ) → AreUsesCounted ops reached found j → length found' ≡ length found
      → length found'' ≡ length found'
      → ((i : ℕ) → get_or found' i 0
      ≡ get_or found i 0 + (if is_number i first && not (is_by_memory ops reached i j) then 1 else 0))
      → ((i : ℕ) → get_or found'' i 0
      ≡ get_or found' i 0 + (if is_number i second && not (is_by_memory ops reached i j) then 1 else 0))
      → AreUsesCounted ops reached found'' (j + 1)
  uses_more found found' found'' counted size size' one two = record {
    size = size' ∙ size ∙ counted.size;
    each = λ i.
        let more = by_source (is_number i first) (is_number i second) (nat_lt i j)
        (uses_result (op_at ops i) (op_at ops j)) (is_by_memory ops reached i j) (sources_are i) (once i) in
        omega (arith, one i, two i, counted.each i, count_last (is_by_use ops reached i) j, more);
  }

pub uses_few : (ops : List Op) (reached : List (Option Word)) (i j : ℕ) → uses_before ops reached i j ≤ j
uses_few ops reached i j = count_most (is_by_use ops reached i) 0 j

pub all_uses : (ops : List Op) (reached : List (Option Word)) (found : List ℕ) → AreUsesCounted ops reached found (length ops)
    → found ≡ map (λ i. uses_before ops reached i (length ops)) (range_with_len 0 (length ops))
all_uses ops reached found counted =
    let size : length (map (λ i. uses_before ops reached i (length ops)) (range_with_len 0 (length ops))) ≡ length ops =
    length-map-range_with_len (λ i. uses_before ops reached i (length ops)) 0 (length ops) in
    ext_get_or 0 found (map (λ i. uses_before ops reached i (length ops)) (range_with_len 0 (length ops))) (counted.size ∙ sym size)
    (λ i there. counted.each i ∙ sym (get_or-map-range_with_len (λ k. uses_before ops reached k (length ops)) 0 (length ops) i i 0
    (let all : length found ≡ length ops = counted.size in omega arith) (omega arith)))

-- the tables at an operation
pub waits_read : (ops : List Op) (reached : List (Option Word)) (i j : ℕ) (k l : Kind) (v w : Option Word) (b : Bool)
    → b ≡ waits_by_memory k v l w → k ≡ kind (op_at ops i) → v ≡ get_or reached i None → l ≡ kind (op_at ops j)
    → w ≡ get_or reached j None → b ≡ is_by_memory ops reached i j
waits_read ops reached i j k l v w b is first at second other = cc

-- operation j is counted at its source i, or waits for that anyway
module _ (ops : List Op) (reached : List (Option Word)) (found : List ℕ) (i j : ℕ) (source : Option ℕ) (is : source ≡ Some i) where
  counts : (a m : Bool) → a ≡ true → m ≡ false → cond {A = ℕ} (a && not m) 1 0 ≡ 1
  counts a m holds free = grind arith

  counts_none : (a m : Bool) → a ≡ false → cond {A = ℕ} (a && not m) 1 0 ≡ 0
  counts_none a m fails = grind arith

  anyway : (a m : Bool) → m ≡ true → cond {A = ℕ} (a && not m) 1 0 ≡ 0
  anyway a m waits = grind arith

  pub use_counted : (n : ℕ) → i < length found → n ≡ get_or found i 0 → is_by_memory ops reached i j ≡ false → (q : ℕ)
      → get_or (set found i (n + 1)) q 0
      ≡ get_or found q 0 + (if is_number q source && not (is_by_memory ops reached q j) then 1 else 0)
  use_counted n within read free q = by_eq q i
      (λ same.
      let own : get_or (set found i (n + 1)) q 0 ≡ n + 1 =
      ap (λ k. get_or (set found i (n + 1)) k 0) same ∙ get_or-set_same found i (n + 1) 0 within in
      let was : n ≡ get_or found q 0 = read ∙ ap (λ k. get_or found k 0) (sym same) in
      let one : cond {A = ℕ} (is_number q source && not (is_by_memory ops reached q j)) 1 0 ≡ 1 =
      counts (is_number q source) (is_by_memory ops reached q j) (is_its q source (is ∙ ap Some (sym same)))
      (ap (λ k. is_by_memory ops reached k j) same ∙ free) in
      omega arith)
      (λ apart.
      let other : get_or (set found i (n + 1)) q 0 ≡ get_or found q 0 = get_or-set_other found i q (n + 1) 0 apart in
      let none : cond {A = ℕ} (is_number q source && not (is_by_memory ops reached q j)) 1 0 ≡ 0 =
      counts_none (is_number q source) (is_by_memory ops reached q j) (not_its q i source is apart) in
      omega arith)

  pub use_skipped : is_by_memory ops reached i j ≡ true → (q : ℕ) → get_or found q 0
      ≡ get_or found q 0 + (if is_number q source && not (is_by_memory ops reached q j) then 1 else 0)
  use_skipped waits q =
      let none : cond {A = ℕ} (is_number q source && not (is_by_memory ops reached q j)) 1 0 ≡ 0 = by_eq q i
      (λ same. anyway (is_number q source) (is_by_memory ops reached q j) (ap (λ k. is_by_memory ops reached k j) same ∙ waits))
      (λ apart. counts_none (is_number q source) (is_by_memory ops reached q j) (not_its q i source is apart)) in
      omega arith

-- an operation that neither memory nor outputs order waits for none by these, and none for it
no_memory_first : (k l : Kind) (v w : Option Word) → (is_memory k || is_output k) ≡ false → waits_by_memory k v l w ≡ false
no_memory_first k l v w free = grind arith

no_memory_second : (k l : Kind) (v w : Option Word) → (is_memory l || is_output l) ≡ false → waits_by_memory k v l w ≡ false
no_memory_second k l v w free = grind arith

pub none_noted : (ops : List Op) (reached : List (Option Word)) (later : Later) (j : ℕ) → j ≡ length ops
    → ((k : Kind) (w : Word) → waiting_for k w later ≡ 0) → noted later ≡ 0 → AreCounts later → AreNoted ops reached later j
none_noted ops reached later j end none few counts = record {
  waiting = λ k w short. none k w
      ∙ sym (at_end (λ i. waits_by_memory k (Some w) (kind (op_at ops i)) (get_or reached i None)) ops j (omega arith));
  few = omega (arith, few);
  counts = counts;
}

module _ (ops : List Op) (reached : List (Option Word)) (j : ℕ) (within : j < length ops) where
  noted_front : (k : Kind) (w : Word)
      → count_from (λ i. waits_by_memory k (Some w) (kind (op_at ops i)) (get_or reached i None)) ops j
      ≡ cond {A = ℕ} (waits_by_memory k (Some w) (kind (op_at ops j)) (get_or reached j None)) 1 0
      + count_from (λ i. waits_by_memory k (Some w) (kind (op_at ops i)) (get_or reached i None)) ops (j + 1)
  noted_front k w = front_one (λ i. waits_by_memory k (Some w) (kind (op_at ops i)) (get_or reached i None)) ops j within

  pub skip_noted : (later : Later) → (is_memory (kind (op_at ops j)) || is_output (kind (op_at ops j))) ≡ false
      → AreNoted ops reached later (j + 1) → AreNoted ops reached later j
  skip_noted later free noted = record {
    waiting = λ k w short.
        let none : cond {A = ℕ} (waits_by_memory k (Some w) (kind (op_at ops j)) (get_or reached j None)) 1 0 ≡ 0 =
        ap (λ b. cond {A = ℕ} b 1 0) (no_memory_second k (kind (op_at ops j)) (Some w) (get_or reached j None) free) in
        omega (arith, noted.waiting k w short, noted_front k w, none);
    few = omega (arith, noted.few);
    counts = noted.counts;
  }

  pub one_noted : (old new : Later) (l : Kind) (v : Word) → l ≡ kind (op_at ops j) → get_or reached j None ≡ Some v
      → AreNoted ops reached old (j + 1)
      → ((k : Kind) (w : Word) → IsShort (constant_of w) → waiting_for k w new
      ≡ waiting_for k w old + (if waits_by_memory k (Some w) l (Some v) then 1 else 0))
      → noted new ≤ noted old + 2 → AreCounts new → AreNoted ops reached new j
  one_noted old new l v is at before more few counts = record {
    waiting = λ k w short.
        let same : cond {A = ℕ} (waits_by_memory k (Some w) l (Some v)) 1 0
        ≡ cond {A = ℕ} (waits_by_memory k (Some w) (kind (op_at ops j)) (get_or reached j None)) 1 0 =
        ap (λ q. cond {A = ℕ} (waits_by_memory k (Some w) q (Some v)) 1 0) is
        ∙ ap (λ o. cond {A = ℕ} (waits_by_memory k (Some w) (kind (op_at ops j)) o) 1 0) (sym at) in
        omega (arith, more k w short, before.waiting k w short, noted_front k w, same);
    few = omega (arith, few, before.few);
    counts = counts;
  }

  -- what waits for operation j, by memory
  pub waiting_is : (later : Later) (k : Kind) (v : Word) (waiting : ℕ) → waiting ≡ waiting_for k v later
      → IsShort (constant_of v) → k ≡ kind (op_at ops j) → get_or reached j None ≡ Some v → AreNoted ops reached later (j + 1)
      → waiting ≡ count_from (is_by_memory ops reached j) ops (j + 1)
  waiting_is later k v waiting value short is at before =
      value ∙ before.waiting k v short
      ∙ ap (λ q. count_from (λ i. waits_by_memory q (Some v) (kind (op_at ops i)) (get_or reached i None)) ops (j + 1)) is
      ∙ ap (λ o. count_from (λ i. waits_by_memory (kind (op_at ops j)) o (kind (op_at ops i)) (get_or reached i None)) ops (j + 1)) (sym at)

  pub waiting_few : count_from (is_by_memory ops reached j) ops (j + 1) ≤ length ops
  waiting_few =
      let most : count_from (is_by_memory ops reached j) ops (j + 1) ≤ length ops - (j + 1) =
      count_most (is_by_memory ops reached j) (j + 1) (length ops - (j + 1)) in
      omega arith

  pub found_few : (found : List ℕ) → AreCounted ops reached found (j + 1) → get_or found j 0 ≤ length ops
  found_few found counted =
      let value : get_or found j 0 ≡ uses_before ops reached j (length ops) + 0 =
      counted.each j within
      ∙ ap (λ b. uses_before ops reached j (length ops) + cond b 0 (count_from (is_by_memory ops reached j) ops (j + 1)))
      (later_one j (j + 1) (omega arith)) in
      omega (arith, value, uses_few ops reached j (length ops))

  pub one_counted : (found : List ℕ) (n waiting : ℕ) → AreCounted ops reached found (j + 1) → n ≡ get_or found j 0
      → waiting ≡ count_from (is_by_memory ops reached j) ops (j + 1) → AreCounted ops reached (set found j (n + waiting)) j
  one_counted found n waiting counted read value = record {
    size = length-set found j (n + waiting) ∙ counted.size;
    each = λ i there. by_eq i j
        (λ same.
        let size : length found ≡ length ops = counted.size in
        let own : get_or (set found j (n + waiting)) j 0 ≡ n + waiting = get_or-set_same found j (n + waiting) 0 (omega arith) in
        let before : get_or found j 0 ≡ uses_before ops reached j (length ops) + 0 =
        counted.each j within
        ∙ ap (λ b. uses_before ops reached j (length ops) + cond b 0 (count_from (is_by_memory ops reached j) ops (j + 1)))
        (later_one j (j + 1) (omega arith)) in
        let all : get_or (set found j (n + waiting)) j 0
        ≡ uses_before ops reached j (length ops) + count_from (is_by_memory ops reached j) ops (j + 1) = omega arith in
        ap (λ k. get_or (set found j (n + waiting)) k 0) same ∙ all
        ∙ ap (λ k. uses_before ops reached k (length ops) + count_from (is_by_memory ops reached k) ops (k + 1)) (sym same)
        ∙ ap (λ b. uses_before ops reached i (length ops) + cond b 0 (count_from (is_by_memory ops reached i) ops (i + 1)))
        (sym (no_later i j (omega arith))))
        (λ apart. get_or-set_other found j i (n + waiting) 0 apart ∙ counted.each i there
        ∙ ap (λ b. uses_before ops reached i (length ops) + cond b 0 (count_from (is_by_memory ops reached i) ops (i + 1)))
        (next_later i j apart));
  }

  pub skip_counted : (found : List ℕ) → (is_memory (kind (op_at ops j)) || is_output (kind (op_at ops j))) ≡ false
      → AreCounted ops reached found (j + 1) → AreCounted ops reached found j
  skip_counted found free counted = record {
    size = counted.size;
    each = λ i there. by_eq i j
        (λ same.
        let none : count_from (is_by_memory ops reached j) ops (j + 1) ≡ 0 =
        none_in_range (is_by_memory ops reached j) (j + 1) (length ops - (j + 1)) (λ k after below.
        no_memory_first (kind (op_at ops j)) (kind (op_at ops k)) (get_or reached j None) (get_or reached k None) free) in
        counted.each i there
        ∙ ap (λ b. uses_before ops reached i (length ops) + cond b 0 (count_from (is_by_memory ops reached i) ops (i + 1)))
        (later_one i (j + 1) (omega arith))
        ∙ ap (λ n. uses_before ops reached i (length ops) + n)
        (sym none ∙ ap (λ k. count_from (is_by_memory ops reached k) ops (k + 1)) (sym same))
        ∙ ap (λ b. uses_before ops reached i (length ops) + cond b 0 (count_from (is_by_memory ops reached i) ops (i + 1)))
        (sym (no_later i j (omega arith))))
        (λ apart. counted.each i there
        ∙ ap (λ b. uses_before ops reached i (length ops) + cond b 0 (count_from (is_by_memory ops reached i) ops (i + 1)))
        (next_later i j apart));
  }

pub only_uses : (ops : List Op) (reached : List (Option Word)) (found : List ℕ) (j : ℕ) → j ≡ length ops
    → found ≡ map (λ i. uses_before ops reached i (length ops)) (range_with_len 0 (length ops)) → AreCounted ops reached found j
only_uses ops reached found j end are = record {
  size = ap length are ∙ length-map-range_with_len (λ i. uses_before ops reached i (length ops)) 0 (length ops);
  each = λ i there.
      let value : get_or found i 0 ≡ uses_before ops reached i (length ops) =
      ap (λ xs. get_or xs i 0) are
      ∙ get_or-map-range_with_len (λ k. uses_before ops reached k (length ops)) 0 (length ops) i i 0 there (omega arith) in
      let none : cond (nat_lt i j) 0 (count_from (is_by_memory ops reached i) ops (i + 1)) ≡ 0 =
      ap (λ b. cond b 0 (count_from (is_by_memory ops reached i) ops (i + 1))) (later_one i j (omega arith)) in
      omega arith;
}

pub all_counted : (counts : Counts) (lat : Latencies) (ops : List Op) (reached : List (Option Word)) (found : List ℕ)
    → AreReached counts ops reached → AreCounted ops reached found 0
    → found ≡ map (successors_where counts lat ops) (range_with_len 0 (length ops))
all_counted counts lat ops reached found are counted =
    let values : List ℕ = map (successors_where counts lat ops) (range_with_len 0 (length ops)) in
    let size : length values ≡ length ops =
    length-map-range_with_len (successors_where counts lat ops) 0 (length ops) in
    ext_get_or 0 found values (counted.size ∙ sym size) (λ i there.
    let all : length found ≡ length ops = counted.size in
    let within : i < length ops = omega arith in
    counted.each i within
    ∙ ap (λ b. uses_before ops reached i (length ops) + cond b 0 (count_from (is_by_memory ops reached i) ops (i + 1)))
    (no_later i 0 (omega arith))
    ∙ sym (successors_are counts lat ops reached i are within)
    ∙ sym (get_or-map-range_with_len (successors_where counts lat ops) 0 (length ops) i i 0 within (omega arith)))
