-- In a lawful schedule each operation reads what it reads in its block; for both directions of the laws.
use Rattle.iloc_validation.proofs.Common.{◌≡◌, ℕ, zero, suc, ◌+◌, ◌<◌, ◌≤◌, true, List, map, length, nat_le, Some, None, fold, Option, option_map, sym, refl, ap, ◌∙◌, arith, le-leb, defined, used, Op, Reg, by_bool, is_register, op_at, kind, latency, IsTable, issue_cycle, Latencies, Row, empty_from, from_filter, in_filter, in_map, is_register_from, is_register_same, early_issued, definition_numbered, length-renamed_by, renamed_op_at, source_earlier, use_numbered, defined_at, named_defined, IsRenamed, Source, name_of, numbering, renamed_by, source, Result, Start, In, issued_from_numbers, numbers_from_issued, only_one, defining, due, given, issued_before, last_of, read, result_in}
use Rattle.iloc_ops.proofs.Renaming.{used-with_registers}
use Rattle.iloc_timed.proofs.WholeRuns.{some_latency}
use Rattle.iloc_rules.proofs.Basics.Slots.{issued_early}
use Rattle.iloc_rules.proofs.Renamed.Sources.{name_apart}
use Rattle.iloc_rules.proofs.DelayPairs.WaitedFor.{Waits, used_in_time}
use Rattle.iloc_facts.specs.Readings.{arrived}
use Rattle.iloc_validation.proofs.Labels.{kind-with_registers}

-- the operations of a block without `nop`s, renamed
abbrev pub new : List Op → List Op
new block = renamed_by block (numbering block)

-- the name of what operation i of the block reads in register r
abbrev pub name_at : List Op → ℕ → Reg → Reg
name_at block i r = name_of (numbering block) (source block i r)

pub length-new : (block : List Op) → length (new block) ≡ length block
length-new block = length-renamed_by block (numbering block)

pub kind_new : (block : List Op) (i : ℕ) → i < length block → kind (op_at (new block) i) ≡ kind (op_at block i)
kind_new block i below = ap kind (renamed_op_at block (numbering block) i below) ∙ kind-with_registers _ _ (op_at block i)

pub used_new : (block : List Op) (i : ℕ) → i < length block
    → used (op_at (new block) i) ≡ map (name_at block i) (used (op_at block i))
used_new block i below = ap used (renamed_op_at block (numbering block) i below)
    ∙ used-with_registers _ _ (op_at block i)

-- what defines the name of a source is that source
pub named_source : (block : List Op) (i j : ℕ) (r : Reg) → i < length block → In (used (op_at block i)) r → j < length block
    → defined (op_at (new block) j) ≡ Some (name_at block i r) → source block i r ≡ Result j
named_source block i j r below uses within defines = grind (arith, defined_at, definition_numbered, name_apart, named_defined, use_numbered)

registers : (d : Option Reg) (r : Reg) → is_register r d ≡ true → (q : Reg) × (d ≡ Some q)
registers None r is = absurd cc
registers (Some q) r is = (q, refl)

source_defines : (block : List Op) (i j : ℕ) (r : Reg) → source block i r ≡ Result j
    → (q : Reg) × (defined (op_at block j) ≡ Some q)
source_defines block zero j r is = absurd cc
source_defines block (suc i) j r is =
    by_bool (is_register r (defined (op_at block i)))
    (λ t.
    let here : Result i ≡ Result j = rw t at is in
    let same : i ≡ j = cc in
    rw (← same) (registers (defined (op_at block i)) r t))
    (λ t. source_defines block i j r (rw t at is))

-- a source defines its name
pub source_named : (block : List Op) (i j : ℕ) (r : Reg) → i < length block → source block i r ≡ Result j
    → defined (op_at (new block) j) ≡ Some (name_at block i r)
source_named block i j r below is = grind (arith, defined_at, option_map, source_defines, source_earlier)

module _ (lat : Latencies) (block : List Op) (rows : List Row) (renamed : IsRenamed (new block))
    (table : IsTable (new block) rows) (waits : Waits lat (new block) rows) where
  in_reads : (i k : ℕ) (r : Reg) → i < length block → In (used (op_at block i)) r
      → In (arrived (due lat (new block) rows) (issue_cycle rows i)
      (defining (new block) (name_at block i r) (issued_before rows (issue_cycle rows i)))) k
      → source block i r ≡ Result k
  in_reads i k r below uses there =
      let over = from_filter (λ j. nat_le (due lat (new block) rows j) (issue_cycle rows i)) _ k there in
      let both = from_filter (λ j. is_register (name_at block i r) (defined (op_at (new block) j)))
      (issued_before rows (issue_cycle rows i)) k over.0 in
      let early = issued_early (new block) rows table (issue_cycle rows i) k
      (numbers_from_issued rows (issue_cycle rows i) k both.0) in
      let within : k < length block = rw length-renamed_by at early.0 in
      named_source block i k r below uses within
      (is_register_same (name_at block i r) (defined (op_at (new block) k)) both.1)

  there_it_is : (i j : ℕ) (r : Reg) → i < length block → In (used (op_at block i)) r → source block i r ≡ Result j
      → In (arrived (due lat (new block) rows) (issue_cycle rows i)
      (defining (new block) (name_at block i r) (issued_before rows (issue_cycle rows i)))) j
  there_it_is i j r below uses is =
      let earlier : j < i = source_earlier block i j r is in
      let size : length (new block) ≡ length block = length-renamed_by block (numbering block) in
      let defines : defined (op_at (new block) j) ≡ Some (name_at block i r) = source_named block i j r below is in
      let use_there : In (used (op_at (new block) i)) (name_at block i r) =
      rw (used_new block i below) (in_map (name_at block i) (used (op_at block i)) r uses) in
      let in_time : issue_cycle rows j + latency lat (op_at (new block) j) ≤ issue_cycle rows i =
      used_in_time lat (new block) rows waits i j (name_at block i r) (omega arith) earlier use_there defines in
      let some : 1 ≤ latency lat (op_at (new block) j) = some_latency lat (kind (op_at (new block) j)) in
      let issued : In (issued_before rows (issue_cycle rows i)) j =
      issued_from_numbers rows (issue_cycle rows i) j (early_issued (new block) rows table (issue_cycle rows i) j
      (omega arith) (omega arith)) in
      in_filter (λ k. nat_le (due lat (new block) rows k) (issue_cycle rows i)) _ j
      (in_filter (λ k. is_register (name_at block i r) (defined (op_at (new block) k))) _ j issued
      (is_register_from (name_at block i r) (defined (op_at (new block) j)) defines))
      (le-leb (due lat (new block) rows j) (issue_cycle rows i) in_time)

  read_source : (i : ℕ) (r : Reg) (s : Source) → i < length block → In (used (op_at block i)) r → source block i r ≡ s
      → read lat (new block) rows (issue_cycle rows i) (name_at block i r) ≡ result_in s
  read_source i r (Start q) below uses is =
      ap (fold (last_of (due lat (new block) rows)) None) (empty_from _ (λ k there.
      let other : source block i r ≡ Result k = in_reads i k r below uses there in
      absurd (let no : Start q ≡ Result k = sym is ∙ other in cc)))
  read_source i r (Result j) below uses is =
      only_one (due lat (new block) rows) j _ (there_it_is i j r below uses is) (λ k there.
      let other : source block i r ≡ Result k = in_reads i k r below uses there in
      let one : Result j ≡ Result k = sym is ∙ other in
      let same : j ≡ k = cc in
      sym same)

  -- an operation reads, by its new names, what it reads in the block
  pub read_is_given : (i : ℕ) (r : Reg) → i < length block → In (used (op_at block i)) r
      → read lat (new block) rows (issue_cycle rows i) (name_at block i r) ≡ given block i r
  read_is_given i r below uses = read_source i r (source block i r) below uses refl
