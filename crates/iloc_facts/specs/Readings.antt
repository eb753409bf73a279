-- When operations are issued and what they read, and what is noted of each.
use Rattle.std.specs.Prelude.{ℕ, zero, suc, ◌+◌, nat_lt, nat_le, if◌then◌else◌, List, [], ◌∷◌, ◌++◌, fold, filter, slice_index_or, Option, Some, None, option_to_list}
use Rattle.iloc_ops.specs.declared.op.Reg.{Reg}
use Rattle.iloc_ops.specs.declared.op.Op.{Op}
use Rattle.iloc_ops.specs.Registers.{used, defined}
use Rattle.iloc_meaning.specs.Trace.{op_at, is_register}
use Rattle.iloc_timed.specs.declared.latencies.Latencies.{Latencies}
use Rattle.iloc_timed.specs.declared.row.Row.{Row}
use Rattle.iloc_timed.specs.Latency.{latency}
use Rattle.iloc_timed.specs.Rows.{row_at, issue_cycle}
use Rattle.iloc_rules.specs.Renaming.{Source, source}
use Rattle.iloc_rules.specs.Renaming.Source.{Start, Result}
use Rattle.iloc_facts.specs.declared.reading.Reading.{Reading}
use Rattle.iloc_facts.specs.declared.reading.sources.Sources.{Sources}
use Rattle.iloc_facts.specs.declared.reading.sources.Sources.TheVariants.{Nothing, One, Two}

-- What is read

-- the operations of a row in the order of issue: unit 0 before unit 1
abbrev pub in_order : Row → List ℕ
in_order row = option_to_list row.zero ++ option_to_list row.one

-- the operations that are issued before cycle c, in that order
abbrev pub issued_before : List Row → ℕ → List ℕ
issued_before rows zero = []
issued_before rows (suc c) = issued_before rows c ++ in_order (row_at rows c)

-- the cycle at whose start the result of operation k arrives
abbrev pub due : Latencies → List Op → List Row → ℕ → ℕ
due lat ops rows k = issue_cycle rows k + latency lat (op_at ops k)

-- of two that are issued one after the other, the one that arrives last; of one cycle the second
abbrev pub last_of : (ℕ → ℕ) → Option ℕ → ℕ → Option ℕ
last_of due None k = Some k
last_of due (Some j) k = if nat_lt (due k) (due j) then Some j else Some k

-- of the operations `ks` the ones that define register `r`
abbrev pub defining : List Op → Reg → List ℕ → List ℕ
defining ops r ks = filter (λ k. is_register r (defined (op_at ops k))) ks

-- of the operations `ks` the ones whose results have arrived by cycle `c`
abbrev pub arrived : (ℕ → ℕ) → ℕ → List ℕ → List ℕ
arrived due c ks = filter (λ k. nat_le (due k) c) ks

-- the operation whose result register `r` holds at cycle `c`: the last to arrive by then that defines `r`; None where
-- there is none, and the register is as it was at the start
abbrev pub read : Latencies → List Op → List Row → ℕ → Reg → Option ℕ
read lat ops rows c r =
    fold (last_of (due lat ops rows)) None (arrived (due lat ops rows) c (defining ops r (issued_before rows c)))

-- the operation whose result that is; None for the start of a register
abbrev pub result_in : Source → Option ℕ
result_in (Start r) = None
result_in (Result i) = Some i

-- the operation whose result operation i of a block reads in register r
abbrev pub given : List Op → ℕ → Reg → Option ℕ
given block i r = result_in (source block i r)

-- What is noted

-- what is read in registers, of which there are two at most
abbrev pub sources_of : (Reg → Option ℕ) → List Reg → Sources
sources_of read [] = Nothing
sources_of read (r ∷ []) = One (read r)
sources_of read (r ∷ s ∷ rest) = Two (read r) (read s)

-- what operation i reads
abbrev pub sources_at : List Sources → ℕ → Sources
sources_at sources i = slice_index_or sources i Nothing

-- when operation k is issued, and what it reads then
abbrev pub reading_of : Latencies → List Op → List Row → ℕ → Reading
reading_of lat ops rows k = record {
  cycle = issue_cycle rows k;
  sources = sources_of (read lat ops rows (issue_cycle rows k)) (used (op_at ops k));
}

-- what is noted of operation k
abbrev pub reading_at : List Reading → ℕ → Reading
reading_at readings k = slice_index_or readings k (record { cycle = 0; sources = Nothing })
