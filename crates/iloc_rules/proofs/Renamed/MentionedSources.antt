-- A block's numbering has each source that an operation mentions; for `rename` (`once`, `outcome`).
use Rattle.iloc_rules.proofs.Common.{◌≡◌, ℕ, zero, suc, ◌<◌, List, [], map, length, Some, refl, inl, inr, arith, cases_eq, get_or-map-range_with_len, length-map-range_with_len, defined, used, Op, Nop, Reg, op_at, Source, mentions, mentions_before, numbering, own_source, renamed_by, renamed_op, source, In, Stands}
use Rattle.iloc_rules.specs.Renaming.Source.{Result}
use Rattle.iloc_rules.proofs.Basics.Members.{in_map}
use Rattle.iloc_rules.proofs.Renamed.Sources.{is_source-refl, stands_in, stands_left, stands_right, stands_struck}

-- a result that an operation reads is that of an earlier one
pub source_earlier : (ops : List Op) (i j : ℕ) (r : Reg) → source ops i r ≡ Result j → j < i
source_earlier ops zero j r is = absurd cc
source_earlier ops (suc i) j r is = grind (arith, source_earlier ops i j r)

mention_stands : (ops : List Op) (n i : ℕ) (s : Source) → i < n → Stands (mentions ops i) s
    → Stands (mentions_before ops n) s
mention_stands ops zero i s below there = absurd (omega arith)
mention_stands ops (suc n) i s below there = elim (cases_eq i n) [
  | inl last ↦ stands_right (mentions_before ops n) (mentions ops n) s (rw last at there)
  | inr earlier ↦ stands_left (mentions_before ops n) (mentions ops n) s (mention_stands ops n i s (omega arith) there)
]

numbered : (ops : List Op) (i : ℕ) (s : Source) → i < length ops → Stands (mentions ops i) s → Stands (numbering ops) s
numbered ops i s below there =
    stands_struck (mentions_before ops (length ops)) [] s (mention_stands ops (length ops) i s below there)

pub use_numbered : (ops : List Op) (i : ℕ) (r : Reg) → i < length ops → In (used (op_at ops i)) r
    → Stands (numbering ops) (source ops i r)
use_numbered ops i r below there =
    let mentioned : Stands (map (source ops i) (used (op_at ops i))) (source ops i r) =
    stands_in _ _ (in_map (source ops i) (used (op_at ops i)) r there) in
    numbered ops i (source ops i r) below (stands_left (map (source ops i) (used (op_at ops i))) _ (source ops i r)
    mentioned)

pub definition_numbered : (ops : List Op) (i : ℕ) (r : Reg) → i < length ops → defined (op_at ops i) ≡ Some r
    → Stands (numbering ops) (Result i)
definition_numbered ops i r below is =
    let own : Stands (own_source i (defined (op_at ops i))) (Result i) = rw (is, is_source-refl (Result i)) refl in
    numbered ops i (Result i) below (stands_right (map (source ops i) (used (op_at ops i))) _ (Result i) own)

pub renamed_op_at : (ops : List Op) (sources : List Source) (i : ℕ) → i < length ops → op_at (renamed_by ops sources) i
    ≡ renamed_op ops sources i
renamed_op_at ops sources i below = grind (arith, get_or-map-range_with_len (renamed_op ops sources) 0 (length ops) i i Nop below)

pub length-renamed_by : (ops : List Op) (sources : List Source) → length (renamed_by ops sources) ≡ length ops
length-renamed_by ops sources = length-map-range_with_len (renamed_op ops sources) 0 (length ops)
