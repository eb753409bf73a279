-- What operations of a block and of rows read.
use Rattle.std.specs.Prelude.{ℕ, zero, suc, ◌≢◌, ◌<◌, List, length, Option, None, IfSome}
use Rattle.std.specs.BTreeMap.{BTreeMap, get}
use Rattle.std.specs.Ordering.{nat_cmp}
use Rattle.iloc_facts.specs.declared.reading.Reading.{Reading}
use Rattle.iloc_facts.specs.declared.reading.sources.Sources.{Sources}
use Rattle.iloc_facts.specs.declared.reading.sources.Sources.TheVariants.{One, Two}
use Rattle.iloc_facts.specs.Readings.{reading_at}
use Rattle.iloc_facts.specs.Facts.{AreSources}

-- what is read at a place, left to right
abbrev pub source_at : Sources → ℕ → Option ℕ
source_at (One only) zero = only
source_at (Two left right) zero = left
source_at (Two left right) (suc zero) = right
source_at _ place = None

-- this holds of what is read on both sides, at each place
abbrev pub AreAllRead : (ℕ → ℕ → Type 0) → Sources → Sources → Type 0
AreAllRead Alike (One only) (One other) = AreSources Alike only other
AreAllRead Alike (Two left right) (Two other another) = AreSources Alike left other × AreSources Alike right another
AreAllRead Alike _ _ = Unit

-- `source` is among the operations that are `noted`
abbrev pub IsNoted : BTreeMap ℕ ℕ → Option ℕ → Type 0
IsNoted noted source = IfSome source (λ j. get nat_cmp noted j ≢ None)

-- all that operations read is
abbrev pub AreNoted : List Reading → BTreeMap ℕ ℕ → Type 0
AreNoted readings noted = (k : ℕ) → k < length readings
    → IsNoted noted (source_at (reading_at readings k).sources 0) × IsNoted noted (source_at (reading_at readings k).sources 1)
