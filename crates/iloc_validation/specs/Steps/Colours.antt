-- Colours of the operations of a block and of rows, by which a pairing is looked for.
use Rattle.std.specs.Prelude.{ℕ, ◌+◌, ◌*◌, ◌-◌, ◌/◌, ◌%◌, ◌^◌, ◌≡◌, ◌<◌, ◌==◌, if◌then◌else◌, List, length, slice_index, slice_set, sum_by, Option, Some, None, IfSome, ⊤}
use Rattle.std.specs.List.{range_with_len}
use Rattle.iloc_validation.specs.declared.colours.Coloured.{Coloured}
use Rattle.iloc_validation.specs.declared.colours.issue_order.IssueOrder.{IssueOrder}
use Rattle.iloc_facts.specs.declared.reading.Reading.{Reading}
use Rattle.iloc_facts.specs.declared.reading.sources.Sources.{Sources}
use Rattle.iloc_facts.specs.declared.reading.sources.Sources.TheVariants.{Nothing, One, Two}
use Rattle.iloc_facts.specs.declared.sides.Sides.{Sides}
use Rattle.iloc_validation.specs.Steps.Pairing.{IsUnder, LeadsBack}
use Rattle.iloc_facts.specs.Readings.{reading_at, sources_at}
use Rattle.iloc_validation.specs.Steps.Sources.{by_numbers}

-- under whatever pairing the rows are a schedule of the block, each operation has the colour of the one that it is
abbrev pub AreKept : Sides → List ℕ → List ℕ → Type 0
AreKept sides here there = (origin partner : ℕ → ℕ) → IsUnder sides origin partner
    → (k : ℕ) → k < length sides.schedule.now.ops → slice_index there k ≡ slice_index here (origin k)

-- New colours

-- a number for each: n (2 n + 1) modulo 2⁶⁴, with its halves exchanged
abbrev pub stirred : ℕ → ℕ
stirred n =
    let product = (n * ((n * 2 % 2 ^ 64 + 1) % 2 ^ 64)) % 2 ^ 64 in
    (product * 4294967296 % 2 ^ 64 + product / 4294967296) % 2 ^ 64

-- the colour that is made of two
unfoldable pub mixed : ℕ → ℕ → ℕ
mixed one other =
    stirred (stirred ((one * 0x9E37_79B9_7F4A_7C15 % 2 ^ 64 + other * 0xD6E8_FEB8_6659_FD93 % 2 ^ 64) % 2 ^ 64))

-- the colour of what is read; the start of a register has one of its own
abbrev pub told : (ℕ → ℕ) → Option ℕ → ℕ
told colour None = 9223372036854775808
told colour (Some j) = colour j

-- the colour `c` mixed with the colours of what is read, left to right
abbrev pub with_told : (ℕ → ℕ) → ℕ → Sources → ℕ
with_told colour c Nothing = c
with_told colour c (One only) = mixed c (told colour only)
with_told colour c (Two left right) = mixed (mixed c (told colour left)) (told colour right)

-- what operation s hears of a use
abbrev pub said : ℕ → ℕ → Option ℕ → ℕ
said voice s None = 0
said voice s (Some j) = if s == j then voice else 0

-- what operation s hears of a reader of colour c
abbrev pub heard_of : ℕ → ℕ → Sources → ℕ
heard_of c s Nothing = 0
heard_of c s (One only) = said (mixed c 1) s only
heard_of c s (Two left right) = said (mixed c 1) s left + said (mixed c 2) s right

-- what operation s hears of m operations from u on
abbrev pub heard : (ℕ → ℕ) → List Sources → ℕ → ℕ → ℕ → ℕ
heard colour sources s u m = sum_by (λ v. heard_of (colour v) s (sources_at sources v)) (range_with_len u m)

-- all that is read, but the start of registers, stands before place n
abbrev pub IsBelow : ℕ → Sources → Type 0
IsBelow n Nothing = ⊤
IsBelow n (One only) = IfSome only (λ j. j < n)
IsBelow n (Two left right) = IfSome left (λ j. j < n) × IfSome right (λ j. j < n)

-- each that reads earlier ones is mixed with their new colours
abbrev pub AreForwards : List Sources → List ℕ → List ℕ → Type 0
AreForwards sources old new = (k : ℕ) → k < length sources → IsBelow k (sources_at sources k)
    → slice_index new k ≡ with_told (slice_index new) (slice_index old k) (sources_at sources k)

-- each colour of `new` is the `old` one mixed with the sum of what it hears of its readers
abbrev pub AreBackwards : List Sources → List ℕ → List ℕ → Type 0
AreBackwards sources old new = (k : ℕ) → k < length sources → slice_index new k
    ≡ mixed (slice_index old k) (heard (slice_index new) sources k (k + 1) (length sources - (k + 1)) % 2 ^ 64)

-- Passes

-- each reads what stands before it
abbrev pub AreBelow : List Sources → Type 0
AreBelow sources = (k : ℕ) → k < length sources → IsBelow k (sources_at sources k)

-- operations with the sources `there` are those with the sources `here` under a pairing
pub record ReadAlike (here there : List Sources) (to from : ℕ → ℕ) : Type 0 where
  pub leads : (p : ℕ) → p < length there → to p < length here
  pub back : (p : ℕ) → p < length there → from (to p) ≡ p
  pub leads_too : (i : ℕ) → i < length here → from i < length there
  pub back_too : (i : ℕ) → i < length here → to (from i) ≡ i
  pub reads : (p : ℕ) → p < length there → by_numbers to (sources_at there p) ≡ sources_at here (to p)

-- each of n operations has the colour of the one that it is paired with
abbrev pub HaveColours : ℕ → (ℕ → ℕ) → List ℕ → List ℕ → Type 0
HaveColours n to here there = (p : ℕ) → p < n → slice_index there p ≡ slice_index here (to p)

-- where a pairing keeps the old colours, it keeps the new ones
pub record ArePassedTo (here there : List Sources) (old new : Coloured) : Type 0 where
  pub here_size : length new.here.items ≡ length here
  pub there_size : length new.there.items ≡ length there
  pub kept : AreBelow here → AreBelow there → (to from : ℕ → ℕ) → ReadAlike here there to from
      → HaveColours (length there) to old.here.items old.there.items
      → HaveColours (length there) to new.here.items new.there.items

-- what is made of colours: new ones, or none, and then no pairing keeps the old ones
abbrev pub ArePassed : List Sources → List Sources → Coloured → Option Coloured → Type 0
ArePassed here there old None = AreBelow here → AreBelow there → (to from : ℕ → ℕ) → ReadAlike here there to from
    → HaveColours (length there) to old.here.items old.there.items → ⊥
ArePassed here there old (Some new) = ArePassedTo here there old new

-- The order of issue

-- the operation at place p in this order reads what stands before it
pub record AreReadAt (ops : List ℕ) (sources : List Sources) (readings : List Reading) (p : ℕ) : Type 0 where
  pub below : IsBelow p (sources_at sources p)
  pub reads : by_numbers (slice_index ops) (sources_at sources p) ≡ (reading_at readings (slice_index ops p)).sources

-- an order of operations in which each reads what stands before it
pub record IsOrderOf (readings : List Reading) (order : IssueOrder) : Type 0 where
  pub size : length order.sources.items ≡ length order.ops.items
  pub all : length order.places.items ≡ length readings
  pub leads : LeadsBack order.ops.items order.places.items
  pub returns : LeadsBack order.places.items order.ops.items
  pub each : (p : ℕ) → p < length order.ops.items → AreReadAt order.ops.items order.sources.items readings p

-- All of it

-- a pairing that keeps the old colours keeps the new ones
pub record AreColouredAs (sides : Sides) (here there : List ℕ) (new : Coloured) : Type 0 where
  pub here_size : length new.here.items ≡ length sides.block.items
  pub there_size : length new.there.items ≡ length sides.schedule.now.ops
  pub kept : (origin partner : ℕ → ℕ) → IsUnder sides origin partner
      → HaveColours (length sides.schedule.now.ops) origin here there
      → HaveColours (length sides.schedule.now.ops) origin new.here.items new.there.items

-- no pairing keeps the colours `here` and `there`
abbrev pub AreKeptByNone : Sides → List ℕ → List ℕ → Type 0
AreKeptByNone sides here there = (origin partner : ℕ → ℕ) → IsUnder sides origin partner
    → HaveColours (length sides.schedule.now.ops) origin here there → ⊥

-- what is made of colours: new ones, or none, and then no pairing keeps the old ones
abbrev pub AreColoured : Sides → List ℕ → List ℕ → Option Coloured → Type 0
AreColoured sides here there None = AreKeptByNone sides here there
AreColoured sides here there (Some new) = AreColouredAs sides here there new

-- colours in which one operation has the colour of none but by chance
abbrev pub marked : List ℕ → ℕ → List ℕ
marked colours k = slice_set colours k 9223372036854775808

-- if operations `i` and `k` have one colour, no pairing keeps the colours in which the two have another of their own
abbrev pub IsNoPair : Sides → List ℕ → List ℕ → ℕ → ℕ → Type 0
IsNoPair sides here there i k = slice_index there k ≡ slice_index here i
    → AreKeptByNone sides (marked here i) (marked there k)

-- what is made of that: colours that a pairing of i with k keeps, or none, and then they are no pair
abbrev pub IsPairColoured : Sides → List ℕ → List ℕ → ℕ → ℕ → Option Coloured → Type 0
IsPairColoured sides here there i k None = IsNoPair sides here there i k
IsPairColoured sides here there i k (Some new) = AreColouredAs sides (marked here i) (marked there k) new
