-- What becomes ready in each cycle, and what is ready, by rank.
use Rattle.std.specs.Prelude.{ℕ, ◌+◌, ◌*◌, ◌/◌, ◌≡◌, ◌≢◌, ◌<◌, ◌≤◌, ◌==◌, ◌&&◌, ◌||◌, not, Bool, true, false, length, Option, Some, None}
use Rattle.iloc_sched.specs.declared.cycle.class.Class.{Class}
use Rattle.iloc_sched.specs.declared.cycle.calendar.Calendar.{Calendar}
use Rattle.iloc_sched.specs.Steps.Cycle.Classes.{place_of}
use Rattle.iloc_sched.specs.Steps.Cycle.RankSets.{rank_bit}

-- whether rank r is in set s: in a bucket below 32, ready in set 32, kept out by the class at place k in set 33 + k
abbrev pub has : Calendar → ℕ → ℕ → Bool
has c s r = rank_bit c.words.items s r == 1

-- whether rank r is ready and can go beside an operation of a class
abbrev pub offers : Calendar → Class → ℕ → Bool
offers c beside r = has c 32 r && not (has c (33 + place_of beside) r)

-- the lowest rank that passes, if there is one
abbrev pub IsFirst : (ℕ → Bool) → Option ℕ → Type 0
IsFirst passes None = (r : ℕ) → passes r ≡ false
IsFirst passes (Some first) = (passes first ≡ true) × ((r : ℕ) → r < first → passes r ≡ false)

-- each set has a place for rank r
pub record IsWithin (c : Calendar) (r : ℕ) : Type 0 where
  pub word : r / 64 * 37 + 37 ≤ length c.words.items
  pub block : c.blocks ≢ 0 → r / 4096 < c.blocks

-- there is room for the ranks below n
pub record HasRoom (c : Calendar) (n : ℕ) : Type 0 where
  pub ranks : (r : ℕ) → r < n → IsWithin c r
  pub first : 37 ≤ length c.words.items
  pub blocks : (b : ℕ) → b < c.blocks → b * 64 * 37 + 37 ≤ length c.words.items

-- the room is as it was
pub record KeepsRoom (c c' : Calendar) : Type 0 where
  pub words : length c'.words.items ≡ length c.words.items
  pub blocks : c'.blocks ≡ c.blocks

-- sets and room are as they were
pub record HasSameSets (c c' : Calendar) : Type 0 where
  pub words : c'.words.items ≡ c.words.items
  pub blocks : c'.blocks ≡ c.blocks

-- whether rank k is in set s is now b, and nothing else changed
pub record Puts (c c' : Calendar) (s k : ℕ) (b : Bool) : Type 0 where
  pub here : has c' s k ≡ b
  pub others : (t r : ℕ) → t < 37 → (t ≡ s → r ≡ k → ⊥) → has c' t r ≡ has c t r

-- what was in bucket b is ready now, and nothing else changed
pub record Releases (c c' : Calendar) (b : ℕ) : Type 0 where
  pub union : (r : ℕ) → has c' 32 r ≡ (has c 32 r || has c b r)
  pub empty : (r : ℕ) → has c' b r ≡ false
  pub others : (s r : ℕ) → s < 37 → s ≢ 32 → s ≢ b → has c' s r ≡ has c s r

-- the rank that is taken, if there is one, isn't ready any more, and nothing else changed
abbrev pub Takes : Calendar → Calendar → Option ℕ → Type 0
Takes c c' None = HasSameSets c c'
Takes c c' (Some r) = Puts c c' 32 r false × KeepsRoom c c'
