-- How far a schedule is, and what waits for what.
use Rattle.std.specs.Prelude.{ℕ, zero, suc, ◌+◌, ◌-◌, ◌%◌, ◌≡◌, ◌<◌, ◌≤◌, ◌⊎◌, List, length, Option, Some, None, Bool, true, false, if◌then◌else◌}
use Rattle.iloc_timed.specs.declared.row.Row.{Row}
use Rattle.iloc_timed.specs.Rows.{issue_cycle}
use Rattle.iloc_sched.specs.Steps.Graph.{Graph}

-- by operation the cycle at which it was issued, how many edges into it are unmet, and the earliest cycle by the others;
-- by cycle modulo 32 whether it becomes ready then
pub record Progress : Type 0 where
  pub issued : ℕ → Option ℕ
  pub unmet : ℕ → ℕ
  pub earliest : ℕ → ℕ
  pub bucket : ℕ → ℕ → Bool

abbrev pub UpTo : Option ℕ → ℕ → Type 0
UpTo None x = ⊥
UpTo (Some y) x = x ≤ y

abbrev pub one_if : Bool → ℕ
one_if b = if b then 1 else 0

-- how many of n numbers from a on pass
abbrev pub count_from : (ℕ → Bool) → ℕ → ℕ → ℕ
count_from test a zero = 0
count_from test a (suc n) = count_from test a n + one_if (test (a + n))

-- All that was issued was issued before cycle f, and the buckets have what becomes ready from f on. An edge is unmet
-- whose source is not issued; but while the edges out of i are gone through, those up to `at` are unmet still.
pub record Waits (graph : Graph) (w : Progress) (f i : ℕ) (at : Option ℕ) : Type 0 where
  pub is_unmet : ℕ → Bool
  pub unmet : (j : ℕ) → j < graph.ops → w.unmet j ≡ count_from is_unmet (graph.start j) (graph.start (j + 1) - graph.start j)
  pub ahead : (x : ℕ) → x < graph.count → graph.from x ≡ i → UpTo at x → is_unmet x ≡ true
  pub stuck : (x : ℕ) → x < graph.count → is_unmet x ≡ true → (w.issued (graph.from x) ≡ None) ⊎ ((graph.from x ≡ i) × UpTo at x)
  pub past : (x : ℕ) → x < graph.count → is_unmet x ≡ false → (u : ℕ) × (w.issued (graph.from x) ≡ Some u) × (u + graph.delay x ≤ w.earliest (graph.to x))
  pub reached : (j : ℕ) → j < graph.ops → (w.earliest j ≡ 0) ⊎ ((x : ℕ) × (u : ℕ) × (x < graph.count) × (graph.to x ≡ j) × (w.issued (graph.from x) ≡ Some u) × (w.earliest j ≡ u + graph.delay x))
  pub complete : (j t : ℕ) → j < graph.ops → w.issued j ≡ Some t → w.unmet j ≡ 0
  pub times : (j t : ℕ) → j < graph.ops → w.issued j ≡ Some t → t < f
  pub waits : (j : ℕ) → j < graph.ops → w.issued j ≡ None → w.unmet j ≡ 0 → f ≤ w.earliest j → w.bucket (w.earliest j % 32) j ≡ true
  pub only : (b j : ℕ) → b < 32 → j < graph.ops → w.bucket b j ≡ true → (w.issued j ≡ None) × (w.unmet j ≡ 0) × (f ≤ w.earliest j) × (w.earliest j % 32 ≡ b)

-- operation j can be issued at a cycle from f - 1 on: what it waits for is over before cycle f
pub record CanIssue (graph : Graph) (w : Progress) (f j : ℕ) : Type 0 where
  pub there : j < graph.ops
  pub waiting : w.issued j ≡ None
  pub past_all : w.unmet j ≡ 0
  pub soon : w.earliest j < f

-- what was issued, of n operations, stands in the rows so far
pub record MatchesRows (n : ℕ) (rows : List Row) (issued : ℕ → Option ℕ) : Type 0 where
  pub done : (j t : ℕ) → j < n → issued j ≡ Some t → (issue_cycle rows j ≡ t) × (t < length rows)
  pub waiting : (j : ℕ) → j < n → issued j ≡ None → length rows ≤ issue_cycle rows j

-- the edges out of an operation that is issued at cycle c are gone through, and `at` is the next, if there is one
abbrev pub Walks : Graph → Progress → ℕ → Option ℕ → Type 0
Walks graph w c None = Waits graph w (c + 1) 0 None
Walks graph w c (Some x) =
    (x < graph.count) × (w.issued (graph.from x) ≡ Some c) × Waits graph w (c + 1) (graph.from x) (Some x)

-- the edge before it, if there is one
abbrev pub previous_of : Graph → Option ℕ → Option ℕ
previous_of graph None = None
previous_of graph (Some x) = graph.previous x

-- an operation that waits for nothing more keeps its place
abbrev pub KeepsPlaces : Progress → Progress → Type 0
KeepsPlaces w w' = (j : ℕ) → w.unmet j ≡ 0 → (w'.unmet j ≡ 0) × (w'.earliest j ≡ w.earliest j)

-- how many edges there are at most up to `at`
abbrev pub edges_left : Option ℕ → ℕ
edges_left None = 0
edges_left (Some x) = x + 1
