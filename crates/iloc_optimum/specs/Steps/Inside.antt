-- Windows that fill cycles, and the other windows while the cycles are taken from them.
use Rattle.std.specs.Prelude.{ℕ, ◌≡◌, ◌≤◌, ◌&&◌, nat_le, Bool, List, length, slice_index, count_by}
use Rattle.std.specs.List.{range_with_len}
use Rattle.iloc_timed.specs.declared.kind.Kind.{Kind}
use Rattle.iloc_bound.specs.declared.share.Share.{Share}
use Rattle.iloc_optimum.specs.Timing.{belongs, FitsShares, Within}

-- whether operation i of the share has its window from a to e
abbrev pub is_inside : List Kind → List ℕ → List ℕ → Share → ℕ → ℕ → ℕ → Bool
is_inside kinds firsts lasts s a e i =
    belongs kinds s i && (nat_le a (slice_index firsts i) && nat_le (slice_index lasts i) e)

-- how many of the first `n` operations have
abbrev pub count_inside : List Kind → List ℕ → List ℕ → Share → ℕ → ℕ → ℕ → ℕ
count_inside kinds firsts lasts s a e n = count_by (is_inside kinds firsts lasts s a e) (range_with_len 0 n)

-- windows while some before `i` are narrowed
pub record IsKept (kinds : List Kind) (firsts lasts firsts' lasts' : List ℕ) (i : ℕ) : Type 0 where
  pub same_firsts : length firsts' ≡ length firsts
  pub same_lasts : length lasts' ≡ length lasts
  pub later_firsts : (k : ℕ) → i ≤ k → slice_index firsts' k ≡ slice_index firsts k
  pub later_lasts : (k : ℕ) → i ≤ k → slice_index lasts' k ≡ slice_index lasts k
  pub within : (t : ℕ → ℕ) → FitsShares kinds t → Within firsts lasts t → Within firsts' lasts' t
