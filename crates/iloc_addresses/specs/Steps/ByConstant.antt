-- Operations by a constant.
use Rattle.std.specs.Prelude.{ℕ, ◌≡◌, ◌+◌, Bool, List, [], ◌++◌, ℤ, count_by}
use Rattle.std.specs.List.{sum_by}
use Rattle.std.specs.Option.{option_map_or}
use Rattle.std.specs.Ordering.{int_cmp}
use Rattle.std.specs.BTreeMap.{get, values}
use Rattle.iloc_rules.specs.Steps.Members.{In}
use Rattle.iloc_addresses.specs.declared.dependences.by_constant.ByConstant.{ByConstant}

-- the operations at a constant
abbrev pub ops_at : ByConstant → ℤ → List ℕ
ops_at by c = option_map_or (λ ops. ops.items) (get int_cmp by.ops c) []

-- how many operations pass a test
abbrev pub count_in : (ℕ → Bool) → ByConstant → ℕ
count_in test by = sum_by (λ ops. count_by test ops.items) (values by.ops)

-- some operations are at the end of a list now
pub record Moves (old new : ByConstant) (list list' : List ℕ) : Type 0 where
  pub moved : List ℕ
  pub behind : list' ≡ list ++ moved
  pub were : (i : ℕ) → In moved i → (c : ℤ) × In (ops_at old c) i
  pub count : (test : ℕ → Bool) → count_by test moved + count_in test new ≡ count_in test old
