-- The registers' values: those of a table by place, and behind it the entries of an ordered map.
use Rattle.std.proofs.Common.{◌≡◌, ℕ, zero, suc, ◌+◌, ◌<◌, ◌≤◌, ℤ, cond, false, List, [], ◌∷◌, ◌++◌, length, get_or, take, replicate, set, Some, unwrap_or, pos, arith, refl, ap, ne_eqb, eq-eqb, length-set, get_or-set_same, get_or-set_other}
use Rattle.std.proofs.lemmas.Bool.{cases_lt}
use Rattle.std.proofs.lemmas.List.{get_or_past, take_all}
use Rattle.std.specs.List.{enumerate_from}
use Rattle.std.specs.Ordering.{nat_cmp, eq_by_cmp}
use Rattle.std.specs.Cmp.{nat_cmp_total, unsigned_tied}
use Rattle.std.specs.Map.{lookup}
use Rattle.std.specs.FinMap.{find, get-from_entries}
use Rattle.iloc_ops.specs.declared.op.Reg.{Reg}
use Rattle.iloc_meaning.specs.Registers.{value_of, ChangesOnly}
use Rattle.iloc_meaning.specs.Steps.Table.{values}

find_is_lookup : (n : ℕ) (entries : List (ℕ × ℤ)) → find nat_cmp n entries ≡ lookup (eq_by_cmp nat_cmp n) entries
find_is_lookup n [] = refl
find_is_lookup n (e ∷ entries) = ap (cond (eq_by_cmp nat_cmp n e.0) (Some e.1)) (find_is_lookup n entries)

-- a number finds its place in a table whose places are numbered from k on
find_table : (k i n : ℕ) (table : List ℤ) (others : List (ℕ × ℤ)) → n ≡ k + i → i < length table
    → find nat_cmp n (enumerate_from k table ++ others) ≡ Some (get_or table i (pos 0))
find_table k i n [] others is below = absurd (omega arith)
find_table k zero n (v ∷ table) others is below = grind (arith, unsigned_tied, eq-eqb)
find_table k (suc i) n (v ∷ table) others is below = grind (arith, unsigned_tied, ne_eqb, find_table (k + 1) i n table others)

-- a number past the table is looked for behind it
find_past : (k n : ℕ) (table : List ℤ) (others : List (ℕ × ℤ)) → k + length table ≤ n
    → find nat_cmp n (enumerate_from k table ++ others) ≡ find nat_cmp n others
find_past k n [] others past = refl
find_past k n (v ∷ table) others past = grind (arith, unsigned_tied, ne_eqb, find_past (k + 1) n table others)

-- the value of a register with a place in the table
pub value_of-table : (table : List ℤ) (others : List (ℕ × ℤ)) (r : Reg) → r.0 < length table
    → value_of (values table others) r ≡ get_or table r.0 (pos 0)
unfolding value_of
value_of-table table others r below = grind (arith, get-from_entries, nat_cmp_total, find_table)

-- the value of any other register
pub value_of-others : (table : List ℤ) (others : List (ℕ × ℤ)) (r : Reg) → length table ≤ r.0
    → value_of (values table others) r ≡ unwrap_or (lookup (eq_by_cmp nat_cmp r.0) others) (pos 0)
unfolding value_of
value_of-others table others r past = grind (arith, get-from_entries, nat_cmp_total, find_past, find_is_lookup)

-- where there is no other entry, the table has every value
pub value_of-alone : (table : List ℤ) (others : List (ℕ × ℤ)) (r : Reg) → others ≡ []
    → value_of (values table others) r ≡ get_or table r.0 (pos 0)
value_of-alone table others r none = grind (arith, cases_lt, value_of-table, value_of-others, get_or_past)

-- a write to a place of the table
pub set_in_table : (table : List ℤ) (others : List (ℕ × ℤ)) (r : Reg) (value : ℤ) → r.0 < length table
    → ChangesOnly (values table others) (values (set table r.0 value) others) r value
set_in_table table others r value below =
    grind (arith, length-set, value_of-table, get_or-set_same, cases_lt, get_or-set_other, value_of-others)

-- where the entry of one number past the table is set, the others stay
pub set_in_others : (table : List ℤ) (old new : List (ℕ × ℤ)) (r : Reg) (value : ℤ) → length table ≤ r.0
    → lookup (eq_by_cmp nat_cmp r.0) new ≡ Some value
    → ((n : ℕ) → eq_by_cmp nat_cmp r.0 n ≡ false → lookup (eq_by_cmp nat_cmp n) new ≡ lookup (eq_by_cmp nat_cmp n) old)
    → ChangesOnly (values table old) (values table new) r value
set_in_others table old new r value beyond set stay =
    grind (arith, value_of-others, cases_lt, value_of-table, unsigned_tied, ne_eqb)

-- zeros behind a table change no value
pub get_or-padded : (table : List ℤ) (count n : ℕ)
    → get_or (table ++ replicate count (pos 0)) n (pos 0) ≡ get_or table n (pos 0)
get_or-padded [] zero n = refl
get_or-padded [] (suc count) zero = refl
get_or-padded [] (suc count) (suc n) = get_or-padded [] count n
get_or-padded (v ∷ table) count zero = refl
get_or-padded (v ∷ table) count (suc n) = get_or-padded table count n

-- a write to a place that the table gets, where there is no other entry
pub set_in_longer : (table longer : List ℤ) (others : List (ℕ × ℤ)) (size count : ℕ) (r : Reg) (value : ℤ) → others ≡ []
    → longer ≡ take size table ++ replicate count (pos 0) → length table ≤ size → r.0 < length longer
    → ChangesOnly (values table others) (values (set longer r.0 value) others) r value
set_in_longer table longer others size count r value none padded fits below =
    grind (arith, value_of-alone, get_or-set_same, get_or-set_other, take_all, get_or-padded)
