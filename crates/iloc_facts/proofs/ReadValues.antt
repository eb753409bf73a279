-- The value in a register is the result of the operation that is read.
use Rattle.iloc_facts.proofs.Common.{◌≡◌, ℕ, zero, suc, Bool, true, false, ◌⊎◌, List, [], ◌∷◌, ◌++◌, map, ℤ, nat_lt, nat_le, Some, None, fold, filter, Option, option_map, option_to_list, sym, refl, ap, ◌∙◌, inl, inr, append_assoc, append-nil, arith, fold-append, defined, Op, Reg, by_bool, Executed, defines, is_register, op_at, result_or_zero, IsTable, row_at, Issued, last_due, later, register_in, Latencies, Row, from_filter, numbers_before, In, arrived, defining, due, issued_before, last_of, read}
use Rattle.std.proofs.lemmas.List.Elements.{filter-append}
use Rattle.iloc_timed.specs.Timed as timed
use Rattle.iloc_facts.proofs.Issues.{issued_at, log_is}

module _ (e : ℕ → Issued) (test : Executed → Bool) (n : ℕ) where
  -- of these numbers, in the order of issue, the one that arrives last by cycle n
  abbrev pub picked : List ℕ → Option ℕ
  picked js = fold (last_of (λ k. (e k).due)) None
      (filter (λ k. nat_le (e k).due n) (filter (λ k. test (e k).executed) js))

  -- the same of a log that begins with the latest
  abbrev pub in_log : List ℕ → Option Issued
  in_log ks = last_due (filter (λ (x : Issued). test x.executed) (filter (λ (x : Issued). nat_le x.due n) (map e ks)))

  later_mapped : (k : ℕ) (o : Option ℕ) → Some (later (e k) (option_map e o)) ≡ option_map e (last_of (λ j. (e j).due) o k)
  later_mapped k None = refl
  later_mapped k (Some j) = by_bool (nat_lt (e k).due (e j).due) (λ t. rw t refl) (λ t. rw t refl)

  picked_tested : (k : ℕ) (js : List ℕ) → test (e k).executed ≡ true → picked (js ++ k ∷ [])
      ≡ fold (last_of (λ j. (e j).due)) (picked js) (filter (λ j. nat_le (e j).due n) (k ∷ []))
  picked_tested k js is = grind (arith, filter-append, fold-append)

  picked_untested : (k : ℕ) (js : List ℕ) → test (e k).executed ≡ false → picked (js ++ k ∷ []) ≡ picked js
  picked_untested k js is = grind (arith, append-nil, filter-append)

  agree_more : (k : ℕ) (ks js : List ℕ) → in_log ks ≡ option_map e (picked js)
      → in_log (k ∷ ks) ≡ option_map e (picked (js ++ k ∷ []))
  agree_more k ks js before = grind (arith, later_mapped, picked_tested, picked_untested)

  agree_row : (zero one : Option ℕ) (ks js : List ℕ) → in_log ks ≡ option_map e (picked js)
      → in_log ((option_to_list one ++ option_to_list zero) ++ ks)
      ≡ option_map e (picked (js ++ (option_to_list zero ++ option_to_list one)))
  agree_row None None ks js before = before ∙ ap (λ xs. option_map e (picked xs)) (sym (append-nil js))
  agree_row (Some z) None ks js before = agree_more z ks js before
  agree_row None (Some o) ks js before = agree_more o ks js before
  agree_row (Some z) (Some o) ks js before =
      agree_more o (z ∷ ks) (js ++ z ∷ []) (agree_more z ks js before)
      ∙ ap (λ xs. option_map e (picked xs)) (append_assoc js (z ∷ []) (o ∷ []))

  pub agree : (rows : List Row) (c : ℕ) → in_log (numbers_before rows c) ≡ option_map e (picked (issued_before rows c))
  agree rows zero = refl
  agree rows (suc c) = agree_row (row_at rows c).zero (row_at rows c).one (numbers_before rows c) (issued_before rows c)
      (agree rows c)

-- the value that an operation gave, 0 where there is none
abbrev pub value_of : (ℕ → Issued) → Option ℕ → ℤ
value_of e o = result_or_zero (option_map (λ k. (e k).executed) o)

pub value_mapped : (e : ℕ → Issued) (o : Option ℕ)
    → result_or_zero (option_map (λ (x : Issued). x.executed) (option_map e o)) ≡ value_of e o
value_mapped e None = refl
value_mapped e (Some k) = refl

read_value : (lat : Latencies) (ops : List Op) (rows : List Row) (memory : List ℤ) (c n : ℕ) (r : Reg)
    → register_in (timed.arrived n (map (issued_at lat ops rows memory) (numbers_before rows c))) r
    ≡ value_of (issued_at lat ops rows memory)
    (fold (last_of (due lat ops rows)) None (arrived (due lat ops rows) n (defining ops r (issued_before rows c))))
unfolding issued_at
read_value lat ops rows memory c n r =
    ap (λ o. result_or_zero (option_map (λ (x : Issued). x.executed) o))
    (agree (issued_at lat ops rows memory) (defines r) n rows c)
    ∙ value_mapped (issued_at lat ops rows memory) _

pub register_is_read : (lat : Latencies) (ops : List Op) (rows : List Row) (memory : List ℤ) → IsTable ops rows → (c : ℕ)
    (r : Reg) → register_in (timed.arrived c (timed.issued_before lat memory ops rows c)) r
    ≡ value_of (issued_at lat ops rows memory) (read lat ops rows c r)
register_is_read lat ops rows memory table c r = grind (arith, log_is, read_value)

-- what is found stands in the list, or was there before
found_in : (due : ℕ → ℕ) (o : Option ℕ) (ks : List ℕ) (k : ℕ) → fold (last_of due) o ks ≡ Some k → (o ≡ Some k) ⊎ In ks k
found_in due o [] k is = inl is
found_in due o (j ∷ ks) k is = grind (arith, found_in due (last_of due o j) ks k is)

pub record IsReadIn (lat : Latencies) (ops : List Op) (rows : List Row) (c : ℕ) (r : Reg) (k : ℕ) : Type 0 where
  pub issued : In (issued_before rows c) k
  pub defines : is_register r (defined (op_at ops k)) ≡ true
  pub over : nat_le (due lat ops rows k) c ≡ true

pub read_in : (lat : Latencies) (ops : List Op) (rows : List Row) (c : ℕ) (r : Reg) (k : ℕ)
    → read lat ops rows c r ≡ Some k → IsReadIn lat ops rows c r k
read_in lat ops rows c r k is = elim (found_in (due lat ops rows) None _ k is) [
  | inl none ↦ absurd (let no : None ≡ Some k = none in cc)
  | inr there ↦
      let over = from_filter (λ j. nat_le (due lat ops rows j) c) (defining ops r (issued_before rows c)) k there in
      let both = from_filter (λ j. is_register r (defined (op_at ops j))) (issued_before rows c) k over.0 in
      record { issued = both.0; defines = both.1; over = over.1 }
]

again : (due : ℕ → ℕ) (j k : ℕ) → k ≡ j → last_of due (Some j) k ≡ Some j
again due j k same = by_bool (nat_lt (due k) (due j)) (λ t. rw t refl) (λ t. rw t (ap Some same))

stays : (due : ℕ → ℕ) (j : ℕ) (ks : List ℕ) → ((k : ℕ) → In ks k → k ≡ j) → fold (last_of due) (Some j) ks ≡ Some j
stays due j [] only = refl
stays due j (k ∷ ks) only =
    ap (λ o. fold (last_of due) o ks) (again due j k (only k (inl refl)))
    ∙ stays due j ks (λ i there. only i (inr there))

-- where one alone is in the list, that is found
pub only_one : (due : ℕ → ℕ) (j : ℕ) (ks : List ℕ) → In ks j → ((k : ℕ) → In ks k → k ≡ j)
    → fold (last_of due) None ks ≡ Some j
only_one due j [] there only = absurd there
only_one due j (k ∷ ks) there only =
    ap (λ (i : ℕ). fold (last_of due) (Some i) ks) (only k (inl refl))
    ∙ stays due j ks (λ i inside. only i (inr inside))
