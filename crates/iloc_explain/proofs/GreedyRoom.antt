-- In a greedy schedule no row has room for an operation that is ready and issued later.
use Rattle.iloc_explain.proofs.Common.{◌≡◌, ℕ, ◌+◌, ◌-◌, ◌<◌, ◌≤◌, true, ◌≢◌, List, [], ◌∷◌, ◌++◌, reverse, length, nat_le, ◌==◌, Some, None, Contains, filter, Option, sym, refl, ap, ◌∙◌, subst, inl, inr, arith, eqb-true, leb-false, reverse-append, none-some, Op, by_bool, op_at, issued_within, holds_one, holds_zero, issued_there, kind, latency, holds, issue_cycle, row_at, Latencies, MemoryRule, Row, from_append, in_filter, in_from, IsGreedyWhere, counts_by, can_go_beside, chosen_with, first_of_all, may_stand_beside, on_units, ready_under, In, Binds, HadRoom, IsPath, LeadBack, origin, span, IsReadyAt, Delay, Free}
use Rattle.iloc_rules.proofs.Choice.FirstOfAll.{first_some}
use Rattle.iloc_rules.proofs.Choice.Ready.{ready_from_where}
use Rattle.iloc_explain.specs.declared.holding.Holder.TheVariants.{Delays, Nothing}
use Rattle.iloc_explain.specs.declared.path.Stretch.{Stretch}
use Rattle.iloc_explain.specs.Holding.{clash, held_by, holder, keeper, keeper_of}
use Rattle.iloc_explain.specs.Laws.{GreedySchedulesLeaveNoRoom}
use Rattle.iloc_explain.proofs.Stretches.{binds_from}

-- a full row keeps each operation out
full_keeps : (ops : List Op) (j a b : ℕ) → keeper_of ops j (Some a) (Some b) ≢ None
full_keeps ops j a b = grind (arith, none-some)

-- an operation that can't stand beside the only one of a row is kept out by it
one_keeps : (ops : List Op) (j a : ℕ) → clash ops a j ≡ true → (keeper_of ops j (Some a) None ≢ None)
    × (keeper_of ops j None (Some a) ≢ None)
one_keeps ops j a clashes = grind (arith, none-some)

-- so does a row of an operation and of one that goes beside it, or of one beside which it can't go
units_keep : (ops : List Op) (j a : ℕ) (b : Option ℕ) → (b ≡ None → clash ops a j ≡ true)
    → keeper ops (on_units ops a b) j ≢ None
units_keep ops j a b clashes = grind (arith, full_keeps, one_keeps)

module _ (prios : List ℕ) (rule : MemoryRule) (lat : Latencies) (block ops : List Op) (rows : List Row) (greedy : IsGreedyWhere (counts_by rule ops) prios lat block ops rows) where
  -- the first of what is ready is issued in the row
  first_held : (ops : List Op) (row : Row) (a : ℕ) (b : Option ℕ) → row ≡ on_units ops a b → holds row a ≡ true
  first_held ops row a b is = grind (arith, holds_one, holds_zero)

  pub no_room : (j r b : ℕ) → j < length ops → IsReadyAt rule lat ops rows j r → r ≤ b → b < issue_cycle rows j
      → keeper ops (row_at rows b) j ≢ None
  no_room j r b known is_ready after before =
      let last : issue_cycle rows j < length rows = issued_within ops rows j known greedy.lawful.table in
      let within : b < length rows = omega arith in
      let candidates : List ℕ = ready_under rule lat ops rows b in
      let waits : In candidates j = ready_from_where (counts_by rule ops) lat ops rows b j record {
        within = known;
        waiting = omega arith;
        over = λ h d pair. let over : issue_cycle rows h + d ≤ r = is_ready.over h d pair in omega arith;
      } in
      let first = first_some prios candidates j waits in
      let a : ℕ = first.0 in
      let beside : Option ℕ = first_of_all prios (filter (can_go_beside ops a) candidates) in
      let row : row_at rows b ≡ on_units ops a beside =
      greedy.each b within ∙ ap (chosen_with ops prios candidates) first.1 in
      let held : holds (row_at rows b) a ≡ true = first_held ops (row_at rows b) a beside row in
      subst (λ there. keeper ops there j ≢ None) (sym row) (units_keep ops j a beside (λ none.
      clashing a candidates waits none (λ same.
      let at : issue_cycle rows j ≡ b =
      issued_there rows b j (greedy.lawful.table.once j known) within (subst (λ n. holds (row_at rows b) n ≡ true) same held) in
      absurd (omega arith))))
    where
      clashing : (a : ℕ) (candidates : List ℕ) → In candidates j
          → first_of_all prios (filter (can_go_beside ops a) candidates) ≡ None → (a ≡ j → ⊥) → clash ops a j ≡ true
      clashing a candidates waits none apart =
          by_bool (may_stand_beside (kind (op_at ops a)) (kind (op_at ops j)))
          (λ t. by_bool (a == j)
          (λ same. absurd (apart (eqb-true a j same)))
          (λ other.
          let test : can_go_beside ops a j ≡ true = rw (other, t) refl in
          let found = first_some prios (filter (can_go_beside ops a) candidates) j
          (in_filter (can_go_beside ops a) candidates j waits test) in
          absurd (none-some found.0 (sym none ∙ found.1))))
          (λ f. rw f refl)

  -- so nothing but its delays or an operation keeps one out of the row before
  pub held_by_some : (j r : ℕ) → j < length ops → IsReadyAt rule lat ops rows j r → holder ops rows j (issue_cycle rows j) r ≢ Nothing
  held_by_some j r known is_ready nothing = by_bool (nat_le (issue_cycle rows j) r)
      (λ t. let delays : Delays ≡ Nothing = rw t at nothing in absurd cc)
      (λ f.
      let later : r < issue_cycle rows j = leb-false (issue_cycle rows j) r f in
      no_room j r (issue_cycle rows j - 1) known is_ready (omega arith) (omega arith)
      (none_held (keeper ops (row_at rows (issue_cycle rows j - 1)) j) (rw f at nothing)))
    where
      none_held : (o : Option ℕ) → held_by o ≡ Nothing → o ≡ None
      none_held None is = refl
      none_held (Some i) is = absurd cc

  -- and no stretch that leads back is free
  none_free : (j c n : ℕ) (back : List Stretch) → j < length ops → c ≤ issue_cycle rows j → LeadBack rule lat ops rows j c back
      → In back (Free n) → ⊥
  none_free j c n [] known within leads there = there
  none_free j c n (s ∷ back) known within (binds, leads) (inl here) =
      let free : Binds rule lat ops rows j c (Free n) = subst (Binds rule lat ops rows j c) here binds in
      let had : HadRoom ops rows j free.0 c n = free.2 in
      let some : 0 < n = had.some in
      let far : free.0 + n ≤ c = had.ready in
      no_room j free.0 (c - 1) known free.1 (omega arith) (omega arith) (had.room (c - 1) (omega arith) (omega arith))
  none_free j c n (s ∷ back) known within (binds, leads) (inr later) =
      let place = binds_from rule lat ops rows j c s greedy.lawful.table known within binds in
      none_free (origin s j) (c - span s) n back place.0 place.1 leads later

in_turned : (xs : List Stretch) (s : Stretch) → In (reverse xs) s → In xs s
in_turned [] s there = there
in_turned (x ∷ xs) s there =
    let turned : reverse (x ∷ xs) ≡ reverse xs ++ x ∷ [] = reverse-append (x ∷ []) xs in
    elim (from_append (reverse xs) (x ∷ []) s (subst (λ ys. In ys s) turned there)) [
      | inl before ↦ inr (in_turned xs s before)
      | inr (inl last) ↦ inl last
      | inr (inr none) ↦ absurd none
    ]

path_has_none : (prios : List ℕ) (rule : MemoryRule) (lat : Latencies) (block ops : List Op) (rows : List Row) (path : List Stretch) (n : ℕ)
    → IsGreedyWhere (counts_by rule ops) prios lat block ops rows → IsPath rule lat ops rows path → Contains path (Free n) → ⊥
path_has_none prios rule lat block [] rows path n greedy is there =
    let none : In [] (Free n) = subst (λ xs. In xs (Free n)) is (in_from path (Free n) there) in none
path_has_none prios rule lat block (op ∷ ops) rows path n greedy (j, back, last, leads, turned) there =
    let inside : In (reverse (Delay j (latency lat (op_at (op ∷ ops) j)) ∷ back)) (Free n) =
    subst (λ xs. In xs (Free n)) turned (in_from path (Free n) there) in
    elim (in_turned (Delay j (latency lat (op_at (op ∷ ops) j)) ∷ back) (Free n) inside) [
      | inl same ↦ absurd cc
      | inr before ↦ none_free prios rule lat block (op ∷ ops) rows greedy j (issue_cycle rows j) n back last.known (omega arith) leads before
    ]

pub greedy_leaves_none : GreedySchedulesLeaveNoRoom
greedy_leaves_none = record {
  held = λ prios rule lat block ops rows greedy. held_by_some prios rule lat block ops rows greedy;
  path = λ prios rule lat block ops rows path greedy is n. path_has_none prios rule lat block ops rows path n greedy is;
}
