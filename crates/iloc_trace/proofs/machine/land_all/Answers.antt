use Rattle.iloc_trace.proofs.Common.{◌≡◌, ℕ, ◌+◌, ◌<◌, true, false, List, [], ◌∷◌, ◌++◌, length, get_or, take, ℤ, pos, IsTrue, ◌==◌, fold, refl, ap, ◌∙◌, append_assoc, append-nil, arith, eq-eqb, ne_eqb, filter_more, fold_push, Reg, is_good, word_at, value_of, Place, Register, Word}
use Rattle.iloc_trace.specs.declared.under_way.Arrival.{Arrival}
use Rattle.iloc_trace.specs.Steps.Arrivals.{due_now, IsGood, arrival_line, arrival_lines, arrived_in}
use Rattle.iloc_trace.specs.Places.{value_at}
use Rattle.iloc_trace.proofs.machine.land_all.Goals as goal
use Rattle.iloc_trace.proofs.machine.land_all.Goals.{then-arrival-cycle+in_ok-land_one, else-arrival-cycle}

-- Results that arrive one after the other.

-- one more arrives
arrival_lines_more : (c : ℕ) (value : Place → ℤ) (due : List Arrival) (a : Arrival)
    → arrival_lines c value (due ++ a ∷ [])
    ≡ arrival_lines c value due ++ arrival_line c a (fold (arrived_in a.place) (value a.place) due)
arrival_lines_more c value [] a = append-nil (arrival_line c a (value a.place))
arrival_lines_more c value (b ∷ due) a = grind (arith, append_assoc, arrival_lines_more c (λ place. arrived_in place (value place) b) due a)

-- the next is due now, or it isn't
due_now_more : (c i : ℕ) (coming : List Arrival) (a d : Arrival) → i < length coming → get_or coming i d ≡ a
    → (a.due == c) ≡ true → due_now c (take (i + 1) coming) ≡ due_now c (take i coming) ++ a ∷ []
due_now_more c i coming a d within is now = filter_more (λ (b : Arrival). b.due == c) coming i d within ∙ rw (is, now) refl

due_now_same : (c i : ℕ) (coming : List Arrival) (a d : Arrival) → i < length coming → get_or coming i d ≡ a
    → (a.due == c) ≡ false → due_now c (take (i + 1) coming) ≡ due_now c (take i coming)
due_now_same c i coming a d within is later =
    filter_more (λ (b : Arrival). b.due == c) coming i d within ∙ rw (is, later) (append-nil (due_now c (take i coming)))

-- what is read before an item
abbrev no_arrival : Arrival
no_arrival = record { place = Register (record { 0 = 0 }); value = pos 0; due = 0; issued = 0 }

-- what is in a place, once these have arrived
place_then : (place : Place) (reg reg' : Reg → ℤ) (word word' : ℕ → ℤ) (due : List Arrival) → IsGood place
    → ((r : Reg) → reg' r ≡ fold (arrived_in (Register r)) (reg r) due)
    → ((a : ℕ) → IsTrue (is_good (pos a)) → word' a ≡ fold (arrived_in (Word a)) (word a) due)
    → value_at reg' word' place ≡ fold (arrived_in place) (value_at reg word place) due
place_then (Register r) reg reg' word word' due good regs words = regs r
place_then (Word a) reg reg' word word' due good regs words = words a good

-- one more is listed
listed_more : (c : ℕ) (value : Place → ℤ) (due more : List Arrival) (a : Arrival) (was : ℤ) (first text then : List ℕ)
    → text ≡ first ++ arrival_lines c value due → then ≡ text ++ arrival_line c a was → more ≡ due ++ a ∷ []
    → was ≡ fold (arrived_in a.place) (value a.place) due → then ≡ first ++ arrival_lines c value more
listed_more c value due more a was first text then so_far next is there = grind (arith, append_assoc, arrival_lines_more)

-- and has arrived
arrived_more : (place : Place) (due more : List Arrival) (a : Arrival) (before value then : ℤ)
    → value ≡ fold (arrived_in place) before due → then ≡ arrived_in place value a → more ≡ due ++ a ∷ []
    → then ≡ fold (arrived_in place) before more
arrived_more place due more a before value then so_far next is = grind (arith, fold_push)

pub loop-arrival-preserved : goal.loop-arrival-preserved
loop-arrival-preserved c =
    let cycle = c.args.cycle in
    let i = c.loop-arrival.arrival-index in
    let coming = c.args.coming.now in
    let a : Arrival = get_or coming i no_arrival in
    let within : i < length coming = omega arith in
    elim c.if-arrival-cycle.branch [
      | then-arrival-cycle+in_ok-land_one w ↦
          let now : (a.due == cycle) ≡ true = eq-eqb a.due cycle w.if-arrival-cycle.true in
          let more : due_now cycle (take (i + 1) coming) ≡ due_now cycle (take i coming) ++ a ∷ [] =
          due_now_more cycle i coming a no_arrival within refl now in
          let there = place_then a.place (value_of c.args.registers.now) (value_of c.loop-arrival.registers)
          (word_at c.args.memory.now.words) (word_at c.loop-arrival.memory.words) (due_now cycle (take i coming))
          (c.requires i no_arrival within) c.loop-arrival.invariant.registers c.loop-arrival.invariant.words in
          record {
            first = ap (λ m. m.first) w.memory-is ∙ w.land_one.ensures.first ∙ c.loop-arrival.invariant.first;
            lists = ap (λ t. t.items) w.text-is
                ∙ listed_more cycle _ _ _ a _ _ _ _ c.loop-arrival.invariant.lists w.in_ok-land_one.ensures.lists more there;
            registers = λ r. ap (λ m. value_of m r) w.registers-is
                ∙ arrived_more (Register r) _ _ a _ _ _ (c.loop-arrival.invariant.registers r)
                (w.in_ok-land_one.ensures.registers r) more;
            words = λ n good. ap (λ m. word_at m.words n) w.memory-is
                ∙ arrived_more (Word n) _ _ a _ _ _ (c.loop-arrival.invariant.words n good)
                (w.in_ok-land_one.ensures.words n good) more;
          }
      | else-arrival-cycle w ↦
          let later : (a.due == cycle) ≡ false = ne_eqb a.due cycle w.if-arrival-cycle.false in
          let same : due_now cycle (take (i + 1) coming) ≡ due_now cycle (take i coming) =
          due_now_same cycle i coming a no_arrival within refl later in
          rw (same, w.text-is, w.registers-is, w.memory-is) c.loop-arrival.invariant
    ]
