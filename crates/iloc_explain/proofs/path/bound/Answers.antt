use Rattle.iloc_explain.proofs.Common.{◌≡◌, ◌-◌, ◌<◌, length, MatchOption, sym, subst, inl, inr, arith, issued_within, one_known, zero_known, issue_cycle, Begins, Binds}
use Rattle.iloc_explain.proofs.Bindings.{delay_binds, explained_read, first_known, none_first}
use Rattle.iloc_explain.proofs.path.bound.Goals as goal

pub returns-then-cycle-own : goal.returns-then-cycle-own
returns-then-cycle-own c = λ prios rule lat are.
    inr (
      _,
      (explained_read prios rule lat c.args.schedule.now.ops c.args.schedule.now.rows c.args.explained.now are c.args.j
          c.index-explained-j.result c.requires.known c.index-explained-j.is).ready,
      c.if-cycle-own.true,
    )

pub returns-in_err-i : goal.returns-in_err-i
returns-in_err-i c = λ prios rule lat are.
    let start : c.args.cycle ≡ 0 = none_first prios rule lat c.args.schedule.now.ops c.args.schedule.now.rows c.args.explained.now are
    c.args.j c.args.cycle c.index-explained-j.result c.ops-ops.ensures.table c.requires.known c.index-explained-j.is c.if-cycle-own-2.true
    (rw c.deref.ensures.value at c.in_err-i.ensures.value) in
    subst (λ o. MatchOption o (Begins rule lat c.args.schedule.now.ops c.args.schedule.now.rows c.args.j c.args.cycle)
    (Binds rule lat c.args.schedule.now.ops c.args.schedule.now.rows c.args.j c.args.cycle)) (sym c.from_residual.ensures) (inl start)

pub bounds-explained-i : goal.bounds-explained-i
bounds-explained-i c =
    (first_known c.requires.explained.0 c.requires.explained.1 c.requires.explained.2 c.args.schedule.now.ops c.args.schedule.now.rows c.args.explained.now
    c.requires.explained.3 c.args.j c.args.cycle c.in_ok-i.field-0.now c.index-explained-j.result c.requires.known c.index-explained-j.is c.if-cycle-own-2.true
    (rw c.deref.ensures.value at c.in_ok-i.ensures.value)).0

pub bounds-explained-i-in_ok-i : goal.bounds-explained-i-in_ok-i
bounds-explained-i-in_ok-i c =
    (first_known c.requires.explained.0 c.requires.explained.1 c.requires.explained.2 c.args.schedule.now.ops c.args.schedule.now.rows c.args.explained.now
    c.requires.explained.3 c.args.j c.args.cycle c.in_ok-i.field-0.now c.index-explained-j.result c.requires.known c.index-explained-j.is c.if-cycle-own-2.true
    (rw c.deref.ensures.value at c.in_ok-i.ensures.value)).0

pub offset_bounds-explained-i : goal.offset_bounds-explained-i
offset_bounds-explained-i c =
    let within : c.in_ok-i.field-0.now < length c.args.explained.now =
    (first_known c.requires.explained.0 c.requires.explained.1 c.requires.explained.2 c.args.schedule.now.ops c.args.schedule.now.rows c.args.explained.now
    c.requires.explained.3 c.args.j c.args.cycle c.in_ok-i.field-0.now c.index-explained-j.result c.requires.known c.index-explained-j.is c.if-cycle-own-2.true
    (rw c.deref.ensures.value at c.in_ok-i.ensures.value)).0 in
    omega arith

pub overflow_sub-result : goal.overflow_sub-result
overflow_sub-result c =
    (delay_binds c.requires.explained.0 c.requires.explained.1 c.requires.explained.2 c.args.schedule.now.ops c.args.schedule.now.rows c.args.explained.now
    c.requires.explained.3 c.args.j c.args.cycle c.in_ok-i.field-0.now c.index-explained-j.result c.index-explained-i.result c.requires.known
    c.index-explained-j.is c.if-cycle-own-2.true (rw c.deref.ensures.value at c.in_ok-i.ensures.value)).0

pub returns-then-cycle-own-2 : goal.returns-then-cycle-own-2
returns-then-cycle-own-2 c = λ prios rule lat are.
    (delay_binds prios rule lat c.args.schedule.now.ops c.args.schedule.now.rows c.args.explained.now are c.args.j c.args.cycle
    c.in_ok-i.field-0.now c.index-explained-j.result c.index-explained-i.result c.requires.known c.index-explained-j.is c.if-cycle-own-2.true
    (rw c.deref.ensures.value at c.in_ok-i.ensures.value)).1

pub offset_bounds-rows-cycle : goal.offset_bounds-rows-cycle
offset_bounds-rows-cycle c =
    let within : issue_cycle c.args.schedule.now.rows c.args.j < length c.args.schedule.now.rows =
    issued_within c.args.schedule.now.ops c.args.schedule.now.rows c.args.j c.requires.known c.ops-ops.ensures.table in
    omega (arith, c.rows.ensures.few)

pub bounds-rows-cycle : goal.bounds-rows-cycle
bounds-rows-cycle c =
    let within : issue_cycle c.args.schedule.now.rows c.args.j < length c.args.schedule.now.rows =
    issued_within c.args.schedule.now.ops c.args.schedule.now.rows c.args.j c.requires.known c.ops-ops.ensures.table in
    rw c.rows.ensures.rows (omega arith)

pub keeper-requires-clause-zero : goal.keeper-requires-clause-zero
keeper-requires-clause-zero c =
    rw (c.rows.ensures.rows, c.ops-ops.ensures.ops) (zero_known _ _ (c.args.cycle - 1) c.ops-ops.ensures.table)

pub keeper-requires-clause-one : goal.keeper-requires-clause-one
keeper-requires-clause-one c =
    rw (c.rows.ensures.rows, c.ops-ops.ensures.ops) (one_known _ _ (c.args.cycle - 1) c.ops-ops.ensures.table)

pub rows_with_room-requires-clause-within : goal.rows_with_room-requires-clause-within
rows_with_room-requires-clause-within c =
    let within : issue_cycle c.args.schedule.now.rows c.args.j < length c.args.schedule.now.rows =
    issued_within c.args.schedule.now.ops c.args.schedule.now.rows c.args.j c.requires.known c.ops-ops.ensures.table in
    omega arith

pub returns-in-Some : goal.returns-in-Some
returns-in-Some c = λ prios rule lat are. (
  _,
  (explained_read prios rule lat c.args.schedule.now.ops c.args.schedule.now.rows c.args.explained.now are c.args.j
      c.index-explained-j.result c.requires.known c.index-explained-j.is).ready,
  omega arith,
  sym (rw (c.rows.ensures.rows, c.ops-ops.ensures.ops) at c.in-Some.ensures),
)

pub returns-in-None : goal.returns-in-None
returns-in-None c = λ prios rule lat are. (
  _,
  (explained_read prios rule lat c.args.schedule.now.ops c.args.schedule.now.rows c.args.explained.now are c.args.j
      c.index-explained-j.result c.requires.known c.index-explained-j.is).ready,
  c.rows_with_room.ensures,
)
