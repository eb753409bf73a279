use Rattle.iloc_sched.proofs.Common.{◌+◌, ◌∙◌, sym, ap, subst, refl, arith, length_push, empty_row, IsBest}
use Rattle.iloc_sched.proofs.Choice.NextRow.{own_of_plan, row_taken, step_none, step_some, step_count, row_filled}
use Rattle.iloc_sched.proofs.cycle.waiting.Waiting.step.Goals as goal

pub take-requires-clause-own : goal.take-requires-clause-own
take-requires-clause-own g c = own_of_plan c.args.plan.now c.requires.plan _ _ c.deref-ops.ensures.value c.deref-own.ensures.value

pub take-requires-in-Some-clause-own : goal.take-requires-in-Some-clause-own
take-requires-in-Some-clause-own g c = own_of_plan c.args.plan.now c.requires.plan _ _ c.deref-ops.ensures.value c.deref-own.ensures.value

pub returns-in_ok-take-in-None-clause-taken : goal.returns-in_ok-take-in-None-clause-taken
returns-in_ok-take-in-None-clause-taken g c = λ start rows taken. (
  empty_row,
  record {
    so_far = step_none c.args.plan.now c.args.self.now c.release.new.self c.issue_first-first.new.self rows _ empty_row c.args.cycle
        c.issue_first-first.result (sym taken.count) c.requires.plan taken.so_far c.release.ensures.issued c.release.ensures.under_way
        c.in-None.is c.issue_first-first.ensures.best c.issue_first-first.ensures.issues refl refl;
    taken = row_taken c.args.plan.now c.requires.plan _ _ c.deref-ops.ensures.value c.deref-own.ensures.value g.T.TakeRows.took
        c.args.taker.now c.take.new.self empty_row c.args.cycle c.in_ok-take-in-None.ensures.took start rows taken.taken taken.count;
    count = length_push rows _ ∙ ap (λ n. n + 1) taken.count;
  },
  λ some. absurd (omega arith),
)

pub returns-in_ok-take-in-Some-clause-taken : goal.returns-in_ok-take-in-Some-clause-taken
returns-in_ok-take-in-Some-clause-taken g c = λ start rows taken. (
  c.row_of.result,
  record {
    so_far = step_some c.args.plan.now c.args.self.now c.release.new.self c.issue_first-first.new.self c.issue_first-b.new.self
        rows _ c.row_of.result c.args.cycle c.issue_first-first.result
        c.in-Some.a c.issue_first-b.result (sym taken.count) c.requires.plan taken.so_far
        c.release.ensures.issued c.release.ensures.under_way
        c.in-Some.is c.issue_first-first.ensures.best c.issue_first-first.ensures.issues
        (subst (λ class. IsBest c.args.plan.now c.issue_first-first.new.self class c.issue_first-b.result) c.of.ensures c.issue_first-b.ensures.best)
        c.issue_first-b.ensures.issues c.row_of.ensures refl;
    taken = row_taken c.args.plan.now c.requires.plan _ _ c.deref-ops.ensures.value c.deref-own.ensures.value g.T.TakeRows.took
        c.args.taker.now c.take-in-Some.new.self c.row_of.result c.args.cycle c.in_ok-take-in-Some.ensures.took start rows taken.taken
        taken.count;
    count = length_push rows _ ∙ ap (λ n. n + 1) taken.count;
  },
  λ some. row_filled c.in-Some.a c.issue_first-b.result c.row_of.result c.row_of.ensures,
)

pub returns-in_ok-take-in-Some-clause-count : goal.returns-in_ok-take-in-Some-clause-count
returns-in_ok-take-in-Some-clause-count g c =
    step_count c.args.plan.now c.args.self.now c.release.new.self c.issue_first-first.new.self c.issue_first-b.new.self
    c.args.cycle c.slot_count.result c.issue_first-first.result c.in-Some.a c.issue_first-b.result c.release.ensures.issued
    c.in-Some.is c.issue_first-first.ensures.issues c.issue_first-b.ensures.issues c.slot_count.ensures
