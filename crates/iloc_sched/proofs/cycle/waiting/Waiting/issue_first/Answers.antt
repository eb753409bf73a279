use Rattle.iloc_sched.proofs.Common.{◌+◌, false, get_or, sym, refl, subst, arith, Puts}
use Rattle.iloc_sched.proofs.Choice.IssuedChoice.{same_under_way, none_is_best, is_best, rank_there, rank_below, number_there, rank_is, can_issue, taken_calendar, taken_can, taken_waits, issues_choice}
use Rattle.iloc_sched.proofs.Ranks.Calendars.{room_none}
use Rattle.iloc_sched.proofs.cycle.waiting.Waiting.issue_first.Goals as goal

pub take_first-requires : goal.take_first-requires
take_first-requires c = grind (arith, rank_below, room_none)

pub issue-requires : goal.issue-requires
issue-requires c =
    let p = c.args.plan.now in
    let w = c.args.self.now in
    let r = c.in_ok-rank.rank in
    let n = get_or p.order.now r 0 in
    let under = c.requires.under_way in
    let can = can_issue p w (c.args.cycle + 1) c.args.beside c.requires.plan under r c.in_ok-rank.ensures.first.0 n refl in
    let puts = subst (λ s. Puts w.calendar c.take_first.new.self 32 s false)
    (sym (rank_is p w (c.args.cycle + 1) c.args.beside c.requires.plan under r c.in_ok-rank.ensures.first.0 n refl))
    c.in_ok-rank.ensures.takes.0 in
    record {
      small = c.requires.small;
      plan = c.requires.plan;
      sized = under.sized;
      calendar = taken_calendar p w c.take_first.new.self c.args.cycle n c.requires.plan under can puts
          c.in_ok-rank.ensures.takes.1;
      can = taken_can p w c.take_first.new.self c.args.cycle n c.requires.plan under can puts;
      waits = taken_waits p w c.take_first.new.self c.args.cycle n c.requires.plan under can puts;
    }

pub kind_of-kind-requires : goal.kind_of-kind-requires
kind_of-kind-requires c = grind (arith, number_there)

pub bounds-plan-rank : goal.bounds-plan-rank
bounds-plan-rank c = grind (arith, rank_there)

pub returns-in_err-rank-clause-best : goal.returns-in_err-rank-clause-best
returns-in_err-rank-clause-best c = grind (arith, none_is_best)

pub returns-in_err-rank-clause-issues : goal.returns-in_err-rank-clause-issues
returns-in_err-rank-clause-issues c = grind (arith, same_under_way)

pub returns-clause-best : goal.returns-clause-best
returns-clause-best c = grind (arith, is_best)

pub returns-clause-issues : goal.returns-clause-issues
returns-clause-issues c =
    let p = c.args.plan.now in
    let w = c.args.self.now in
    let r = c.in_ok-rank.rank in
    let n = get_or p.order.now r 0 in
    let under = c.requires.under_way in
    let can = can_issue p w (c.args.cycle + 1) c.args.beside c.requires.plan under r c.in_ok-rank.ensures.first.0 n refl in
    let puts = subst (λ s. Puts w.calendar c.take_first.new.self 32 s false)
    (sym (rank_is p w (c.args.cycle + 1) c.args.beside c.requires.plan under r c.in_ok-rank.ensures.first.0 n refl))
    c.in_ok-rank.ensures.takes.0 in
    issues_choice p w c.issue.new.self c.take_first.new.self c.args.cycle n c.requires.plan under can puts c.issue.ensures.ready
    c.kind_of-kind.result c.issue.ensures.waits c.issue.ensures.issued c.issue.ensures.keeps c.issue.ensures.sized c.issue.ensures.calendar
