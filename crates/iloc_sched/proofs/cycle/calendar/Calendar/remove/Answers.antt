use Rattle.std.proofs.Common.{◌*◌, ◌+◌, ◌<◌, ◌≤◌, true, sym, subst}
use Rattle.iloc_sched.proofs.Ranks.Sets.{takes_from, takes_back}
use Rattle.iloc_sched.proofs.Ranks.Summaries.{IsSummary-taken}
use Rattle.iloc_sched.proofs.cycle.calendar.Calendar.remove.Goals as goal

pub invariant_of-self : goal.invariant_of-self
invariant_of-self c =
    let s = c.args.self.now in
    let takes = takes_back s.words c.deref_mut.result.now c.take_out_if.new.words c.deref_mut.ensures.value true 32 c.args.rank
    c.take_out_if.ensures in
    record {
      summarised = λ some. IsSummary-taken s.summary.items s.words.items _ (s.summarised some) c.args.rank takes;
      sized = s.sized;
      single = λ none. subst (λ n. n ≤ 37) (sym takes.size) (s.single none);
      few = s.few;
      whole = λ w. subst (λ n. w * 37 < n → w * 37 + 37 ≤ n) (sym takes.size) (s.whole w);
    }

pub returns-clause-puts : goal.returns-clause-puts
returns-clause-puts c =
    takes_from c.args.self.now _ 32 c.args.rank
    (takes_back c.args.self.now.words c.deref_mut.result.now c.take_out_if.new.words c.deref_mut.ensures.value true 32 c.args.rank
    c.take_out_if.ensures)
