use Rattle.iloc_sched.proofs.Common.{◌≡◌, ◌+◌, ◌*◌, ◌==◌, sym, ◌∙◌, arith, eqb-true, get_or_read, word_at}
use Rattle.iloc_sched.proofs.Ranks.Sets.{takes_back}
use Rattle.iloc_sched.proofs.Ranks.Summaries.{IsSummary-emptied}
use Rattle.iloc_sched.proofs.cycle.calendar.Calendar.close_if_empty.Goals as goal

pub invariant_of-self : goal.invariant_of-self
invariant_of-self c =
    let s = c.args.self.now in
    let takes = takes_back s.summary c.deref_mut.result.now c.take_out_if.new.words c.deref_mut.ensures.value (c.index.result.now == 0) 36
    c.args.word c.take_out_if.ensures in
    let read : c.index.result.now ≡ word_at s.words.items 32 c.args.word =
    get_or_read s.words.items (c.args.word * 37 + 32) c.index.result.now (omega (arith, c.requires.word)) c.index.ensures 0 in
    record {
      summarised = λ some. IsSummary-emptied s.summary.items _ s.words.items 3 c.args.word (c.index.result.now == 0) (omega arith)
          (s.summarised some) (λ empty. sym read ∙ eqb-true c.index.result.now 0 empty) takes;
      sized = takes.size ∙ s.sized;
      single = s.single;
      few = s.few;
      whole = s.whole;
    }
