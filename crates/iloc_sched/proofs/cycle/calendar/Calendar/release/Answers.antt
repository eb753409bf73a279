use Rattle.iloc_sched.proofs.Common.{◌≡◌, ◌%◌, sym, ◌∙◌, arith, eqb-true}
use Rattle.iloc_sched.proofs.Ranks.Sets.{moves_back, kept_back, one_word_released}
use Rattle.iloc_sched.proofs.cycle.calendar.Calendar.release.Goals as goal

pub returns-then-short-clause-releases : goal.returns-then-short-clause-releases
returns-then-short-clause-releases c =
    let s = c.args.self.now in
    let m = c.move_word in
    one_word_released s _ (c.args.cycle % 32) (omega arith) (s.single (eqb-true s.blocks 0 (sym c.requires.short ∙ c.if-short.true)))
    (moves_back s.words c.deref_mut.result.now m.new.words c.deref_mut.ensures.value (c.args.cycle % 32) 0 m.ensures.size m.ensures.moved)
    (kept_back s.words c.deref_mut.result.now m.new.words c.deref_mut.ensures.value (λ w. w ≡ 0) (c.args.cycle % 32) m.ensures.size m.ensures.others)
