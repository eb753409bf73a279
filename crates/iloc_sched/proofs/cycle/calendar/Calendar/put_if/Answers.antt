use Rattle.iloc_sched.proofs.Common.{◌≡◌, ◌+◌, ◌*◌, ◌/◌, ◌%◌, ◌<◌, ◌≤◌, sym, refl, ◌∙◌, subst, arith, eq-eqb, eqb-true, false≢true, with_items, AddsBit}
use Rattle.iloc_sched.proofs.Ranks.Sets.{puts_from, adds_back}
use Rattle.iloc_sched.proofs.Ranks.Summaries.{IsSummary-added}
use Rattle.iloc_sched.proofs.cycle.calendar.Calendar.put_if.Goals as goal

pub invariant_of-self : goal.invariant_of-self
invariant_of-self c =
    let s = c.args.self.now in
    let none : s.blocks ≡ 0 = eqb-true s.blocks 0 (sym c.requires.short ∙ c.if-short.true) in
    let adds = adds_back s.words c.deref_mut.result.now c.add_if.new.words c.deref_mut.ensures.value c.args.ready (c.args.cycle % 32) (c.args.rank % 64)
    c.add_if.ensures in
    record {
      summarised = λ some. absurd (some none);
      sized = s.sized;
      single = λ _. subst (λ n. n ≤ 37) (sym adds.size) (s.single none);
      few = s.few;
      whole = λ w. subst (λ n. w * 37 < n → w * 37 + 37 ≤ n) (sym adds.size) (s.whole w);
    }

pub invariant_of-self-else-short : goal.invariant_of-self-else-short
invariant_of-self-else-short c =
    let s = c.args.self.now in
    let below = adds_back s.words c.deref_mut-else-short.result.now c.add_if-else-short.new.words c.deref_mut-else-short.ensures.value
    c.args.ready (c.args.cycle % 32) c.args.rank c.add_if-else-short.ensures in
    let above = adds_back s.summary c.deref_mut-else-short-2.result.now c.add_if-else-short-2.new.words c.deref_mut-else-short-2.ensures.value
    c.args.ready (c.args.cycle % 32) (c.args.rank / 64) c.add_if-else-short-2.ensures in
    record {
      summarised = λ some. IsSummary-added s.summary.items _ s.words.items _ (c.args.cycle % 32) c.args.rank (omega arith) (s.summarised some)
          c.args.ready below above;
      sized = above.size ∙ s.sized;
      single = λ none. absurd (false≢true (sym c.if-short.false ∙ c.requires.short ∙ eq-eqb s.blocks 0 none));
      few = s.few;
      whole = λ w. subst (λ n. w * 37 < n → w * 37 + 37 ≤ n) (sym below.size) (s.whole w);
    }

-- where there is one word a rank is its bit
pub returns-then-short-clause-puts : goal.returns-then-short-clause-puts
returns-then-short-clause-puts c =
    let s = c.args.self.now in
    let word = c.requires.within.word in
    let single = s.single (eqb-true s.blocks 0 (sym c.requires.short ∙ c.if-short.true)) in
    let is : c.args.rank % 64 ≡ c.args.rank = omega arith in
    puts_from s _ (c.args.cycle % 32) c.args.rank c.args.ready
    (subst (λ r. AddsBit s.words.items (with_items s.words c.add_if.new.words).items c.args.ready (c.args.cycle % 32) r) is
    (adds_back s.words c.deref_mut.result.now c.add_if.new.words c.deref_mut.ensures.value c.args.ready (c.args.cycle % 32) (c.args.rank % 64)
    c.add_if.ensures))

pub returns-else-short-clause-puts : goal.returns-else-short-clause-puts
returns-else-short-clause-puts c =
    puts_from c.args.self.now _ (c.args.cycle % 32) c.args.rank c.args.ready
    (adds_back c.args.self.now.words c.deref_mut-else-short.result.now c.add_if-else-short.new.words c.deref_mut-else-short.ensures.value
    c.args.ready (c.args.cycle % 32) c.args.rank c.add_if-else-short.ensures)

pub returns-then-short-clause-room : goal.returns-then-short-clause-room
returns-then-short-clause-room c =
    let s = c.args.self.now in
    let adds = adds_back s.words c.deref_mut.result.now c.add_if.new.words c.deref_mut.ensures.value c.args.ready
    (c.args.cycle % 32) (c.args.rank % 64) c.add_if.ensures in
    record { words = adds.size; blocks = refl }

pub returns-else-short-clause-room : goal.returns-else-short-clause-room
returns-else-short-clause-room c =
    let adds = adds_back c.args.self.now.words c.deref_mut-else-short.result.now c.add_if-else-short.new.words
    c.deref_mut-else-short.ensures.value c.args.ready (c.args.cycle % 32) c.args.rank c.add_if-else-short.ensures in
    record { words = adds.size; blocks = refl }
