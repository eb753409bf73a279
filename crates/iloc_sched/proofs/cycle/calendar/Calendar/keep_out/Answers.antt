use Rattle.iloc_sched.proofs.Common.{◌+◌, ◌*◌, ◌<◌, ◌≤◌, sym, ◌∙◌, subst, with_items, excludes, place_of, AddsBit}
use Rattle.iloc_sched.proofs.Ranks.Calendars.{rest_is_free}
use Rattle.iloc_sched.proofs.Ranks.Sets.{puts_from, adds_back}
use Rattle.iloc_sched.proofs.Ranks.Summaries.{IsSummary-kept_out}
use Rattle.iloc_sched.proofs.cycle.calendar.Calendar.keep_out.Goals as goal

pub invariant_of-self : goal.invariant_of-self
invariant_of-self c =
    let s = c.args.self.now in
    let adds = subst (λ r. AddsBit s.words.items (with_items s.words c.add_if.new.words).items c.is_limited.result (33 + c.place.result) r)
    c.bit_of-rank.ensures (adds_back s.words c.deref_mut.result.now c.add_if.new.words c.deref_mut.ensures.value c.is_limited.result
    (33 + c.place.result) c.bit_of-rank.result c.add_if.ensures) in
    record {
      summarised = λ some. IsSummary-kept_out s.summary.items s.words.items _ (s.summarised some) c.place.result c.args.rank
          c.is_limited.result c.place.ensures.bound
          (λ rest. c.is_limited.ensures ∙ rest_is_free c.args.class (sym c.place.ensures.place ∙ rest)) adds;
      sized = s.sized;
      single = λ none. subst (λ n. n ≤ 37) (sym adds.size) (s.single none);
      few = s.few;
      whole = λ w. subst (λ n. w * 37 < n → w * 37 + 37 ≤ n) (sym adds.size) (s.whole w);
    }

pub returns-clause-puts : goal.returns-clause-puts
returns-clause-puts c =
    let s = c.args.self.now in
    puts_from s _ (33 + place_of c.args.class) c.args.rank (excludes c.args.class c.args.class)
    (subst (λ b. AddsBit s.words.items (with_items s.words c.add_if.new.words).items b (33 + place_of c.args.class) c.args.rank) c.is_limited.ensures
    (subst (λ n. AddsBit s.words.items (with_items s.words c.add_if.new.words).items c.is_limited.result (33 + n) c.args.rank) c.place.ensures.place
    (subst (λ r. AddsBit s.words.items (with_items s.words c.add_if.new.words).items c.is_limited.result (33 + c.place.result) r)
    c.bit_of-rank.ensures (adds_back s.words c.deref_mut.result.now c.add_if.new.words c.deref_mut.ensures.value c.is_limited.result
    (33 + c.place.result) c.bit_of-rank.result c.add_if.ensures))))
