use Rattle.iloc_sched.proofs.Common.{◌≡◌, ◌+◌, ◌*◌, ◌/◌, ◌<◌, ◌≤◌, ◌≢◌, length, sym, ◌∙◌, subst, arith, get_or_read, with_items, HoldsBits, word_at}
use Rattle.iloc_sched.proofs.Ranks.Moves.{summary_moved}
use Rattle.iloc_sched.proofs.Ranks.Sets.{leads_there, moves_back, kept_back, size_back, notes_back, block_as_released, block_without, block_union, block_empty, block_others}
use Rattle.iloc_sched.proofs.cycle.calendar.Calendar.release_block.Goals as goal

pub move_words-requires-clause-there : goal.move_words-requires-clause-there
move_words-requires-clause-there c =
    let s = c.args.self.now in
    let some : s.blocks ≢ 0 = λ none. let more = c.requires.block in absurd (omega arith) in
    let there : c.args.block * 37 + c.args.bucket < length s.summary.items = omega (arith, s.sized, c.requires.block, c.requires.bucket) in
    let read : c.index-some.result.now ≡ word_at s.summary.items c.args.bucket c.args.block =
    get_or_read s.summary.items (c.args.block * 37 + c.args.bucket) c.index-some.result.now there c.index-some.ensures 0 in
    subst (λ ws. HoldsBits ws c.index-some.result.now c.args.block) (sym c.deref_mut.ensures.value)
    (subst (λ bits. HoldsBits s.words.items bits c.args.block) (sym read)
    (leads_there s.summary.items s.words.items c.args.bucket c.args.block (omega (arith, c.requires.bucket)) (s.summarised some) s.whole))

pub invariant_of-self : goal.invariant_of-self
invariant_of-self c =
    let s = c.args.self.now in
    let low = c.move_words in
    let high = c.move_summary in
    let size = size_back s.words c.deref_mut.result.now low.new.words c.deref_mut.ensures.value low.ensures.size in
    let some : s.blocks ≢ 0 = λ none. let more = c.requires.block in absurd (omega arith) in
    let there : c.args.block * 37 + c.args.bucket < length s.summary.items = omega (arith, s.sized, c.requires.block, c.requires.bucket) in
    let read : c.index-some.result.now ≡ word_at s.summary.items c.args.bucket c.args.block =
    get_or_read s.summary.items (c.args.block * 37 + c.args.bucket) c.index-some.result.now there c.index-some.ensures 0 in
    let held : HoldsBits s.words.items c.index-some.result.now c.args.block = subst (λ bits. HoldsBits s.words.items bits c.args.block) (sym read)
    (leads_there s.summary.items s.words.items c.args.bucket c.args.block c.requires.bucket (s.summarised some) s.whole) in
    let notes = notes_back s.summary c.deref_mut-2.result.now high.new.summary c.deref_mut-2.ensures.value c.index-some.result.now c.args.block
    c.args.bucket 4 high.ensures in
    record {
      summarised = λ some. summary_moved s.summary.items _ s.words.items _ c.args.block c.args.bucket c.index-some.result.now c.requires.bucket (s.summarised some)
          read notes held
          (λ w here. moves_back s.words c.deref_mut.result.now low.new.words c.deref_mut.ensures.value c.args.bucket w low.ensures.size (low.ensures.moved w here))
          (kept_back s.words c.deref_mut.result.now low.new.words c.deref_mut.ensures.value (λ w. w / 64 ≡ c.args.block) c.args.bucket low.ensures.size low.ensures.others)
          size;
      sized = notes.size ∙ s.sized;
      single = λ none. let more = c.requires.block in absurd (omega arith);
      few = s.few;
      whole = λ w. subst (λ n. w * 37 < n → w * 37 + 37 ≤ n) (sym size) (s.whole w);
    }

pub returns-then-some-eq0-clause-released : goal.returns-then-some-eq0-clause-released
returns-then-some-eq0-clause-released c = grind (arith, block_as_released, get_or_read)

pub returns-then-some-eq0-clause-emptied : goal.returns-then-some-eq0-clause-emptied
returns-then-some-eq0-clause-emptied c = grind (arith, block_without, get_or_read)

pub returns-clause-released : goal.returns-clause-released
returns-clause-released c =
    let s = c.args.self.now in
    let low = c.move_words in
    block_union s.words.items (with_items s.words low.new.words).items c.args.bucket c.args.block
    (λ w here. moves_back s.words c.deref_mut.result.now low.new.words c.deref_mut.ensures.value c.args.bucket w low.ensures.size (low.ensures.moved w here))
    (kept_back s.words c.deref_mut.result.now low.new.words c.deref_mut.ensures.value (λ w. w / 64 ≡ c.args.block) c.args.bucket low.ensures.size low.ensures.others)

pub returns-clause-emptied : goal.returns-clause-emptied
returns-clause-emptied c = grind (arith, block_empty, kept_back, moves_back)

pub returns-clause-others : goal.returns-clause-others
returns-clause-others c =
    let s = c.args.self.now in
    let low = c.move_words in
    block_others s.words.items (with_items s.words low.new.words).items c.args.bucket c.args.block
    (λ w here. moves_back s.words c.deref_mut.result.now low.new.words c.deref_mut.ensures.value c.args.bucket w low.ensures.size (low.ensures.moved w here))
    (kept_back s.words c.deref_mut.result.now low.new.words c.deref_mut.ensures.value (λ w. w / 64 ≡ c.args.block) c.args.bucket low.ensures.size low.ensures.others)
