use Rattle.iloc_sched.proofs.Common.{◌≡◌, ◌+◌, ◌*◌, ◌/◌, ◌≤◌, length, bit_and, ◌∙◌, subst, ap₂, arith, length-set, get_or_read, place_of, IsFirstWithin, IsSearched, word_at}
use Rattle.iloc_sched.proofs.Ranks.Sets.{open_there}
use Rattle.iloc_sched.proofs.Ranks.Summaries.{IsSummary-searched, both_less, both_closed}
use Rattle.iloc_sched.proofs.cycle.calendar.Calendar.first_in_block.Goals as goal
use Rattle.iloc_sched.proofs.cycle.calendar.Calendar.first_in_block.Goals.{After-deref}

-- what both summaries have
is_both : (c : After-deref) → bit_and c.index.result.now c.index-2.result.now
    ≡ bit_and (word_at c.args.self.now.summary.items (33 + c.place-class.result) c.args.block) (word_at c.args.self.now.summary.items 36 c.args.block)
is_both c = grind (arith, get_or_read)

pub first_of_block-first-requires-clause-there : goal.first_of_block-first-requires-clause-there
first_of_block-first-requires-clause-there c = grind (arith, both_less, is_both, open_there)

pub first_of_block-first-requires-clause-summary : goal.first_of_block-first-requires-clause-summary
first_of_block-first-requires-clause-summary c = grind (arith, both_closed, is_both)

pub invariant_of-self : goal.invariant_of-self
invariant_of-self c =
    let s = c.args.self.now in
    let k = c.place-class.result in
    let block = c.args.block in
    let left = c.first_of_block-first.result.1 in
    let there : block * 37 + 37 ≤ length s.summary.items = omega (arith, s.sized, c.requires.block) in
    let class : c.index.result.now ≡ word_at s.summary.items (33 + k) block =
    get_or_read s.summary.items (block * 37 + (33 + k)) c.index.result.now (omega (arith, c.place-class.ensures.bound)) c.index.ensures 0 in
    let rest : c.index-2.result.now ≡ word_at s.summary.items 36 block =
    get_or_read s.summary.items (block * 37 + 36) c.index-2.result.now (omega arith) c.index-2.ensures 0 in
    record {
      summarised = λ some. IsSummary-searched s.summary.items s.words.items k block
          (bit_and (word_at s.summary.items (33 + k) block) (word_at s.summary.items 36 block)) left c.place-class.ensures.bound there
          (s.summarised some) (both_less s.summary.items s.words.items k block c.place-class.ensures.bound (s.summarised some))
          (subst (λ ws. IsSearched ws k block (bit_and (word_at s.summary.items (33 + k) block) (word_at s.summary.items 36 block)) left)
          c.deref.ensures.value
          (subst (λ bits. IsSearched c.deref.result.now k block bits left) (ap₂ bit_and class rest) c.first_of_block-first.ensures.searched));
      sized = length-set s.summary.items (block * 37 + (33 + k)) left ∙ s.sized;
      single = s.single;
      few = s.few;
      whole = s.whole;
    }

pub returns-clause-first : goal.returns-clause-first
returns-clause-first c =
    let found = c.first_of_block-first in
    subst (λ ws. IsFirstWithin ws (place_of c.args.beside) (λ r. r / 64 / 64 ≡ c.args.block) found.result.0) c.deref.ensures.value
    (subst (λ k. IsFirstWithin c.deref.result.now k (λ r. r / 64 / 64 ≡ c.args.block) found.result.0) c.place-class.ensures.place
    found.ensures.first)
