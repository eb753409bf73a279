use Rattle.iloc_sched.proofs.Common.{◌/◌, ◌%◌, arith, w64, bit_at_clear_other, bit_at_clear_same, trailing_zeros}
use Rattle.iloc_sched.proofs.Ranks.WordBits.{cleared_less, no_bit}
use Rattle.iloc_sched.proofs.Ranks.Firsts.{low_set, low_one, found_here, next_search}
use Rattle.iloc_sched.proofs.cycle.words.first_of_block.Goals as goal

pub first_of_word-requires-clause-there : goal.first_of_word-requires-clause-there
first_of_word-requires-clause-there c = grind (arith, low_set)

pub loop-left-init : goal.loop-left-init
loop-left-init c = record { passed = c.requires.summary; within = λ i small set. set }

pub returns-in-Some-clause-searched : goal.returns-in-Some-clause-searched
returns-in-Some-clause-searched c = c.loop-left.invariant

pub returns-clause-first : goal.returns-clause-first
returns-clause-first c = λ r here. c.loop-left.invariant.passed r here
    (no_bit c.loop-left.left (r / 64 % 64) (let none = c.loop-left-test.false in omega arith))

pub returns-clause-searched : goal.returns-clause-searched
returns-clause-searched c = c.loop-left.invariant

pub returns-in-Some-clause-first : goal.returns-in-Some-clause-first
returns-in-Some-clause-first c =
    found_here c.args.words.now c.args.beside c.args.block c.args.some c.loop-left.left c.loop-left.invariant (omega arith)
    c.loop-left-test.true c.in-Some.rank c.in-Some.ensures

pub loop-left-smaller : goal.loop-left-smaller
loop-left-smaller c = grind (arith, cleared_less, low_one)

pub loop-left-preserved : goal.loop-left-preserved
loop-left-preserved c =
    let left = c.loop-left.left in
    let low = trailing_zeros w64 left % 64 in
    next_search c.args.words.now c.args.beside c.args.block c.args.some left c.loop-left.invariant (omega arith)
    c.loop-left-test.true _ c.in_default.ensures (bit_at_clear_same w64 left low (omega arith))
    (λ i within apart. bit_at_clear_other w64 left low (omega arith) i within apart)
