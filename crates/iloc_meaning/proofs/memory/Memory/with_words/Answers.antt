use Rattle.std.proofs.Common.{◌≡◌, ◌+◌, ◌*◌, ◌/◌, ◌<◌, length, FitsSigned, w32, arith, rules, ◌∙◌}
use Rattle.std.proofs.lemmas.Int.{to_z-of_z}
use Rattle.iloc_meaning.proofs.Placing.{placed_none, placed_more}
use Rattle.iloc_meaning.proofs.memory.Memory.with_words.Goals as goal

pub loop-index-init : goal.loop-index-init
loop-index-init c = c.in_ok-memory.ensures.zeros ∙ placed_none c.args.at c.requires.start

pub loop-index-preserved : goal.loop-index-preserved
loop-index-preserved c =
    let i = c.loop-index.index in
    let within : i < length c.args.words.now = c.loop-index-test.true in
    let place : (c.args.at + 4 * i) / 4 ≡ c.args.at / 4 + i = omega (arith, c.requires.aligned) in
    let fits : FitsSigned w32 c.cast_signed.result = search rules in
    let more = placed_more c.args.at c.args.words.now i 0 within (omega (arith, c.requires.fits)) in
    rw (
      c.set.ensures.written,
      to_z-of_z w32 c.cast_signed.result fits,
      c.cast_signed.ensures,
      c.loop-index.invariant,
      place,
    ) more
