use Rattle.std.proofs.Common.{◌≡◌, ◌+◌, ◌-◌, drop, arith, rules, ◌∙◌, to_z-of_z}
use Rattle.std.specs.Prelude.{unsigned_abs}
use Rattle.std.proofs.lemmas.List.{drop-set, length-set}
use Rattle.iloc_listing.proofs.Numbers.{negative_line, word_is_short}
use Rattle.iloc_listing.proofs.words.write_line.Goals as goal

pub write_digits-start-requires : goal.write_digits-start-requires
write_digits-start-requires c = (
  omega (arith, word_is_short c.from.result (omega (arith, c.from.ensures, c.unsigned_abs.ensures.bound))),
  search rules,
)

pub returns-clause-written : goal.returns-clause-written
returns-clause-written c =
    let w = c.write_digits-start in
    let short = word_is_short c.from.result (omega (arith, c.from.ensures, c.unsigned_abs.ensures.bound)) in
    let start : w.result - 1 + 1 ≡ w.result = omega (arith, short, w.ensures.start) in
    let end : c.args.end - 1 + 1 ≡ c.args.end = omega arith in
    let back = to_z-of_z c.ranges.word in
    let is : c.from.result ≡ unsigned_abs c.args.word = rw back at (c.from.ensures ∙ c.unsigned_abs.ensures.value) in
    rw (
      drop-set w.new.buf (w.result - 1) 45 (omega (arith, short, w.ensures.start, w.auto.buf, length-set c.args.lines.now (c.args.end - 1) 10)),
      start,
      w.ensures.written,
      drop-set c.args.lines.now (c.args.end - 1) 10 (omega arith),
      end,
      is,
    )
    (negative_line c.args.word (drop c.args.end c.args.lines.now) (rw back at c.if-word-ge0.false))
