use Rattle.iloc_sched.proofs.Common.{◌≡◌, ℕ, ◌-◌, ◌*◌, ◌%◌, ◌^◌, ap, ◌∙◌, arith, one_shl, bit_at-pow_other, bit_at}
use Rattle.iloc_sched.proofs.Basics.Cases.{by_eq}
use Rattle.iloc_sched.proofs.ranking.descendants.own.Goals as goal

pub returns-then-base-to-clause-only : goal.returns-then-base-to-clause-only
returns-then-base-to-clause-only c = λ b below one.
    let k : ℕ = c.args.to - c.args.base in
    let power : 1 * 2 ^ k % 2 ^ 64 ≡ 2 ^ k = one_shl k 64 (omega (arith, c.requires, c.if-base-to.true)) in
    by_eq b k (λ same. omega arith)
    (λ apart.
    let none : bit_at (1 * 2 ^ k % 2 ^ 64) b ≡ 0 = ap (λ m. bit_at m b) power ∙ bit_at-pow_other k b apart in
    absurd (omega arith))
