use Rattle.iloc_text.proofs.Common.{ℕ, ◌≤◌, drop, refl, ap, ◌∙◌, inl, inr, arith, and_zero_r, bit_and, IsNumber}
use Rattle.iloc_text.proofs.Digits.{Counted, counted_by, few_counted, short_number}
use Rattle.iloc_text.proofs.line.numbers.short_number_at.Goals as goal

counted : (c : goal.Else-count-mask-gt3) → Counted c.count_digits-count.result c.args.mask
counted c = counted_by c.count_digits-count.result c.args.mask c.count_digits-count.ensures.few c.requires.mask c.ranges.mask.fits c.if-count-mask-gt3.false

pub number_of-requires : goal.number_of-requires
number_of-requires c = few_counted c.count_digits-count.result c.args.mask (counted c)

pub returns-clause-is : goal.returns-clause-is
returns-clause-is c = by (counted_by c.count_digits-count.result c.args.mask c.count_digits-count.ensures.few c.requires.mask c.ranges.mask.fits c.if-count-mask-gt3.false)
  where
    left : ℕ
    left = bit_and c.count_digits-count.result c.args.mask

    by : Counted c.count_digits-count.result c.args.mask → IsNumber c.args.mask c.args.bytes.now (c.number_of.result, drop left c.args.bytes.now)
    by (inl none) = (λ some. absurd (omega (arith, some, none.0)), λ e. ap (λ n. drop n c.args.bytes.now) none.1)
    by (inr all) =
        let some : 1 ≤ left = omega (arith, all.0, all.1) in (
          λ h. short_number c.args.bytes.now c.from_le_bytes-front.result _ left c.number_of.result c.requires.long
              (λ i. (c.type_inv.bytes i).fits) c.from_le_bytes-front.ensures refl
              (λ lanes low long is. all.0 ∙ c.count_digits-count.ensures.is lanes low long is)
              some (omega (arith, all.0, all.2)) (c.number_of.ensures.is some),
          λ e. absurd (omega (arith, all.0, all.1, ap (bit_and c.count_digits-count.result) e ∙ and_zero_r c.count_digits-count.result)),
        )

pub returns-clause-near : goal.returns-clause-near
returns-clause-near c =
    few_counted c.count_digits-count.result c.args.mask (counted_by c.count_digits-count.result c.args.mask c.count_digits-count.ensures.few c.requires.mask c.ranges.mask.fits c.if-count-mask-gt3.false)
