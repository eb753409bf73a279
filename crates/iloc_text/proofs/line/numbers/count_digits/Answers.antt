use Rattle.iloc_text.proofs.Lanes.{digits_counted}
use Rattle.iloc_text.proofs.line.numbers.count_digits.Goals as goal

pub returns-clause-is : goal.returns-clause-is
returns-clause-is c bytes all long e = digits_counted c.args.digits bytes c.ranges.digits.fits all long e
