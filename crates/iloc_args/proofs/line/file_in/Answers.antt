use Rattle.iloc_args.proofs.Common.{Some, ap, ◌∙◌, first_value-rows, found_of}
use Rattle.iloc_args.proofs.line.file_in.Goals as goal

pub returns-in_ok-from_str-in-Some : goal.returns-in_ok-from_str-in-Some
returns-in_ok-from_str-in-Some c =
    ap (λ text. Some text) c.in_ok-from_str-in-Some.ensures.ok
    ∙ (c.in-Some.ensures ∙ first_value-rows (found_of c.args.given.now) c.args.option.now)

pub returns-in-None : goal.returns-in-None
returns-in-None c = c.in-None.ensures ∙ first_value-rows (found_of c.args.given.now) c.args.option.now
