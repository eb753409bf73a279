use Rattle.iloc_args.proofs.Common.{◌≡◌, codes, is_some, Some, None, Option, option_map, refl, ap, ◌∙◌, Bor, first_value-rows, Text, found_of}
use Rattle.iloc_args.proofs.line.is_priority_given.Goals as goal

-- there is a text where there is one to read
some_read : (given : Option (Bor Text)) → is_some given ≡ is_some (option_map (λ s. s.now) given)
some_read None = refl
some_read (Some text) = refl

pub returns : goal.returns
returns c =
    c.is_some.ensures ∙ (some_read c.get_str.result
    ∙ ap is_some (c.get_str.ensures ∙ first_value-rows (found_of c.args.given.now) (codes "priority")))
