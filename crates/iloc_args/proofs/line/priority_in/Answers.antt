use Rattle.iloc_args.proofs.Common.{◌≡◌, codes, Option, option_map, unwrap_or, arith, Bor, first_value-rows, first_value, Text, found_of, rows_of, text_or}
use Rattle.iloc_args.proofs.Priorities.{named}
use Rattle.clap.specs.declared.parser.matches.Found.{Found}
use Rattle.iloc_args.proofs.line.priority_in.Goals as goal

-- What `get_str` gives, by the rows.

-- the text of an option, or another where there is none
text_read : (f : Found) (id : Text) (given : Option (Bor Text)) (otherwise read : Bor Text)
    → option_map (λ s. s.now) given ≡ first_value f id → read ≡ unwrap_or given otherwise
    → read.now ≡ text_or otherwise.now id (rows_of f)
text_read f id given otherwise read got is = grind (arith, first_value-rows)

pub returns : goal.returns
returns c =
    let same = text_read (found_of c.args.given.now) (codes "priority") c.get_str.result _ c.unwrap_or.result c.get_str.ensures
    c.unwrap_or.ensures in
    let found = named c.unwrap_or.result.now c.heuristic_of.result c.heuristic_of.ensures in
    rw same at found
