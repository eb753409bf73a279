use Rattle.iloc_text.proofs.Common.{◌+◌, ◌-◌, ◌∷◌, length, take, drop, sym, ap, ◌∙◌, arith, length-drop, take_all, lines_of}
use Rattle.iloc_text.proofs.Splitting.{line_some, line_none}
use Rattle.iloc_text.proofs.line_ends.split_line.Goals as goal

pub returns-in-Some : goal.returns-in-Some
returns-in-Some c =
    let rest = drop (c.in-Some.end + 1) c.args.text.now in
    let all = take_all (length c.args.text.now - (c.in-Some.end + 1)) rest
    (omega (arith, length-drop (c.in-Some.end + 1) c.args.text.now)) in
    line_some c.args.text.now c.in-Some.end (sym c.in-Some.ensures)
    ∙ ap (λ r. take c.in-Some.end c.args.text.now ∷ lines_of r) (sym all)

pub returns-in-None : goal.returns-in-None
returns-in-None c = line_none c.args.text.now (sym c.in-None.ensures)
