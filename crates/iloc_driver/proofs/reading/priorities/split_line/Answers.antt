use Rattle.std.proofs.Common.{Some, None, sym}
use Rattle.iloc_text.proofs.Splitting.{first_line_end}
use Rattle.iloc_driver.proofs.Priorities.{line_found, no_line_found}
use Rattle.iloc_driver.proofs.reading.priorities.split_line.Goals as goal

pub returns-in-Some-clause-line : goal.returns-in-Some-clause-line
returns-in-Some-clause-line c =
    (line_found c.args.text.now c.in-Some.end (sym (first_line_end c.args.text.now (Some c.in-Some.end) c.in-Some.ensures))).0

pub returns-in-Some-clause-after : goal.returns-in-Some-clause-after
returns-in-Some-clause-after c =
    (line_found c.args.text.now c.in-Some.end (sym (first_line_end c.args.text.now (Some c.in-Some.end) c.in-Some.ensures))).1

pub returns-in-None-clause-line : goal.returns-in-None-clause-line
returns-in-None-clause-line c = (no_line_found c.args.text.now (sym (first_line_end c.args.text.now None c.in-None.ensures))).0

pub returns-in-None-clause-after : goal.returns-in-None-clause-after
returns-in-None-clause-after c = (no_line_found c.args.text.now (sym (first_line_end c.args.text.now None c.in-None.ensures))).1
