use Rattle.std.proofs.Common.{◌∙◌}
use Rattle.iloc_row_commands.proofs.Departures.{first_departure}
use Rattle.iloc_row_commands.proofs.explain.departure.departure_of.Goals as goal

pub returns : goal.returns
returns c = λ prios lat block greedy.
    rw c.requires
    ((rw (c.rows-rows.ensures.rows, c.rows-others.ensures.rows) at c.departure_from.ensures)
    ∙ first_departure prios lat block _ c.args.theirs.now.rows c.args.ours.now.rows greedy)
