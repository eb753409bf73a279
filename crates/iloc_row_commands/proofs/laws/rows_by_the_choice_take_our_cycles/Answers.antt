use Rattle.iloc_row_commands.proofs.Departures.{our_cycles}
use Rattle.iloc_row_commands.proofs.laws.rows_by_the_choice_take_our_cycles.Goals as goal

pub returns : goal.returns
returns c = λ prios lat block ops rows ours lawful greedy stays. our_cycles prios lat block ops rows ours greedy lawful stays
