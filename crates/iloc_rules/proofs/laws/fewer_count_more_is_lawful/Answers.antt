use Rattle.iloc_rules.proofs.DelayPairs.FewerDelays.{lawful_where_fewer}
use Rattle.iloc_rules.proofs.laws.fewer_count_more_is_lawful.Goals as goal

pub returns : goal.returns
returns c = lawful_where_fewer
