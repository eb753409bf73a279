use Rattle.iloc_rules.proofs.Outcome.ApartAddresses.{unless_apart_is_sound}
use Rattle.iloc_rules.proofs.Outcome.LawfulOutcomes.{stores_kept_is_sound}
use Rattle.iloc_rules.proofs.laws.apart_operations_never_meet.Goals as goal

pub returns : goal.returns
returns c = record {
  apart = unless_apart_is_sound;
  but_stores = stores_kept_is_sound;
}
