-- A kind of which a test holds.
use Rattle.iloc_rules.proofs.Common.{◌≡◌, true, arith, is_output, is_store, Kind}
use Rattle.iloc_timed.specs.declared.kind.Kind.TheVariants as K

pub store_is : (k : Kind) → is_store k ≡ true → k ≡ K.Store
store_is k holds = grind arith

pub output_is : (k : Kind) → is_output k ≡ true → k ≡ K.Output
output_is k holds = grind arith
