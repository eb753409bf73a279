-- Whether a register is the one that an operation defines; for the delays by uses.
use Rattle.iloc_rules.proofs.Common.{◌≡◌, true, Some, Option, refl, ap, ◌∙◌, arith, eq-eqb, eqb-true, false≢true, Reg, is_register}

pub is_register_same : (r : Reg) (o : Option Reg) → is_register r o ≡ true → o ≡ Some r
is_register_same r o is = grind (arith, eqb-true, false≢true)

pub is_register_from : (r : Reg) (o : Option Reg) → o ≡ Some r → is_register r o ≡ true
is_register_from r o is = ap (is_register r) is ∙ eq-eqb r.0 r.0 refl
