use Rattle.iloc_text.proofs.Common.{◌≡◌, ◌-◌, length, take, drop, subst, arith, length-drop, take_all, IsBehind, IsRead}
use Rattle.iloc_text.proofs.Places.{rest_begins}
use Rattle.iloc_text.proofs.line.fast_path.place_behind_kind.Goals as goal

pub returns-in-Some-clause-is : goal.returns-in-Some-clause-is
returns-in-Some-clause-is c some found e =
    let bytes = c.args.bytes.now in
    let at = c.args.at in
    let part = take (length bytes - at) (drop at bytes) in
    let is : part ≡ drop at bytes = take_all (length bytes - at) (drop at bytes) (omega (arith, length-drop at bytes)) in
    subst (λ t. IsRead c.args.kind t found) is (c.in-Some.ensures.is found
    (subst (λ t. IsBehind c.args.kind t found) (rest_begins bytes at part c.in-Some.rest.now is c.in-Some.ensures.inside) e))
