use Rattle.iloc_farm.proofs.Common.{sym, subst}
use Rattle.iloc_farm.proofs.Reasons.{wrote}
use Rattle.iloc_farm.specs.Reason.{MayBeSaid}
use Rattle.iloc_farm.proofs.talking.explain.Goals as goal

pub returns-in-Ok : goal.returns-in-Ok
returns-in-Ok g c = record {
  reason = c.deref.result.now;
  may_be_said = subst (MayBeSaid _ _) (sym c.deref.ensures.value) c.in-Ok.ensures;
  written = wrote _ _ c.write_text.result _ c.write_text.ensures.ok c.write_text.ensures.err;
}
