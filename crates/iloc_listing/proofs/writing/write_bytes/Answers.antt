use Rattle.iloc_listing.proofs.Common.{◌++◌, take, refl, Appends-trans}
use Rattle.iloc_listing.proofs.Written.{moves_on}
use Rattle.iloc_listing.proofs.writing.write_bytes.Goals as goal

pub loop-rest-preserved : goal.loop-rest-preserved
loop-rest-preserved g c = (
  c.loop-rest.invariant.0 ++ take c.in-Ok.count c.loop-rest.rest.now,
  moves_on _ c.loop-rest.invariant.0 c.loop-rest.rest.now c.in-Ok.count _ c.loop-rest.invariant.1 refl,
  Appends-trans _ _ _ _ _ c.loop-rest.invariant.2 c.in-Ok.ensures.bytes,
)
