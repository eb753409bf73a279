use Rattle.iloc_facts.proofs.Tracking.{tracks_landing}
use Rattle.iloc_facts.proofs.reading.run.Run.land.Goals as goal

pub returns : goal.returns
returns c = λ log tracks.
    tracks_landing c.args.cycle log c.args.self.now c.land_all.new.holders c.due.result.now c.clear.new.self
    c.due.ensures.due c.in_ok-land_all.ensures c.clear.ensures tracks
