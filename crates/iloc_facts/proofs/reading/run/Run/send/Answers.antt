use Rattle.iloc_facts.proofs.Tracking.{tracks_result}
use Rattle.iloc_facts.proofs.reading.run.Run.send.Goals as goal

pub returns-in_ok-push : goal.returns-in_ok-push
returns-in_ok-push c = λ n log from upto tracks.
    tracks_result n c.args.due c.args.number c.args.op.now c.in-Some.register log c.args.self.now c.push.new.self from upto
    c.in-Some.ensures c.in_ok-push.ensures tracks
