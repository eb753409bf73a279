use Rattle.iloc_trace.proofs.Emitting.{emits_the_outcome}
use Rattle.iloc_trace.proofs.laws.traces_emit_the_outcome.Goals as goal

pub returns : goal.returns
returns c = emits_the_outcome
