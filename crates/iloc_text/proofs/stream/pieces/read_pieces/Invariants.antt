use Rattle.iloc_text.proofs.Common.{◌≡◌, ℕ, ◌+◌, List, length, MAX_INPUT}
use Rattle.std.specs.Io.KnownBytes.{Consumes}
use Rattle.iloc_text.proofs.stream.pieces.read_pieces.Given as goal

-- what came so far, which the taker took
abbrev pub invariant-loop-left : goal.invariant-loop-left
invariant-loop-left g l = record {
  came : List ℕ;
  consumed : Consumes (g.R.Read.remaining l.fn.stream) (g.R.Read.remaining l.stream) came;
  count : l.left + length came ≡ MAX_INPUT + 1;
  took : g.P.TakePieces.took l.fn.taker came l.taker;
}

abbrev pub decreases-loop-left : goal.decreases-loop-left
decreases-loop-left g l = l.left
