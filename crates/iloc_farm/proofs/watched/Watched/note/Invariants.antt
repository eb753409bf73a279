use Rattle.std.proofs.Common.{◌≡◌}
use Rattle.iloc_farm.proofs.watched.Watched.note.Given as goal

abbrev pub invariant-loop-end : goal.invariant-loop-end
invariant-loop-end g l = (l.self.reader ≡ l.initial.self.reader) × (l.self.kept ≡ l.initial.self.kept)
