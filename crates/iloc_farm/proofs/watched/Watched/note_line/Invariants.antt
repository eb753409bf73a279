use Rattle.std.proofs.Common.{◌≡◌}
use Rattle.iloc_farm.proofs.watched.Watched.note_line.Given as goal

abbrev pub invariant-loop-byte : goal.invariant-loop-byte
invariant-loop-byte g l = (l.self.reader ≡ l.initial.self.reader) × (l.self.kept ≡ l.initial.self.kept)
