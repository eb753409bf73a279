use Rattle.iloc_text.proofs.Common.{◌≡◌, ℕ, List, length, HasBegun}
use Rattle.iloc_text.proofs.stream.parts.PartedText.take_all.Given as goal

-- what came is the same, and what was read is no other text
abbrev pub invariant-loop-alloc : goal.invariant-loop-alloc
invariant-loop-alloc g l = record {
  rest : l.self.rest ≡ l.fn.self.rest;
  begun : (text : List ℕ) → HasBegun g.P.ReadParts.texts l.fn.self text → HasBegun g.P.ReadParts.texts l.self text;
}

abbrev pub decreases-loop-alloc : goal.decreases-loop-alloc
decreases-loop-alloc g l = length (g.P.ReadParts.texts l.self.readers)
