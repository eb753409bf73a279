-- What a reader has read of a text that comes piece by piece.
use Rattle.std.specs.Prelude.{◌≡◌, ◌⊎◌, ℕ, ◌+◌, ◌<◌, ◌≤◌, ◌-◌, ◌^◌, min, Option, Some, None, Err, List, [], ◌++◌, length}
use Rattle.iloc_ops.specs.Limits.{MAX_BLOCKS, MAX_INPUT}
use Rattle.iloc_ops.specs.declared.file.Block.{Block}
use Rattle.iloc_text.specs.declared.fault.ReadFault.{ReadFault}
use Rattle.iloc_text.specs.declared.stream.text_reader.TextReader.{TextReader}
use Rattle.iloc_text.specs.Lines.{lines_of}
use Rattle.iloc_text.specs.Parts.{BeginsLabelled}
use Rattle.iloc_text.specs.Steps.Open.{HasTaken}
use Rattle.iloc_text.specs.Steps.Verdicts.{answer_from}

-- whatever follows `text`, what was taken are the blocks of the lines that were read, and the rest is still to be read
pub record GoesOn {T : Type 0} (took : T → List Block → T → Type 0) (start : T) (reader : TextReader T) (text : List ℕ)
    : Type 0 where
  pub blocks : List Block
  pub taken : HasTaken took start reader.taker reader.open_block blocks
  pub answer : (more : List ℕ) → answer_from [] 1 (lines_of (text ++ more))
      ≡ answer_from blocks (reader.number + 1) (lines_of (reader.rest.items ++ more))

-- whatever follows the text, it has this fault
abbrev pub HasFault : List ℕ → ReadFault → Type 0
HasFault text fault = (more : List ℕ) → answer_from [] 1 (lines_of (text ++ more)) ≡ Err fault

-- the reading goes on, or the text has a fault
abbrev pub StandsAt : {T : Type 0} → Option ReadFault → (took : T → List Block → T → Type 0) → T → TextReader T → List ℕ
    → Type 0
StandsAt None took start reader text = GoesOn took start reader text
StandsAt (Some fault) took start reader text = HasFault text fault

-- From `start` on the reader has read this text. Of one that is too long it knows no more than that.
pub record HasRead {T : Type 0} (took : T → List Block → T → Type 0) (start : T) (reader : TextReader T) (text : List ℕ)
    : Type 0 where
  pub counted : reader.length ≡ min (length text) (2 ^ 64 - 1)
  pub stands : length text ≤ MAX_INPUT → StandsAt reader.fault took start reader text

-- `part`, which has `blocks`, begins the text, or a line and a block of it, and with it all is within the limits
pub record CanTake {T : Type 0} (reader : TextReader T) (part : List ℕ) (blocks : List Block) : Type 0 where
  pub at_line : reader.rest.items ≡ []
  pub faultless : reader.fault ≡ None
  pub short : reader.length + length part < MAX_INPUT
  pub few : reader.open_block.count + length blocks ≤ MAX_BLOCKS
  pub opens : ((reader.open_block.count ≡ 0) × (reader.number ≡ 0)) ⊎ BeginsLabelled part
