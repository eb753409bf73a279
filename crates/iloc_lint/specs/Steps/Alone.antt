-- What a line says that is read as a text of its own.
use Rattle.std.specs.Prelude.{◌≡◌, ℕ, Option, is_some, List, [], ◌∷◌, Result, Ok, Err, slice_get}
use Rattle.iloc_ops.specs.declared.file.Block.{Block}
use Rattle.iloc_text.specs.declared.fault.ReadFault.{ReadFault}
use Rattle.iloc_text.specs.declared.fault.ReadFault.TheVariants.{NumberTooLarge, NoMemory}
use Rattle.iloc_text.specs.Grammar.{Reads, HasReading, HasWideReading}
use Rattle.iloc_lint.specs.declared.alone.Content.{Content}
use Rattle.iloc_lint.specs.declared.alone.Unknown.{Unknown}
use Rattle.iloc_lint.specs.declared.alone.Unknown.TheVariants as unread

-- what the last block says
abbrev pub said_after : Content → List Block → Content
said_after start [] = start
said_after start (b ∷ bs) = said_after (record { labelled = is_some b.name; op = slice_get b.ops 0 }) bs

-- why nothing is known of a line that is refused so
abbrev pub unread_of : ReadFault → Unknown
unread_of NoMemory = unread.NoMemory
unread_of (NumberTooLarge n) = unread.TooLarge
unread_of _ = unread.Bad

-- what is known of a line
abbrev pub Says : List ℕ → Result Content Unknown → Type 0
Says line (Ok said) = (label : Option (List ℕ)) × Reads line label said.op × (said.labelled ≡ is_some label)
Says line (Err unread.Bad) = HasWideReading line → ⊥
Says line (Err unread.TooLarge) = HasWideReading line × (HasReading line → ⊥)
Says line (Err unread.NoMemory) = Unit {0}
