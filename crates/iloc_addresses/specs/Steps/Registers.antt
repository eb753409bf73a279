-- What is known of registers while operations are gone through.
use Rattle.std.specs.Prelude.{ℕ, ◌≡◌, ◌≢◌, List, slice_get, unwrap_or, pos}
use Rattle.std.specs.Ordering.{nat_cmp}
use Rattle.std.specs.BTreeMap.{get}
use Rattle.iloc_ops.specs.declared.op.Reg.{Reg}
use Rattle.iloc_ops.specs.declared.op.Op.{Op}
use Rattle.iloc_rules.specs.declared.word.Word.{Word}
use Rattle.iloc_rules.specs.declared.word.Word.TheVariants.{Known}
use Rattle.iloc_rules.specs.Apart.{known_before}
use Rattle.iloc_addresses.specs.declared.registers.KnownRegisters.{KnownRegisters}

-- what is known of a register by its number: that it is 0, unless something was noted
abbrev pub word_at : KnownRegisters → ℕ → Word
word_at registers n =
    unwrap_or (slice_get registers.words.items n) (unwrap_or (get nat_cmp registers.others n) (Known (pos 0)))

abbrev pub word_in : KnownRegisters → Reg → Word
word_in registers r = word_at registers r.0

-- the register has the word, and each other keeps its own
pub record ChangesOnly (old new : KnownRegisters) (r : Reg) (word : Word) : Type 0 where
  pub changed : word_in new r ≡ word
  pub others : (s : Reg) → s.0 ≢ r.0 → word_in new s ≡ word_in old s

-- they are what is known before operation i
abbrev pub AreBefore : List Op → ℕ → KnownRegisters → Type 0
AreBefore ops i registers = (r : Reg) → word_in registers r ≡ known_before ops i r
