-- Flags: options without a value.
use Rattle.std.specs.Prelude.{ℕ, Bool, false, List, [], ◌∷◌, codes, slice_index_or}
use Rattle.std.specs.List.{position_or_len}
use Rattle.std.specs.Str.{bytes_eq}
use Rattle.clap.specs.Words.{Text}
use Rattle.iloc_args.specs.declared.flag.Flag.{Flag}
use Rattle.iloc_args.specs.declared.flag.Flag.TheVariants.{Csv, Json, Lawful, Operations, Outputs, EitherSlot, Where, Cycles, Disambiguate}
use Rattle.iloc_args.specs.declared.flag.Flags.{Flags}

-- the word that gives a flag
abbrev pub flag_word : Flag → Text
flag_word Csv = codes "csv"
flag_word Json = codes "json"
flag_word Lawful = codes "lawful"
flag_word Operations = codes "operations"
flag_word Outputs = codes "outputs"
flag_word EitherSlot = codes "either-slot"
flag_word Where = codes "where"
flag_word Cycles = codes "cycles"
flag_word Disambiguate = codes "disambiguate"

-- the flags that there are
abbrev pub every_flag : List Flag
every_flag = Csv ∷ Json ∷ Lawful ∷ Operations ∷ Outputs ∷ EitherSlot ∷ Where ∷ Cycles ∷ Disambiguate ∷ []

-- how many stand before a flag
abbrev pub place : Flag → ℕ
place flag = position_or_len (λ other. bytes_eq (flag_word other) (flag_word flag)) every_flag

-- whether a flag is given
unfoldable pub has : Flags → Flag → Bool
has flags flag = slice_index_or flags.given (place flag) false
