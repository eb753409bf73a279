-- Priorities of somebody's own: a text with a line for each block, and on it a number for each operation, `nop`s left out.
use Rattle.std.specs.Prelude.{◌≡◌, ℕ, ◌+◌, ◌-◌, ◌*◌, ◌^◌, nat_lt, ◌==◌, ◌||◌, Bool, true, false, if◌then◌else◌, List, [], ◌∷◌, length, slice_get, Option, Some, None, IfSome, Result, Ok, Err, ok_or, option_and_then}
use Rattle.std.specs.Char.{is_ascii_digit}
use Rattle.std.specs.List.{after_first, before_first, filter, list_all, slice_split}
use Rattle.std.specs.String.{string_bytes}
use Rattle.std.specs.declared.alloc.Global.{Global}
use Rattle.std.specs.declared.string.String.{String}
use Rattle.iloc_ops.specs.Limits.{MAX_INPUT}
use Rattle.iloc_ops.specs.declared.file.Block.{Block}
use Rattle.iloc_text.specs.Grammar.{is_blank}
use Rattle.iloc_text.specs.Lines.{is_line_end}
use Rattle.iloc_rules.specs.Renaming.{without_nops}
use Rattle.iloc_driver.specs.Run.Apart.{Held, Holds}
use Rattle.iloc_driver.specs.Quoted.{word_of}
use Rattle.iloc_driver.specs.declared.fault.NumbersFault.{NumbersFault}
use Rattle.iloc_driver.specs.declared.fault.NumbersFault.TheVariants.{TooLong, OtherCount, NotANumber, NoBlock}

-- n, where it is below 2^32
abbrev pub if_small : ℕ → Option ℕ
if_small n = if nat_lt n (2 ^ 32) then Some n else None

-- the number that digits write after the digits of `n`, if it is small enough
abbrev pub number_after : ℕ → List ℕ → Option ℕ
number_after n [] = if_small n
number_after n (c ∷ cs) = if is_ascii_digit c then number_after (n * 10 + (c - 48)) cs else None

-- whether a part of a line has bytes
abbrev pub is_word : List ℕ → Bool
is_word [] = false
is_word (c ∷ cs) = true

-- the words of a line, which blanks part
abbrev pub words_of : List ℕ → List (List ℕ)
words_of line = filter is_word (slice_split is_blank line)

-- what was read first, and the others; or the first fault
abbrev pub first_and : {X : Type 0} → Result X NumbersFault → Result (List X) NumbersFault → Result (List X) NumbersFault
first_and (Err fault) others = Err fault
first_and (Ok x) (Err fault) = Err fault
first_and (Ok x) (Ok xs) = Ok (x ∷ xs)

-- the numbers that the words of block k's line write, or the first that writes none
abbrev pub numbers_of : ℕ → List (List ℕ) → Result (List ℕ) NumbersFault
numbers_of k [] = Ok []
numbers_of k (word ∷ words) = first_and (ok_or (number_after 0 word) (NotANumber k (word_of word))) (numbers_of k words)

-- the same where block k has n operations, with a number for each
abbrev pub numbers_for : ℕ → ℕ → List (List ℕ) → Result (List ℕ) NumbersFault
numbers_for k n words = if length words == n then numbers_of k words else Err (OtherCount k n (length words))

abbrev pub is_space : ℕ → Bool
is_space c = is_blank c || is_line_end c

-- the numbers of the blocks in the rest of the text, the first of which is block `k`; a line that is missing is empty
abbrev pub priorities_from : ℕ → List Block → List ℕ → Result (List (List ℕ)) NumbersFault
priorities_from k [] text = if list_all is_space text then Ok [] else Err (NoBlock k)
priorities_from k (b ∷ blocks) text =
    first_and (numbers_for k (length (without_nops b.ops)) (words_of (before_first is_line_end text)))
    (priorities_from (k + 1) blocks (after_first is_line_end text))

-- the numbers of a file's blocks in the text, or why it has none
abbrev pub priorities_in : List ℕ → List Block → Result (List (List ℕ)) NumbersFault
priorities_in text blocks = if nat_lt MAX_INPUT (length text) then Err TooLong else priorities_from 1 blocks text

-- the numbers for each block, if they are somebody's own
abbrev pub Own : Type 0
Own = Option (List (List ℕ))

-- the numbers of block `k`, counted from 1
abbrev pub own_of : Own → ℕ → Option (List ℕ)
own_of own k = option_and_then (λ all. slice_get all (k - 1)) own

-- each operation has one
abbrev pub AreFor : Own → List Block → Type 0
AreFor own blocks = (i : ℕ) (b : Block) → slice_get blocks i ≡ Some b
    → IfSome (own_of own (i + 1)) (λ numbers. length numbers ≡ length (without_nops b.ops))

-- a text was read of which `known` says what is known, and `own` has its numbers of `blocks`
pub record HasPriorities (known : Option (List ℕ)) (blocks : List Block) (own : Own) : Type 0 where
  pub text : List ℕ
  pub held : Holds known text
  pub numbers : List (List ℕ)
  pub read : priorities_in text blocks ≡ Ok numbers
  pub is : own ≡ Some numbers

-- `own` has the numbers of the blocks from the file that is named, or none where no file is
abbrev pub AreIn : Option (String Global) → Held → List Block → Own → Type 0
AreIn None held blocks own = own ≡ None
AreIn (Some name) held blocks own = HasPriorities (held (string_bytes name)) blocks own
