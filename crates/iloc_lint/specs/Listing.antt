-- What is listed of a text that is read for its faults.
use Rattle.std.specs.Prelude.{◌≡◌, ℕ, ◌-◌, nat_lt, Bool, true, false, ◌&&◌, ◌==◌, if◌then◌else◌, List, [], ◌∷◌, ◌++◌, length, take, drop, codes}
use Rattle.std.specs.Fmt.{decimal}
use Rattle.std.specs.List.{flat_map}
use Rattle.iloc_text.specs.declared.fault.ReadFault.{ReadFault}
use Rattle.iloc_text.specs.declared.fault.ReadFault.TheVariants.{InputTooLong, BadLine, NumberTooLarge, TooManyBlocks, TooManyOperations, NoMemory}
use Rattle.iloc_text.specs.Fault.{fault_text, of_line}
use Rattle.iloc_text.specs.Grammar.{is_blank}
use Rattle.iloc_lint.specs.Faults.{Refusal, IsLinted}
use Rattle.iloc_lint.specs.Place.{IsPlace}
use Rattle.iloc_lint.specs.Refused.{MOST_LISTED}

-- a byte in one column: a blank as a space, and what can't be printed as `?`
abbrev pub shown_byte : ℕ → ℕ
shown_byte c = if is_blank c then 32 else (if nat_lt 31 c && nat_lt c 127 then c else 63)

abbrev pub shown : List ℕ → List ℕ
shown bytes = flat_map (λ c. shown_byte c ∷ []) bytes

-- `..` where something is left out
abbrev pub cut : Bool → List ℕ
cut left_out = if left_out then codes ".." else []

-- the line from this place on, 64 bytes of it at most
abbrev pub text_line : List ℕ → ℕ → List ℕ
text_line line from =
    codes "    " ++ cut (nat_lt 0 from) ++ shown (take 64 (drop from line)) ++ cut (nat_lt 64 (length (drop from line)))
    ++ codes "\n"

-- as many spaces as come before a caret at most
abbrev pub spaces : List ℕ
spaces = codes "                                        "

-- a caret below the byte at a place
abbrev pub caret_line : ℕ → ℕ → List ℕ
caret_line from at = codes "    " ++ (if nat_lt 0 from then codes "  " else []) ++ take (at - from) spaces ++ codes "^\n"

-- what is said of line n: what is wrong, its text, and a caret below the byte at this place, of which 40 bytes come before it
-- at most
abbrev pub line_entry : ℕ → List ℕ → List ℕ → ℕ → List ℕ
line_entry n what line at =
    of_line n (codes ": " ++ shown what ++ codes "\n") ++ text_line line (at - 40) ++ caret_line (at - 40) at

-- The entry of a line that is refused, with a caret where its reading ends. How it is worded that a line has no reading is
-- free, in one line.
abbrev pub IsEntry : List ℕ → ReadFault → List ℕ → Type 0
IsEntry line InputTooLong entry = entry ≡ fault_text InputTooLong ++ codes "\n"
IsEntry line (BadLine n) entry =
    (what : List ℕ) × (at : ℕ) × IsPlace line at × (entry ≡ line_entry n what line at)
IsEntry line (NumberTooLarge n) entry =
    (at : ℕ) × IsPlace line at × (entry ≡ line_entry n (codes "a number above 2147483647") line at)
IsEntry line (TooManyBlocks n) entry = entry ≡ line_entry n (codes "more than 65535 blocks") line 0
IsEntry line (TooManyOperations n) entry = entry ≡ line_entry n (codes "more than 10000 operations in a block") line 0
IsEntry line NoMemory entry = ⊥

-- an entry for each
abbrev pub AreRefusalEntries : List Refusal → List ℕ → Type 0
AreRefusalEntries [] text = text ≡ []
AreRefusalEntries (refusal ∷ refusals) text =
    (entry : List ℕ) × (rest : List ℕ) × IsEntry refusal.line refusal.fault entry × AreRefusalEntries refusals rest
    × (text ≡ entry ++ rest)

-- how many more are refused than are listed
abbrev pub more_line : ℕ → List ℕ
more_line faults =
    if nat_lt MOST_LISTED faults then codes "and " ++ decimal (faults - MOST_LISTED) ++ codes " more\n" else []

-- a hint, whose wording is free
abbrev pub hint_line : List ℕ → List ℕ
hint_line what = codes "hint: " ++ shown what ++ codes "\n"

-- hints are given only on a text that reads
abbrev pub AreHints : Bool → List ℕ → Type 0
AreHints true text = (hints : List (List ℕ)) × (text ≡ flat_map hint_line hints)
AreHints false text = text ≡ []

-- the last line
abbrev pub total_line : ℕ → ℕ → ℕ → List ℕ
total_line blocks ops faults =
    codes "blocks " ++ decimal blocks ++ codes " operations " ++ decimal ops ++ codes " faults " ++ decimal faults
    ++ codes "\n"

-- The listing of a text that reads or doesn't: an entry for each of the first lines that are refused, and how many more there
-- are; or hints; and what the text holds.
pub record ListsLint (input : List ℕ) (reads : Bool) (listing : List ℕ) : Type 0 where
  pub faults : List Refusal
  pub blocks : ℕ
  pub ops : ℕ
  pub linted : IsLinted input faults blocks ops
  pub entries : List ℕ
  pub are_entries : AreRefusalEntries (take MOST_LISTED faults) entries
  pub hints : List ℕ
  pub are_hints : AreHints reads hints
  pub listed : listing ≡ entries ++ more_line (length faults) ++ hints ++ total_line blocks ops (length faults)
  pub finds : reads ≡ (length faults == 0)
