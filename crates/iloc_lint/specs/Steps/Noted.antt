-- A line that was judged.
use Rattle.std.specs.Prelude.{ℕ, List, map, Option, option_to_list}
use Rattle.iloc_text.specs.declared.fault.ReadFault.{ReadFault}
use Rattle.iloc_lint.specs.Faults.{Refusal}

-- the line, if it is refused
abbrev pub refusals : List ℕ → Option ReadFault → List Refusal
refusals line fault = map (λ f. record { line = line; fault = f }) (option_to_list fault)
