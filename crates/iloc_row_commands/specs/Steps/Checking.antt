-- What was found of several proposals together.
use Rattle.std.specs.Prelude.{List, [], ◌++◌, ℕ, Option, Some, None, codes, sum_by}
use Rattle.std.specs.Fmt.{decimal}
use Rattle.iloc_verdict.specs.declared.checked.Checked.{Checked}
use Rattle.iloc_row_commands.specs.declared.totals.Totals.{Totals}
use Rattle.iloc_row_commands.specs.Check.{best_of, bound_of}

-- what was `found`, added up
abbrev pub totals_of : List Checked → Totals
totals_of found = record {
  cycles = sum_by (λ c. c.cycles) found;
  ours = sum_by (λ c. c.ours) found;
  best = sum_by best_of found;
  bound = sum_by bound_of found;
  least = sum_by (λ c. c.least) found;
}

-- of the totals `t` what was sought, where the request has nodes
abbrev pub sought_text : Option ℕ → Totals → List ℕ
sought_text None t = []
sought_text (Some nodes) t = codes " best " ++ decimal t.best ++ codes " bound " ++ decimal t.bound

-- the line of the totals
abbrev pub totals_text : Option ℕ → Totals → List ℕ
totals_text nodes t =
    codes "total " ++ decimal t.cycles ++ codes " ours " ++ decimal t.ours ++ sought_text nodes t ++ codes " least "
    ++ decimal t.least ++ codes "\n"
