-- Which sources a numbering has.
use Rattle.std.specs.Prelude.{◌≡◌, true, List}
use Rattle.std.specs.List.{list_any}
use Rattle.iloc_rules.specs.Renaming.{Source, is_source}

-- the source stands in the list
abbrev pub Stands : List Source → Source → Type 0
Stands sources s = list_any (is_source s) sources ≡ true
