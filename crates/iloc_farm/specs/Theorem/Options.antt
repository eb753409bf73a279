-- What the words ask of the machine, of its rule of memory and of its memory.
use Rattle.std.specs.Prelude.{◌≡◌, ℤ, Bool, if◌then◌else◌, List}
use Rattle.iloc_meaning.specs.Memory.{words_from}
use Rattle.iloc_timed.specs.declared.latencies.Latencies.{Latencies}
use Rattle.iloc_rules.specs.declared.memory_rule.MemoryRule.{MemoryRule}
use Rattle.iloc_rules.specs.declared.memory_rule.MemoryRule.TheVariants.{Book, Address}
use Rattle.iloc_args.specs.Asked.{Asked}
use Rattle.iloc_args.specs.declared.flag.Flag.{Flag}
use Rattle.iloc_args.specs.declared.flag.Flag.TheVariants.{Disambiguate}

-- `latencies` are the ones that are asked for
pub record AreLatencies (asked : Asked) (latencies : Latencies) : Type 0 where
  pub load : latencies.load ≡ asked.load
  pub store : latencies.store ≡ asked.store
  pub mult : latencies.mult ≡ asked.mult

-- the rule of memory that is asked for: by address with `--disambiguate`, else by the book
abbrev pub rule_asked : (Flag → Bool) → MemoryRule
rule_asked flags = if flags Disambiguate then Address else Book

-- the memory that is asked for, where blocks start
abbrev pub memory_asked : Asked → List ℤ
memory_asked asked = words_from asked.at asked.words
