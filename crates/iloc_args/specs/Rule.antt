-- By which rule of memory a request has blocks scheduled.
use Rattle.std.specs.Prelude.{if◌then◌else◌}
use Rattle.iloc_rules.specs.declared.memory_rule.MemoryRule.{MemoryRule}
use Rattle.iloc_rules.specs.declared.memory_rule.MemoryRule.TheVariants.{Book, Address}
use Rattle.iloc_args.specs.Flags.{has}
use Rattle.iloc_args.specs.declared.flag.Flag.TheVariants.{Disambiguate}
use Rattle.iloc_args.specs.declared.request.Request.{Request}

-- by address if that is asked for, else by the book
abbrev pub memory_rule : Request → MemoryRule
memory_rule r = if has r.flags Disambiguate then Address else Book
