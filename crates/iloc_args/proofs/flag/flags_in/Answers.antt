use Rattle.iloc_args.proofs.Common.{◌≡◌, rules, found_of, rows_of, flag_in}
use Rattle.iloc_args.specs.Flags.{has}
use Rattle.iloc_args.specs.declared.flag.Flag.{Flag}
use Rattle.iloc_args.proofs.flag.flags_in.Goals as goal

pub returns : goal.returns
unfolding has
returns c =
    let each : (flag : Flag) → has (record { given = c.map.result }) flag ≡ flag_in (rows_of (found_of c.args.given.now)) flag =
    search rules in
    λ i flag. each flag i
