use Rattle.std.proofs.Common.{rules}
use Rattle.iloc_driver.proofs.commands.of_file_or_rows.Goals as goal

pub returns-else-is_some : goal.returns-else-is_some
returns-else-is_some g c =
    let comes = c.alone.ensures in search rules
