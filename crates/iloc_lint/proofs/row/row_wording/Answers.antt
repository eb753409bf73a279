use Rattle.std.proofs.Common.{rules}
use Rattle.iloc_lint.proofs.row.row_wording.Goals as goal

pub returns : goal.returns
returns c =
    let stop = c.stop_of-stop.ensures in
    let found = c.found_at.ensures in
    record {
      front = stop.0;
      rest = c.stop_of-stop.result.rest.now;
      whole = stop.1;
      wanted = c.stop_of-stop.result.wanted;
      may_follow = stop.2;
      left = found.0;
      after_blanks = found.1;
      found = c.found_at.result.now;
      next = found.2;
      told = search rules;
    }
