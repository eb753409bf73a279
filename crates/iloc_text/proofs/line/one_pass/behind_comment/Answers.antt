use Rattle.std.proofs.Common.{rules}
use Rattle.iloc_text.proofs.OnePass.{comment_first}
use Rattle.iloc_text.proofs.line.one_pass.behind_comment.Goals as goal

pub returns-in-47 : goal.returns-in-47
returns-in-47 c =
    comment_first _ _ _ c.in-47.len_at_least (search rules) (search rules) c.split_line.ensures
