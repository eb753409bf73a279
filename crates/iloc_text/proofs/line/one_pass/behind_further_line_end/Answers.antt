use Rattle.iloc_text.proofs.Tokens.{some_map, blanks_read}
use Rattle.iloc_text.proofs.InLines.{blanks_inside}
use Rattle.iloc_text.proofs.OnePass.{ahead}
use Rattle.iloc_text.proofs.line.one_pass.behind_further_line_end.Goals as goal

pub returns : goal.returns
returns c = some_map (λ after. ahead blanks_inside (rw c.after_blanks.ensures (blanks_read c.args.bytes.now)))
    c.behind_comment.result c.behind_comment.ensures
