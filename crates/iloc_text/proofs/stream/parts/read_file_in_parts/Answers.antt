use Rattle.iloc_text.proofs.Within.{files_within}
use Rattle.iloc_text.proofs.stream.parts.read_file_in_parts.Goals as goal

pub returns-clause-limits : goal.returns-clause-limits
returns-clause-limits g c =
    let came = c.in_ok-read_pieces.ensures in
    files_within came.0 _ (c.in_ok-finish.ensures.ok came.0 (came.2 c.new-text.ensures))
