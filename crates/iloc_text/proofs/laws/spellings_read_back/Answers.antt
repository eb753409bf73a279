use Rattle.iloc_text.proofs.Spelled.{spelling_reads}
use Rattle.iloc_text.proofs.laws.spellings_read_back.Goals as goal

pub returns : goal.returns
returns c = spelling_reads
