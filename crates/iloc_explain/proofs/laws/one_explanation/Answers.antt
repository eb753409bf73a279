use Rattle.iloc_explain.proofs.OneText as texts
use Rattle.iloc_explain.proofs.laws.one_explanation.Goals as goal

pub returns : goal.returns
returns c = texts.one_explanation
