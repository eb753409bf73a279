use Rattle.iloc_terms.proofs.two_runs.TwoRuns.of.Goals as goal

pub returns : goal.returns
returns c = λ memory d meaning.
    let second = c.in_ok-other.ensures memory d meaning in
    let first = c.in_ok-one.ensures memory d second.0 in (first.1, second.1)
