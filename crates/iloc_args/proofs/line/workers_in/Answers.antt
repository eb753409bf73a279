use Rattle.iloc_args.proofs.Common.{codes, ◌∙◌, lit<, lit≤, found_of}
use Rattle.iloc_args.proofs.Getters.{one_read}
use Rattle.iloc_args.proofs.line.workers_in.Goals as goal

pub returns : goal.returns
returns c =
    let got = one_read (codes "workers") (found_of c.args.given.now) 1 8 2 c.get_one.result (lit< tt) (lit≤ tt)
    (lit≤ tt) c.requires.workers c.get_one.ensures.none c.get_one.ensures.value in
    record {
      value = c.unwrap_or.ensures ∙ got.value;
      some = rw c.unwrap_or.ensures got.at_least;
      few = rw c.unwrap_or.ensures got.at_most;
    }
