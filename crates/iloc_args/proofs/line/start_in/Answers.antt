use Rattle.iloc_args.proofs.Common.{codes, ◌∙◌, lit<, lit≤, LAST_ADDRESS, found_of}
use Rattle.iloc_args.proofs.Getters.{one_read}
use Rattle.iloc_args.proofs.line.start_in.Goals as goal

pub returns : goal.returns
returns c =
    let got = one_read (codes "at") (found_of c.args.given.now) 0 LAST_ADDRESS 1024 c.get_one.result (lit< tt) (lit≤ tt)
    (lit≤ tt) c.requires.at c.get_one.ensures.none c.get_one.ensures.value in
    record { value = c.unwrap_or.ensures ∙ got.value; in_memory = rw c.unwrap_or.ensures got.at_most }
