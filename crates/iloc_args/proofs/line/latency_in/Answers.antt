use Rattle.iloc_args.proofs.Common.{◌∙◌, lit<, LONGEST_LATENCY, found_of}
use Rattle.iloc_args.proofs.Getters.{one_read}
use Rattle.iloc_args.proofs.line.latency_in.Goals as goal

pub returns : goal.returns
returns c =
    let got = one_read c.args.option.now (found_of c.args.given.now) 1 LONGEST_LATENCY c.args.usual c.get_one.result
    (lit< tt) c.requires.known.0 c.requires.known.1 c.requires.held c.get_one.ensures.none
    c.get_one.ensures.value in
    record {
      value = c.unwrap_or.ensures ∙ got.value;
      within = (rw c.unwrap_or.ensures got.at_least, rw c.unwrap_or.ensures got.at_most);
    }
