use Rattle.iloc_addresses.proofs.Common.{◌≡◌, Some, subst, rules, on_ok_weaker, defined, result_word, ChangesOnly, word_in}
use Rattle.iloc_addresses.proofs.KnownBefore.{one_more}
use Rattle.iloc_addresses.proofs.registers.KnownRegisters.take.Goals as goal

pub returns-in-Some : goal.returns-in-Some
returns-in-Some c =
    let defines : defined c.args.op.now ≡ Some c.in-Some.register = search rules in
    let word : c.result_of-word.result ≡ result_word c.args.i c.args.op.now (word_in c.args.self.now) = c.result_of-word.ensures in
    on_ok_weaker c.set.result (λ changes ops here known.
    one_more ops c.args.i c.args.op.now c.args.self.now here known c.set.new.self c.in-Some.register defines
    (subst (ChangesOnly c.args.self.now c.set.new.self c.in-Some.register) word changes)) c.set.ensures
