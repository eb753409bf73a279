use Rattle.iloc_text.proofs.Common.{◌≡◌, ◌+◌, ◌-◌, ◌^◌, ◌≤◌, min, [], ◌∷◌, ◌++◌, length, sym, refl, ap, ◌∙◌, subst, ap₂, arith, length-append, nat_tests, MAX_INPUT, lines_of, has_copied, StandsAt, answer_from}
use Rattle.iloc_text.proofs.Apart.{denoted_behind}
use Rattle.iloc_text.proofs.Splitting.{lines_few}
use Rattle.iloc_text.proofs.TextReads.{count_further, goes_further, opens_behind, stands_behind}
use Rattle.iloc_text.proofs.Within.{files_within}
use Rattle.iloc_text.proofs.stream.text_reader.TextReader+Copies.take_blocks.Goals as goal

pub hand_on-requires-clause-limits : goal.hand_on-requires-clause-limits
hand_on-requires-clause-limits c = files_within c.args.text.now c.args.part.file.blocks c.requires.counted.denotes

pub overflow_add-self-3 : goal.overflow_add-self-3
overflow_add-self-3 c = omega (arith, c.args.self.now.few, c.requires.can_take.short, c.requires.counted.lines, lines_few c.args.text.now)

pub invariant_of-self-2 : goal.invariant_of-self-2
invariant_of-self-2 c =
    record { few = omega (arith, c.args.self.now.few, c.requires.counted.lines, lines_few c.args.text.now) }

pub returns : goal.returns
returns c = λ start before read.
    let self = c.args.self.now in
    let text = c.args.text.now in
    let can = c.requires.can_take in
    let size : length before + (length text + 1) ≡ length (before ++ text ++ 10 ∷ []) =
    omega (arith, length-append (before ++ text) (10 ∷ []), length-append before text) in
    record {
      counted = count_further self.length _ (length text + 1) _ (grind (arith, nat_tests, can.short)) read.counted
          ∙ ap (λ n. min n (2 ^ 64 - 1)) size;
      stands = λ short.
          let was : length before ≤ MAX_INPUT = omega (arith, short, size) in
          let goes = subst (λ fault. StandsAt fault has_copied start self before) can.faultless (read.stands was) in
          let taken = c.in_ok-hand_on.ensures start goes.blocks goes.taken in
          stands_behind has_copied start
          (record {
            taker = c.hand_on.new.taker;
            open_block = c.hand_on.new.self;
            number = self.number + c.args.part.lines;
            rest = self.rest;
            length = self.length + (length text + 1);
            fault = self.fault;
            few = _;
          })
          before text can.faultless
          (goes_further has_copied start self _ before (text ++ 10 ∷ []) text [] (goes.blocks ++ c.args.part.file.blocks)
          goes refl
          (ap (λ r. answer_from goes.blocks (self.number + 1) (lines_of (r ++ text))) can.at_line
          ∙ denoted_behind goes.blocks text c.args.part.file.blocks (self.number + 1) c.requires.counted.denotes
          (opens_behind goes.blocks text self.open_block.count self.number goes.taken.2.count can.opens)
          (omega (arith, can.few, goes.taken.2.count)))
          taken
          (ap₂ (λ n r. self.number + n) c.requires.counted.lines can.at_line
          ∙ ap (λ r. self.number + length (lines_of (r ++ text))) (sym can.at_line))
          can.at_line);
    }
