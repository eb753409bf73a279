use Rattle.iloc_lint.proofs.Common.{◌≡◌, ◌+◌, [], ◌∷◌, ◌++◌, length, refl, ap, ◌∙◌, subst, inl, inr, arith, length-append, lines_are, lines_few, lines_left, lines_of, InputTooLong}
use Rattle.iloc_lint.specs.Steps.Noted.{refusals}
use Rattle.iloc_lint.proofs.Counted.{ops_few}
use Rattle.iloc_lint.proofs.Linting.{GoesOn, begins, lines_fit, fit_first, judged_on, at_end}
use Rattle.iloc_lint.proofs.faults.lint.Goals as goal

pub returns-then-input-gt-MAX_INPUT : goal.returns-then-input-gt-MAX_INPUT
returns-then-input-gt-MAX_INPUT c = (
  record { line = []; fault = InputTooLong } ∷ [],
  inr (record {
    long = c.if-input-gt-MAX_INPUT.true;
    refused = refl;
    no_blocks = c.in_ok-found.ensures.1;
    no_ops = c.in_ok-found.ensures.2;
  }),
  c.in_ok-found.ensures.0,
)

pub loop-rest-init : goal.loop-rest-init
loop-rest-init c = record {
  counted = omega arith;
  fit = lines_fit c.args.input.now c.if-input-gt-MAX_INPUT.false;
  few = omega (arith, c.none-faults.ensures.count);
  stands = ([], c.none-counts.ensures, refl, [], begins (lines_of c.args.input.now), c.none-faults.ensures);
}

pub overflow_add-number : goal.overflow_add-number
overflow_add-number c = omega (arith, c.loop-rest.invariant.counted, lines_few c.args.input.now, c.if-input-gt-MAX_INPUT.false, ap (λ rest. length (lines_left rest)) c.in-Some.is, (lines_are c.in-Some.text.now).some)

pub judge-requires-clause-single : goal.judge-requires-clause-single
judge-requires-clause-single c =
    (fit_first _ _ c.in-Some.is c.split_line.ensures c.loop-rest.invariant.fit).0.0

pub judge-requires-clause-short : goal.judge-requires-clause-short
judge-requires-clause-short c =
    (fit_first _ _ c.in-Some.is c.split_line.ensures c.loop-rest.invariant.fit).0.1

pub judge-requires-clause-room : goal.judge-requires-clause-room
judge-requires-clause-room c =
    let stands = c.loop-rest.invariant.stands in
    omega (arith, stands.1.ops, ops_few stands.0, stands.2, c.loop-rest.invariant.counted, lines_few c.args.input.now, c.if-input-gt-MAX_INPUT.false)

pub add-requires : goal.add-requires
add-requires c = omega (arith, c.loop-rest.invariant.few)

pub loop-rest-preserved : goal.loop-rest-preserved
loop-rest-preserved c =
    let now = c.loop-rest.invariant in
    let stands = now.stands in
    let number : length stands.0 + 1 ≡ c.loop-rest.number + 1 = ap (λ n. n + 1) stands.2 in
    let judged = c.in_ok-fault.ensures stands.0 stands.1 number in
    record {
      counted = omega (arith, now.counted, ap length c.split_line.ensures, ap (λ rest. length (lines_left rest)) c.in-Some.is);
      fit = (fit_first _ _ c.in-Some.is c.split_line.ensures now.fit).1;
      few = omega (arith, now.few, c.add.ensures.few);
      stands = (
        stands.0 ++ judged.0 ∷ [],
        judged.2,
        length-append stands.0 (judged.0 ∷ []) ∙ number,
        stands.3 ++ refusals _ _,
        judged_on _ stands.0 c.split_line.result.1 _ stands.3 _ _ _ stands.4 c.in-Some.is c.split_line.ensures judged refl,
        c.in_ok-add.ensures.kept stands.3 stands.5,
      );
    }

pub loop-rest-smaller : goal.loop-rest-smaller
loop-rest-smaller c =
    omega (arith, ap length c.split_line.ensures, ap (λ rest. length (lines_left rest)) c.in-Some.is)

pub returns : goal.returns
returns c =
    let stands = c.loop-rest.invariant.stands in (
      stands.3,
      inl (at_end c.args.input.now stands.0 stands.3 _ _ c.if-input-gt-MAX_INPUT.false
          (subst (λ rest. GoesOn (lines_of c.args.input.now) stands.0 (lines_left rest) stands.3) c.in_default.is stands.4)
          stands.1.blocks stands.1.ops),
      stands.5,
    )
