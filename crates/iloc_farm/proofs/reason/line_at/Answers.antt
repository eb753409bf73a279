use Rattle.std.proofs.Common.{◌++◌, ◌∷◌, [], refl, rules, ap, ◌∙◌, sym, ◌+◌, length-append, append_assoc}
use Rattle.iloc_text.specs.Lines.{lines_left, lines_of}
use Rattle.iloc_farm.proofs.reason.line_at.Goals as goal

pub loop-init : goal.loop-init
loop-init c = ([], refl, refl)

pub loop-preserved : goal.loop-preserved
loop-preserved c =
    let before = c.loop.invariant.0 in
    let line = c.split_line.result.0.now in (
      before ++ line ∷ [],
      length-append before (line ∷ []) ∙ ap (λ n. n + 1) c.loop.invariant.1,
      c.loop.invariant.2 ∙ ap (λ rest. before ++ rest) (c.split_line.ensures ∙ ap (λ left. line ∷ lines_left left) c.in_default-Some.is-1)
          ∙ sym (append_assoc before (line ∷ []) (lines_of c.in_default-Some.after.now)),
    )

pub returns : goal.returns
returns c = (
  c.loop.invariant.0,
  lines_left c.split_line-2.result.1,
  search rules,
  c.loop.invariant.2 ∙ ap (λ rest. c.loop.invariant.0 ++ rest) c.split_line-2.ensures,
)
