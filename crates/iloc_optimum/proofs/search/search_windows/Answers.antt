use Rattle.iloc_optimum.proofs.Common.{[], ◌∷◌, ◌++◌, sym, ap, ◌∙◌, subst, arith, common_steps, IsCovered, AreSized}
use Rattle.iloc_optimum.proofs.CoveredStack.{sized_last, covered_without, covered_by, not_false}
use Rattle.iloc_optimum.proofs.search.search_windows.Goals as goal
use Rattle.iloc_optimum.proofs.search.search_windows.Goals.{then-branch+in-Some-first_open+in_ok-late+in_ok-push-2+in_ok-push-3, else-branch}

pub narrow-requires-clause-windows : goal.narrow-requires-clause-windows
narrow-requires-clause-windows c = grind (arith, sized_last, common_steps)

pub loop-preserved : goal.loop-preserved
loop-preserved c =
    let edges = c.args.edges.now in
    let kinds = c.args.kinds.now in
    let rest = c.pop.new.self.items in
    let was : IsCovered edges kinds c.args.root (rest ++ c.in-Some.windows ∷ []) =
    subst (λ ws. IsCovered edges kinds c.args.root ws) c.in-Some.ensures.items c.loop.invariant in
    let sized : AreSized kinds c.narrow.new.windows = c.in_ok-narrow.ensures.sized in
    elim c.if-branch.branch [
      | then-branch+in-Some-first_open+in_ok-late+in_ok-push-2+in_ok-push-3 w ↦
          (let late = w.in_ok-late.late in
          let early = w.split.new.windows in
          let sizes = w.in_ok-late.ensures in
          let both : IsCovered edges kinds c.args.root ((rest ++ late ∷ []) ++ early ∷ []) =
          covered_by edges kinds c.args.root rest c.in-Some.windows late early
          (λ t timing keeps. sizes.all t (c.in_ok-narrow.ensures.kept t timing keeps).1)
          (sizes.late.0 ∙ sized.0, sizes.late.1 ∙ sized.1) (sizes.firsts ∙ sized.0, sizes.lasts ∙ sized.1) was in
          subst (λ ws. IsCovered edges kinds c.args.root ws)
          (sym (ap (λ s. s.items) w.stack-is ∙ (w.in_ok-push-3.ensures.items ∙ ap (λ ws. ws ++ early ∷ []) w.in_ok-push-2.ensures.items)))
          both)
      | else-branch w ↦
          (let left : IsCovered edges kinds c.args.root rest =
          covered_without edges kinds c.args.root rest c.in-Some.windows
          (λ t timing keeps. not_false c.in_ok-narrow.field-0 (c.in_ok-narrow.ensures.kept t timing keeps).0 w.if-branch.false) was in
          subst (λ ws. IsCovered edges kinds c.args.root ws) (sym (ap (λ s. s.items) w.stack-is)) left)
    ]
