use Rattle.iloc_sched.proofs.Common.{List, [], ◌∷◌, ◌++◌, length, sym, refl, ap, ◌∙◌, subst, arith, Op, renamed_is_renamed, IsRenamed, numbering, renamed_by}
use Rattle.iloc_sched.proofs.Renamed.RenamingLoop.{next_pushed, without_nops_more}
use Rattle.iloc_sched.proofs.KeptEdges.OneMoreInTables.{size_more}
use Rattle.iloc_sched.proofs.tables.Tables.push_renamed.Goals as goal

pub push-requires-clause-renamed : goal.push-requires-clause-renamed
push-requires-clause-renamed c =
    let past : List Op = c.requires.gathered.0 in
    let was = c.requires.gathered.1 in
    let ops : List Op = c.args.self.now.ops.items in
    let next = c.in_ok-renamed.ensures.next _ was.named in
    subst IsRenamed
    (sym (next_pushed _ ops (ops ++ c.in_ok-renamed.renamed ∷ []) _ c.in_ok-renamed.renamed was.ops next.1 refl
    ∙ ap (λ done. renamed_by done (numbering done)) (sym (without_nops_more past c.args.op.now c.requires.counts))))
    (renamed_is_renamed (past ++ c.args.op.now ∷ []))

pub push-requires-clause-filling : goal.push-requires-clause-filling
push-requires-clause-filling c = c.requires.gathered.1.filling

pub returns-clause-gathered : goal.returns-clause-gathered
returns-clause-gathered c done was = grind (arith, next_pushed)

pub returns-clause-size : goal.returns-clause-size
returns-clause-size c =
    ap (length {A = Op}) c.in_ok-push.ensures.ops ∙ size_more c.args.self.now.ops.items c.in_ok-renamed.renamed
