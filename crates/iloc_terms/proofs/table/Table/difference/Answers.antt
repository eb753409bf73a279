use Rattle.iloc_terms.proofs.Common.{◌∙◌, if_ok}
use Rattle.iloc_terms.proofs.Terms.Products.{less_times}
use Rattle.iloc_terms.proofs.table.Table.difference.Goals as goal

pub returns : goal.returns
returns c = if_ok _ _ c.sum.result (λ n says memory d meaning.
    let more = says memory d meaning in
    let less = c.in_ok-less.ensures memory d more.0 in
    (less.0, more.1 ∙ less_times (d.word c.args.left) (d.word c.args.right) (d.word c.in_ok-less.less) less.1))
    c.sum.ensures
