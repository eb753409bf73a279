use Rattle.iloc_validation.proofs.Common.{◌≡◌, true, false, sym, ◌∙◌, KeptColours, Sides}
use Rattle.iloc_validation.proofs.NoPartner.{among_all}
use Rattle.iloc_validation.proofs.PairedCounts.{paired_counts}
use Rattle.iloc_validation.specs.Steps.Decisions.{IsExcluded}
use Rattle.iloc_facts.specs.Counts.{has_operations}
use Rattle.iloc_facts.proofs.SameCounts.{as_many, not_as_many}
use Rattle.iloc_validation.proofs.decision.decided.Goals as goal
use Rattle.iloc_validation.proofs.decision.decided.Goals.{then-branch, else-branch}

pub returns-in-None : goal.returns-in-None
returns-in-None c = rw c.in-None.is at c.in_ok-colours.ensures

pub searched-requires-clause-here : goal.searched-requires-clause-here
searched-requires-clause-here c =
    let are : KeptColours c.args.sides.now c.in-Some.colours = rw c.in-Some.is at c.in_ok-colours.ensures in
    are.here_size

pub searched-requires-clause-there : goal.searched-requires-clause-there
searched-requires-clause-there c =
    let are : KeptColours c.args.sides.now c.in-Some.colours = rw c.in-Some.is at c.in_ok-colours.ensures in
    are.there_size

-- operations of other labels can't be paired
others_excluded : (sides : Sides) → has_operations sides.block.items sides.schedule.now.ops ≡ false → IsExcluded sides
others_excluded sides others origin partner under =
    let block = sides.block.items in
    let ops = sides.schedule.now.ops in
    not_as_many block ops others (λ op. sym (paired_counts block ops origin partner under.paired op))

pub returns-in-Undecided : goal.returns-in-Undecided
returns-in-Undecided c =
    let sides = c.args.sides.now in
    let found : c.in_ok-has_operations.field-0 ≡ has_operations sides.block.items sides.schedule.now.ops =
    rw (c.deref.ensures.value, c.ops.ensures.ops) at c.in_ok-has_operations.ensures in
    elim c.if-branch.branch [
      | then-branch w ↦
          let has : has_operations sides.block.items sides.schedule.now.ops ≡ true = sym found ∙ w.if-branch.true in
          rw w.result-is (λ op. as_many sides.block.items sides.schedule.now.ops has op)
      | else-branch w ↦
          let hasnt : has_operations sides.block.items sides.schedule.now.ops ≡ false = sym found ∙ w.if-branch.false in
          rw w.result-is (λ origin partner under. others_excluded sides hasnt origin partner under)
    ]

pub returns : goal.returns
returns c =
    let are : KeptColours c.args.sides.now c.in-Some.colours = rw c.in-Some.is at c.in_ok-colours.ensures in
    among_all c.args.sides.now c.in-Some.colours.here.items c.in-Some.colours.there.items are.kept
    c.in_ok-decision.decision c.in_default.not-Undecided c.in_ok-decision.ensures
