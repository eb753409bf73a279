use Rattle.iloc_row_commands.proofs.Common.{◌≡◌, ℕ, ◌≤◌, List, ◌++◌, length, codes, Option, refl, ap, ◌∙◌, arith, Block, Op, MAX_ROWS, Table, Latencies, Proposed, cycles_within, the_greedy, most_proposed_cycles, block_head, parts_joined, AppendsEntry, IsRowsExplanation, ExplainedRows}
use Rattle.iloc_rules.specs.declared.heuristic.Heuristic.{Heuristic}
use Rattle.iloc_row_commands.specs.Explain.{IsRowsEntry}
use Rattle.iloc_listing.specs.Schedules.{IsGreedyAs}
use Rattle.iloc_row_commands.proofs.explain.RowsExplainerRowLister.list.Goals as goal

-- What explains proposals.

-- the cycles of one proposal are few
few_told : (heuristic : Heuristic) (lat : Latencies) (block : List Op) (s : Table) (p : Proposed) (one : ExplainedRows)
    (text : List ℕ) → IsRowsExplanation heuristic lat block s p one text → length p.rows ≤ MAX_ROWS → one.cycles ≤ most_proposed_cycles
few_told heuristic lat block s p one text is few = grind (arith, cycles_within)

-- what was appended is the entry
rows_listed : (heuristic : Heuristic) (lat : Latencies) (k : ℕ) (b : Block) (s : Table) (p : Proposed) (one : ExplainedRows)
    (text headed lined more said : List ℕ) (name : Option (List ℕ)) → IsGreedyAs heuristic lat b.ops s → name ≡ b.name
    → headed ≡ text ++ block_head k name → lined ≡ headed ++ codes "\n"
    → IsRowsExplanation heuristic lat b.ops s p one said → more ≡ lined ++ said
    → AppendsEntry (IsRowsEntry heuristic lat k (b, p)) text more one
rows_listed heuristic lat k b s p one text headed lined more said name greedy named opened ended is added = record {
  entry = block_head k b.name ++ codes "\n" ++ said;
  right = record {
    ours = s;
    greedy = the_greedy heuristic lat b s greedy;
    text = said;
    right = is;
    listed = refl;
  };
  added = added
      ∙ (ap (λ xs. xs ++ said) (ended ∙ ap (λ xs. xs ++ codes "\n") (opened ∙ ap (λ n. text ++ block_head k n) named))
      ∙ parts_joined text (block_head k b.name) (codes "\n") said);
}

pub invariant_of-known : goal.invariant_of-known
invariant_of-known c = record {
  greedy = (c.in_ok-ours.ensures _ _ _ c.in_ok-refill.ensures.graph).greedy;
  drawn = c.in_ok-refill.ensures.graph;
}

pub returns-clause-listed : goal.returns-clause-listed
returns-clause-listed c =
    let request = c.args.request.now in
    let said = c.in_ok-found.ensures in
    rows_listed request.priority request.latencies c.args.job.now.number c.args.job.now.block.now c.in_ok-ours.ours c.args.proposal
    c.in_ok-found.found c.args.text.now.items _ _ _ said.0 _ (c.in_ok-ours.ensures _ _ _ c.in_ok-refill.ensures.graph).greedy c.as_ref.ensures.value
    c.in_ok-push_block_head.ensures c.in_ok-push.ensures.items said.1 said.2

pub returns-clause-small : goal.returns-clause-small
returns-clause-small c =
    let request = c.args.request.now in
    let said = c.in_ok-found.ensures in
    few_told request.priority request.latencies c.args.job.now.block.now.ops c.in_ok-ours.ours c.args.proposal c.in_ok-found.found
    said.0 said.1 c.rows.ensures.few
