use Rattle.iloc_row_commands.proofs.Common.{◌≡◌, ℕ, Bool, List, ◌++◌, ℤ, codes, Option, arith, Block, Latencies, Proposed, block_head, parts_joined, AppendsEntry}
use Rattle.iloc_timed.proofs.WholeRuns.{if_ok}
use Rattle.iloc_row_commands.specs.Trace.{IsRowsTraceEntry, IsTraceOf}
use Rattle.iloc_row_commands.proofs.trace.RowsTracerRowLister.list.Goals as goal

-- What proposals do.

-- what was appended is the entry
traced_listed : (lat : Latencies) (memory start : List ℤ) (k : ℕ) (b : Block) (p : Proposed) (traced : Bool)
    (text headed lined more said : List ℕ) (name : Option (List ℕ)) → memory ≡ start → name ≡ b.name
    → headed ≡ text ++ block_head k name → lined ≡ headed ++ codes "\n"
    → IsTraceOf traced lat memory p said → more ≡ lined ++ said
    → AppendsEntry (IsRowsTraceEntry lat start k (b, p)) text more traced
traced_listed lat memory start k b p traced text headed lined more said name starts named opened ended is added = grind (arith, parts_joined)

pub returns-clause-listed : goal.returns-clause-listed
returns-clause-listed c =
    if_ok _ _ c.push_traced.result (λ traced said.
    traced_listed c.args.request.now.latencies _ _ c.args.job.now.number c.args.job.now.block.now c.args.proposal traced
    c.args.text.now.items _ _ _ said.0 _ c.requires c.as_ref.ensures.value c.in_ok-push_block_head.ensures
    c.in_ok-push.ensures.items said.1 said.2) c.push_traced.ensures.listed
