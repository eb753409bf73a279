-- What is listed of one input does not depend on the workers, and greedy schedules can be listed.
use Rattle.iloc_farm.proofs.Common.{◌≡◌, ℕ, List, is_some, IsTrue, Option, sym, arith, transport, Global, String, Block, one_answer, placed, has, Csv, EitherSlot, Request, Task, greedy_long, total_small, opening_as, total_of_all, listing_after_also, IsListingAfter, IsListingOf, Own, own_of, IsListingFor, ListsAs, takes_rows, Held, Finding, IsCompareEntry, IsCompareListing, compare_ending, compare_header, ending_for, opening_for, ComparedCycles, Checks, ListsChecked, options_by, command_of, AskAlike, ChecksIgnoreWorkers, GreedySchedulesCanBeListed, ListingsIgnoreWorkers, OptimaIgnoreWorkers}
use Rattle.iloc_args.specs.declared.request.Task.TheVariants as task
use Rattle.iloc_row_commands.specs.Explain.{Explains, ExplainsRows}
use Rattle.iloc_row_commands.specs.Trace.{Traces, TracesRows}
use Rattle.iloc_block_commands.specs.Optimize.{IsOptimizeEntry}
use Rattle.iloc_farm.proofs.Listers.{of_one_task, one_memory, rule_same}

pub ignore_workers : ListingsIgnoreWorkers
ignore_workers r q alike settled input blocks blocks' denotes denotes' own text text' lists lists' =
    let same : blocks' ≡ blocks = sym (one_answer.file input blocks blocks' denotes denotes') in
    let one_task : q.task ≡ r.task = sym alike.task in
    of_one_task r.task r q alike settled own blocks text text' lists
    (transport (λ i. IsListingFor command_of (one_task i) q own (same i) text') lists')

-- a comparison of the one request is one of the other
compares_alike : (r q : Request) → AskAlike r q → (own : Option (List ℕ)) (k : ℕ) (b : Block) (entry : List ℕ)
    (found : ComparedCycles) → IsCompareEntry r own k b entry found → IsCompareEntry q own k b entry found
compares_alike r q alike own k b entry found is = grind (arith, transport)

-- and so with listings of them
compared_alike : (r q : Request) → AskAlike r q → (own : Own) (blocks : List Block) (text : List ℕ)
    → IsCompareListing r own blocks text → IsCompareListing q own blocks text
compared_alike r q alike own blocks text is =
    transport (λ i. IsListingAfter (λ k. IsCompareEntry q (own_of own k) k)
    (opening_as (has (alike.flags i) Csv) (compare_header (alike.nodes i) (is_some (alike.priorities_file i))))
    (compare_ending (has (alike.flags i) Csv) (alike.nodes i) (is_some (alike.priorities_file i))) blocks text)
    (listing_after_also (λ k. IsCompareEntry r (own_of own k) k) (λ k. IsCompareEntry q (own_of own k) k)
    (λ k. compares_alike r q alike (own_of own k) k) (opening_for r) (ending_for r) blocks text is)

pub optima_ignore_workers : OptimaIgnoreWorkers
optima_ignore_workers r q alike task.Run seeks own blocks text lists = absurd cc
optima_ignore_workers r q alike task.Simulate seeks own blocks text lists = absurd cc
optima_ignore_workers r q alike task.Trace seeks own blocks text lists = absurd cc
optima_ignore_workers r q alike task.Schedule seeks own blocks text lists = absurd cc
optima_ignore_workers r q alike task.Counts seeks own blocks text lists = absurd cc
optima_ignore_workers r q alike task.Compare seeks own blocks text lists = compared_alike r q alike own blocks text lists
optima_ignore_workers r q alike task.Optimize seeks own blocks text lists =
    transport (λ i. IsListingOf (IsOptimizeEntry (rule_same r q alike i) (alike.latencies i)) total_of_all blocks text) lists
optima_ignore_workers r q alike task.Explain seeks own blocks text lists = absurd cc
optima_ignore_workers r q alike task.Check seeks own blocks text lists = absurd cc
optima_ignore_workers r q alike task.Graph seeks own blocks text lists = absurd cc
optima_ignore_workers r q alike task.Lint seeks own blocks text lists = absurd cc

-- one check is what both requests ask for
one_check : (r q : Request) → AskAlike r q → Checks r ≡ Checks q
one_check r q alike = λ i. λ blocks proposals finding text.
    ListsChecked (options_by (has (alike.flags i))) (alike.nodes i) (rule_same r q alike i) (alike.latencies i)
    (one_memory r q alike i) blocks (placed (has (alike.flags i) EitherSlot) proposals) finding text

-- one explanation of rows
explained_alike : (r q : Request) → AskAlike r q → Explains r ≡ Explains q
explained_alike r q alike = λ i. λ blocks proposals finding text.
    ExplainsRows (alike.priority i) (alike.latencies i) blocks (placed (has (alike.flags i) EitherSlot) proposals) finding text

-- and one trace of them
traced_alike : (r q : Request) → AskAlike r q → Traces r ≡ Traces q
traced_alike r q alike = λ i. λ blocks proposals finding text.
    TracesRows (alike.latencies i) (one_memory r q alike i) blocks (placed (has (alike.flags i) EitherSlot) proposals) finding text

as_alike : (held : Held) (r q : Request) → AskAlike r q → (t : Task) (file : Option (String Global))
    → IsTrue (takes_rows command_of t file) → (old new : Option (List ℕ)) (finding : Finding) (text : List ℕ)
    → ListsAs command_of t file held r old new finding text → ListsAs command_of t file held q old new finding text
as_alike held r q alike t file takes old new finding text lists = grind (arith, explained_alike, one_check, traced_alike, transport)

pub checks_ignore_workers : ChecksIgnoreWorkers
checks_ignore_workers = grind (arith, as_alike, transport)

pub can_be_listed : GreedySchedulesCanBeListed
can_be_listed heuristic lat blocks schedules limits greedy =
    (greedy_long heuristic lat blocks schedules greedy, total_small heuristic lat blocks schedules greedy limits)
