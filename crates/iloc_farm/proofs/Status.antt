-- What a status of 0 tells.
use Rattle.iloc_farm.proofs.Common.{◌≡◌, ℕ, List, Some, None, Ok, Err, Option, Result, option_map, sym, refl, ap, ◌∙◌, subst, inl, inr, arith, Global, String, Block, placed, Proposed, has, memory_rule, Csv, Cycles, EitherSlot, Request, Task, initial_memory, status_of_finding, ListsAs, Held, Finding, Passed, Checks, options_of, command_of}
use Rattle.std.specs.Io.KnownBytes.{Appends}
use Rattle.std.specs.String.{string_bytes}
use Rattle.std.specs.declared.io.Error.{Error}
use Rattle.iloc_args.specs.Asked.{Asked, asked_in}
use Rattle.iloc_args.specs.declared.fault.LineFault.TheVariants as line
use Rattle.iloc_args.specs.declared.request.Task.TheVariants as task
use Rattle.iloc_driver.proofs.AboveZero.{above_0}
use Rattle.iloc_driver.specs.Program.{Ends, MakeNone}
use Rattle.iloc_driver.specs.Run.{ListsFrom}
use Rattle.iloc_driver.specs.Words.{Args, AskFor}
use Rattle.iloc_driver.specs.declared.program.Ending.{Ending}
use Rattle.iloc_farm.proofs.Checks.{passed_keep_outcomes, passed_may_pass}
use Rattle.iloc_farm.proofs.Compared.{comparisons_hold}
use Rattle.iloc_farm.proofs.Kept.{counts_keep, explained_keep, optima_keep, runs_show, schedules_keep, simulated_keep}
use Rattle.iloc_farm.specs.Reads.{ReadsRows}
use Rattle.iloc_farm.specs.Theorem.{IfAsked, Status0Tells}
use Rattle.iloc_farm.specs.Theorem.Checked.{ReadsTheSame}
use Rattle.iloc_farm.specs.Theorem.Kept.{KeepsEachBlock}
use Rattle.iloc_farm.specs.Theorem.Listed.{ListsExplained}

passed_at_0 : (finding : Finding) → status_of_finding finding ≡ 0 → finding ≡ Passed
passed_at_0 finding h1 = grind arith

-- The words ask for one thing

no_help : (words : Result Args Error) (help : String Global) (a : Asked) → MakeNone words (line.Help help)
    → AskFor words a → ⊥
no_help (Ok args) help a due asks = rw asks.taken at due.1
no_help (Err error) help a due asks = asks

one_asked : (words : Result Args Error) (a b : Asked) → AskFor words a → AskFor words b → a ≡ b
one_asked (Ok args) a b asks also = let both : Some a ≡ Some b = sym asks.asked ∙ also.asked in cc
one_asked (Err error) a b asks also = absurd asks

-- A check that passed

-- blocks and rows were read, and what is said of them passed
record Judges (held : Held) (request : Request) (old new : Option (List ℕ)) (finding : Finding) (text : List ℕ)
    : Type 0 where
  blocks : List Block
  proposals : List Proposed
  read : ReadsRows held (option_map string_bytes request.task_file) old new blocks proposals
  checked : Checks request blocks proposals finding text

-- a listing of a check is of blocks and rows that were read
judges : (held : Held) (request : Request) (old new : Option (List ℕ)) (finding : Finding) (text : List ℕ)
    (t : Task) (file : Option (String Global)) → t ≡ request.task → t ≡ task.Check → file ≡ request.task_file
    → ListsAs command_of t file held request old new finding text → Judges held request old new finding text
judges held request old new finding text t file is check named lists = grind arith

checks_pass : (held : Held) (request : Request) (ro rn : Option (List ℕ)) (text : List ℕ) → request.task ≡ task.Check
    → ListsFrom command_of held request ro rn Passed text → ReadsTheSame held (asked_in request) ro rn
checks_pass held request ro rn text is lists =
    let judged : Judges held request ro rn Passed text =
    judges held request ro rn Passed text request.task request.task_file refl is refl lists in
    let rows = placed (has request.flags EitherSlot) judged.proposals in
    record {
      blocks = judged.blocks;
      proposals = judged.proposals;
      read = judged.read;
      latencies = request.latencies;
      are_asked = record { load = refl; store = refl; mult = refl };
      same = passed_keep_outcomes (options_of request) request.nodes (memory_rule request) request.latencies
          (initial_memory request) judged.blocks rows text judged.checked;
      told = passed_may_pass (options_of request) request.nodes (memory_rule request) request.latencies
          (initial_memory request) judged.blocks rows text judged.checked;
    }

-- What status 0 tells

module _ (held : Held) (words : Result Args Error) (ro rn wo wn so sn : Option (List ℕ)) (ending : Ending)
    (ends : Ends command_of held words ro rn wo wn so sn ending) (zero : ending.status ≡ 0) where
  -- what holds of each request with this task that lists what was written holds of what the words ask for
  told : (t : Task) (Claim : Asked → Type 0)
      → ((request : Request) (text : List ℕ) → request.task ≡ t → ListsFrom command_of held request ro rn Passed text
      → Appends wo wn text → Claim (asked_in request))
      → IfAsked words t Claim
  told t Claim holds a asks is =
      elim ends [
        | inl well ↦
            let passed : well.finding ≡ Passed = passed_at_0 well.finding (sym well.status ∙ zero) in
            elim well.done.asked [
              | inl help ↦ absurd (no_help words help.0.help a help.0.asked asks)
              | inr listed ↦
                  let request : Request = listed.request in
                  let same : asked_in request ≡ a = one_asked words (asked_in request) a listed.asked asks in
                  subst Claim same (holds request well.done.text (ap (λ (x : Asked). x.task) same ∙ is)
                  (subst (λ f. ListsFrom command_of held request ro rn f well.done.text) passed listed.listed) well.done.written)
            ]
        | inr stopped ↦
            absurd (above_0 command_of held words ro rn wo wn stopped.fault stopped.stopped (sym stopped.status ∙ zero))
      ]

  -- the same by what is listed for the task
  told_as : (t : Task) (Claim : Asked → Type 0)
      → ((request : Request) (text : List ℕ) → ListsAs command_of t request.task_file held request ro rn Passed text
      → Appends wo wn text → Claim (asked_in request))
      → IfAsked words t Claim
  told_as t Claim holds = told t Claim (λ request text is lists written. holds request text
      (subst (λ u. ListsAs command_of u request.task_file held request ro rn Passed text) is lists) written)

  explained : (request : Request) (text : List ℕ) (file : Option (String Global)) → file ≡ request.task_file
      → ListsAs command_of task.Explain file held request ro rn Passed text → Appends wo wn text
      → (asked_in request).task_file ≡ None
      → KeepsEachBlock (asked_in request) (ListsExplained (has request.flags Csv) (has request.flags Cycles) (memory_rule request)) ro rn wo wn
  explained request text None named lists written none = explained_keep held request ro rn wo wn Passed text written lists
  explained request text (Some name) named lists written none =
      let both : Some (string_bytes name) ≡ None = ap (option_map string_bytes) named ∙ none in absurd cc

  pub status_0_tells : Status0Tells held words ro rn wo wn
  status_0_tells = record {
    run = told_as task.Run _ (λ request text lists written. runs_show held request ro rn wo wn Passed text written lists);
    simulate = told_as task.Simulate _
        (λ request text lists written. simulated_keep held request ro rn wo wn Passed text written lists);
    schedule = told_as task.Schedule _
        (λ request text lists written. schedules_keep held request ro rn wo wn Passed text written lists);
    counts = told_as task.Counts _ (λ request text lists written. counts_keep held request ro rn wo wn Passed text written lists);
    compare = told_as task.Compare _
        (λ request text lists written. comparisons_hold held request ro rn wo wn Passed text written lists);
    optimize = told_as task.Optimize _
        (λ request text lists written. optima_keep held request ro rn wo wn Passed text written lists);
    explain = told_as task.Explain _
        (λ request text lists written. explained request text request.task_file refl lists written);
    check = told task.Check _ (λ request text is lists written. checks_pass held request ro rn text is lists);
  }
