-- A schedule in mid-run, one step on.
use Rattle.std.proofs.Common.{◌≡◌, ◌<◌, ◌≤◌, ℕ, ◌+◌, ◌%◌, true, false, List, [], ◌∷◌, ◌++◌, length, set, Some, Vec, Global, IsTrue, ℤ, pos, arith, refl, sym, ap, ◌∙◌, append-nil}
use Rattle.std.specs.Prelude.{fold}
use Rattle.std.proofs.lemmas.List.{set-get_or}
use Rattle.iloc_ops.specs.declared.op.Reg.{Reg}
use Rattle.iloc_ops.specs.declared.op.Op.{Op}
use Rattle.iloc_ops.specs.Registers.{defined}
use Rattle.iloc_meaning.specs.declared.effect.Effect.{Effect}
use Rattle.iloc_meaning.specs.declared.effect.Effect.TheVariants.{Faults, Gives, Writes, Emits, Nothing}
use Rattle.iloc_meaning.specs.Address.{is_good}
use Rattle.iloc_meaning.specs.Memory.{word_at, ScratchView}
use Rattle.iloc_meaning.specs.Registers.{Values, value_of}
use Rattle.iloc_meaning.specs.Effect.{effect}
use Rattle.iloc_meaning.specs.Outcome.{is_fault, has_fault, emitted_by}
use Rattle.iloc_meaning.proofs.Effects.{effect_same, results_go}
use Rattle.iloc_timed.specs.declared.machine.Machine.{Machine}
use Rattle.iloc_timed.specs.declared.wheel.Pending.{Pending}
use Rattle.iloc_timed.specs.declared.wheel.Pending.TheVariants.{Register, Word}
use Rattle.iloc_timed.specs.Timed.{Issued, register_in, word_in, executed_in}
use Rattle.iloc_timed.specs.Steps.Pending.{landed_in_register, landed_in_word}
use Rattle.iloc_timed.specs.Wheel.{list_at}
use Rattle.iloc_timed.specs.Steps.Wheel.{due_at, AreUnderWay}
use Rattle.iloc_timed.specs.Steps.Machine.{landed, AllLand, Follows, then_issued}
use Rattle.iloc_timed.proofs.Turning.{cleared, pushed, not_pushed}
use Rattle.iloc_timed.proofs.Landing.{register_more, word_more, landed-later}

-- what the machine says gives an operation the effect that the log gives it
pub effect_now : (memory : List ℤ) (c : ℕ) (log : List Issued) (machine : Machine) (op : Op)
    → Follows memory c log machine → effect op (register_in (landed c log)) (word_in memory (landed c log))
    ≡ effect op (value_of machine.state.registers) (word_at machine.state.memory.words)
effect_now memory c log machine op follows =
    effect_same op _ _ _ _ (λ r used. sym (follows.registers r)) (λ a good. sym (follows.words a good))

pub all_land_later : (c d : ℕ) (log : List Issued) → c ≤ d → AllLand c log → AllLand d log
all_land_later c d [] later all = tt
all_land_later c d (e ∷ earlier) later all = (omega (arith, all.0), all.1, all_land_later c d earlier later all.2)

-- what is due at cycle c has landed
pub after_landing : (memory : List ℤ) (c : ℕ) (log : List Issued) (machine : Machine) (due : List Pending)
    (registers : Values) (memory_then : ScratchView) (wheel : List (List Pending)) → Follows memory c log machine
    → due ≡ list_at machine.wheel c → ((r : Reg)
    → value_of registers r ≡ fold (landed_in_register r) (value_of machine.state.registers r) due)
    → ((a : ℕ) → IsTrue (is_good (pos a)) → word_at memory_then.words a
    ≡ fold (landed_in_word a) (word_at machine.state.memory.words a) due)
    → length memory_then.words ≡ length machine.state.memory.words → wheel ≡ set machine.wheel (c % 16) []
    → Follows memory (c + 1) log (record machine { state = record machine.state { registers = registers; memory = memory_then }; wheel = wheel })
after_landing memory c log machine due registers memory_then wheel follows is register word size turned =
    let all : due ≡ due_at c log = is ∙ follows.under_way.due c (omega arith) (omega arith) in
    record {
      size = follows.size;
      same_size = size ∙ follows.same_size;
      registers = λ r.
          register r
          ∙ ap (λ l. fold (landed_in_register r) (value_of machine.state.registers r) l) all
          ∙ ap (λ v. fold (landed_in_register r) v (due_at c log)) (follows.registers r)
          ∙ sym (register_more r (c + 16) c log follows.all_land);
      words = λ a good.
          word a good
          ∙ ap (λ l. fold (landed_in_word a) (word_at machine.state.memory.words a) l) all
          ∙ ap (λ v. fold (landed_in_word a) v (due_at c log)) (follows.words a good)
          ∙ sym (word_more memory a (c + 16) c log follows.all_land);
      under_way = rw turned (cleared c log machine.wheel follows.all_land follows.under_way);
      all_land = all_land_later (c + 16) (c + 1 + 16) log (omega arith) follows.all_land;
      outputs = follows.outputs;
    }

-- nothing is due at cycle c
pub after_empty_list : (memory : List ℤ) (c : ℕ) (log : List Issued) (machine : Machine) → list_at machine.wheel c ≡ []
    → Follows memory c log machine → Follows memory (c + 1) log machine
after_empty_list memory c log machine empty follows =
    let same : machine.wheel ≡ set machine.wheel (c % 16) [] =
    sym (set-get_or machine.wheel (c % 16) []) ∙ ap (set machine.wheel (c % 16)) empty in
    after_landing memory c log machine [] machine.state.registers machine.state.memory machine.wheel follows (sym empty)
    (λ r. refl) (λ a good. refl) refl same

-- an operation was issued and didn't fault
after_issue : (memory : List ℤ) (c due : ℕ) (op : Op) (log : List Issued) (machine : Machine) (done : Effect)
    (outputs : Vec ℤ Global) (wheel : List (List Pending)) → c ≤ due → due < c + 16 → Follows memory c log machine
    → done ≡ effect op (value_of machine.state.registers) (word_at machine.state.memory.words) → is_fault done ≡ false
    → outputs.items ≡ machine.state.outputs.items ++ emitted_by done
    → AreUnderWay c (record { due = due; executed = record { op = op; effect = done } } ∷ log) wheel
    → Follows memory c (then_issued memory c due op log) (record machine { state = record machine.state { outputs = outputs }; wheel = wheel })
after_issue memory c due op log machine done outputs wheel from upto follows is fine says way =
    grind (arith, effect_now, landed-later, results_go)

pub after_fault : (memory : List ℤ) (c due : ℕ) (op : Op) (log : List Issued) (machine : Machine)
    → Follows memory c log machine → Faults ≡ effect op (value_of machine.state.registers) (word_at machine.state.memory.words)
    → has_fault (executed_in (then_issued memory c due op log)) ≡ true
after_fault memory c due op log machine follows is = rw (effect_now memory c log machine op follows, ← is) refl

-- its result is under way to a register
pub after_result : (memory : List ℤ) (c due : ℕ) (op : Op) (log : List Issued) (machine : Machine) (value : ℤ) (r : Reg)
    (wheel : List (List Pending)) → c ≤ due → due < c + 16 → Follows memory c log machine
    → Gives value ≡ effect op (value_of machine.state.registers) (word_at machine.state.memory.words) → Some r ≡ defined op
    → wheel ≡ set machine.wheel (due % 16) (list_at machine.wheel due ++ Register r value ∷ [])
    → Follows memory c (then_issued memory c due op log) (record machine { wheel = wheel })
after_result memory c due op log machine value r wheel from upto follows is register turned =
    let e : Issued = record { due = due; executed = record { op = op; effect = Gives value } } in
    after_issue memory c due op log machine (Gives value) machine.state.outputs wheel from upto follows is refl
    (sym (append-nil machine.state.outputs.items))
    (rw turned (pushed c e log machine.wheel (Register r value) from upto (rw (← register) refl) follows.under_way))

-- its word is under way to memory
pub after_write : (memory : List ℤ) (c due : ℕ) (op : Op) (log : List Issued) (machine : Machine) (address : ℕ)
    (word : ℤ) (wheel : List (List Pending)) → c ≤ due → due < c + 16 → Follows memory c log machine
    → Writes address word ≡ effect op (value_of machine.state.registers) (word_at machine.state.memory.words)
    → wheel ≡ set machine.wheel (due % 16) (list_at machine.wheel due ++ Word address word ∷ [])
    → Follows memory c (then_issued memory c due op log) (record machine { wheel = wheel })
after_write memory c due op log machine address word wheel from upto follows is turned =
    let e : Issued = record { due = due; executed = record { op = op; effect = Writes address word } } in
    after_issue memory c due op log machine (Writes address word) machine.state.outputs wheel from upto follows is refl
    (sym (append-nil machine.state.outputs.items))
    (rw turned (pushed c e log machine.wheel (Word address word) from upto refl follows.under_way))

-- it emitted a word
pub after_output : (memory : List ℤ) (c due : ℕ) (op : Op) (log : List Issued) (machine : Machine) (word : ℤ)
    (outputs : Vec ℤ Global) → c ≤ due → due < c + 16 → Follows memory c log machine
    → Emits word ≡ effect op (value_of machine.state.registers) (word_at machine.state.memory.words)
    → outputs.items ≡ machine.state.outputs.items ++ word ∷ []
    → Follows memory c (then_issued memory c due op log) (record machine { state = record machine.state { outputs = outputs } })
after_output memory c due op log machine word outputs from upto follows is says =
    let e : Issued = record { due = due; executed = record { op = op; effect = Emits word } } in
    after_issue memory c due op log machine (Emits word) outputs machine.wheel from upto follows is refl says
    (not_pushed c e log machine.wheel refl follows.under_way)

-- it did nothing
pub after_nothing : (memory : List ℤ) (c due : ℕ) (op : Op) (log : List Issued) (machine : Machine) → c ≤ due
    → due < c + 16 → Follows memory c log machine
    → Nothing ≡ effect op (value_of machine.state.registers) (word_at machine.state.memory.words)
    → Follows memory c (then_issued memory c due op log) machine
after_nothing memory c due op log machine from upto follows is = grind (arith, after_issue, append-nil, not_pushed)
