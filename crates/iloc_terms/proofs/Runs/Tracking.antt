-- A schedule in mid-run, with terms, one step on.
use Rattle.iloc_terms.proofs.Common.{◌≡◌, ℕ, ◌+◌, ◌%◌, ◌<◌, ◌≤◌, Bool, true, false, not, ◌||◌, List, [], ◌∷◌, ◌++◌, map, length, set, ℤ, pos, negsuc, Some, None, fold, Option, option_map, sym, refl, ap, ◌∙◌, inl, inr, arith, or_right, get_or-map, length-map, map-append, map-set, list_any-append, defined, Op, Reg, by_bool, effect_same, results_go, good_address, is_good, at_address, effect, emitted, emitted_by, is_fault, Effect, landed, then_issued, landed_in_register, landed_in_word, sent_by, AreUnderWay, due_at, Issued, executed_in, register_in, word_in, Meaning}
use Rattle.iloc_meaning.specs.declared.effect.Effect.TheVariants as E
use Rattle.iloc_timed.specs.Wheel.{list_at}
use Rattle.iloc_timed.proofs.Turning.{cleared, pushed, not_pushed}
use Rattle.iloc_timed.proofs.Landing.{register_more, word_more, landed-later}
use Rattle.iloc_timed.proofs.Following.{all_land_later}
use Rattle.iloc_terms.specs.declared.symbols.registers.TermRegisters.{TermRegisters}
use Rattle.iloc_terms.specs.declared.symbols.sent.Sent.{Sent}
use Rattle.iloc_terms.specs.declared.symbols.sent.Sent.TheVariants as S
use Rattle.iloc_terms.specs.declared.symbols.action.Action.{Action}
use Rattle.iloc_terms.specs.declared.symbols.Symbols.{Symbols}
use Rattle.iloc_terms.specs.Steps.Symbols.{number_in, address_of, meant, effect_of, some_bad, HasLanded}
use Rattle.iloc_terms.specs.Steps.Tracking.{Keeps, address_in, emitted_in, sent_in, with_sent, Records}

-- the lists of terms, and of what they stand for
lists_meant : (d : Meaning) (lists : List (List Sent)) (c : ℕ) → length lists ≡ 16
    → list_at (map (map (meant d)) lists) c ≡ map (meant d) (list_at lists c)
lists_meant d lists c count = grind (arith, get_or-map)

length_meant : (d : Meaning) (lists : List (List Sent)) → length (map (map (meant d)) lists) ≡ length lists
length_meant d lists = length-map lists (map (meant d))

-- what is due at cycle c has landed
pub keeps_landing : (memory : List ℤ) (d : Meaning) (c : ℕ) (log : List Issued) (it : Symbols) (registers : TermRegisters)
    (after : ℕ) (due : List Sent) (wheel : List (List Sent)) → due ≡ list_at it.wheel c
    → HasLanded d it.registers it.memory due registers after → wheel ≡ set it.wheel (c % 16) []
    → Keeps memory d c log it
    → Keeps memory d (c + 1) log (record it { registers = registers; memory = after; wheel = wheel })
keeps_landing memory d c log it registers after due wheel is has turned keeps = elim keeps [
  | inl faulted ↦ inl record { bad = faulted.bad; fault = faulted.fault }
  | inr tracks ↦
      let count : length it.wheel ≡ 16 = sym (length_meant d it.wheel) ∙ tracks.under_way.count in
      let all : map (meant d) due ≡ due_at c log =
      ap (map (meant d)) is ∙ sym (lists_meant d it.wheel c count)
      ∙ tracks.under_way.due c (omega arith) (omega arith) in
      inr record {
        good = tracks.good;
        registers = λ r.
            has.registers r
            ∙ ap (λ l. fold (landed_in_register r) (d.word (number_in it.registers r)) l) all
            ∙ ap (λ v. fold (landed_in_register r) v (due_at c log)) (tracks.registers r)
            ∙ sym (register_more r (c + 16) c log tracks.all_land);
        words = λ a good.
            has.words a good
            ∙ ap (λ l. fold (landed_in_word a) (d.words it.memory (pos a)) l) all
            ∙ ap (λ v. fold (landed_in_word a) v (due_at c log)) (tracks.words a good)
            ∙ sym (word_more memory a (c + 16) c log tracks.all_land);
        under_way =
            let lists : map (map (meant d)) wheel ≡ set (map (map (meant d)) it.wheel) (c % 16) [] =
            ap (map (map (meant d))) turned ∙ map-set (map (meant d)) it.wheel (c % 16) [] in
            rw lists (cleared c log (map (map (meant d)) it.wheel) tracks.all_land tracks.under_way);
        all_land = all_land_later (c + 16) (c + 1 + 16) log (omega arith) tracks.all_land;
        outputs = tracks.outputs;
      }
]

-- whether the address of an action, if it is at one, is bad
abbrev bad_in : Meaning → Action → Bool
bad_in d action = some_bad d (address_in action)

-- an effect is a fault exactly where the address is bad
at_bad : (z : ℤ) (act : ℕ → Effect) → ((a : ℕ) → is_fault (act a) ≡ false)
    → is_fault (at_address (good_address z) act) ≡ (not (is_good z) || false)
at_bad (pos a) act fine = by_bool (is_good (pos a)) (λ t. rw t (fine a)) (λ t. rw t refl)
at_bad (negsuc n) act fine = refl

fault_is_bad : (d : Meaning) (action : Action) → is_fault (effect_of d action) ≡ bad_in d action
fault_is_bad d action = grind (arith, at_bad)

-- at a good address an act is done there
at_good : (z : ℤ) (act : ℕ → Effect) → (not (is_good z) || false) ≡ false
    → at_address (good_address z) act ≡ act (address_of z)
at_good z act good = grind (arith, negsuc, pos)

-- where the address is good, what is emitted and sent is what the terms stand for
emits_meant : (d : Meaning) (action : Action) → bad_in d action ≡ false
    → map d.word (emitted_in action) ≡ emitted_by (effect_of d action)
emits_meant d action good = grind (arith, at_good)

register_meant : (d : Meaning) (register : Option Reg) (value : ℕ)
    → option_map (meant d) (option_map (λ r. S.Register r value) register) ≡ sent_by register (E.Gives (d.word value))
register_meant d None value = refl
register_meant d (Some r) value = refl

sends_meant : (d : Meaning) (register : Option Reg) (action : Action) → bad_in d action ≡ false
    → option_map (meant d) (sent_in register action) ≡ sent_by register (effect_of d action)
sends_meant d register action good = grind (arith, at_good, register_meant)

-- what is sent is under way
way_more : (d : Meaning) (c : ℕ) (e : Issued) (log : List Issued) (lists : List (List Sent)) (what : Option Sent)
    → c ≤ e.due → e.due < c + 16 → option_map (meant d) what ≡ sent_by (defined e.executed.op) e.executed.effect
    → AreUnderWay c log (map (map (meant d)) lists)
    → AreUnderWay c (e ∷ log) (map (map (meant d)) (with_sent e.due what lists))
way_more d c e log lists None from upto sends way = not_pushed c e log (map (map (meant d)) lists) (sym sends) way
way_more d c e log lists (Some sent) from upto sends way =
    let count : length lists ≡ 16 = sym (length_meant d lists) ∙ way.count in
    let turned : map (map (meant d)) (with_sent e.due (Some sent) lists)
    ≡ set (map (map (meant d)) lists) (e.due % 16) (list_at (map (map (meant d)) lists) e.due ++ meant d sent ∷ []) =
    map-set (map (meant d)) lists (e.due % 16) (list_at lists e.due ++ sent ∷ [])
    ∙ ap (set (map (map (meant d)) lists) (e.due % 16))
    (map-append (meant d) (list_at lists e.due) (sent ∷ [])
    ∙ ap (λ l. l ++ meant d sent ∷ []) (sym (lists_meant d lists e.due count))) in
    rw turned (pushed c e log (map (map (meant d)) lists) (meant d sent) from upto (sym sends) way)

-- an operation was issued
pub keeps_issue : (memory : List ℤ) (d : Meaning) (c due : ℕ) (op : Op) (log : List Issued) (old new : Symbols)
    (action : Action) (register : Option Reg) → register ≡ defined op
    → effect op (λ r. d.word (number_in old.registers r)) (λ a. d.words old.memory (pos a)) ≡ effect_of d action
    → Records register action due old new → c ≤ due → due < c + 16 → Keeps memory d c log old
    → Keeps memory d c (then_issued memory c due op log) new
keeps_issue memory d c due op log old new action register defines is records from upto keeps =
    let addresses : some_bad d new.addresses.items ≡ (some_bad d old.addresses.items || bad_in d action) =
    ap (some_bad d) records.addresses ∙ list_any-append _ old.addresses.items (address_in action) in
    elim keeps [
      | inl faulted ↦ inl record {
        bad = addresses ∙ rw faulted.bad refl;
        fault = or_right _ _ faulted.fault;
      }
      | inr tracks ↦
          let same : effect op (register_in (landed c log)) (word_in memory (landed c log)) ≡ effect_of d action =
          effect_same op _ _ _ _ (λ r used. sym (tracks.registers r)) (λ a good. sym (tracks.words a good)) ∙ is in
          by_bool (bad_in d action)
          (λ bad. inl record {
            bad = addresses ∙ rw bad (or_right _ true refl);
            fault = rw (same, fault_is_bad d action, bad) refl;
          })
          (λ good.
          let e : Issued = record { due = due; executed = record { op = op; effect = effect_of d action } } in
          let later : landed c (e ∷ log) ≡ landed c log = landed-later c e log from in
          inr (rw same record {
            good = addresses ∙ rw (tracks.good, good) refl;
            registers = λ r. ap (λ x. d.word (number_in x r)) records.registers ∙ tracks.registers r
                ∙ ap (λ l. register_in l r) (sym later);
            words = λ a fine. ap (λ m. d.words m (pos a)) records.memory ∙ tracks.words a fine
                ∙ ap (λ l. word_in memory l a) (sym later);
            under_way = rw records.wheel (way_more d c e log old.wheel (sent_in register action) from upto
                (sends_meant d register action good ∙ ap (λ r. sent_by r (effect_of d action)) defines)
                tracks.under_way);
            all_land = (
              upto,
              record {
                no_fault = fault_is_bad d action ∙ good;
                goes = rw (← is) (results_go op _ _);
              },
              tracks.all_land,
            );
            outputs = ap (map d.word) records.outputs ∙ map-append d.word old.outputs.items (emitted_in action)
                ∙ ap (λ l. l ++ map d.word (emitted_in action)) tracks.outputs
                ∙ ap (λ l. emitted (executed_in log) ++ l) (emits_meant d action good);
          }))
    ]
