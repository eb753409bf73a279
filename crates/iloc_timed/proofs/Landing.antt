-- What results leave when they land.
use Rattle.std.proofs.Common.{◌≡◌, ◌<◌, ◌≤◌, ℕ, ◌+◌, ◌==◌, ◌&&◌, nat_lt, nat_le, Bool, true, false, if◌then◌else◌, List, [], ◌∷◌, Option, Some, None, IfSome, option_to_list, ℤ, pos, arith, refl, sym, ap, ◌∙◌, ne_eqb, append-nil}
use Rattle.std.specs.Prelude.{fold, find, filter, option_map}
use Rattle.std.proofs.lemmas.Bool.{and_parts, and_right, lt-ltb, le-ltb, eqb-true}
use Rattle.std.proofs.lemmas.Bool.Decides.{nat_tests}
use Rattle.std.proofs.lemmas.List.Sums.{fold-append}
use Rattle.std.proofs.lemmas.List.Elements.{filter_agree}
use Rattle.iloc_ops.specs.declared.op.Reg.{Reg}
use Rattle.iloc_meaning.specs.declared.effect.Effect.{Effect}
use Rattle.iloc_meaning.specs.Trace.{Executed, result_of, written_by, is_register, is_write_to, result_or_zero, written_or}
use Rattle.iloc_meaning.specs.Outcome.{is_fault}
use Rattle.iloc_meaning.specs.Results.{GoesTo}
use Rattle.iloc_meaning.proofs.Cases.{by_bool}
use Rattle.iloc_timed.specs.declared.wheel.Pending.{Pending}
use Rattle.iloc_timed.specs.Timed.{Issued, arrived, later, last_due, last_that, register_in, word_in}
use Rattle.iloc_timed.specs.Steps.Pending.{sent, sent_by, landed_in_register, landed_in_word}
use Rattle.iloc_timed.specs.Steps.Wheel.{due_at}
use Rattle.iloc_timed.specs.Steps.Machine.{landed, Lands, AllLand}

-- the first, or else the second
or_else : Option Issued → Option Issued → Option Issued
or_else None other = other
or_else (Some e) other = Some e

-- the last of those that landed before cycle c and pass the test
abbrev recent : (Executed → Bool) → ℕ → List Issued → Option Issued
recent test c log = last_due (filter (λ e. test e.executed) (landed c log))

-- the last issued of those that are due at cycle d and pass the test
abbrev newest : (Executed → Bool) → ℕ → List Issued → Option Issued
newest test d log = find (λ e. test e.executed && (e.due == d)) log

pub later_below : (c : ℕ) (e : Issued) (o : Option Issued) → e.due < c → IfSome o (λ f. f.due < c) → (later e o).due < c
later_below c e None first rest = first
later_below c e (Some f) first rest = by_bool (nat_lt e.due f.due) (λ t. rw t rest) (λ t. rw t first)

recent_below : (test : Executed → Bool) (c : ℕ) (log : List Issued) → IfSome (recent test c log) (λ e. e.due < c)
recent_below test c [] = tt
recent_below test c (e ∷ earlier) = grind (arith, by_bool, later_below, nat_tests, recent_below test c earlier)

newest_due : (test : Executed → Bool) (d : ℕ) (log : List Issued) → IfSome (newest test d log) (λ e. e.due ≡ d)
newest_due test d [] = tt
newest_due test d (e ∷ earlier) = grind (arith, by_bool, eqb-true, and_parts, newest_due test d earlier)

-- against one that was due before, the newest stays
later_or_else : (e : Issued) (d : ℕ) (new old : Option Issued) → e.due < d → IfSome new (λ f. f.due ≡ d)
    → Some (later e (or_else new old)) ≡ or_else new (Some (later e old))
unfolding or_else
later_or_else e d new old before due = grind (arith, lt-ltb)

pub later_newest : (e : Issued) (o : Option Issued) → IfSome o (λ f. f.due < e.due + 1) → later e o ≡ e
later_newest e o below = grind (arith, le-ltb)

-- one cycle on, the last is the newest of those that are due, or else the last before
recent_more : (test : Executed → Bool) (d : ℕ) (log : List Issued)
    → recent test (d + 1) log ≡ or_else (newest test d log) (recent test d log)
unfolding or_else
recent_more test d [] = refl
recent_more test d (e ∷ earlier) = by_bool (test e.executed)
    (λ passes. by_bool (nat_lt e.due d)
    (λ before.
    let less : e.due < d = grind (arith, nat_tests) in
    let now : nat_lt e.due (d + 1) ≡ true = lt-ltb e.due (d + 1) (omega arith) in
    let apart : (e.due == d) ≡ false = ne_eqb e.due d (λ same. omega arith) in
    rw (now, before, passes, apart) (ap (λ o. Some (later e o)) (recent_more test d earlier)
    ∙ later_or_else e d (newest test d earlier) (recent test d earlier) less (newest_due test d earlier)))
    (λ after. by_bool (e.due == d)
    (λ here.
    let same : e.due ≡ d = eqb-true e.due d here in
    let now : nat_lt e.due (d + 1) ≡ true = lt-ltb e.due (d + 1) (omega arith) in
    let below : IfSome (recent test (d + 1) earlier) (λ f. f.due < e.due + 1) =
    rw same (recent_below test (d + 1) earlier) in
    rw (now, after, passes, here) (ap Some (later_newest e (recent test (d + 1) earlier) below)))
    (λ elsewhere.
    let now : nat_lt e.due (d + 1) ≡ false = le-ltb e.due (d + 1) (grind (arith, nat_tests)) in
    rw (now, after, passes, elsewhere) (recent_more test d earlier))))
    (λ fails. by_bool (nat_lt e.due d)
    (λ before. by_bool (nat_lt e.due (d + 1))
    (λ now. rw (now, before, fails) (recent_more test d earlier))
    (λ now. rw (now, before, fails) (recent_more test d earlier)))
    (λ after. by_bool (nat_lt e.due (d + 1))
    (λ now. rw (now, after, fails) (recent_more test d earlier))
    (λ now. rw (now, after, fails) (recent_more test d earlier))))

left_by : (Executed → ℤ) → ℤ → Option Executed → ℤ
left_by left v None = v
left_by left v (Some e) = left e

left_by_issued : (Executed → ℤ) → ℤ → Option Issued → ℤ
left_by_issued left v None = v
left_by_issued left v (Some e) = left e.executed

left_by-or_else : (left : Executed → ℤ) (v : ℤ) (new old : Option Issued)
    → left_by left v (option_map (λ (e : Issued). e.executed) (or_else new old))
    ≡ left_by_issued left (left_by left v (option_map (λ (e : Issued). e.executed) old)) new
unfolding or_else left_by left_by_issued
left_by-or_else left v None old = refl
left_by-or_else left v (Some e) old = refl

-- How what is sent lands at one place: where the test passes it becomes what was left there.
record LandsAt (test : Executed → Bool) (left : Executed → ℤ) (land : ℤ → Pending → ℤ) : Type 0 where
  one : (e : Executed) (v : ℤ) → Lands e → fold land v (option_to_list (sent e)) ≡ (if test e then left e else v)

fold_due : (test : Executed → Bool) (left : Executed → ℤ) (land : ℤ → Pending → ℤ) → LandsAt test left land
    → (n d : ℕ) (v : ℤ) (log : List Issued) → AllLand n log
    → fold land v (due_at d log) ≡ left_by_issued left v (newest test d log)
unfolding left_by_issued
fold_due test left land lands n d v [] all = refl
fold_due test left land lands n d v (e ∷ earlier) all =
    grind (arith, by_bool, fold-append, append-nil, and_right, fold_due test left land lands n d v earlier all.2)

-- what is due at cycle d turns what was left before into what is left then
left_more : (test : Executed → Bool) (left : Executed → ℤ) (land : ℤ → Pending → ℤ) → LandsAt test left land
    → (n d : ℕ) (v : ℤ) (log : List Issued) → AllLand n log → left_by left v (last_that test (landed (d + 1) log))
    ≡ fold land (left_by left v (last_that test (landed d log))) (due_at d log)
left_more test left land lands n d v log all =
    ap (λ o. left_by left v (option_map (λ (e : Issued). e.executed) o)) (recent_more test d log)
    ∙ left_by-or_else left v (newest test d log) (recent test d log)
    ∙ sym (fold_due test left land lands n d (left_by left v (last_that test (landed d log))) log all)

result_is_left : (o : Option Executed) → result_or_zero o ≡ left_by (λ (e : Executed). result_of e.effect) (pos 0) o
unfolding left_by
result_is_left None = refl
result_is_left (Some e) = refl

word_is_left : (v : ℤ) (o : Option Executed) → written_or v o ≡ left_by (λ (e : Executed). written_by e.effect) v o
unfolding left_by
word_is_left v None = refl
word_is_left v (Some e) = refl

register_case : (r : Reg) (register : Option Reg) (effect : Effect) (v : ℤ) → is_fault effect ≡ false
    → GoesTo register effect → fold (landed_in_register r) v (option_to_list (sent_by register effect))
    ≡ (if is_register r register then result_of effect else v)
register_case r register effect v fault goes = grind arith

word_case : (a : ℕ) (register : Option Reg) (effect : Effect) (v : ℤ)
    → fold (landed_in_word a) v (option_to_list (sent_by register effect))
    ≡ (if is_write_to a effect then written_by effect else v)
word_case a register effect v = grind arith

-- one cycle on, the registers and the words are those before with what is due then
pub register_more : (r : Reg) (n d : ℕ) (log : List Issued) → AllLand n log → register_in (landed (d + 1) log) r
    ≡ fold (landed_in_register r) (register_in (landed d log) r) (due_at d log)
register_more r n d log all = grind (arith, register_case, result_is_left, left_more)

pub word_more : (memory : List ℤ) (a n d : ℕ) (log : List Issued) → AllLand n log
    → word_in memory (landed (d + 1) log) a ≡ fold (landed_in_word a) (word_in memory (landed d log) a) (due_at d log)
word_more memory a n d log all = grind (arith, word_case, word_is_left, left_more)

-- what isn't due before cycle c hasn't landed then
pub landed-later : (c : ℕ) (e : Issued) (log : List Issued) → c ≤ e.due → landed c (e ∷ log) ≡ landed c log
landed-later c e log later = let after : nat_lt e.due c ≡ false = le-ltb e.due c later in rw after refl

pub landed_all : (c : ℕ) (log : List Issued) → AllLand c log → landed c log ≡ log
landed_all c [] all = refl
landed_all c (e ∷ earlier) all = grind (arith, lt-ltb, landed_all c earlier all.2)

-- what has arrived at cycle c is what landed before the next
pub landed_is_arrived : (c : ℕ) (log : List Issued) → landed (c + 1) log ≡ arrived c log
landed_is_arrived c log = filter_agree (λ (e : Issued). nat_lt e.due (c + 1)) (λ (e : Issued). nat_le e.due c)
    (λ e. grind (arith, nat_tests)) log
