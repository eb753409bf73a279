-- From a value to what it keeps inside, and back.
use Rattle.iloc_board.proofs.Common.{◌≡◌, ℕ, ◌<◌, ◌≤◌, true, false, cond, ◌≢◌, List, [], ◌∷◌, ◌++◌, ◌==◌, sym, refl, ap, ◌∙◌, append_assoc, append-nil, arith, le-ltb, lt-ltb, eq-eqb, ne_eqb, map-append, IsWithin, entry, look_finds, is_holding, missed, state_after, accepted, all_handed, handed, saw_none, seen, state_of, Sat, adds, gathers, AllFit, BoardView, PassView, RootView, job_of, state, State, Free, Holding, Looked, Entry, Journal, Reply, Block, Handed, NoneLeft, Stale, Took, Step, Hand, Look, Try}
use Rattle.atomic_table.specs.Seated.{TableId}
use Rattle.iloc_board.specs.Steps.Inside.{IsPass, IsRoot}
use Rattle.iloc_board.proofs.Parts.{state_from-snoc, handed_from-snoc, told_none, looked_seen}

pub all_fit-append : {A : Type 0} (fits : ℕ → A → Type 0) (xs ys : List (ℕ × A)) → AllFit fits xs → AllFit fits ys
    → AllFit fits (xs ++ ys)
all_fit-append fits [] ys h i = i
all_fit-append fits (x ∷ xs) ys h i = (h.0, all_fit-append fits xs ys h.1 i)

all_handed-snoc : (js : List Journal) (j : Journal) → all_handed (js ++ j ∷ []) ≡ all_handed js ++ handed j.entries
all_handed-snoc [] j = append-nil (handed j.entries)
all_handed-snoc (i ∷ js) j = ap (λ t. handed i.entries ++ t) (all_handed-snoc js j)
    ∙ sym (append_assoc (handed i.entries) (all_handed js) (handed j.entries))

module _ {J A : Type 0} {p q : PassView J A} {d : BoardView J} (inside : p ≡ q) (own : q.board ≡ d) where
  -- a pass of this board, seen from inside
  pub same_table : {b : BoardView J} → b ≡ d → p.board.table ≡ b.table
  same_table board = cc

  pub own_jobs : p.board.jobs ≡ d.jobs
  own_jobs = ap (λ (v : PassView J A). v.board.jobs) inside ∙ ap (λ (v : BoardView J). v.jobs) own

  pub same_jobs : {b : BoardView J} → b ≡ d → p.board.jobs ≡ b.jobs
  same_jobs board = own_jobs ∙ ap (λ (v : BoardView J). v.jobs) (sym board)

  pub same_count : {b : BoardView J} → b ≡ d → (number : J → ℕ) (count : ℕ) → count ≡ number b.jobs → count ≡ number p.board.jobs
  same_count board number count is = is ∙ ap number (sym (same_jobs board))

module _ {J A : Type 0} where
  -- the job that a state inside names
  pub job_is : (p q : PassView J A) (about : State) → p ≡ q → about ≡ state_of p.journal.entries
      → job_of (state q) ≡ job_of about
  job_is p q about e s = ap (λ (v : PassView J A). job_of (state v)) (sym e) ∙ ap job_of (sym s)

  -- the same of a root
  pub root_table : (p q : RootView J A) (b d : BoardView J) → p ≡ q → b ≡ d → q.board ≡ d → p.board.table ≡ b.table
  root_table p q b d e f own = cc

  pub root_jobs : (p q : RootView J A) (b d : BoardView J) → p ≡ q → b ≡ d → q.board ≡ d → p.board.jobs ≡ b.jobs
  root_jobs p q b d e f own = cc

  pub free_inside : (p q : PassView J A) → p ≡ q → is_holding (state q) ≡ false
      → is_holding (state_of p.journal.entries) ≡ false
  free_inside p q e h = ap (λ (v : PassView J A). is_holding (state v)) e ∙ h

-- a pass after a step that hands nothing back
abbrev pub after_step : {J A : Type 0} → TableId → Sat → PassView J A → PassView J A
after_step id new p = record {
  board = record { table = id; jobs = p.board.jobs };
  journal = new.0.journal;
  answers = p.answers;
}

module _ {J A : Type 0} {number : ℕ} {fits : ℕ → A → Type 0} {price : A → ℕ} {me : Sat} {worker : ℕ} {about : State}
    {p : PassView J A} (h : IsPass number fits price me worker about p) (j : p.journal ≡ me.0.journal) where
  counts : me.0.count ≡ number
  counts = ap (λ (v : Sat). v.0.count) h.seat

  -- what it keeps inside
  steps_inside : {new : Sat} {next : State} {id : TableId} (x : Step) (r : Reply) → new ≡ adds me x r
      → next ≡ state_after about r → IsWithin number next → accepted (state_of p.journal.entries) x r ≡ []
      → IsPass number fits price new worker next (after_step id new p)
  steps_inside x r n s within none = grind (arith, append-nil, counts, handed_from-snoc, state_from-snoc)

  module _ {new : Sat} {id : TableId} {n : ℕ} (w : ℕ) where
    -- a look that finds the job n, and one that finds none
    pub looked_inside : new ≡ adds me (Look w) (look_finds me.0.count n) → n < number
        → IsPass number fits price new worker (Looked n) (after_step id new p)
    looked_inside e lt = steps_inside (Look w) (Block n)
        (e ∙ ap (λ b. adds me (Look w) (cond b (Block n) NoneLeft)) (lt-ltb n me.0.count (rw counts lt))) refl lt refl

    pub free_again : new ≡ adds me (Look w) (look_finds me.0.count n) → number ≤ n
        → IsPass number fits price new worker Free (after_step id new p)
    free_again e le = steps_inside (Look w) NoneLeft
        (e ∙ ap (λ b. adds me (Look w) (cond b (Block n) NoneLeft)) (le-ltb n me.0.count (rw counts le))) refl tt refl

    module _ (k : ℕ) (e : new ≡ adds me (Try w) (cond (n == k) (Took k) (missed me.0.count n))) where
      -- a try that takes the job k
      pub took_inside : {job : ℕ} → k ≡ job → n ≡ k → job < number
          → IsPass number fits price new worker (Holding job) (after_step id new p)
      took_inside {job} same here lt = steps_inside (Try w) (Took job)
          (e ∙ ap (λ r. adds me (Try w) r)
          (ap (λ b. cond b (Took k) (missed me.0.count n)) (eq-eqb n k here) ∙ ap Took same)) refl lt refl

      -- a try that comes too late
      pub late_inside : n ≢ k → n < number → IsPass number fits price new worker (Looked n) (after_step id new p)
      late_inside ne lt = steps_inside (Try w) (Stale n)
          (e ∙ ap (λ b. adds me (Try w) (cond b (Took k) (missed me.0.count n))) (ne_eqb n k ne)
          ∙ ap (λ b. adds me (Try w) (cond b (Stale n) NoneLeft)) (lt-ltb n me.0.count (rw counts lt))) refl lt refl

      pub none_inside : n ≢ k → number ≤ n → IsPass number fits price new worker Free (after_step id new p)
      none_inside ne le = steps_inside (Try w) NoneLeft
          (e ∙ ap (λ b. adds me (Try w) (cond b (Took k) (missed me.0.count n))) (ne_eqb n k ne)
          ∙ ap (λ b. adds me (Try w) (cond b (Stale n) NoneLeft)) (le-ltb n me.0.count (rw counts le))) refl tt refl

  -- what was told once, that none is left, holds of each later number found
  pub none_stays : {q : PassView J A} {n : ℕ} → p ≡ q → seen me.0.count me.0.journal ≤ n
      → saw_none q.journal.entries ≡ true → number ≤ n
  none_stays e low told = grind (arith, counts, told_none)

  -- what a try tells: the number found is no less than what was seen, which is no less than the job looked at
  pub try_fresh : {q : PassView J A} {n k : ℕ} → p ≡ q → about ≡ Looked k → seen me.0.count me.0.journal ≤ n
      → (seen number q.journal ≤ n) × (k ≤ seen number q.journal) × (job_of (state q) ≡ k)
  try_fresh e looked low = grind (arith, counts, looked_seen)

module _ {J A : Type 0} (number : ℕ) (fits : ℕ → A → Type 0) (price : A → ℕ) where
  -- a hand-back
  pub handed_inside : (me new : Sat) (worker : ℕ) (about : State) (p : PassView J A) (id : TableId) (k cost w : ℕ)
      (a : A) (answers : List (ℕ × A))
      → IsPass number fits price me worker about p → p.journal ≡ me.0.journal → new ≡ adds me (Hand w cost) Handed
      → about ≡ Holding k → answers ≡ p.answers ++ (k, a) ∷ [] → fits k a → cost ≡ price a
      → IsPass number fits price new worker Free record {
        board = record { table = id; jobs = p.board.jobs };
        journal = new.0.journal;
        answers = answers;
      }
  handed_inside me new worker about p id k cost w a answers h j n holding more fit cheap =
      grind (arith, all_fit-append, handed_from-snoc, map-append, state_from-snoc)

  -- a root that gathered a pass
  pub gathered_inside : (me new him : Sat) (worker : ℕ) (about : State) (r : RootView J A) (p : PassView J A)
      (id : TableId) (answers : List (ℕ × A))
      → IsRoot number fits price me r → r.gathered ≡ me.0.gathered → IsPass number fits price him worker about p
      → p.journal ≡ him.0.journal → new ≡ (gathers me.0 him.0, me.1) → answers ≡ r.answers ++ p.answers
      → IsRoot number fits price new record {
        board = record { table = id; jobs = r.board.jobs };
        workers = r.workers;
        made = r.made;
        gathered = new.0.gathered;
        answers = answers;
      }
  gathered_inside me new him worker about r p id answers h g i j n more = grind (arith, all_fit-append, all_handed-snoc, map-append)

pub free_after : (es : List Entry) (x : Step) → state_of (es ++ entry x Handed ∷ []) ≡ Free
free_after es x = state_from-snoc Free es x Handed

-- one more behind a list that stayed as it was
pub pushed : {B : Type 0} (xs ys zs : List B) (y : B) → ys ≡ xs → zs ≡ ys ++ y ∷ [] → zs ≡ xs ++ y ∷ []
pushed xs ys zs y e f = f ∙ ap (λ t. t ++ y ∷ []) e
