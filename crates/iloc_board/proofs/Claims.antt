-- A worker's steps towards a job.
use Rattle.iloc_board.proofs.Common.{◌≡◌, ℕ, ◌<◌, ◌≤◌, true, [], ◌++◌, sym, refl, ap, ◌∙◌, append_assoc, append-nil, arith, map-append, IsWithin, accepted, handed, noted, seen, state_of, Ended, Goes, HandsNothing, left, BoardView, PassView, is_looking, job_of, state, stepped, with_answer, Free, Holding, Looked, Journal, Reply, Block, Handed, NoneLeft, Stale, Took, Step, Hand}
use Rattle.iloc_board.specs.Working.{Runs, HandsBack, IsDone}
use Rattle.iloc_board.proofs.Parts.{state_from-snoc, handed_from-snoc}
use Rattle.iloc_board.proofs.Passes.{all_fit-append}
use Rattle.iloc_board.proofs.Works as works

-- what was handed back, after a step that hands nothing back
same_handed : (j : Journal) (x : Step) (r : Reply) → accepted (state_of j.entries) x r ≡ []
    → handed (noted j x r).entries ≡ handed j.entries
same_handed j x r e = handed_from-snoc Free j.entries x r
    ∙ (ap (λ t. handed j.entries ++ t) e ∙ append-nil (handed j.entries))

module _ {J A : Type 0} where
  pub hands_none : (p : PassView J A) → HandsNothing p p
  hands_none p = record { answers = refl; each = refl }

  hands_none_more : (o p : PassView J A) (x : Step) (r : Reply) → HandsNothing o p → accepted (state p) x r ≡ []
      → HandsNothing o (stepped p x r)
  hands_none_more o p x r h e = record { answers = h.answers; each = same_handed p.journal x r e ∙ h.each }

  module _ (fits : ℕ → A → Type 0) (price : A → ℕ) where
    pub hands_first : (p : PassView J A) → HandsBack fits price p p
    hands_first p = grind (arith, append-nil)

    pub hands_same : (o p q : PassView J A) → HandsBack fits price o p → HandsNothing p q → HandsBack fits price o q
    hands_same o p q h n = grind arith

    pub hands_equal : (o p q : PassView J A) → HandsBack fits price o p → q ≡ p → HandsBack fits price o q
    hands_equal o p q h e = rw e h

    hands_one : (o p : PassView J A) (k : ℕ) (a : A) → HandsBack fits price o p → state p ≡ Holding k → fits k a
        → HandsBack fits price o (with_answer p k a (price a))
    hands_one o p k a h holding fit = grind (arith, all_fit-append, append_assoc, handed_from-snoc, map-append)

module _ {J A : Type 0} (count : ℕ) where
  -- a pass of this board that has looked at a job, on its way from the pass o
  pub record Tries (b : BoardView J) (o p : PassView J A) : Type 0 where
    pub own : p.board ≡ b
    pub looking : is_looking (state p) ≡ true
    pub within : IsWithin count (state p)
    pub goes : Goes count o.journal p.journal
    pub nothing : HandsNothing o p

  -- a free pass of this board, on its way from the pass o
  pub record IsBetween (fits : ℕ → A → Type 0) (price : A → ℕ) (b : BoardView J) (o p : PassView J A) : Type 0 where
    pub own : p.board ≡ b
    pub free : state p ≡ Free
    pub goes : Goes count o.journal p.journal
    pub hands : HandsBack fits price o p

  pub none_claims : (p q : PassView J A) (x : Step) → q ≡ stepped p x NoneLeft → state p ≡ Free
      → Ended count p.journal q.journal × IsDone q.journal
  none_claims p q x e free =
      rw e (
        works.none_ends count p.journal p.journal x (works.goes_none count p.journal) free,
        works.is_done p.journal x,
      )

  -- a step that hands nothing back
  pub hands_nothing : (o p q : PassView J A) (x : Step) (r : Reply) → HandsNothing o p → q ≡ stepped p x r
      → accepted (state p) x r ≡ [] → HandsNothing o q
  hands_nothing o p q x r h e none = rw e (hands_none_more o p x r h none)

  pub looks_first : (b : BoardView J) (p q : PassView J A) (x : Step) (k : ℕ) → p.board ≡ b → q ≡ stepped p x (Block k)
      → state p ≡ Free → seen count p.journal ≤ k → k < count → Tries b p q
  looks_first b p q x k own e free low lt = grind (arith, hands_none, hands_none_more, state_from-snoc)

  -- the job that a pass looks at
  at : (b : BoardView J) (o p : PassView J A) → Tries b o p → (state p ≡ Looked (job_of (state p)))
      × (job_of (state p) < count)
  at b o p h =
      let k = works.looking_at (state p) h.looking in
      let is : state p ≡ Looked (job_of (state p)) = k.1 ∙ ap Looked (ap job_of (sym k.1)) in
      (is, rw is at h.within)

  pub took_claims : (b : BoardView J) (o p q : PassView J A) (x : Step) (k : ℕ) → Tries b o p → q ≡ stepped p x (Took k)
      → k ≡ job_of (state p) → Goes count o.journal q.journal × (state q ≡ Holding k) × (k < count)
  took_claims b o p q x k h e same =
      let here = at b o p h in
      let lt : job_of (state p) < count = here.1 in
      let looked : state p ≡ Looked k = here.0 ∙ ap Looked (sym same) in
      rw e (
        works.took_goes count o.journal p.journal x k h.goes looked (omega arith),
        state_from-snoc Free p.journal.entries x (Took k),
        omega arith,
      )

  pub tries_on : (b : BoardView J) (o p q : PassView J A) (x : Step) (n : ℕ) → Tries b o p → q ≡ stepped p x (Stale n)
      → job_of (state p) < n → n < count → Tries b o q
  tries_on b o p q x n h e lt capacity =
      let here = at b o p h in
      let now : state_of (noted p.journal x (Stale n)).entries ≡ Looked n =
      state_from-snoc Free p.journal.entries x (Stale n) in
      rw e record {
        own = h.own;
        looking = ap is_looking now;
        within = rw now capacity;
        goes = works.stale_goes count o.journal p.journal x (job_of (state p)) n h.goes here.0 lt capacity;
        nothing = hands_none_more o p x (Stale n) h.nothing refl;
      }

  pub tries_fall : (b : BoardView J) (o p q : PassView J A) (x : Step) (n : ℕ) → Tries b o p → q ≡ stepped p x (Stale n)
      → job_of (state p) < n → n < count → left count q.journal < left count p.journal
  tries_fall b o p q x n h e lt capacity =
      rw e (works.stale_falls count p.journal x (job_of (state p)) n (at b o p h).0 lt capacity)

  pub late_claims : (b : BoardView J) (o p q : PassView J A) (x : Step) → Tries b o p → q ≡ stepped p x NoneLeft
      → Ended count o.journal q.journal × IsDone q.journal
  late_claims b o p q x h e =
      let here = at b o p h in
      rw e (
        works.late_ends count o.journal p.journal x (job_of (state p)) h.goes here.0 here.1,
        works.is_done p.journal x,
      )

  -- the measure of a run: a job that was claimed and handed back leaves less
  pub between_falls : (p q r : PassView J A) (k cost : ℕ) (a : A) → Goes count p.journal q.journal → state q ≡ Holding k
      → k < count → r ≡ with_answer q (job_of (state q)) a cost → left count r.journal < left count p.journal
  between_falls p q r k cost a g holding lt e =
      let x : Step = Hand q.journal.worker cost in
      rw e (works.hand_falls count p.journal q.journal x k g holding lt)

  module _ (fits : ℕ → A → Type 0) (price : A → ℕ) where
    pub between_first : (b : BoardView J) (p : PassView J A) → p.board ≡ b → state p ≡ Free → IsBetween fits price b p p
    between_first b p own free = record {
      own = own;
      free = free;
      goes = works.goes_none count p.journal;
      hands = hands_first fits price p;
    }

    -- after a job was claimed and handed back
    pub between_on : (b : BoardView J) (o p q r : PassView J A) (k : ℕ) (a : A) → IsBetween fits price b o p
        → Goes count p.journal q.journal → HandsNothing p q → state q ≡ Holding k → k < count → q.board ≡ b → fits k a
        → r ≡ with_answer q (job_of (state q)) a (price a) → IsBetween fits price b o r
    between_on b o p q r k a h g n holding lt own fit e =
        let x : Step = Hand q.journal.worker (price a) in
        let job : job_of (state q) ≡ k = ap job_of holding in
        rw (e ∙ ap (λ j. with_answer q j a (price a)) job) record {
          own = own;
          free = state_from-snoc Free q.journal.entries x Handed;
          goes = works.hand_goes count o.journal q.journal x k
              (works.pays_on count o.journal p.journal q.journal _ _ h.goes g) holding lt;
          hands = hands_one fits price o q k a (hands_same fits price o p q h.hands n) holding fit;
        }

    -- a run that ends with a claim
    pub runs_to : (b : BoardView J) (o p q : PassView J A) → state o ≡ Free → IsBetween fits price b o p
        → Goes count p.journal q.journal → Runs count o.journal q.journal
    runs_to b o p q free h g = works.runs count o.journal q.journal free
        (works.ends_here count o.journal q.journal (works.pays_on count o.journal p.journal q.journal _ _ h.goes g))

    pub runs_same : (b : BoardView J) (o p q r : PassView J A) → state o ≡ Free → IsBetween fits price b o p
        → Goes count p.journal q.journal → r ≡ q → Runs count o.journal r.journal
    runs_same b o p q r free h g e = rw e (runs_to b o p q free h g)

    pub runs_out : (b : BoardView J) (o p q : PassView J A) → state o ≡ Free → IsBetween fits price b o p
        → Ended count p.journal q.journal → Runs count o.journal q.journal
    runs_out b o p q free h g = works.runs count o.journal q.journal free
        (works.pays_on count o.journal p.journal q.journal 0 0 h.goes g)
