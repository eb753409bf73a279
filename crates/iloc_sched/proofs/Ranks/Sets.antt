-- What words say of sets: put, released, first; for the functions of `Calendar`.
use Rattle.iloc_sched.proofs.Common.{◌≡◌, ℕ, ◌+◌, ◌-◌, ◌*◌, ◌/◌, ◌%◌, ◌<◌, ◌≤◌, min, Bool, true, false, not, ◌&&◌, ◌||◌, eqb, ◌≢◌, List, length, None, sym, ap, ◌∙◌, subst, arith, with_items_is, Vec, bit_at, with_items, IsFirst, KeepsRoom, Puts, Releases, has, offers, place_of, AddsBit, HoldsBits, IsSummary, MovesAt, NotesMoved, TakesBit, open_bit, rank_bit, word_at, Calendar, Class}
use lib.ListN.{get_or-eq_default}
use Rattle.iloc_sched.proofs.Basics.Cases.{by_lt}
use Rattle.iloc_sched.proofs.Ranks.Calendars.{place_small}
use Rattle.iloc_sched.proofs.Ranks.Moves.{KeepsElse, moved_ready}
use Rattle.iloc_sched.proofs.Ranks.WordBits.{no_bit, test_added}

pub puts_from : (c c' : Calendar) (s k : ℕ) (b : Bool) → AddsBit c.words.items c'.words.items b s k → Puts c c' s k (b || has c s k)
puts_from c c' s k b adds = grind (arith, test_added)

pub takes_from : (c c' : Calendar) (s k : ℕ) → TakesBit c.words.items c'.words.items true s k → Puts c c' s k false
takes_from c c' s k takes = grind arith

-- a word past the end has nothing
pub past_end : (words : List ℕ) (s w : ℕ) → length words ≤ w * 37 + s → word_at words s w ≡ 0
past_end words s w past = get_or-eq_default words 0 past

-- a summary's bit leads to a word that is there
pub leads_there : (summary words : List ℕ) (s block : ℕ) → s < 32 → IsSummary summary words
    → ((w : ℕ) → w * 37 < length words → w * 37 + 37 ≤ length words) → HoldsBits words (word_at summary s block) block
leads_there summary words s block low right whole = λ i small set. by_lt ((block * 64 + i) * 37 + s) (length words)
    (λ there. whole (block * 64 + i) (omega arith))
    (λ past.
    let row : (block * 64 + i) / 64 ≡ block = omega arith in
    grind (arith, past_end))

-- so does a class's
pub open_there : (summary words : List ℕ) (k block : ℕ) → k < 4 → IsSummary summary words → HoldsBits words (word_at summary (33 + k) block) block
open_there summary words k block low right = λ i small set.
    let row : (block * 64 + i) / 64 ≡ block = omega arith in
    grind arith

-- nor have those that it has no bits for
pub beyond : (summary words : List ℕ) (s blocks : ℕ) → s < 32 → IsSummary summary words → length summary ≡ blocks * 37 → (w : ℕ)
    → blocks ≤ w / 64 → word_at words s w ≡ 0
beyond summary words s blocks low right size w past = grind (arith, no_bit, past_end)

no_member : (words : List ℕ) (s r : ℕ) → word_at words s (r / 64) ≡ 0 → eqb (rank_bit words s r) 1 ≡ false
no_member words s r none = ap (λ x. eqb x 1) (no_bit (word_at words s (r / 64)) (r % 64) none)

or_none : (a b : Bool) → b ≡ false → a ≡ (a || b)
or_none a b none = grind arith

-- the ranks of the first blocks are released
pub record IsReleased (c c' : Calendar) (b n : ℕ) : Type 0 where
  pub union : (r : ℕ) → r / 4096 < n → has c' 32 r ≡ (has c 32 r || has c b r)
  pub empty : (r : ℕ) → r / 4096 < n → has c' b r ≡ false
  pub others : (s r : ℕ) → s < 37 → (r / 4096 < n → (s ≢ 32) × (s ≢ b)) → has c' s r ≡ has c s r
  pub room : KeepsRoom c c'

pub none_released : (c : Calendar) (b : ℕ) → IsReleased c c b 0
none_released c b = grind arith

-- one block more
module _ (c c1 c2 : Calendar) (b n : ℕ) (small : b < 32) (before : IsReleased c c1 b n)
    (union : (r : ℕ) → r / 4096 ≡ n → has c2 32 r ≡ (has c1 32 r || has c1 b r))
    (empty : (r : ℕ) → r / 4096 ≡ n → has c2 b r ≡ false)
    (others : (s r : ℕ) → s < 37 → (r / 4096 ≡ n → (s ≢ 32) × (s ≢ b)) → has c2 s r ≡ has c1 s r)
    (room : KeepsRoom c1 c2) where
  pub one_released : IsReleased c c2 b (n + 1)
  one_released = grind arith

-- all blocks
pub all_released : (c c' : Calendar) (b : ℕ) → b < 32 → c.blocks ≢ 0 → IsReleased c c' b c.blocks → Releases c c' b
all_released c c' b small some released = record {
  union = grind (arith, gone, or_none);
  empty = λ r. by_lt (r / 4096) c.blocks (λ here. released.empty r here)
      (λ past. released.others b r (omega arith) (λ less. absurd (omega arith)) ∙ gone r past);
  others = λ s r low first second. released.others s r low (λ _. (first, second));
}
  where
    gone : (r : ℕ) → c.blocks ≤ r / 4096 → has c b r ≡ false
    gone r past = no_member c.words.items b r
        (beyond c.summary.items c.words.items b c.blocks (omega arith) (c.summarised some) c.sized (r / 64) (omega arith))

-- a bucket has nothing in a block whose word of the summary is 0
pub block_without : (c : Calendar) (b block : ℕ) → b < 32 → c.blocks ≢ 0 → word_at c.summary.items b block ≡ 0
    → (r : ℕ) → r / 4096 ≡ block → has c b r ≡ false
block_without c b block small some none r here = grind (arith, no_bit, no_member)

-- so to release it changes nothing
pub block_as_released : (c : Calendar) (b block : ℕ) → b < 32 → c.blocks ≢ 0 → word_at c.summary.items b block ≡ 0
    → (r : ℕ) → r / 4096 ≡ block → has c 32 r ≡ (has c 32 r || has c b r)
block_as_released c b block small some none r here = grind (arith, block_without, or_none)

-- one word is all
pub one_word_released : (c c' : Calendar) (b : ℕ) → b < 32 → length c.words.items ≤ 37 → MovesAt c.words.items c'.words.items b 0
    → KeepsElse (λ w. w ≡ 0) c.words.items c'.words.items b → Releases c c' b
one_word_released c c' b small single moved kept = grind (arith, moved_ready, no_member, or_none, past_end)

-- the words of a block
module _ (xs ys : List ℕ) (b block : ℕ) (moved : (w : ℕ) → w / 64 ≡ block → MovesAt xs ys b w)
    (kept : KeepsElse (λ w. w / 64 ≡ block) xs ys b) where
  pub block_union : (r : ℕ) → r / 4096 ≡ block → eqb (rank_bit ys 32 r) 1 ≡ (eqb (rank_bit xs 32 r) 1 || eqb (rank_bit xs b r) 1)
  block_union r here = moved_ready xs ys b r (moved (r / 64) (omega arith))

  pub block_empty : (r : ℕ) → r / 4096 ≡ block → eqb (rank_bit ys b r) 1 ≡ false
  block_empty r here = no_member ys b r (moved (r / 64) (omega arith)).0

  pub block_others : (s r : ℕ) → s < 37 → (r / 4096 ≡ block → (s ≢ 32) × (s ≢ b)) → eqb (rank_bit ys s r) 1 ≡ eqb (rank_bit xs s r) 1
  block_others s r low apart = ap (λ x. eqb (bit_at x (r % 64)) 1) (kept s (r / 64) low (λ here. apart (omega arith)))

offers_bits : (a b : ℕ) → a < 2 → b < 2 → (eqb a 1 && not (eqb b 1)) ≡ eqb (min a (1 - b)) 1
offers_bits a b p q = grind arith

-- what is offered is what is open
module _ (c : Calendar) (beside : Class) where
  abbrev words : List ℕ
  words = c.words.items

  is_offered : (r x : ℕ) → open_bit words (place_of beside) r ≡ x → offers c beside r ≡ eqb x 1
  is_offered r x is = grind (arith, offers_bits)

  pub none_in_blocks : c.blocks ≢ 0 → ((r : ℕ) → r / 64 / 64 < c.blocks → open_bit words (place_of beside) r ≡ 0) → IsFirst (offers c beside) None
  none_in_blocks some none = λ r. is_offered r 0 (by_lt (r / 64 / 64) c.blocks (none r)
      (grind (arith, no_bit, past_end, place_small)))

-- what is written to a list's slice is in the list
module _ (v : Vec ℕ) (xs ws : List ℕ) (same : xs ≡ v.items) where
  pub long : length ws ≡ length xs → length ws ≡ v.len
  long size = let stored = v.ok.0 in let e = ap (length {A = ℕ}) same in omega arith

  pub adds_back : (b : Bool) (s k : ℕ) → AddsBit xs ws b s k → AddsBit v.items (with_items v ws).items b s k
  adds_back b s k adds = subst (λ ys. AddsBit v.items ys b s k) (sym (with_items_is v ws (long adds.size))) (subst (λ ys. AddsBit ys ws b s k) same adds)

  pub takes_back : (b : Bool) (s k : ℕ) → TakesBit xs ws b s k → TakesBit v.items (with_items v ws).items b s k
  takes_back b s k takes = subst (λ ys. TakesBit v.items ys b s k) (sym (with_items_is v ws (long takes.size))) (subst (λ ys. TakesBit ys ws b s k) same takes)

  pub notes_back : (some block b n : ℕ) → NotesMoved xs ws some block b n → NotesMoved v.items (with_items v ws).items some block b n
  notes_back some block b n notes = grind (arith, long, with_items_is)

  pub moves_back : (b w : ℕ) → length ws ≡ length xs → MovesAt xs ws b w → MovesAt v.items (with_items v ws).items b w
  moves_back b w size moved = subst (λ ys. MovesAt v.items ys b w) (sym (with_items_is v ws (long size))) (subst (λ ys. MovesAt ys ws b w) same moved)

  pub kept_back : (Moved : ℕ → Type 0) (b : ℕ) → length ws ≡ length xs → KeepsElse Moved xs ws b → KeepsElse Moved v.items (with_items v ws).items b
  kept_back Moved b size kept = subst (λ ys. KeepsElse Moved v.items ys b) (sym (with_items_is v ws (long size))) (subst (λ ys. KeepsElse Moved ys ws b) same kept)

  pub size_back : length ws ≡ length xs → length (with_items v ws).items ≡ length v.items
  size_back size = ap (length {A = ℕ}) (with_items_is v ws (long size)) ∙ size ∙ ap (length {A = ℕ}) same
