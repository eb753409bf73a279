-- The calendar of a plan, as ranks are put into it, released and taken.
use Rattle.iloc_sched.proofs.Common.{◌≡◌, ℕ, ◌+◌, ◌<◌, ◌≤◌, Bool, true, false, ◌||◌, eqb, ◌≢◌, length, sym, ap, ◌∙◌, inl, inr, true≢false, arith, or_cases, by_bool, HasRoom, HasSameSets, IsWithin, KeepsRoom, Puts, Releases, has, excludes, place_of, rank_bit, IsCalendar, IsPlan, KeepsOut, class_at, rank_of, bucket_of, Calendar, Class, Plan}
use Rattle.iloc_sched.proofs.Basics.Cases.{by_eq}
use Rattle.iloc_sched.proofs.Ranks.Cells.{by_both}
use Rattle.iloc_sched.proofs.Walking.EdgeWalk.{Enters}

pub place_small : (k : Class) → place_of k < 4
place_small k = grind arith

-- an operation of the rest keeps nothing out
pub rest_is_free : (k : Class) → place_of k ≡ 3 → excludes k k ≡ false
rest_is_free k last = grind arith

same_class : (l k : Class) → place_of l ≡ place_of k → (excludes k k || false) ≡ excludes l k
same_class l k same = grind arith

other_class : (l k : Class) → place_of l ≢ place_of k → excludes l k ≡ false
other_class l k apart = grind arith

-- the room is as it was
pub within_kept : (c c' : Calendar) (r : ℕ) → KeepsRoom c c' → IsWithin c r → IsWithin c' r
within_kept c c' r keeps is = grind arith

pub room_kept : (c c' : Calendar) (n : ℕ) → KeepsRoom c c' → HasRoom c n → HasRoom c' n
room_kept c c' n keeps room = grind (arith, within_kept)

pub room_none : (c : Calendar) (n : ℕ) → HasRoom c n → HasRoom c 0
room_none c n room = record { ranks = λ r low. absurd (omega arith); first = room.first; blocks = room.blocks }

pub room_trans : (a b c : Calendar) → KeepsRoom a b → KeepsRoom b c → KeepsRoom a c
room_trans a b c first second = record { words = second.words ∙ first.words; blocks = second.blocks ∙ first.blocks }

pub short_kept : (c c' : Calendar) (short : Bool) → KeepsRoom c c' → short ≡ eqb c.blocks 0 → short ≡ eqb c'.blocks 0
short_kept c c' short keeps is = is ∙ ap (λ n. eqb n 0) (sym keeps.blocks)

-- the sets are the same
pub same_has : (c c' : Calendar) → HasSameSets c c' → (s r : ℕ) → has c' s r ≡ has c s r
same_has c c' same s r = ap (λ ws. eqb (rank_bit ws s r) 1) same.words

pub same_room : (c c' : Calendar) → HasSameSets c c' → KeepsRoom c c'
same_room c c' same = record { words = ap (length {A = ℕ}) same.words; blocks = same.blocks }

-- what a class keeps out is known as before
pub kept_put : (p : Plan) (c c' : Calendar) (n s k : ℕ) (b : Bool) → s ≤ 32 → Puts c c' s k b → KeepsOut p n c → KeepsOut p n c'
kept_put p c c' n s k b low puts kept = grind (arith, place_small)

module _ (p : Plan) (plan : IsPlan p) where
  -- each operation has a rank of its own
  pub ranks_apart : (j k : ℕ) → j < length p.tables.now.ops.items → k < length p.tables.now.ops.items → rank_of p j ≡ rank_of p k → j ≡ k
  ranks_apart j k j_there k_there same = grind arith

  module _ (c c' : Calendar) (is : IsCalendar p c) where
    -- operation j goes into a set of operations, or out of it
    pub calendar_put : (s j : ℕ) (b : Bool) → s ≤ 32 → j < length p.tables.now.ops.items → Puts c c' s (rank_of p j) b → KeepsRoom c c'
        → IsCalendar p c'
    calendar_put s j b low there puts keeps = record {
      room = room_kept c c' (length p.tables.now.ops.items) keeps is.room;
      ranked = λ t r t_low held. by_both t s r (rank_of p j)
          (λ _ same. (j, there, sym same))
          (λ other. is.ranked t r t_low (sym (puts.others t r (omega arith) other) ∙ held));
      kept = kept_put p c c' (length p.tables.now.ops.items) s (rank_of p j) b low puts is.kept;
      short = short_kept c c' p.short keeps is.short;
    }

    pub calendar_released : (b : ℕ) → b < 32 → Releases c c' b → KeepsRoom c c' → IsCalendar p c'
    calendar_released b low released keeps = record {
      room = room_kept c c' (length p.tables.now.ops.items) keeps is.room;
      ranked = λ s r s_low held. by_eq s 32
          (λ same. elim (or_cases (has c 32 r) (has c b r)
          (sym (released.union r) ∙ ap (λ t. has c' t r) (sym same) ∙ held)) [
            | inl h ↦ is.ranked 32 r (omega arith) h
            | inr h ↦ is.ranked b r (omega arith) h
          ])
          (λ apart. by_eq s b
          (λ same. absurd (true≢false (sym held ∙ ap (λ t. has c' t r) same ∙ released.empty r)))
          (λ other. is.ranked s r s_low (sym (released.others s r (omega arith) apart other) ∙ held)));
      kept = record {
        each = λ k j below.
            released.others (33 + place_of k) (rank_of p j) (omega (arith, place_small k)) (omega arith) (omega arith)
            ∙ is.kept.each k j below;
        only = λ k r held. is.kept.only k r
            (sym (released.others (33 + place_of k) r (omega (arith, place_small k)) (omega arith) (omega arith))
            ∙ held);
      };
      short = short_kept c c' p.short keeps is.short;
    }

  -- operation j goes into bucket b if it has come to its last edge
  pub puts_enters : (c c' : Calendar) (b j : ℕ) (ready : Bool) (at_end : Type 0) → b < 32 → j < length p.tables.now.ops.items
      → Puts c c' b (rank_of p j) (ready || has c b (rank_of p j)) → (ready ≡ true → at_end) → (at_end → ready ≡ true)
      → Enters (length p.tables.now.ops.items) (bucket_of p.ranks.now c) (bucket_of p.ranks.now c') b j at_end
  puts_enters c c' b j ready at_end low there puts end begin = grind (arith, or_cases, ranks_apart)

  -- what operation n keeps out is noted for its class
  pub keeps_out_more : (c c' : Calendar) (n : ℕ) (k : Class) → n < length p.tables.now.ops.items → KeepsOut p n c
      → k ≡ class_at p.tables.now.ops.items n
      → Puts c c' (33 + place_of k) (rank_of p n) (excludes k k || has c (33 + place_of k) (rank_of p n)) → KeepsOut p (n + 1) c'
  keeps_out_more c c' n k there kept class puts = record {
    each = λ l i below. by_eq i n
        (λ same. ap (λ m. has c' (33 + place_of l) (rank_of p m)) same ∙ noted l
        ∙ ap (λ m. excludes l (class_at p.tables.now.ops.items m)) (sym same))
        (λ apart. puts.others (33 + place_of l) (rank_of p i) (omega (arith, place_small l))
        (λ _ same. apart (ranks_apart i n (omega arith) there same)) ∙ kept.each l i (omega arith));
    only = λ l r held. by_both (33 + place_of l) (33 + place_of k) r (rank_of p n)
        (λ _ same. (n, omega arith, sym same))
        (λ other.
        let was = kept.only l r (sym (puts.others (33 + place_of l) r (omega (arith, place_small l)) other) ∙ held) in
        (was.0, omega arith, was.2));
  }
    where
      new : (l : Class) → has c (33 + place_of l) (rank_of p n) ≡ false
      new l = by_bool (has c (33 + place_of l) (rank_of p n))
          (λ held.
          let was = kept.only l (rank_of p n) held in
          let before : was.0 < n = was.1 in
          let same : was.0 ≡ n = ranks_apart was.0 n (omega arith) there was.2 in
          absurd (omega arith))
          (λ none. none)

      noted : (l : Class) → has c' (33 + place_of l) (rank_of p n) ≡ excludes l (class_at p.tables.now.ops.items n)
      noted l = by_eq (place_of l) (place_of k)
          (λ same. ap (λ m. has c' (33 + m) (rank_of p n)) same ∙ puts.here ∙ ap (λ b. excludes k k || b) (new k) ∙ same_class l k same
          ∙ ap (excludes l) class)
          (λ apart. puts.others (33 + place_of l) (rank_of p n) (omega (arith, place_small l)) (λ same _. apart (omega arith)) ∙ new l
          ∙ sym (other_class l k apart) ∙ ap (excludes l) class)

-- the same with equals
pub puts_as : (c1 c k : Calendar) (s r r' : ℕ) (ready : Bool) → c1 ≡ c → r ≡ r' → Puts c1 k s r (ready || has c1 s r)
    → Puts c k s r' (ready || has c s r')
puts_as c1 c k s r r' ready same rank puts = grind arith
