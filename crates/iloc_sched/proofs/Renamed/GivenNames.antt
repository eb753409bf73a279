-- A register is named by the place of its source, use after use; for `rename` (`renamed`).
use Rattle.iloc_sched.proofs.Common.{◌≡◌, ℕ, ◌+◌, ◌<◌, ◌≤◌, Bool, true, false, ◌||◌, ◌≢◌, ◌⊎◌, List, [], ◌∷◌, ◌++◌, length, if◌then◌else◌, ◌==◌, Some, None, Option, sym, refl, ap, ◌∙◌, inl, inr, append_assoc, append-nil, arith, length-append, eq-eqb, ne_eqb, eqb-true, list_any, Reg, by_bool, Source, is_source, struck, Stands, Follows, NamesNext, also, also_all}
use Rattle.std.proofs.lemmas.List.Folds.{list_any-append}
use Rattle.iloc_rules.specs.Renaming.{place_of}
use Rattle.iloc_rules.specs.Renaming.Source.{Start, Result}
use Rattle.iloc_sched.specs.Steps.Renaming.NamingWalk.{number_of}
use Rattle.iloc_rules.proofs.Renamed.Sources.{is_source-refl, is_source-true, is_source-false, stands_left, stands_right}

abbrev unless : Bool → Source → List Source
unless b s = if b then [] else s ∷ []

struck_last : (ms stood : List Source) (s : Source)
    → struck stood (ms ++ s ∷ []) ≡ struck stood ms
    ++ unless (list_any (is_source s) stood || list_any (is_source s) (struck stood ms)) s
struck_last [] stood s = grind arith
struck_last (x ∷ rest) stood s = grind (arith, struck_last rest stood s, struck_last rest (x ∷ stood) s)

also_unless : (sources : List Source) (s : Source) → sources ++ unless (list_any (is_source s) sources) s
    ≡ also sources s
also_unless sources s = grind (arith, append-nil)

pub struck_push : (ms : List Source) (s : Source) → struck [] (ms ++ s ∷ []) ≡ also (struck [] ms) s
struck_push ms s = struck_last ms [] s ∙ also_unless (struck [] ms) s

-- a numbering is made mention by mention
pub struck_more : (ms more : List Source) → struck [] (ms ++ more) ≡ also_all (struck [] ms) more
struck_more ms [] = ap (struck []) (append-nil ms)
struck_more ms (s ∷ rest) = grind (arith, append_assoc, struck_push, struck_more (ms ++ s ∷ []) rest)

-- a source that is numbered keeps its number
pub place_kept : (sources : List Source) (s t : Source) → Stands sources t → place_of (sources ++ s ∷ []) t
    ≡ place_of sources t
place_kept [] s t there = absurd cc
place_kept (x ∷ rest) s t there = grind (arith, place_kept rest s t)

-- a new source gets the next number
pub place_new : (sources : List Source) (s : Source) → list_any (is_source s) sources ≡ false
    → place_of (sources ++ s ∷ []) s ≡ length sources
place_new [] s new = rw (is_source-refl s) refl
place_new (x ∷ rest) s new = grind (arith, place_new rest s)

number_kept : (sources : List Source) (s t : Source) → is_source t s ≡ false → number_of (sources ++ s ∷ []) t
    ≡ number_of sources t
number_kept sources s t apart = grind (arith, list_any-append, place_kept)

number_new : (sources : List Source) (s : Source) → list_any (is_source s) sources ≡ false
    → number_of (sources ++ s ∷ []) s ≡ Some (length sources)
number_new sources s new = grind (arith, is_source-refl, list_any-append, place_new)

-- a register whose source has a number keeps all as it is
pub use_named : (n : ℕ) (sources : List Source) (now : Reg → Source) (given : ℕ) (current : Reg → Option ℕ) (r : Reg)
    (name : ℕ) → Follows n sources now given current → current r ≡ Some name
    → Follows n (also sources (now r)) now given current
use_named n sources now given current r name follows is =
    by_bool (list_any (is_source (now r)) sources)
    (λ b. rw b follows)
    (λ b. absurd (let none : Some name ≡ None = sym is ∙ follows.numbers r ∙ rw b refl in cc))

-- a register without a number reads its start
at_start : (n : ℕ) (sources : List Source) (now : Reg → Source) (given : ℕ) (current : Reg → Option ℕ) (r : Reg)
    → Follows n sources now given current → list_any (is_source (now r)) sources ≡ false → now r ≡ Start r
at_start n sources now given current r follows new = grind arith

same_register : (q r : Reg) → q.0 == r.0 ≡ true → q ≡ r
same_register q r same = ap (λ (n : ℕ). record { 0 = n }) (eqb-true q.0 r.0 same)

stands_either : (sources : List Source) (s t : Source) → Stands (sources ++ s ∷ []) t → Stands sources t ⊎ (t ≡ s)
stands_either [] s t there = grind (arith, is_source-true)
stands_either (x ∷ rest) s t there = grind (arith, stands_either rest s t)

-- a source that is new takes the next number: the register r reads it from now on, and each other what it read
pub name_next : (n m : ℕ) (sources : List Source) (now now' : Reg → Source) (given given' : ℕ) (current current' : Reg
    → Option ℕ) (r : Reg) (s : Source) → Follows n sources now given current → NamesNext r given current given' current'
    → n ≤ m → list_any (is_source s) sources ≡ false → ((j : ℕ) → s ≡ Result j → j < m) → now' r ≡ s
    → ((q : Reg) → q.0 ≢ r.0 → (now' q ≡ now q) × (now q ≢ s)) → Follows m (sources ++ s ∷ []) now' given' current'
name_next n m sources now now' given given' current current' r s follows next later new result here others = record {
  count = next.count ∙ omega (arith, follows.count, length-append sources (s ∷ []));
  numbers = λ q. by_bool (q.0 == r.0)
      (grind (arith, number_new, same_register))
      (grind (arith, eqb-apart, is_source-false, number_kept));
  origin = grind (arith, eqb-apart, same_register, stands_last, stands_left);
  results = grind (arith, stands_either);
}
  where
    eqb-apart : (a b : ℕ) → a == b ≡ false → a ≢ b
    eqb-apart a b differ same = let no : true ≡ false = sym (eq-eqb a b same) ∙ differ in cc

    stands_last : (ss : List Source) (t : Source) → Stands (ss ++ t ∷ []) t
    stands_last ss t = stands_right ss (t ∷ []) t (rw (is_source-refl t) refl)

-- a use of a register that has no name yet
pub use_new : (n : ℕ) (sources : List Source) (now : Reg → Source) (given given' : ℕ) (current current' : Reg
    → Option ℕ) (r : Reg) → Follows n sources now given current → current r ≡ None
    → NamesNext r given current given' current' → Follows n (also sources (now r)) now given' current'
use_new n sources now given given' current current' r follows none next =
    by_bool (list_any (is_source (now r)) sources)
    (λ b. absurd (let some : None ≡ Some (place_of sources (now r)) = sym none ∙ follows.numbers r ∙ rw b refl in cc))
    (λ b.
    let start : now r ≡ Start r = at_start n sources now given current r follows b in
    rw b (name_next n n sources now now given given' current current' r (now r) follows next (omega arith) b
    (λ j is. absurd (let no : Start r ≡ Result j = sym start ∙ is in cc))
    refl
    (λ q apart. (
      refl,
      λ same. elim (follows.origin q) [
        | inl own ↦ absurd (let one : Start q ≡ Start r = sym own ∙ same ∙ start in let one_register : q ≡ r = cc in
            apart (ap (λ (x : Reg). x.0) one_register))
        | inr there ↦ absurd (let no : true ≡ false = sym there ∙ ap (λ t. list_any (is_source t) sources) same ∙ b in
            cc)
      ],
    ))))

-- the name of a register that has one
pub name_had : (n : ℕ) (sources : List Source) (now : Reg → Source) (given : ℕ) (current : Reg → Option ℕ) (r : Reg)
    (name : ℕ) → Follows n sources now given current → current r ≡ Some name
    → name ≡ place_of (also sources (now r)) (now r)
name_had n sources now given current r name follows is = grind arith

-- the name of a register that has none yet
pub name_next_given : (n : ℕ) (sources : List Source) (now : Reg → Source) (given : ℕ) (current : Reg → Option ℕ)
    (r : Reg) → Follows n sources now given current → current r ≡ None → given ≡ place_of (also sources (now r)) (now r)
name_next_given n sources now given current r follows none = grind (arith, place_new)

-- the definition of operation n
pub define_new : (n : ℕ) (sources : List Source) (now : Reg → Source) (given given' : ℕ) (current current' : Reg
    → Option ℕ) (r : Reg) → Follows n sources now given current → NamesNext r given current given' current'
    → Follows (n + 1) (sources ++ Result n ∷ []) (λ q. if q.0 == r.0 then Result n else now q) given' current'
define_new n sources now given given' current current' r follows next =
    name_next n (n + 1) sources now _ given given' current current' r (Result n) follows next (omega arith)
    (grind arith)
    (λ j is. let same : n ≡ j = cc in omega arith)
    (rw (eq-eqb r.0 r.0 refl) refl)
    (λ q apart. (
      rw (ne_eqb q.0 r.0 apart) refl,
      λ same. elim (follows.origin q) [
        | inl own ↦ absurd (let no : Start q ≡ Result n = sym own ∙ same in cc)
        | inr there ↦ absurd (let below : n < n = follows.results n (rw same at there) in omega arith)
      ],
    ))
