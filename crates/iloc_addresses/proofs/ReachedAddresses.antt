-- The addresses by which operations wait for each other as by a rule of memory; for `reached_by`.
use Rattle.iloc_addresses.proofs.Common.{◌≡◌, ℕ, ◌<◌, Bool, true, false, not, ◌&&◌, ◌||◌, List, map, length, get_or, None, Option, sym, refl, ap, ◌∙◌, arith, range_with_len, Op, Nop, op_at, is_store, kind, Kind, address_at, apart_if_both, by_address, known_before, keeps_order_where, reads_stored, Word, AreReached, one_address, waits_by_memory}
use Rattle.std.proofs.lemmas.List.{get_or-map, length-map}
use Rattle.std.proofs.lemmas.List.FromFn.{length-map-range_with_len, get_or-map-range_with_len}
use Rattle.iloc_timed.specs.Kinds.{is_memory, is_output}
use Rattle.iloc_rules.specs.Delays.{all_count}
use Rattle.iloc_addresses.proofs.Taken.{no_address}
use Rattle.iloc_addresses.proofs.Waited.{reads}

-- the rule by kinds: stores count among themselves
by_kinds : (k l : Kind) (apart : Bool) (v w : Option Word) → apart_if_both v w ≡ apart
    → ((((is_store k && is_store l) || not apart) && reads_stored k l)
    || keeps_order_where ((is_store k && is_store l) || not apart) k l) ≡ waits_by_memory k v l w
by_kinds k l true v w is = grind arith
by_kinds k l false v w is = grind arith

neither : (k : Kind) → reads k ≡ false → is_store k ≡ false → (is_memory k || is_output k) ≡ false
neither k no_read no_store = grind arith

module _ (ops : List Op) (found : List (Option Word)) (are : found ≡ map (address_at ops) (range_with_len 0 (length ops))) where
  known_at : (i : ℕ) → i < length ops → get_or found i None ≡ address_at ops i
  known_at i within = ap (λ xs. get_or xs i None) are
      ∙ get_or-map-range_with_len (address_at ops) 0 (length ops) i i None within (omega arith)

  pub known_reached : AreReached (by_address ops) ops found
  known_reached = record {
    size = ap length are ∙ length-map-range_with_len (address_at ops) 0 (length ops);
    none = λ i within none.
        let free = no_address (op_at ops i) (known_before ops i) (sym (known_at i within) ∙ none) in
        neither (kind (op_at ops i)) free.0 free.1;
    waits = λ i j first second.
        by_kinds (kind (op_at ops i)) (kind (op_at ops j)) (apart_if_both (address_at ops i) (address_at ops j))
        (address_at ops i) (address_at ops j) refl
        ∙ ap (λ v. waits_by_memory (kind (op_at ops i)) v (kind (op_at ops j)) (address_at ops j)) (sym (known_at i first))
        ∙ ap (λ w. waits_by_memory (kind (op_at ops i)) (get_or found i None) (kind (op_at ops j)) w) (sym (known_at j second));
  }

-- by the book
by_one_address : (k l : Kind) → ((true && reads_stored k l) || keeps_order_where true k l)
    ≡ waits_by_memory k (one_address k) l (one_address l)
by_one_address k l = grind arith

no_one_address : (k : Kind) → one_address k ≡ None → (is_memory k || is_output k) ≡ false
no_one_address k none = grind arith

module _ (ops : List Op) (found : List (Option Word)) (are : found ≡ map (λ op. one_address (kind op)) ops) where
  one_at : (i : ℕ) → i < length ops → get_or found i None ≡ one_address (kind (op_at ops i))
  one_at i within = ap (λ xs. get_or xs i None) are ∙ get_or-map (λ op. one_address (kind op)) ops i Nop None within

  pub one_reached : AreReached all_count ops found
  one_reached = record {
    size = ap length are ∙ length-map ops (λ op. one_address (kind op));
    none = λ i within none. no_one_address (kind (op_at ops i)) (sym (one_at i within) ∙ none);
    waits = λ i j first second.
        by_one_address (kind (op_at ops i)) (kind (op_at ops j))
        ∙ ap (λ v. waits_by_memory (kind (op_at ops i)) v (kind (op_at ops j)) (one_address (kind (op_at ops j)))) (sym (one_at i first))
        ∙ ap (λ w. waits_by_memory (kind (op_at ops i)) (get_or found i None) (kind (op_at ops j)) w) (sym (one_at j second));
  }
