-- What is known before the next operation; for `KnownRegisters::take` and `known_addresses`.
use Rattle.iloc_addresses.proofs.Common.{◌≡◌, ℕ, ◌+◌, List, [], ◌∷◌, ◌++◌, map, ◌==◌, Some, None, Option, sym, ap, ◌∙◌, add-one, arith, eqb-true, eqb-false, range_with_len, defined, Op, Reg, by_bool, is_register, op_at, address_at, address_of, known_before, result_word, Word, AreBefore, ChangesOnly, word_at, word_in}
use Rattle.std.proofs.Math.Path.{fun_ext}
use Rattle.std.proofs.lemmas.List.FromFn.{map-range_with_len_more}
use Rattle.iloc_addresses.specs.declared.registers.KnownRegisters.{KnownRegisters}

module _ (ops : List Op) (i : ℕ) (op : Op) (old : KnownRegisters) (here : op_at ops i ≡ op) (known : AreBefore ops i old) where
  all_known : word_in old ≡ known_before ops i
  all_known = fun_ext known

  pub address_known : address_of op (word_in old) ≡ address_at ops i
  address_known = ap (address_of op) all_known ∙ ap (λ o. address_of o (known_before ops i)) (sym here)

  result_known : result_word i op (word_in old) ≡ result_word i (op_at ops i) (known_before ops i)
  result_known = ap (result_word i op) all_known ∙ ap (λ o. result_word i o (known_before ops i)) (sym here)

  -- after an operation that defines no register
  pub none_more : defined op ≡ None → AreBefore ops (i + 1) old
  none_more none r =
      rw add-one (rw (ap (λ o. is_register r (defined o)) here ∙ ap (is_register r) none) (known r))

  -- after one that defines this register
  pub one_more : (new : KnownRegisters) (register : Reg) → defined op ≡ Some register
      → ChangesOnly old new register (result_word i op (word_in old)) → AreBefore ops (i + 1) new
  one_more new register defines changes r = rw add-one (rw test (by_bool (r.0 == register.0)
      (λ t. rw t (ap (word_at new) (eqb-true r.0 register.0 t)
      ∙ changes.changed ∙ result_known))
      (λ f. rw f (changes.others r (eqb-false r.0 register.0 f) ∙ known r))))
    where
      test : is_register r (defined (op_at ops i)) ≡ (r.0 == register.0)
      test = ap (λ o. is_register r (defined o)) here ∙ ap (is_register r) defines

-- one address more
pub listed_more : (ops : List Op) (i : ℕ) (items more : List (Option Word)) (address : Option Word)
    → items ≡ map (address_at ops) (range_with_len 0 i) → more ≡ items ++ address ∷ [] → address ≡ address_at ops i
    → more ≡ map (address_at ops) (range_with_len 0 (i + 1))
listed_more ops i items more address listed pushed is =
    pushed ∙ ap (λ xs. xs ++ address ∷ []) listed
    ∙ ap (λ x. map (address_at ops) (range_with_len 0 i) ++ x ∷ []) is
    ∙ sym (map-range_with_len_more (address_at ops) 0 i i (omega arith))
