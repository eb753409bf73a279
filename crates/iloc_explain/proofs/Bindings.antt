-- What binds an operation, by what is explained of the operations.
use Rattle.iloc_explain.proofs.Common.{◌≡◌, ℕ, ◌-◌, ◌<◌, ◌≤◌, List, length, get_or, slice_get, Some, None, sym, ap, ◌∙◌, subst, arith, slice_get-get_or, Op, IsTable, issue_cycle, Latencies, MemoryRule, Row, Binds, IsReadyAt, waited_until, Explained, Delay}
use Rattle.iloc_explain.specs.Explained.{IsExplained, AreExplained}
use Rattle.iloc_explain.proofs.Stretches.{none_waited, waited_earlier}

module _ (prios : List ℕ) (rule : MemoryRule) (lat : Latencies) (ops : List Op) (rows : List Row) (es : List Explained)
    (are : AreExplained prios rule lat ops rows es) where
  pub explained_there : (j : ℕ) (d : Explained) → j < length ops → IsExplained prios rule lat ops rows j (get_or es j d)
  explained_there j d within =
      let size : length es ≡ length ops = are.all in
      are.each j (get_or es j d) (slice_get-get_or es j d (omega arith))

  pub explained_read : (j : ℕ) (own : Explained) → j < length ops → own ≡ get_or es j own → IsExplained prios rule lat ops rows j own
  explained_read j own within read =
      subst (IsExplained prios rule lat ops rows j) (sym read) (explained_there j own within)

  -- the first operation for which one waited
  pub first_waited : (j c i : ℕ) (own : Explained) → j < length ops → own ≡ get_or es j own → c ≡ own.ready
      → Some i ≡ slice_get own.after.items 0 → slice_get (waited_until rule lat ops rows j c) 0 ≡ Some i
  first_waited j c i own within read ready first = grind (arith, explained_read)

  pub first_known : (j c i : ℕ) (own : Explained) → j < length ops → own ≡ get_or es j own → c ≡ own.ready
      → Some i ≡ slice_get own.after.items 0 → (i < length es) × (issue_cycle rows i < c)
  first_known j c i own within read ready first =
      let before = waited_earlier rule lat ops rows j c i (first_waited j c i own within read ready first) in
      let size : length es ≡ length ops = are.all in
      let order : i < j = before.0 in
      (omega arith, before.1)

  pub ready_there : (j c : ℕ) (own : Explained) → j < length ops → own ≡ get_or es j own → c ≡ own.ready → IsReadyAt rule lat ops rows j c
  ready_there j c own within read ready =
      let is = explained_read j own within read in
      rw ready is.ready

  pub delay_binds : (j c i : ℕ) (own e : Explained) → j < length ops → own ≡ get_or es j own → c ≡ own.ready
      → Some i ≡ slice_get own.after.items 0
      → ((get_or es i e).cycle ≤ c) × Binds rule lat ops rows j c (Delay i (c - (get_or es i e).cycle))
  delay_binds j c i own e within read ready first =
      let size : length es ≡ length ops = are.all in
      let place = first_known j c i own within read ready first in
      let known : i < length es = place.0 in
      let before : issue_cycle rows i < c = place.1 in
      let other = explained_there i e (omega arith) in
      let at : (get_or es i e).cycle ≡ issue_cycle rows i = other.cycle in
      (omega arith, (ready_there j c own within read ready, first_waited j c i own within read ready first, omega arith))

  pub none_first : (j c : ℕ) (own : Explained) → IsTable ops rows → j < length ops → own ≡ get_or es j own → c ≡ own.ready
      → None ≡ slice_get own.after.items 0 → c ≡ 0
  none_first j c own table within read ready none =
      let is = explained_read j own within read in
      none_waited rule lat ops rows j c table (ready_there j c own within read ready)
      (ap (λ n. slice_get (waited_until rule lat ops rows j n) 0) ready
      ∙ (ap (λ xs. slice_get xs 0) (sym is.after) ∙ sym none))
