-- There is one text that explains a schedule.
use Rattle.iloc_explain.proofs.Common.{◌≡◌, ℕ, suc, ◌+◌, ◌-◌, ◌<◌, ◌≤◌, List, [], ◌∷◌, ◌++◌, length, slice_get, Some, sym, refl, ap, ◌∙◌, subst, ap₂, inl, inr, arith, cases_order, none-some, same_Some, Op, cycles, issue_cycle, row_at, Latencies, MemoryRule, Row, without_nops, Begins, Binds, HadRoom, IsLastToArrive, IsPath, LeadBack, origin, span, waited_until, Explained, Delay, Free, Held}
use Rattle.iloc_explain.specs.Explained.{AreExplained, IsExplained}
use Rattle.iloc_explain.specs.Holding.{holder, keeper}
use Rattle.iloc_explain.specs.Laws.{SchedulesHaveOneExplanation}
use Rattle.iloc_explain.specs.Listing.{AreTableRows, each_after, explained_line, explained_lines, explained_row, cycles_line, chain_line, path_line}
use Rattle.iloc_explain.proofs.Links.{longest_same}
use Rattle.iloc_explain.proofs.OneReadyCycle.{ready_same}
use Rattle.iloc_explain.specs.declared.path.Stretch.{Stretch}
use Rattle.iloc_explain.proofs.Stretches.{waited_earlier}

-- A schedule has one path.
module _ (rule : MemoryRule) (lat : Latencies) (ops : List Op) (rows : List Row) where
  -- where one of them is an operation in the row before, and the other room in it, they aren't of one cycle
  room_or_kept : (j c r n h : ℕ) → HadRoom ops rows j r c n → keeper ops (row_at rows (c - 1)) j ≡ Some h → ⊥
  room_or_kept j c r n h had kept = grind (arith, none-some)

  -- of two stretches with room neither is longer
  room_not_longer : (j c r n m : ℕ) → HadRoom ops rows j r c n → HadRoom ops rows j r c m → n < m → ⊥
  room_not_longer j c r n m had also less = grind arith

  room_same : (j c r n m : ℕ) → HadRoom ops rows j r c n → HadRoom ops rows j r c m → n ≡ m
  room_same j c r n m had also = grind (arith, cases_order, room_not_longer)

  -- one stretch binds an operation in a cycle
  binds_same : (j c : ℕ) (s t : Stretch) → Binds rule lat ops rows j c s → Binds rule lat ops rows j c t → s ≡ t
  binds_same j c (Delay i d) (Delay k e) (ready, first, sum) (also, other, sum') = grind (arith, same_Some)
  binds_same j c (Delay i d) (Held h) (ready, first, sum) (r, also, later, kept) =
      let same : c ≡ r = ready_same rule lat ops rows j c r ready also in absurd (omega arith)
  binds_same j c (Delay i d) (Free n) (ready, first, sum) (r, also, had) =
      let same : c ≡ r = ready_same rule lat ops rows j c r ready also in
      let some : 0 < n = had.some in
      let far : r + n ≤ c = had.ready in
      absurd (omega arith)
  binds_same j c (Held h) (Delay i d) (r, also, later, kept) (ready, first, sum) =
      let same : c ≡ r = ready_same rule lat ops rows j c r ready also in absurd (omega arith)
  binds_same j c (Held h) (Held g) (r, ready, later, kept) (q, also, later', kept') =
      ap Held (same_Some h g (sym kept ∙ kept'))
  binds_same j c (Held h) (Free n) (r, ready, later, kept) (q, also, had) = absurd (room_or_kept j c q n h had kept)
  binds_same j c (Free n) (Delay i d) (r, also, had) (ready, first, sum) =
      let same : c ≡ r = ready_same rule lat ops rows j c r ready also in
      let some : 0 < n = had.some in
      let far : r + n ≤ c = had.ready in
      absurd (omega arith)
  binds_same j c (Free n) (Held h) (q, also, had) (r, ready, later, kept) = absurd (room_or_kept j c q n h had kept)
  binds_same j c (Free n) (Free m) (r, ready, had) (q, also, had') =
      let same : q ≡ r = ready_same rule lat ops rows j q r also ready in
      ap Free (room_same j c r n m had (subst (λ k. HadRoom ops rows j k c m) same had'))

  -- and none where a path begins
  begins_there : (j c : ℕ) (s : Stretch) → Begins rule lat ops rows j c → Binds rule lat ops rows j c s → ⊥
  begins_there j c (Delay i d) (inl start) (ready, first, sum) = grind (arith, waited_earlier)
  begins_there j c (Delay i d) (inr (r, also, early)) (ready, first, sum) =
      let same : c ≡ r = ready_same rule lat ops rows j c r ready also in omega arith
  begins_there j c (Held h) (inl start) (r, ready, later, kept) = omega arith
  begins_there j c (Held h) (inr (q, also, early)) (r, ready, later, kept) =
      let same : q ≡ r = ready_same rule lat ops rows j q r also ready in omega arith
  begins_there j c (Free n) (inl start) (r, ready, had) = grind arith
  begins_there j c (Free n) (inr (q, also, early)) (r, ready, had) =
      let same : q ≡ r = ready_same rule lat ops rows j q r also ready in
      let far : r + n ≤ c = had.ready in
      omega arith

  leads_same : (j c : ℕ) (back other : List Stretch) → LeadBack rule lat ops rows j c back → LeadBack rule lat ops rows j c other
      → back ≡ other
  leads_same j c [] [] leads also = refl
  leads_same j c [] (t ∷ other) begins (binds, rest) = absurd (begins_there j c t begins binds)
  leads_same j c (s ∷ back) [] (binds, rest) begins = absurd (begins_there j c s begins binds)
  leads_same j c (s ∷ back) (t ∷ other) (binds, rest) (binds', rest') =
      let same : t ≡ s = binds_same j c t s binds' binds in
      ap₂ (λ x xs. x ∷ xs) (sym same)
      (leads_same (origin s j) (c - span s) back other rest
      (subst (λ x. LeadBack rule lat ops rows (origin x j) (c - span x) other) same rest'))

  last_same : (j k : ℕ) → IsLastToArrive lat ops rows j → IsLastToArrive lat ops rows k → j ≡ k
  last_same j k one other = grind (arith, cases_order)

pub path_same : (rule : MemoryRule) (lat : Latencies) (ops : List Op) (rows : List Row) (path other : List Stretch) → IsPath rule lat ops rows path
    → IsPath rule lat ops rows other → path ≡ other
path_same rule lat ops rows path other is also = grind (arith, last_same, leads_same)

line_same : (prios : List ℕ) (rule : MemoryRule) (lat : Latencies) (ops : List Op) (rows : List Row) (j : ℕ) (e f : Explained) (op new : Op)
    → IsExplained prios rule lat ops rows j e → IsExplained prios rule lat ops rows j f
    → (explained_line j e op new ≡ explained_line j f op new) × (explained_row j e op new ≡ explained_row j f op new)
line_same prios rule lat ops rows j e f op new is also =
    let ready : e.ready ≡ f.ready = ready_same rule lat ops rows j e.ready f.ready is.ready also.ready in
    let after : e.after.items ≡ f.after.items =
    is.after ∙ (ap (waited_until rule lat ops rows j) ready ∙ sym also.after) in
    let cycle : e.cycle ≡ f.cycle = is.cycle ∙ sym also.cycle in
    let unit : e.unit ≡ f.unit = is.unit ∙ sym also.unit in
    let priority : e.priority ≡ f.priority = is.priority ∙ sym also.priority in
    let earliest : e.earliest ≡ f.earliest = is.earliest ∙ sym also.earliest in
    let slack : e.slack ≡ f.slack = is.slack ∙ sym also.slack in
    let held : e.held ≡ f.held = is.held ∙ (ap (holder ops rows j (issue_cycle rows j)) ready ∙ sym also.held) in
    (rw (cycle, unit, ready, after, priority, earliest, slack, held) refl, rw (cycle, unit, ready, after, priority, earliest, slack, held) refl)

lines_same : (line : ℕ → Explained → Op → Op → List ℕ) (prios : List ℕ) (rule : MemoryRule) (lat : Latencies) (ops : List Op) (rows : List Row)
    → ((j : ℕ) (e f : Explained) (op new : Op) → IsExplained prios rule lat ops rows j e → IsExplained prios rule lat ops rows j f
    → line j e op new ≡ line j f op new)
    → (k : ℕ) (es fs : List Explained) (block renamed : List Op) → length es ≡ length fs → ((j : ℕ) (e : Explained) → slice_get es j ≡ Some e → IsExplained prios rule lat ops rows (k + j) e)
    → ((j : ℕ) (f : Explained) → slice_get fs j ≡ Some f → IsExplained prios rule lat ops rows (k + j) f)
    → explained_lines line k es block renamed ≡ explained_lines line k fs block renamed
lines_same line prios rule lat ops rows same k [] [] block renamed long are also = refl
lines_same line prios rule lat ops rows same k [] (f ∷ fs) block renamed long are also = absurd (omega arith)
lines_same line prios rule lat ops rows same k (e ∷ es) [] block renamed long are also = absurd (omega arith)
lines_same line prios rule lat ops rows same k (e ∷ es) (f ∷ fs) [] renamed long are also = refl
lines_same line prios rule lat ops rows same k (e ∷ es) (f ∷ fs) (op ∷ block) [] long are also = refl
lines_same line prios rule lat ops rows same k (e ∷ es) (f ∷ fs) (op ∷ block) (new ∷ renamed) long are also =
    let here : k + 0 ≡ k = omega arith in
    let P : ℕ → Type 0 = λ n. IsExplained prios rule lat ops rows n e in
    let Q : ℕ → Type 0 = λ n. IsExplained prios rule lat ops rows n f in
    ap₂ (λ x rest. x ∷ rest)
    (same k e f op new (subst P here (are 0 e refl)) (subst Q here (also 0 f refl)))
    (lines_same line prios rule lat ops rows same (k + 1) es fs block renamed (omega arith)
    (λ j x at. let next : k + suc j ≡ (k + 1) + j = omega arith in
    let R : ℕ → Type 0 = λ n. IsExplained prios rule lat ops rows n x in subst R next (are (suc j) x at))
    (λ j x at. let next : k + suc j ≡ (k + 1) + j = omega arith in
    let R : ℕ → Type 0 = λ n. IsExplained prios rule lat ops rows n x in subst R next (also (suc j) x at)))

-- the lines of two lists that both explain the operations
explained_same : (line : ℕ → Explained → Op → Op → List ℕ) (prios : List ℕ) (rule : MemoryRule) (lat : Latencies) (ops : List Op) (rows : List Row)
    → ((j : ℕ) (e f : Explained) (op new : Op) → IsExplained prios rule lat ops rows j e → IsExplained prios rule lat ops rows j f
    → line j e op new ≡ line j f op new)
    → (es fs : List Explained) (block renamed : List Op) → AreExplained prios rule lat ops rows es → AreExplained prios rule lat ops rows fs
    → explained_lines line 0 es block renamed ≡ explained_lines line 0 fs block renamed
explained_same line prios rule lat ops rows same es fs block renamed is also =
    lines_same line prios rule lat ops rows same 0 es fs block renamed (is.all ∙ sym also.all)
    (λ j e at. let here : j ≡ 0 + j = omega arith in
    let R : ℕ → Type 0 = λ n. IsExplained prios rule lat ops rows n e in subst R here (is.each j e at))
    (λ j e at. let here : j ≡ 0 + j = omega arith in
    let R : ℕ → Type 0 = λ n. IsExplained prios rule lat ops rows n e in subst R here (also.each j e at))

pub one_explanation : SchedulesHaveOneExplanation
one_explanation prios rule lat bound block ops rows issued text text' is also =
    let lines : explained_lines explained_line 0 is.explained (without_nops block) issued
    ≡ explained_lines explained_line 0 also.explained (without_nops block) issued =
    explained_same explained_line prios rule lat ops rows
    (λ j e f op new of of'. (line_same prios rule lat ops rows j e f op new of of').0)
    is.explained also.explained (without_nops block) issued is.are_explained also.are_explained in
    let chain : is.chain ≡ also.chain = longest_same rule lat ops is.chain also.chain is.is_longest also.is_longest in
    let path : is.path ≡ also.path = path_same rule lat ops rows is.path also.path is.is_path also.is_path in
    is.listed ∙ (ap₂ (λ ls ch. each_after [] ls ++ cycles_line (cycles lat ops rows) bound ++ chain_line ch ++ path_line is.path) lines chain
    ∙ (ap (λ pa. each_after [] (explained_lines explained_line 0 also.explained (without_nops block) issued)
    ++ cycles_line (cycles lat ops rows) bound ++ chain_line also.chain ++ path_line pa) path ∙ sym also.listed))

-- and its table has one list of rows
pub one_table : (prios : List ℕ) (rule : MemoryRule) (lat : Latencies) (block ops : List Op) (rows : List Row) (table table' : List (List ℕ))
    → AreTableRows prios rule lat block ops rows table → AreTableRows prios rule lat block ops rows table' → table ≡ table'
one_table prios rule lat block ops rows table table' is also =
    is.listed ∙ (explained_same explained_row prios rule lat ops rows
    (λ j e f op new of of'. (line_same prios rule lat ops rows j e f op new of of').1)
    is.explained also.explained (without_nops block) ops is.are_explained also.are_explained ∙ sym also.listed)
