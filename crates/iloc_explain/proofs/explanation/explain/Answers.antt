use Rattle.iloc_explain.proofs.Common.{◌≡◌, ℕ, zero, suc, ◌+◌, ◌<◌, List, [], ◌∷◌, ◌++◌, length, get_or, slice_get, slice_index, Some, ap, ◌∙◌, arith, length-append, get_or_default, Op, op_at, issued_within, IsTable, issue_cycle, row_at, Latencies, MemoryRule, Row, chain_by, counts_by, start_where, waited_until, IsReadyAt, Explained}
use Rattle.iloc_rules.proofs.DelayPairs.DelayBounds.{short_delay_where}
use Rattle.iloc_rules.proofs.PriorityValues.Starts.{length-starts_where}
use Rattle.iloc_explain.specs.Explained.{IsExplained, slack_in, unit_of}
use Rattle.iloc_explain.specs.Holding.{holder}
use Rattle.iloc_explain.specs.Steps.Ready.{AreReady}
use Rattle.iloc_explain.specs.Steps.SoFar.{IsExplainedSoFar}
use Rattle.iloc_explain.proofs.ChainLengths.{length-chains}
use Rattle.iloc_explain.proofs.ReadyCycles.{is_ready}
use Rattle.iloc_explain.proofs.explanation.explain.Goals as goal

-- The operations of a schedule explained one after another.

-- what holds of each item, and of one more behind them
each_more : {X : Type 0} (P : ℕ → X → Type 0) (xs : List X) (x : X) → ((j : ℕ) (y : X) → slice_get xs j ≡ Some y → P j y)
    → P (length xs) x → (j : ℕ) (y : X) → slice_get (xs ++ x ∷ []) j ≡ Some y → P j y
each_more P [] x each last zero y there = let same : x ≡ y = cc in rw (← same) last
each_more P [] x each last (suc j) y there = absurd cc
each_more P (z ∷ zs) x each last zero y there = each 0 y there
each_more P (z ∷ zs) x each last (suc j) y there =
    each_more (λ k. P (suc k)) zs x (λ k. each (suc k)) last j y there

one_explained : (prios : List ℕ) (rule : MemoryRule) (lat : Latencies) (ops : List Op) (rows : List Row) (n : ℕ)
    (explained more : List Explained) (e : Explained) → IsExplainedSoFar prios rule lat ops rows n explained
    → IsExplained prios rule lat ops rows n e → more ≡ explained ++ e ∷ []
    → IsExplainedSoFar prios rule lat ops rows (n + 1) more
one_explained prios rule lat ops rows n explained more e so_far is added = record {
  all =
      let size : length explained ≡ n = so_far.all in
      ap length added ∙ (length-append explained (e ∷ []) ∙ omega arith);
  each = λ j f there.
      let last : IsExplained prios rule lat ops rows (length explained) e = rw so_far.all is in
      each_more (IsExplained prios rule lat ops rows) explained e so_far.each last j f (rw added at there);
}

-- a noted cycle of issue, read from the list of all
noted_cycle : (cycles : List ℕ) (rows : List Row) (count j c : ℕ) → c ≡ get_or cycles j c → length cycles ≡ count
    → j < count → ((i : ℕ) → i < count → slice_index cycles i ≡ issue_cycle rows i) → c ≡ issue_cycle rows j
noted_cycle cycles rows count j c read size within each =
    read ∙ (get_or_default cycles j c 0 (rw size within) ∙ each j within)

-- so it is one of the rows' cycles
noted_row : (cycles : List ℕ) (ops lent : List Op) (rows : List Row) (j c : ℕ) → c ≡ get_or cycles j c
    → length cycles ≡ length ops → ((i : ℕ) → i < length ops → slice_index cycles i ≡ issue_cycle rows i) → lent ≡ ops
    → IsTable ops rows → j < length lent → (j < length ops) × (c ≡ issue_cycle rows j) × (c < length rows)
noted_row cycles ops lent rows j c read size each same table inside =
    let known : j < length ops = rw same at inside in
    let at = noted_cycle cycles rows (length ops) j c read size known each in
    (known, at, rw at (issued_within ops rows j known table))

-- a number that was read
read_at : (xs : List ℕ) (j x : ℕ) → j < length xs → x ≡ get_or xs j x → x ≡ slice_index xs j
read_at xs j x within read = read ∙ get_or_default xs j x 0 within

-- what is read of an operation explains it
is_explained : (prios : List ℕ) (rule : MemoryRule) (lat : Latencies) (ops : List Op) (rows : List Row) (j : ℕ) (row : Row)
    (e : Explained) → e.cycle ≡ issue_cycle rows j → row ≡ row_at rows e.cycle → e.unit ≡ unit_of row j
    → IsReadyAt rule lat ops rows j e.ready → e.after.items ≡ waited_until rule lat ops rows j e.ready
    → e.priority ≡ slice_index prios j → e.earliest ≡ start_where (counts_by rule ops) lat ops j
    → e.slack ≡ slack_in rule lat ops rows j → e.held ≡ holder ops rows j e.cycle e.ready
    → IsExplained prios rule lat ops rows j e
is_explained prios rule lat ops rows j row e at stands unit ready after prio first_start slack held = record {
  cycle = at;
  unit = unit ∙ (ap (λ r. unit_of r j) stands ∙ ap (λ c. unit_of (row_at rows c) j) at);
  ready = ready;
  after = after;
  priority = prio;
  earliest = first_start;
  slack = slack;
  held = held ∙ ap (λ c. holder ops rows j c e.ready) at;
}

pub ready_cycles-requires-clause-first : goal.ready_cycles-requires-clause-first
ready_cycles-requires-clause-first c = λ p there.
    let pair = c.requires.pairs.each p (rw c.deref.ensures.value at there) in
    omega (arith, pair.order, pair.within, ap length c.deref-2.ensures.value, c.in_ok-issued.ensures.size)

pub ready_cycles-requires-clause-second : goal.ready_cycles-requires-clause-second
ready_cycles-requires-clause-second c = λ p there.
    let pair = c.requires.pairs.each p (rw c.deref.ensures.value at there) in
    omega (arith, pair.within, ap length c.deref-2.ensures.value, c.in_ok-issued.ensures.size)

pub ready_cycles-requires-clause-short : goal.ready_cycles-requires-clause-short
ready_cycles-requires-clause-short c = λ p there.
    let pair = c.requires.pairs.each p (rw c.deref.ensures.value at there) in
    let ops = c.args.subject.now.schedule.now.ops in
    short_delay_where (counts_by c.args.subject.now.measures.now.delays.rule ops p.first p.second) c.args.subject.now.measures.now.delays.latencies.now
    (op_at ops p.first) (op_at ops p.second) p.delay pair.delay

pub ready_cycles-requires-clause-early : goal.ready_cycles-requires-clause-early
ready_cycles-requires-clause-early c = λ i below.
    let ops = c.args.subject.now.schedule.now.ops in
    let known : i < length ops =
    omega (arith, below, ap length c.deref-2.ensures.value, c.in_ok-issued.ensures.size) in
    let at : slice_index c.deref-2.result.now i ≡ issue_cycle c.args.subject.now.schedule.now.rows i =
    ap (λ xs. slice_index xs i) c.deref-2.ensures.value ∙ c.in_ok-issued.ensures.each i known in
    omega (arith, at, issued_within ops c.args.subject.now.schedule.now.rows i known c.ops-ops.ensures.table, c.rows-rows.ensures.few)

pub offset_bounds-rows-cycle : goal.offset_bounds-rows-cycle
offset_bounds-rows-cycle c =
    let row = noted_row _ _ _ _ _ _ c.index-cycle.ensures c.in_ok-issued.ensures.size c.in_ok-issued.ensures.each
    c.ops-ops.ensures.ops c.ops-ops.ensures.table c.loop-j-test.true in
    omega (arith, row.2, c.rows-rows.ensures.few)

pub bounds-rows-cycle : goal.bounds-rows-cycle
bounds-rows-cycle c =
    let row = noted_row _ _ _ _ _ _ c.index-cycle.ensures c.in_ok-issued.ensures.size c.in_ok-issued.ensures.each
    c.ops-ops.ensures.ops c.ops-ops.ensures.table c.loop-j-test.true in
    rw c.rows-rows.ensures.rows row.2

pub index-requires-in-loop-j : goal.index-requires-in-loop-j
index-requires-in-loop-j c =
    let known : c.loop-j.j < length c.args.subject.now.schedule.now.ops = rw c.ops-ops.ensures.ops at c.loop-j-test.true in
    omega (
      arith,
      ap length c.requires.starts,
      length-starts_where (counts_by c.args.subject.now.measures.now.delays.rule c.args.subject.now.schedule.now.ops) c.args.subject.now.measures.now.delays.latencies.now c.args.subject.now.schedule.now.ops,
    )

pub index-requires-in-loop-j-2 : goal.index-requires-in-loop-j-2
index-requires-in-loop-j-2 c =
    let known : c.loop-j.j < length c.args.subject.now.schedule.now.ops = rw c.ops-ops.ensures.ops at c.loop-j-test.true in
    omega (
      arith,
      ap length c.requires.chains,
      length-chains c.args.subject.now.measures.now.delays.rule c.args.subject.now.measures.now.delays.latencies.now c.args.subject.now.schedule.now.ops,
    )

pub holder_of-requires-clause-within : goal.holder_of-requires-clause-within
holder_of-requires-clause-within c =
    let row = noted_row _ _ _ _ _ _ c.index-cycle.ensures c.in_ok-issued.ensures.size c.in_ok-issued.ensures.each
    c.ops-ops.ensures.ops c.ops-ops.ensures.table c.loop-j-test.true in
    omega (arith, row.2)

pub loop-j-preserved : goal.loop-j-preserved
loop-j-preserved c =
    let measured = c.requires in
    let measures = c.args.subject.now.measures.now in
    let rule = measures.delays.rule in
    let lat = c.args.subject.now.measures.now.delays.latencies.now in
    let ops = c.args.subject.now.schedule.now.ops in
    let rows = c.args.subject.now.schedule.now.rows in
    let j = c.loop-j.j in
    let row = noted_row _ _ _ _ _ _ c.index-cycle.ensures c.in_ok-issued.ensures.size c.in_ok-issued.ensures.each
    c.ops-ops.ensures.ops c.ops-ops.ensures.table c.loop-j-test.true in
    let known : j < length ops = row.0 in
    let are : AreReady measures.pairs.items c.in_ok-issued.issued.items c.in_ok-ready_at.ready_at.items =
    rw (c.deref.ensures.value, c.deref-2.ensures.value) at c.in_ok-ready_at.ensures in
    let ready : c.index-ready.result.now ≡ slice_index c.in_ok-ready_at.ready_at.items j =
    read_at c.in_ok-ready_at.ready_at.items j _ (omega (arith, are.size, c.in_ok-issued.ensures.size)) c.index-ready.ensures in
    let chain : c.from-in-loop-j-2.result ≡ chain_by rule lat ops j =
    c.from-in-loop-j-2.ensures
    ∙ (read_at measures.chains.items j _ (omega (arith, ap length measured.chains, length-chains rule lat ops)) c.index-in-loop-j-2.ensures
    ∙ ap (λ xs. slice_index xs j) measured.chains) in
    one_explained measures.ranks.items rule lat ops rows j c.loop-j.explained.items _ _ c.loop-j.invariant
    (is_explained measures.ranks.items rule lat ops rows j _ _ row.1
    (ap (λ rows. row_at rows c.index-cycle.result.now) c.rows-rows.ensures.rows) c.unit_of.ensures
    (rw ready (is_ready rule lat ops rows measures.pairs.items c.in_ok-issued.issued.items c.in_ok-ready_at.ready_at.items
    measured.pairs c.args.subject.now.waits c.in_ok-issued.ensures.each are j))
    c.in_ok-after.ensures
    (c.from.ensures ∙ read_at measures.ranks.items j _ (omega (arith, measured.ranked)) c.index.ensures)
    (c.from-in-loop-j.ensures
    ∙ (read_at measures.starts.items j _
    (omega (arith, ap length measured.starts, length-starts_where (counts_by rule ops) lat ops)) c.index-in-loop-j.ensures
    ∙ ap (λ xs. slice_index xs j) measured.starts))
    (rw (c.cycles-total.ensures, row.1, chain) at c.slack_of.ensures) c.holder_of.ensures)
    c.in_ok-push.ensures.items
