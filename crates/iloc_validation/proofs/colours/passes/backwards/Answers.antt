use Rattle.iloc_validation.proofs.Common.{◌≡◌, ℕ, ◌+◌, ◌-◌, ◌%◌, ◌^◌, ◌<◌, ◌≤◌, ◌≢◌, List, length, slice_index, slice_set, sym, ap, ◌∙◌, subst, inl, inr, arith, length-set, get_or-set_other, get_or-set_same, cases_lt, get_or_default, sources_at, heard, heard_of, mixed}
use Rattle.iloc_validation.proofs.BackwardColours.{heard_more, heard_stays}
use Rattle.iloc_validation.proofs.colours.passes.backwards.Goals as goal

pub loop-k-preserved : goal.loop-k-preserved
loop-k-preserved c =
    let old : List ℕ = c.loop-k.new.items in
    let new : List ℕ = slice_set c.loop-k.new.items (c.loop-k.k - 1) c.mix.result in
    let some : 0 < c.loop-k.k = c.loop-k-test.true in
    let within : c.loop-k.k ≤ length c.args.sources.now = c.loop-k.invariant.within in
    let size : length c.loop-k.new.items ≡ length c.args.sources.now = c.loop-k.invariant.size in
    let heard_size : length c.loop-k.heard.items ≡ length c.args.sources.now = c.loop-k.invariant.heard_size in
    let new_size : length (slice_set c.loop-k.new.items (c.loop-k.k - 1) c.mix.result) ≡ length c.loop-k.new.items =
    length-set c.loop-k.new.items (c.loop-k.k - 1) c.mix.result in
    let there : slice_index new (c.loop-k.k - 1) ≡ c.mix.result =
    get_or-set_same c.loop-k.new.items (c.loop-k.k - 1) c.mix.result 0 (omega arith) in
    let same : (v : ℕ) → c.loop-k.k ≤ v → slice_index new v ≡ slice_index old v = λ v past.
    let apart : v ≢ c.loop-k.k - 1 = λ (is : v ≡ c.loop-k.k - 1). absurd (omega arith) in
    get_or-set_other c.loop-k.new.items (c.loop-k.k - 1) v c.mix.result 0 apart in
    let colour : c.index-in-loop-k.result.now ≡ slice_index new (c.loop-k.k - 1) =
    c.index-in-loop-k.ensures ∙ get_or_default new (c.loop-k.k - 1) c.index-in-loop-k.result.now 0 (omega arith) in
    let next : c.loop-k.k ≡ c.loop-k.k - 1 + 1 = omega arith in
    let last : slice_index new (c.loop-k.k - 1) ≡ mixed (slice_index c.args.colours.now (c.loop-k.k - 1))
    (heard (slice_index new) c.args.sources.now (c.loop-k.k - 1) (c.loop-k.k - 1 + 1)
    (length c.args.sources.now - (c.loop-k.k - 1 + 1)) % 2 ^ 64) =
    there
    ∙ c.mix.ensures
    ∙ ap (mixed (slice_index c.args.colours.now (c.loop-k.k - 1)))
    (c.index.ensures
    ∙ get_or_default c.loop-k.heard.items (c.loop-k.k - 1) c.index.result.now 0 (omega arith)
    ∙ c.loop-k.invariant.so_far (c.loop-k.k - 1) (omega arith)
    ∙ ap (λ i. heard (slice_index old) c.args.sources.now (c.loop-k.k - 1) i (length c.args.sources.now - i) % 2 ^ 64) next)
    ∙ heard_stays (slice_index old) (slice_index new) c.args.sources.now (c.loop-k.k - 1) c.loop-k.k
    (length c.args.sources.now) (slice_index c.args.colours.now (c.loop-k.k - 1)) (omega arith) same in
    record {
      within = omega arith;
      heard_size = c.say_all.ensures.size ∙ heard_size;
      size = new_size ∙ size;
      so_far = λ s here.
          heard_more (slice_index old) (slice_index new) c.args.sources.now s c.loop-k.k (length c.args.sources.now)
          (slice_index c.loop-k.heard.items s) (slice_index c.say_all.new.heard.items s) some within same
          (c.loop-k.invariant.so_far s here)
          (c.say_all.ensures.each s (omega arith)
          ∙ ap (λ x. (slice_index c.loop-k.heard.items s + heard_of x s (sources_at c.args.sources.now (c.loop-k.k - 1))) % 2 ^ 64)
          colour);
      each = λ j from here. elim (cases_lt j c.loop-k.k) [
        | inl early ↦
            let is : j ≡ c.loop-k.k - 1 = omega arith in
            subst (λ i. slice_index new i ≡ mixed (slice_index c.args.colours.now i)
            (heard (slice_index new) c.args.sources.now i (i + 1) (length c.args.sources.now - (i + 1)) % 2 ^ 64)) (sym is) last
        | inr late ↦
            same j late
            ∙ c.loop-k.invariant.each j late here
            ∙ heard_stays (slice_index old) (slice_index new) c.args.sources.now j c.loop-k.k (length c.args.sources.now)
            (slice_index c.args.colours.now j) (omega arith) same
      ];
    }
