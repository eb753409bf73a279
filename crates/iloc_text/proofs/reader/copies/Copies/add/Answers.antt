use Rattle.iloc_text.proofs.Common.{◌≡◌, ◌+◌, ◌≤◌, List, [], ◌∷◌, ◌++◌, length, drop, sum_by, sym, refl, ap, ◌∙◌, ap₂, append_assoc, arith, length-drop, take_all, rules, drop-append-le, take-append-le, Block, Op, taken_apart}
use Rattle.iloc_text.specs.declared.reader.copies.Unsettled.{Unsettled}
use Rattle.std.proofs.lemmas.List.Sums.{sum_by-cons}
use Rattle.iloc_text.proofs.reader.copies.Copies.add.Goals as goal

-- How blocks wait for their operations.

-- one more waits, with its operations behind the others'
taken_apart-snoc : (ws : List Unsettled) (w : Unsettled) (ops own : List Op) → sum_by (λ w. w.count) ws ≡ length ops
    → w.count ≡ length own
    → taken_apart (ws ++ w ∷ []) (ops ++ own) ≡ taken_apart ws ops ++ record { name = w.name; ops = own } ∷ []
taken_apart-snoc [] w [] own all here =
    ap (λ ops. record { name = w.name; ops = ops } ∷ []) (take_all w.count own (omega (arith, here)))
taken_apart-snoc [] w (_ ∷ _) own all here = absurd (omega (arith, all))
taken_apart-snoc (v ∷ ws) w ops own all here =
    let sum : v.count + sum_by (λ w. w.count) ws ≡ length ops = sym (sum_by-cons (λ (w : Unsettled). w.count) v ws) ∙ all in
    let fits : v.count ≤ length ops = omega (arith, sum) in
    ap₂ (λ first rest. record { name = v.name; ops = first } ∷ rest) (take-append-le v.count ops own fits)
    (ap (taken_apart (ws ++ w ∷ [])) (drop-append-le v.count ops own fits)
    ∙ taken_apart-snoc ws w (drop v.count ops) own (omega (arith, sum, length-drop v.count ops)) here)

pub returns : goal.returns
returns c =
    let old = c.args.self.now in
    let own = c.as_slice-ops.result.now in
    let waits : Unsettled = record { name = c.in_ok-name.name; count = length own } in
    let same : ◌≡◌ {A = Block} (record { name = c.in_ok-name.name; ops = own }) c.args.block.now = search rules in
    rw (c.push_reserved.ensures.items, c.reserve.ensures.items, c.in_ok-extend_from_slice.ensures.items)
    (ap (λ blocks. old.done.items ++ blocks)
    (taken_apart-snoc old.unsettled.items waits old.ops.items own old.whole refl
    ∙ ap (λ block. taken_apart old.unsettled.items old.ops.items ++ block ∷ []) same)
    ∙ sym (append_assoc old.done.items _ _))
