-- The loop that renames: a use, a definition, an operation, the block; for `rename` (`renamed`, `size`).
use Rattle.iloc_sched.proofs.Common.{◌≡◌, ℕ, zero, suc, ◌+◌, ◌<◌, ◌≤◌, true, false, cond, not, List, [], ◌∷◌, ◌++◌, map, length, get_or, take, if◌then◌else◌, slice_get, Some, None, Option, option_map, filter_map, sym, refl, ap, ◌∙◌, inl, inr, append-nil, arith, take_all, map-append, filter-append, filter_more, map-range_with_len_more, count_by-le-length, length-filter, list_any, range_with_len, defined, defined_in, renumbered, used, used_in, with_registers, Op, Reg, is_register, op_at, in_map, map_same, Source, is_nop, is_source, name_of, numbering, own_source, renamed, renamed_by, renamed_op, source, without_nops, In, Stands, Follows, Named, NamesAll, NamesDefinition, NamesNext, NamesUse, NextNamed, UsesNamed, also, also_all, next_renamed, numbering_with}
use Rattle.iloc_ops.specs.declared.forms.Opcode.{Opcode}
use Rattle.iloc_ops.specs.declared.forms.Operands.{Operands}
use Rattle.iloc_ops.specs.Forms.{opcode, operands, op_of}
use Rattle.iloc_ops.specs.Operands.{operands_in}
use Rattle.iloc_ops.proofs.Renaming.{with_registers-same}
use Rattle.iloc_rules.specs.Renaming.Source.{Result}
use Rattle.iloc_rules.proofs.Renamed.MentionedSources.{use_numbered, definition_numbered, length-renamed_by}
use Rattle.iloc_sched.proofs.Renamed.GivenNames.{place_new, define_new}
use Rattle.iloc_sched.proofs.Renamed.OneMoreOperation.{op_at_kept, op_at_last, source_kept, length_more, also_all-append, numbering_more, name_also_all, used_stands}

-- before the uses of the next operation
pub uses_begin : (done : List Op) (given : ℕ) (current : Reg → Option ℕ) → Named done given current
    → UsesNamed done [] [] given current
uses_begin done given current named = record { follows = named; names = refl }

use_stands : (done : List Op) (uses : List Reg) (r : Reg) → In uses r
    → Stands (numbering_with done uses) (source done (length done) r)
use_stands done uses r there =
    used_stands (numbering done) (map (source done (length done)) uses) (source done (length done) r)
    (in_map (source done (length done)) uses r there)

with_more : (done : List Op) (uses : List Reg) (r : Reg) → numbering_with done (uses ++ r ∷ [])
    ≡ also (numbering_with done uses) (source done (length done) r)
with_more done uses r = grind (arith, also_all-append, map-append)

-- one more use
pub uses_more : (done : List Op) (uses names : List Reg) (given given' : ℕ) (current current' : Reg → Option ℕ)
    (r name : Reg) → UsesNamed done uses names given current
    → Follows (length done) (also (numbering_with done uses) (source done (length done) r)) (source done (length done))
    given' current' → name ≡ name_of (also (numbering_with done uses) (source done (length done) r))
    (source done (length done) r) → UsesNamed done (uses ++ r ∷ []) (names ++ name ∷ []) given' current'
uses_more done uses names given given' current current' r name named follows is = record {
  follows = rw (with_more done uses r) follows;
  names = rw (with_more done uses r, named.names, is) (
      ap (λ ns. ns ++ name_of next (now r) ∷ []) (map_same (λ q. name_of (numbering_with done uses) (now q))
      (λ q. name_of next (now q)) uses
      (λ q there. sym (name_also_all (numbering_with done uses) (now r ∷ []) (now q) (use_stands done uses q there))))
      ∙ sym (map-append (λ q. name_of next (now q)) uses (r ∷ []))
      );
}
  where
    now : Reg → Source
    now = source done (length done)

    next : List Source
    next = also (numbering_with done uses) (source done (length done) r)

-- the same by what the naming of a use says
pub use_named_next : (done : List Op) (uses names : List Reg) (given given' : ℕ) (current current' : Reg → Option ℕ)
    (r name : Reg) → NamesUse r name given current given' current' → UsesNamed done uses names given current
    → UsesNamed done (uses ++ r ∷ []) (names ++ name ∷ []) given' current'
use_named_next done uses names given given' current current' r name step named =
    let next = step (length done) (numbering_with done uses) (source done (length done)) named.follows in
    uses_more done uses names given given' current current' r name named next.0 next.1

-- the sources of registers after one more operation
source_more : (done : List Op) (op : Op) → source (done ++ op ∷ []) (suc (length done))
    ≡ (λ r. if is_register r (defined op) then Result (length done) else source done (length done) r)
source_more done op = grind (arith, op_at_last, source_kept)

whole : (done : List Op) (op : Op) (given : ℕ) (current : Reg → Option ℕ)
    → Follows (suc (length done)) (also_all (numbering_with done (used op)) (own_source (length done) (defined op)))
    (λ r. if is_register r (defined op) then Result (length done) else source done (length done) r) given current
    → Named (done ++ op ∷ []) given current
whole done op given current follows =
    rw (numbering_more done op, length_more done op, source_more done op) follows

-- an operation that defines nothing
pub named_without : (done : List Op) (op : Op) (names : List Reg) (given : ℕ) (current : Reg → Option ℕ)
    → UsesNamed done (used op) names given current → defined op ≡ None → Named (done ++ op ∷ []) given current
named_without done op names given current named none = grind (arith, whole done op given current)

own_is_new : (n : ℕ) (sources : List Source) (now : Reg → Source) (given : ℕ) (current : Reg → Option ℕ)
    → Follows n sources now given current → list_any (is_source (Result n)) sources ≡ false
own_is_new n sources now given current follows = grind arith

-- an operation that defines a register
pub named_with : (done : List Op) (op : Op) (names : List Reg) (given given' : ℕ) (current current' : Reg → Option ℕ)
    (r : Reg) → UsesNamed done (used op) names given current → defined op ≡ Some r
    → NamesNext r given current given' current' → Named (done ++ op ∷ []) given' current'
named_with done op names given given' current current' r named is next =
    let new : list_any (is_source (Result (length done))) (numbering_with done (used op)) ≡ false =
    own_is_new _ _ _ _ _ named.follows in
    let count : length done + 1 ≡ suc (length done) = omega arith in
    whole done op given' current' (rw (is, new, ← count)
    (define_new (length done) (numbering_with done (used op)) (source done (length done)) given given' current
    current' r named.follows next))

own_same : (d : Option Reg) (own own' : Reg) → ((r : Reg) → d ≡ Some r → own ≡ own')
    → option_map (λ r. own) d ≡ option_map (λ r. own') d
own_same d own own' same = grind arith

-- the renamed operation
pub renamed_next : (done : List Op) (op : Op) (names : List Reg) (given : ℕ) (current : Reg → Option ℕ)
    → UsesNamed done (used op) names given current
    → with_registers (λ r. name_of (numbering_with done (used op)) (source done (length done) r)) (record { 0 = given })
    op ≡ next_renamed done op
renamed_next done op names given current named =
    with_registers-same _ (λ r. name_of (numbering (done ++ op ∷ [])) (source (done ++ op ∷ []) (length done) r)) _
    (name_of (numbering (done ++ op ∷ [])) (Result (length done))) op
    (grind (arith, map_same, name_also_all, numbering_more, source_kept, use_stands))
    (own_same (defined op) _ _ (λ r is.
    let new : list_any (is_source (Result (length done))) (numbering_with done (used op)) ≡ false =
    own_is_new _ _ _ _ _ named.follows in
    grind (arith, numbering_more, place_new)))
    ∙ ap (with_registers _ _) (sym (op_at_last done op))

-- an operation whose uses are named is renamed, one that defines nothing
next_without : (done : List Op) (op : Op) (names : List Reg) (own : Reg) (given : ℕ) (current : Reg → Option ℕ)
    → UsesNamed done (used op) names given current → defined op ≡ None → NextNamed done op names own given current
next_without done op names own given current named none = record {
  named = named_without done op names given current named none;
  new = λ r. name_of (numbering_with done (used op)) (source done (length done) r);
  names = named.names;
  renamed = with_registers-same _ _ own (record { 0 = given }) op refl (rw none refl)
      ∙ renamed_next done op names given current named;
}

-- and one that defines a register
next_with : (done : List Op) (op : Op) (names : List Reg) (own : Reg) (given given' : ℕ) (current current' : Reg
    → Option ℕ) (r : Reg) → UsesNamed done (used op) names given current → defined op ≡ Some r
    → own ≡ record { 0 = given } → NamesNext r given current given' current'
    → NextNamed done op names own given' current'
next_with done op names own given given' current current' r named is own_is next =
    grind (arith, named_with done op names given given' current current', next, renamed_next done op names given current named)

pub defining_named : (dest own : Reg) (given given' : ℕ) (current current' : Reg → Option ℕ)
    → NamesDefinition dest own given current given' current'
    → NamesAll [] (Some dest) [] own given current given' current'
defining_named dest own given given' current current' definition = λ done op uses defines named.
    next_with done op [] own given given' current current' dest
    (rw uses (uses_begin done given current named)) defines definition.0 definition.1

pub copied_named : (source source' dest own : Reg) (given mid given' : ℕ) (current currentₘ current' : Reg → Option ℕ)
    → NamesUse source source' given current mid currentₘ → NamesDefinition dest own mid currentₘ given' current'
    → NamesAll (source ∷ []) (Some dest) (source' ∷ []) own given current given' current'
copied_named source source' dest own given mid given' current currentₘ current' naming definition =
    λ done op uses defines named.
    next_with done op (source' ∷ []) own mid given' currentₘ current' dest
    (rw uses (use_named_next done [] [] given mid current currentₘ source source' naming
    (uses_begin done given current named))) defines definition.0 definition.1

two_named : (done : List Op) (left left' right right' : Reg) (given mid given' : ℕ) (current currentₘ current' : Reg
    → Option ℕ) → NamesUse left left' given current mid currentₘ → NamesUse right right' mid currentₘ given' current'
    → Named done given current → UsesNamed done (left ∷ right ∷ []) (left' ∷ right' ∷ []) given' current'
two_named done left left' right right' given mid given' current currentₘ current' first second named =
    use_named_next done (left ∷ []) (left' ∷ []) mid given' currentₘ current' right right' second
    (use_named_next done [] [] given mid current currentₘ left left' first (uses_begin done given current named))

pub stored_named : (value value' addr addr' own : Reg) (given mid given' : ℕ) (current currentₘ current' : Reg
    → Option ℕ) → NamesUse value value' given current mid currentₘ → NamesUse addr addr' mid currentₘ given' current'
    → NamesAll (value ∷ addr ∷ []) None (value' ∷ addr' ∷ []) own given current given' current'
stored_named value value' addr addr' own given mid given' current currentₘ current' first second =
    λ done op uses defines named.
    next_without done op (value' ∷ addr' ∷ []) own given' current'
    (rw uses (two_named done value value' addr addr' given mid given' current currentₘ current' first second named))
    defines

pub sources_named : (left left' right right' dest own : Reg) (given mid later given' : ℕ) (current currentₘ currentₗ
    current' : Reg → Option ℕ) → NamesUse left left' given current mid currentₘ
    → NamesUse right right' mid currentₘ later currentₗ → NamesDefinition dest own later currentₗ given' current'
    → NamesAll (left ∷ right ∷ []) (Some dest) (left' ∷ right' ∷ []) own given current given' current'
sources_named left left' right right' dest own given mid later given' current currentₘ currentₗ current' first second definition =
    λ done op uses defines named.
    next_with done op (left' ∷ right' ∷ []) own later given' currentₗ current' dest
    (rw uses (two_named done left left' right right' given mid later current currentₘ currentₗ first second named))
    defines definition.0 definition.1

pub nothing_named : (own : Reg) (given : ℕ) (current : Reg → Option ℕ)
    → NamesAll [] None [] own given current given current
nothing_named own given current = λ done op uses defines named.
    next_without done op [] own given current (rw uses (uses_begin done given current named)) defines

-- an operation with the new registers in their places is the next one renamed
pub form_renamed : (op op' : Op) (o : Opcode) (written shape : Operands) (numbers : List ℕ) (news : List Reg) (own : Reg)
    (given given' : ℕ) (current current' : Reg → Option ℕ) → o ≡ opcode op → operands_in written ≡ operands op
    → written ≡ shape → op' ≡ op_of o numbers
    → NamesAll (filter_map (λ w. used_in w.value) (operands_in shape))
    (slice_get (filter_map (λ w. defined_in w.value) (operands_in shape)) 0) news own given current given' current'
    → ((new : Reg → Reg) → news ≡ map new (filter_map (λ w. used_in w.value) (operands_in shape))
    → numbers ≡ map (λ w. renumbered new own w.value) (operands_in shape)) → (done : List Op)
    → Named done given current → Named (done ++ op ∷ []) given' current' × (op' ≡ next_renamed done op)
form_renamed op op' o written shape numbers news own given given' current current' same has of_shape is names placed done named =
    let of : operands op ≡ operands_in shape = sym has ∙ ap operands_in of_shape in
    let next = names done op (ap (filter_map (λ w. used_in w.value)) of)
    (ap (λ ws. slice_get (filter_map (λ w. defined_in w.value) ws) 0) of) named in (
      next.named,
      is ∙ ap (λ q. op_of q numbers) same
          ∙ ap (op_of (opcode op)) (placed next.new (next.names
          ∙ ap (λ ws. map next.new (filter_map (λ w. used_in w.value) ws)) of)
          ∙ ap (map (λ w. renumbered next.new own w.value)) (sym of))
          ∙ next.renamed,
    )

name_more : (done : List Op) (op : Op) (s : Source) → Stands (numbering done) s
    → name_of (numbering (done ++ op ∷ [])) s ≡ name_of (numbering done) s
name_more done op s there =
    ap (λ sources. name_of sources s) (grind (arith, also_all-append, numbering_more))
    ∙ name_also_all (numbering done) (map (source done (length done)) (used op) ++ own_source (length done)
    (defined op)) s there

-- the operations before stay as they were renamed
renamed_op_kept : (done : List Op) (op : Op) (i : ℕ) → i < length done
    → renamed_op (done ++ op ∷ []) (numbering (done ++ op ∷ [])) i ≡ renamed_op done (numbering done) i
renamed_op_kept done op i below =
    ap (with_registers _ _) (op_at_kept done op i below)
    ∙ with_registers-same _ _ _ _ (op_at done i)
    (map_same _ _ (used (op_at done i)) (λ r there.
    ap (name_of (numbering (done ++ op ∷ []))) (source_kept done op i r (omega arith))
    ∙ name_more done op (source done i r) (use_numbered done i r below there)))
    (grind (arith, definition_numbered, name_more, own_same))

in_range : (a n i : ℕ) → In (range_with_len a n) i → i < a + n
in_range a zero i there = absurd there
in_range a (suc n) i (inl here) = omega arith
in_range a (suc n) i (inr there) = let below = in_range (a + 1) n i there in omega arith

renamed_more : (done : List Op) (op : Op) → renamed_by (done ++ op ∷ []) (numbering (done ++ op ∷ []))
    ≡ renamed_by done (numbering done) ++ next_renamed done op ∷ []
renamed_more done op =
    let count : length (done ++ op ∷ []) ≡ length done + 1 = omega (arith, length_more done op) in
    ap (λ n. map (renamed_op (done ++ op ∷ []) (numbering (done ++ op ∷ []))) (range_with_len 0 n)) count
    ∙ map-range_with_len_more (renamed_op (done ++ op ∷ []) (numbering (done ++ op ∷ []))) 0 (length done) (length done)
    (omega arith)
    ∙ ap (λ ops. ops ++ next_renamed done op ∷ [])
    (grind (arith, in_range, map_same, renamed_op_kept))

pub next_pushed : (done ops more : List Op) (op next : Op) → ops ≡ renamed_by done (numbering done)
    → next ≡ next_renamed done op → more ≡ ops ++ next ∷ []
    → more ≡ renamed_by (done ++ op ∷ []) (numbering (done ++ op ∷ []))
next_pushed done ops more op next before is pushed = rw (pushed, before, is) (sym (renamed_more done op))

-- what comes after a block and is no `nop` isn't left out
pub without_nops_more : (past : List Op) (op : Op) → is_nop op ≡ false → without_nops (past ++ op ∷ []) ≡ without_nops past ++ op ∷ []
without_nops_more past op is_not = grind (arith, filter-append)

-- a loop over a block passes a `nop`
pub nop_passed : (block : List Op) (i : ℕ) (other : Op) → i < length block → is_nop (get_or block i other) ≡ true
    → without_nops (take (i + 1) block) ≡ without_nops (take i block)
nop_passed block i other below is =
    filter_more (λ op. not (is_nop op)) block i other below
    ∙ ap (λ b. without_nops (take i block) ++ cond (not b) (get_or block i other ∷ []) []) is
    ∙ append-nil (without_nops (take i block))

-- and takes each other operation
pub op_taken : (block : List Op) (i : ℕ) (other : Op) → i < length block → is_nop (get_or block i other) ≡ false
    → without_nops (take (i + 1) block) ≡ without_nops (take i block) ++ get_or block i other ∷ []
op_taken block i other below is_not =
    filter_more (λ op. not (is_nop op)) block i other below
    ∙ ap (λ b. without_nops (take i block) ++ cond (not b) (get_or block i other ∷ []) []) is_not

-- all of a block is renamed
pub all_renamed : (block items : List Op) (i : ℕ) (ops : List Op) → length items ≤ i → items ≡ block
    → ops ≡ renamed_by (without_nops (take i items)) (numbering (without_nops (take i items))) → ops ≡ renamed block
all_renamed block items i ops past same are = grind (arith, take_all)

-- no operation is added
pub renamed_fits : (block : List Op) → length (renamed block) ≤ length block
renamed_fits block = grind (arith, length-renamed_by, length-filter, count_by-le-length)
