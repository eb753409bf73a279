use Rattle.std.proofs.Common.{IsPermutation}
use Rattle.std.proofs.lemmas.List.Sorted.{IsPermutation-swap_remove}
use Rattle.iloc_addresses.proofs.Common.{◌≡◌, ◌<◌, true, false, [], ◌∷◌, ◌++◌, length, ℤ, if◌then◌else◌, FitsSigned, int_eq, sym, refl, ap, ◌∙◌, subst, arith, w32, rules, to_z-of_z, get_or_default, are_apart, ops_at, AreFar, constant_of, Accesses}
use Rattle.iloc_addresses.specs.declared.dependences.accesses.Access.{Access}
use Rattle.iloc_addresses.proofs.Accessed.{are_far, finds_more, keeps_more, keeps_apart}
use Rattle.iloc_addresses.proofs.dependences.accesses.Accesses.find_recent.Goals as goal

pub loop-far-preserved-in-Continue-1 : goal.loop-far-preserved-in-Continue-1
loop-far-preserved-in-Continue-1 c =
    let fits : FitsSigned w32 c.constant_of.result = search rules in
    let first = c.args.self.now in
    let old = c.loop-far.self in
    let list = c.loop-far.found.items in
    let a = c.swap_remove-access.result in
    let new : Accesses = record { base = old.base; recent = c.swap_remove-access.new.self; kept = c.put.new.self } in
    let there : c.loop-far.far < length old.recent.items = omega (arith, c.len.ensures, old.recent.ok.0) in
    let same : c.index.result.now ≡ a = c.index.ensures ∙ get_or_default old.recent.items c.loop-far.far _ _ there
    ∙ sym c.swap_remove-access.ensures.value in
    let apart : are_apart a.address old.base ≡ true = ap (λ (x : Access). are_apart x.address old.base) (sym same)
    ∙ sym c.are_apart-apart.ensures ∙ c.if-apart-2.true in
    let taken : IsPermutation old.recent.items (a ∷ new.recent.items) =
    subst (λ ys. IsPermutation old.recent.items (a ∷ ys)) (sym c.swap_remove-access.ensures.items)
    (IsPermutation-swap_remove old.recent.items c.loop-far.far a there c.swap_remove-access.ensures.value) in
    let put : (q : ℤ) → ops_at c.put.new.self q ≡ (if int_eq (constant_of a.address) q
    then ops_at old.kept q ++ a.op ∷ [] else ops_at old.kept q) = λ q.
    rw (to_z-of_z w32 c.constant_of.result fits, c.constant_of.ensures.constant) at (c.in_ok-put.ensures.ops q) in
    record {
      within = omega (arith, c.swap_remove-access.ensures.len, old.recent.ok.0, new.recent.ok.0);
      finds = keeps_more first old new a c.args.found.now.items list list c.loop-far.invariant.finds
          c.loop-far.invariant.base refl taken apart put c.in_ok-put.ensures.count;
      base = c.loop-far.invariant.base;
      apart = λ none. keeps_apart first old new a c.args.found.now.items list list c.loop-far.invariant.finds
          c.loop-far.invariant.base refl taken apart put (c.loop-far.invariant.apart none);
      far = λ k d below. ap (λ (x : Access). are_apart x.address old.base)
          (c.swap_remove-access.ensures.by_index.1 k d (λ e. absurd (omega arith)) (omega (arith, old.recent.ok.0)))
          ∙ c.loop-far.invariant.far k d below;
    }

pub loop-far-preserved : goal.loop-far-preserved
loop-far-preserved c =
    let old = c.loop-far.self in
    let a = c.swap_remove-access.result in
    let there : c.loop-far.far < length old.recent.items = omega (arith, c.len.ensures, old.recent.ok.0) in
    let same : c.index.result.now ≡ a = c.index.ensures ∙ get_or_default old.recent.items c.loop-far.far _ _ there
    ∙ sym c.swap_remove-access.ensures.value in
    let near : are_apart a.address old.base ≡ false = ap (λ (x : Access). are_apart x.address old.base) (sym same)
    ∙ sym c.are_apart-apart.ensures ∙ c.if-apart-2.false in
    let taken : IsPermutation old.recent.items (a ∷ c.swap_remove-access.new.self.items) =
    subst (λ ys. IsPermutation old.recent.items (a ∷ ys)) (sym c.swap_remove-access.ensures.items)
    (IsPermutation-swap_remove old.recent.items c.loop-far.far a there c.swap_remove-access.ensures.value) in
    record {
      within = omega (arith, c.swap_remove-access.ensures.len, old.recent.ok.0, c.swap_remove-access.new.self.ok.0);
      finds = finds_more c.args.self.now old _ a c.args.found.now.items c.loop-far.found.items _ c.loop-far.invariant.finds
          c.loop-far.invariant.base refl taken near refl c.in_ok-push.ensures.items;
      base = c.loop-far.invariant.base;
      apart = c.loop-far.invariant.apart;
      far = λ k d below. ap (λ (x : Access). are_apart x.address old.base)
          (c.swap_remove-access.ensures.by_index.1 k d (λ e. absurd (omega arith)) (omega (arith, old.recent.ok.0)))
          ∙ c.loop-far.invariant.far k d below;
    }

pub returns-clause-far : goal.returns-clause-far
returns-clause-far c none =
    let left = c.loop-far.self in
    let same = c.loop-far.invariant.base in
    subst (λ a. AreFar a left) same
    (are_far left (λ k d below. c.loop-far.invariant.far k d (omega (arith, c.len.ensures, left.recent.ok.0)))
    (ap (λ a. ops_at left.kept (constant_of a)) same ∙ c.loop-far.invariant.apart none))
