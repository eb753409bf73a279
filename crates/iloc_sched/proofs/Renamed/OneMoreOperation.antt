-- Sources and numbering of a block with one operation more; for `rename` (`renamed`).
use Rattle.iloc_sched.proofs.Common.{◌≡◌, ℕ, zero, suc, ◌<◌, ◌≤◌, List, [], ◌∷◌, ◌++◌, length, refl, ap, ◌∙◌, inl, inr, arith, length-append, defined, used, Op, Nop, Reg, op_at, Source, mentions, mentions_before, name_of, numbering, own_source, source, In, Stands, also, also_all, numbering_with}
use Rattle.std.proofs.Math.ListN.{get_or-append}
use Rattle.std.proofs.Math.Seq.{get_or-append_seam}
use Rattle.iloc_rules.specs.Renaming.{place_of}
use Rattle.iloc_rules.proofs.Renamed.Sources.{is_source-refl, stands_left, stands_right}
use Rattle.iloc_sched.proofs.Renamed.GivenNames.{struck_more, place_kept}

-- looking back does not see an operation that comes later
pub op_at_kept : (done : List Op) (op : Op) (i : ℕ) → i < length done → op_at (done ++ op ∷ []) i ≡ op_at done i
op_at_kept done op i below = get_or-append done (op ∷ []) Nop i below

pub op_at_last : (done : List Op) (op : Op) → op_at (done ++ op ∷ []) (length done) ≡ op
op_at_last done op = get_or-append_seam done op [] Nop

pub source_kept : (done : List Op) (op : Op) (i : ℕ) (r : Reg) → i ≤ length done
    → source (done ++ op ∷ []) i r ≡ source done i r
source_kept done op zero r within = refl
source_kept done op (suc i) r within = grind (arith, op_at_kept, source_kept done op i r)

mentions_kept : (done : List Op) (op : Op) (i : ℕ) → i < length done → mentions (done ++ op ∷ []) i ≡ mentions done i
mentions_kept done op i below = grind (arith, op_at_kept, source_kept)

mentions_before_kept : (done : List Op) (op : Op) (n : ℕ) → n ≤ length done → mentions_before (done ++ op ∷ []) n
    ≡ mentions_before done n
mentions_before_kept done op zero within = refl
mentions_before_kept done op (suc n) within = grind (arith, mentions_kept, mentions_before_kept done op n)

pub also_all-append : (sources xs ys : List Source) → also_all sources (xs ++ ys) ≡ also_all (also_all sources xs) ys
also_all-append sources [] ys = refl
also_all-append sources (x ∷ xs) ys = also_all-append (also sources x) xs ys

pub length_more : (done : List Op) (op : Op) → length (done ++ op ∷ []) ≡ suc (length done)
length_more done op = omega (arith, length-append done (op ∷ []))

-- one more operation adds the sources of its uses, and itself if it defines a register
pub numbering_more : (done : List Op) (op : Op) → numbering (done ++ op ∷ []) ≡ also_all (numbering_with done (used op))
    (own_source (length done) (defined op))
numbering_more done op = grind (arith, also_all-append, length_more, mentions_before_kept, op_at_last, source_kept, struck_more)

-- what stands goes on to stand, under its number
stands_also : (sources : List Source) (s t : Source) → Stands sources t → Stands (also sources s) t
stands_also sources s t there = grind (arith, stands_left)

place_also : (sources : List Source) (s t : Source) → Stands sources t
    → place_of (also sources s) t ≡ place_of sources t
place_also sources s t there = grind (arith, place_kept)

stands_also_all : (sources more : List Source) (t : Source) → Stands sources t → Stands (also_all sources more) t
stands_also_all sources [] t there = there
stands_also_all sources (s ∷ more) t there = stands_also_all (also sources s) more t (stands_also sources s t there)

place_also_all : (sources more : List Source) (t : Source) → Stands sources t → place_of (also_all sources more) t
    ≡ place_of sources t
place_also_all sources [] t there = refl
place_also_all sources (s ∷ more) t there =
    place_also_all (also sources s) more t (stands_also sources s t there) ∙ place_also sources s t there

pub name_also_all : (sources more : List Source) (t : Source) → Stands sources t → name_of (also_all sources more) t
    ≡ name_of sources t
name_also_all sources more t there = ap (λ (n : ℕ). record { 0 = n }) (place_also_all sources more t there)

pub also_stands : (sources : List Source) (s : Source) → Stands (also sources s) s
also_stands sources s = grind (arith, is_source-refl, stands_right)

pub used_stands : (sources more : List Source) (s : Source) → In more s → Stands (also_all sources more) s
used_stands sources [] s there = absurd there
used_stands sources (x ∷ more) s (inl here) = stands_also_all (also sources x) more s (rw here (also_stands sources s))
used_stands sources (x ∷ more) s (inr there) = used_stands (also sources x) more s there
