-- Which operation of the block each of the rows is: known by what it computes, or the last of its label.
use Rattle.iloc_reasons.proofs.Common.{◌≡◌, ℕ, zero, suc, ◌+◌, ◌<◌, ◌≤◌, ◌≢◌, true, false, List, [], ◌∷◌, ◌++◌, map, length, IfSome, IfNone, slice_index, slice_set, Some, None, Option, ◌⊎◌, ◌↔◌, inl, inr, sym, refl, ap, ◌∙◌, subst, true≢false, arith, used, Op, Reg, op_at, issue_cycle, Latencies, Row, are_alike, AreAllSources, AreSources, AreUnlike, HasLabel, label, given, read, sources_of}
use Rattle.std.specs.BTreeMap.{BTreeMap, get}
use Rattle.std.specs.Ordering.{nat_cmp}
use Rattle.std.proofs.lemmas.Bool.{cases_eq, cases_lt}
use Rattle.std.proofs.Common.{get_or-set_other, length-set}
use Rattle.std.proofs.lemmas.Grind.{get_or-set_at}
use Rattle.std.proofs.lemmas.List.{get_or_append_left, get_or_past, get_or_push}
use Rattle.iloc_ops.specs.contracts.op.OpPartialEq.TheImpl as of_ops
use Rattle.iloc_ops.specs.contracts.op.OpOrd.TheImpl as in_order
use Rattle.iloc_meaning.proofs.Cases.{by_bool}
use Rattle.iloc_facts.proofs.AlikeOps.{alike_itself, alike_test}
use Rattle.iloc_facts.proofs.LabelKeys.{same_key}
use Rattle.iloc_facts.proofs.SourceLists.{few_used}
use Rattle.iloc_facts.specs.ByLabel.{SetsLike, number_like}
use Rattle.iloc_facts.specs.declared.by_label.ByLabel.{ByLabel}
use Rattle.iloc_reasons.specs.Origins.{origin_at, AreLast, IsFree, IsKnown, IsOnly, IsUnknown}
use Rattle.iloc_reasons.specs.Steps.Likeness.{TellApart}
use Rattle.iloc_reasons.specs.Steps.Origins.{AreAlone, AreLeft, AreReadAlike, ArePartners, IsLeftBefore}
use Rattle.iloc_reasons.specs.declared.likeness.Terms.{Terms}
use Rattle.iloc_reasons.specs.declared.origins.left.Left.{Left}

-- Known by what they compute

-- what is noted stays where one more is
noted_still : (xs : List (Option ℕ)) (x : Option ℕ) (k i : ℕ) → origin_at xs k ≡ Some i → origin_at (xs ++ x ∷ []) k ≡ Some i
noted_still [] x k i is = absurd cc
noted_still (y ∷ xs) x zero i is = is
noted_still (y ∷ xs) x (suc k) i is = noted_still xs x k i is

source_still : (P Q : ℕ → ℕ → Type 0) → ((j l : ℕ) → P j l → Q j l) → (s t : Option ℕ) → AreSources P s t → AreSources Q s t
source_still P Q each None None are = tt
source_still P Q each None (Some l) are = absurd are
source_still P Q each (Some j) None are = absurd are
source_still P Q each (Some j) (Some l) are = each j l are

sources_still : (P Q : ℕ → ℕ → Type 0) → ((j l : ℕ) → P j l → Q j l) → (ss ts : List (Option ℕ)) → AreAllSources P ss ts
    → AreAllSources Q ss ts
sources_still P Q each [] [] are = tt
sources_still P Q each [] (t ∷ ts) are = absurd are
sources_still P Q each (s ∷ ss) [] are = absurd are
sources_still P Q each (s ∷ ss) (t ∷ ts) are = (source_still P Q each s t are.0, sources_still P Q each ss ts are.1)

-- what is read alike as noted is so in registers
all_read_alike : (known : List (Option ℕ)) (f g : Reg → Option ℕ) (rs ss : List Reg) → length rs ≤ 2 → length ss ≤ 2
    → AreReadAlike known (sources_of f rs) (sources_of g ss)
    → AreAllSources (λ j l. origin_at known l ≡ Some j) (map f rs) (map g ss)
all_read_alike known f g [] [] few short are = tt
all_read_alike known f g [] (s ∷ []) few short are = absurd are
all_read_alike known f g [] (s ∷ t ∷ ss) few short are = absurd are
all_read_alike known f g (r ∷ []) [] few short are = absurd are
all_read_alike known f g (r ∷ []) (s ∷ []) few short are = (are, tt)
all_read_alike known f g (r ∷ []) (s ∷ t ∷ ss) few short are = absurd are
all_read_alike known f g (r ∷ q ∷ rs) [] few short are = absurd are
all_read_alike known f g (r ∷ q ∷ rs) (s ∷ []) few short are = absurd are
all_read_alike known f g (r ∷ q ∷ []) (s ∷ t ∷ []) few short are = (are.0, (are.1, tt))
all_read_alike known f g (r ∷ q ∷ []) (s ∷ t ∷ u ∷ ss) few short are = absurd (omega arith)
all_read_alike known f g (r ∷ q ∷ p ∷ rs) (s ∷ t ∷ ss) few short are = absurd (omega arith)

module _ (lat : Latencies) (block ops : List Op) (rows : List Row) where
  pub known_still : (known : List (Option ℕ)) (x : Option ℕ) (i k : ℕ) → IsKnown lat block ops rows known i k
      → IsKnown lat block ops rows (known ++ x ∷ []) i k
  known_still known x i k it = record {
    own = it.own;
    reads = sources_still (λ j l. origin_at known l ≡ Some j) (λ j l. origin_at (known ++ x ∷ []) l ≡ Some j)
        (λ j l. noted_still known x l j) (map (given block i) (used (op_at block i)))
        (map (read lat ops rows (issue_cycle rows k)) (used (op_at ops k))) it.reads;
    alone = it.alone;
    alone_there = it.alone_there;
  }

  pub known_is : (terms : Terms) (here there : BTreeMap ℕ (Option ℕ)) (known : List (Option ℕ)) (i k : ℕ)
      → TellApart lat block ops rows terms → AreAlone terms.block.items (length block) here
      → AreAlone terms.rows.items (length ops) there → k < length ops → HasLabel block i (op_at ops k)
      → get nat_cmp here (slice_index terms.rows.items k) ≡ Some (Some i)
      → get nat_cmp there (slice_index terms.rows.items k) ≡ Some (Some k)
      → slice_index terms.block.items i ≡ slice_index terms.rows.items k
      → AreReadAlike known (sources_of (given block i) (used (op_at block i)))
      (sources_of (read lat ops rows (issue_cycle rows k)) (used (op_at ops k)))
      → IsKnown lat block ops rows known i k
  known_is terms here there known i k apart alone_here alone_there within own is_here is_there same read_alike = record {
    own = own;
    reads = all_read_alike known (given block i) (read lat ops rows (issue_cycle rows k)) (used (op_at block i))
        (used (op_at ops k)) (few_used (op_at block i)) (few_used (op_at ops k)) read_alike;
    alone = λ j inside other. apart.unlike j k inside within
        (λ equal. other (alone_here.own j i inside (ap (get nat_cmp here) equal ∙ is_here)));
    alone_there = λ l inside other. apart.unlike i l own.0 inside
        (λ equal. other (alone_there.own l k inside (ap (get nat_cmp there) (sym equal ∙ same) ∙ is_there)));
  }

-- The last of their label

-- those of one label have one number
one_number : (numbers : ByLabel) (a b : Op) → are_alike a b ≡ true → number_like numbers a ≡ number_like numbers b
one_number numbers a b same =
    ap (get (in_order.ghosts).cmp numbers.numbers) (same_key a b ((alike_test a b).0 same))

module _ (ops : List Op) (noted : List (Option ℕ)) (i : ℕ) where
  before_next : (op : Op) (j : ℕ) → IsLeftBefore ops noted i op j → IsLeftBefore ops noted (i + 1) op j
  before_next op j is = (let before : j < i = is.0 in omega arith, is.1)

  before_some : (op : Op) (o : Option ℕ) → IfSome o (IsLeftBefore ops noted i op) → IfSome o (IsLeftBefore ops noted (i + 1) op)
  before_some op None is = tt
  before_some op (Some j) is = before_next op j is

  -- one that is left before the next one, and has another label than that one or isn't left, is left before this one
  before_this : (op : Op) (j : ℕ) → j ≢ i → IsLeftBefore ops noted (i + 1) op j → IsLeftBefore ops noted i op j
  before_this op j other is = (let before : j < i + 1 = is.0 in omega arith, is.1)

  more_next : (op : Op) (first : Option ℕ) (o : Option ℕ)
      → IfSome o (λ m. IsLeftBefore ops noted i op m × ((j : ℕ) × (first ≡ Some j) × (j ≢ m)))
      → IfSome o (λ m. IsLeftBefore ops noted (i + 1) op m × ((j : ℕ) × (first ≡ Some j) × (j ≢ m)))
  more_next op first None is = tt
  more_next op first (Some m) is = (before_next op m is.0, is.1)

  pub none_left : (left : Left) → AreLeft ops noted i left → origin_at noted i ≢ None → AreLeft ops noted (i + 1) left
  none_left left so_far noted_there = record {
    first = λ op. before_some op (number_like left.first op) (so_far.first op);
    more = λ op. more_next op (number_like left.first op) (number_like left.more op) (so_far.more op);
    all = λ op j is none. so_far.all op j (before_this op j
        (λ same. noted_there (subst (λ n. origin_at noted n ≡ None) same is.1.1)) is) none;
  }

  module _ (within : i < length ops) (unknown : origin_at noted i ≡ None) (old new : Left) (so_far : AreLeft ops noted i old) where
    this_left : (op : Op) → are_alike (op_at ops i) op ≡ true → IsLeftBefore ops noted (i + 1) op i
    this_left op t = (omega arith, ((within, (alike_test (op_at ops i) op).0 t), unknown))

    -- one of another label isn't this one
    not_this : (op : Op) (j : ℕ) → are_alike (op_at ops i) op ≡ false → IsLeftBefore ops noted (i + 1) op j → j ≢ i
    not_this op j f is same =
        let alike : are_alike (op_at ops j) op ≡ true = (alike_test (op_at ops j) op).1 is.1.0.1 in
        true≢false (sym (subst (λ n. are_alike (op_at ops n) op ≡ true) same alike) ∙ f)

    module _ (none : number_like old.first (op_at ops i) ≡ None) (sets : SetsLike old.first new.first (op_at ops i) (Some i))
        (kept : new.more ≡ old.more) where
      first_this : (op : Op) → are_alike (op_at ops i) op ≡ true → number_like new.first op ≡ Some i
      first_this op t = sets op ∙ rw t refl

      first_other : (op : Op) → are_alike (op_at ops i) op ≡ false → number_like new.first op ≡ number_like old.first op
      first_other op f = sets op ∙ rw f refl

      -- before this one there was none of its label
      none_before : (op : Op) → are_alike (op_at ops i) op ≡ true → number_like old.first op ≡ None
      none_before op t = sym (one_number old.first (op_at ops i) op t) ∙ none

      no_more : (op : Op) → are_alike (op_at ops i) op ≡ true → (o : Option ℕ)
          → IfSome o (λ m. IsLeftBefore ops noted i op m × ((j : ℕ) × (number_like old.first op ≡ Some j) × (j ≢ m)))
          → o ≡ None
      no_more op t None is = refl
      no_more op t (Some m) is = let wrong : None ≡ Some is.1.0 = sym (none_before op t) ∙ is.1.1 in absurd cc

      pub first_left : AreLeft ops noted (i + 1) new
      first_left = record {
        first = λ op. by_bool (are_alike (op_at ops i) op)
            (λ t. subst (λ o. IfSome o (IsLeftBefore ops noted (i + 1) op)) (sym (first_this op t)) (this_left op t))
            (λ f. subst (λ o. IfSome o (IsLeftBefore ops noted (i + 1) op)) (sym (first_other op f))
            (before_some op (number_like old.first op) (so_far.first op)));
        more = λ op. rw kept (by_bool (are_alike (op_at ops i) op)
            (λ t. rw (no_more op t (number_like old.more op) (so_far.more op)) tt)
            (λ f. rw (first_other op f) (more_next op (number_like old.first op) (number_like old.more op) (so_far.more op))));
        all = λ op j is no. by_bool (are_alike (op_at ops i) op)
            (λ t. first_this op t ∙ elim (cases_eq j i) [
              | inl same ↦ ap Some (sym same)
              | inr other ↦
                  let old_first : number_like old.first op ≡ Some j =
                  so_far.all op j (before_this op j other is) (no_more op t (number_like old.more op) (so_far.more op)) in
                  let wrong : None ≡ Some j = sym (none_before op t) ∙ old_first in
                  absurd cc
            ])
            (λ f. first_other op f ∙ so_far.all op j (before_this op j (not_this op j f is) is) (rw kept at no));
      }

    module _ (m : ℕ) (there : number_like old.first (op_at ops i) ≡ Some m)
        (sets : SetsLike old.more new.more (op_at ops i) (Some i)) (kept : new.first ≡ old.first) where
      more_this : (op : Op) → are_alike (op_at ops i) op ≡ true → number_like new.more op ≡ Some i
      more_this op t = sets op ∙ rw t refl

      more_other : (op : Op) → are_alike (op_at ops i) op ≡ false → number_like new.more op ≡ number_like old.more op
      more_other op f = sets op ∙ rw f refl

      first_there : (op : Op) → are_alike (op_at ops i) op ≡ true → number_like old.first op ≡ Some m
      first_there op t = sym (one_number old.first (op_at ops i) op t) ∙ there

      m_before : (op : Op) → are_alike (op_at ops i) op ≡ true → m < i
      m_before op t = (subst (λ o. IfSome o (IsLeftBefore ops noted i op)) (first_there op t) (so_far.first op)).0

      pub more_left : AreLeft ops noted (i + 1) new
      more_left = record {
        first = λ op. rw kept (before_some op (number_like old.first op) (so_far.first op));
        more = λ op. rw kept (by_bool (are_alike (op_at ops i) op)
            (λ t. rw (more_this op t) (
              this_left op t,
              (
                m,
                first_there op t,
                (let before : m < i = m_before op t in omega arith),
              ),
            ))
            (λ f. rw (more_other op f) (more_next op (number_like old.first op) (number_like old.more op) (so_far.more op))));
        all = λ op j is no. rw kept (by_bool (are_alike (op_at ops i) op)
            (λ t. let wrong : Some i ≡ None = sym (more_this op t) ∙ no in absurd cc)
            (λ f. so_far.all op j (before_this op j (not_this op j f is) is) (sym (more_other op f) ∙ no)));
      }

-- The only one that is left of a label: the first, where there are no more.
module _ (ops : List Op) (noted : List (Option ℕ)) (left : Left) (are : AreLeft ops noted (length ops) left) (op : Op) where
  pub none_only : (m : ℕ) → number_like left.more op ≡ Some m → (i : ℕ)
      → (None ≡ Some i) ↔ IsOnly (IsUnknown ops noted op) i
  none_only m more i =
      let is = subst (λ o. IfSome o (λ n. IsLeftBefore ops noted (length ops) op n
      × ((j : ℕ) × (number_like left.first op ≡ Some j) × (j ≢ n)))) more (are.more op) in
      let first = subst (λ o. IfSome o (IsLeftBefore ops noted (length ops) op)) is.1.1 (are.first op) in (
        λ wrong. absurd cc,
        λ only. absurd (is.1.2 (only.1 is.1.0 first.1 ∙ sym (only.1 m is.0.1))),
      )

  pub first_only : number_like left.more op ≡ None → (i : ℕ)
      → (number_like left.first op ≡ Some i) ↔ IsOnly (IsUnknown ops noted op) i
  first_only none i = (
    λ is.
        let own = subst (λ o. IfSome o (IsLeftBefore ops noted (length ops) op)) is (are.first op) in (
          own.1,
          λ j other.
              let same : Some j ≡ Some i = sym (are.all op j (other.0.0, other) none) ∙ is in
              cc,
        ),
    λ only. are.all op i (only.0.0.0, only.0) none,
  )

-- by partners those that are left are those that nothing is known to be
module _ (known partners : List (Option ℕ)) (block : List Op) (size : length partners ≡ length block)
    (are : ArePartners known (length known) partners) (op : Op) where
  free_left : (i : ℕ) → IsUnknown block partners op i → IsFree block known op i
  free_left i is = (
    is.0,
    λ k. elim (cases_lt k (length known)) [
      | inl before ↦ (are i (let inside : i < length block = is.0.0 in omega arith)).0 is.1 k before
      | inr past ↦ λ same. let wrong : None ≡ Some i = sym (get_or_past known k None past) ∙ same in absurd cc
    ],
  )

  left_free : (i : ℕ) → IsFree block known op i → IsUnknown block partners op i
  left_free i is = (is.0, (are i (let inside : i < length block = is.0.0 in omega arith)).1 (λ k before. is.1 k))

  only_free : (i : ℕ) → IsOnly (IsUnknown block partners op) i → IsOnly (IsFree block known op) i
  only_free i only = (free_left i only.0, λ j other. only.1 j (left_free j other))

  free_only : (i : ℕ) → IsOnly (IsFree block known op) i → IsOnly (IsUnknown block partners op) i
  free_only i only = (left_free i only.0, λ j other. only.1 j (free_left j other))

-- of the last of a label on both sides each is the other's
module _ (known : List (Option ℕ)) (block ops : List Op) (k : ℕ) where
  pub known_origin_is : (j : ℕ) → origin_at known k ≡ Some j → (i : ℕ)
      → (Some j ≡ Some i) ↔ ((origin_at known k ≡ Some i) ⊎ AreLast block ops known i k)
  known_origin_is j is i = (
    λ same. inl (is ∙ same),
    λ one. elim one [
      | inl here ↦ sym is ∙ here
      | inr last ↦ let wrong : Some j ≡ None = sym is ∙ last.1.0.1 in absurd cc
    ],
  )

  module _ (none : origin_at known k ≡ None) (partners : List (Option ℕ)) (size : length partners ≡ length block)
      (are : ArePartners known (length known) partners) (here there : Option ℕ)
      (is_here : (i : ℕ) → (here ≡ Some i) ↔ IsOnly (IsUnknown block partners (op_at ops k)) i)
      (is_there : (l : ℕ) → (there ≡ Some l) ↔ IsOnly (IsUnknown ops known (op_at ops k)) l) where
    pub no_origin_is : ((i : ℕ) → here ≡ Some i → there ≡ Some k → ⊥) → (i : ℕ)
        → (None ≡ Some i) ↔ ((origin_at known k ≡ Some i) ⊎ AreLast block ops known i k)
    no_origin_is not_both i = (
      λ wrong. absurd cc,
      λ one. elim one [
        | inl known_there ↦ let wrong : None ≡ Some i = sym none ∙ known_there in absurd cc
        | inr last ↦ absurd (not_both i
            ((is_here i).1 (free_only known partners block size are (op_at ops k) i last.0)) ((is_there k).1 last.1))
      ],
    )

    pub last_origin_is : (j : ℕ) → here ≡ Some j → there ≡ Some k → (i : ℕ)
        → (Some j ≡ Some i) ↔ ((origin_at known k ≡ Some i) ⊎ AreLast block ops known i k)
    last_origin_is j own other i = (
      λ same. inr (only_free known partners block size are (op_at ops k) i ((is_here i).0 (own ∙ same)), (is_there k).0 other),
      λ one. elim one [
        | inl known_there ↦ let wrong : None ≡ Some i = sym none ∙ known_there in absurd cc
        | inr last ↦ sym own ∙ (is_here i).1 (free_only known partners block size are (op_at ops k) i last.0)
      ],
    )

-- Lists that grow

module _ (lat : Latencies) (block ops : List Op) (rows : List Row) where
  pub known_more : (known : List (Option ℕ)) (x : Option ℕ) (n : ℕ) → length known ≡ n
      → ((i k : ℕ) → k < n → origin_at known k ≡ Some i → IsKnown lat block ops rows known i k)
      → IfSome x (λ i. IsKnown lat block ops rows known i n) → (i k : ℕ) → k < n + 1
      → origin_at (known ++ x ∷ []) k ≡ Some i → IsKnown lat block ops rows (known ++ x ∷ []) i k
  known_more known x n size each last i k within is = elim (cases_lt k n) [
    | inl before ↦ known_still lat block ops rows known x i k
        (each i k before (sym (get_or_append_left known (x ∷ []) None k (omega arith)) ∙ is))
    | inr past ↦
        let same : k ≡ n = omega arith in
        let new : x ≡ Some i = sym (get_or_push known x None k (omega arith)) ∙ is in
        known_still lat block ops rows known x i k
        (subst (λ m. IsKnown lat block ops rows known i m) (sym same)
        (subst (λ (o : Option ℕ). IfSome o (λ j. IsKnown lat block ops rows known j n)) new last))
  ]

-- a partner more is noted, or nobody's
pub partner_more : (known partners : List (Option ℕ)) (k i : ℕ) → ArePartners known k partners → i < length partners
    → origin_at known k ≡ Some i → ArePartners known (k + 1) (slice_set partners i (Some k))
partner_more known partners k i are within is j inside = elim (cases_eq j i) [
  | inl same ↦ (
    λ none.
        let here : origin_at (slice_set partners i (Some k)) j ≡ Some k = get_or-set_at partners i j (Some k) None same within in
        let wrong : Some k ≡ None = sym here ∙ none in
        absurd cc,
    λ no. absurd (no k (omega arith) (is ∙ ap Some (sym same))),
  )
  | inr other ↦
      let kept : origin_at (slice_set partners i (Some k)) j ≡ origin_at partners j = get_or-set_other partners i j (Some k) None other in
      let inside_old : j < length partners = omega (arith, length-set partners i (Some k)) in (
        λ none l before. elim (cases_lt l k) [
          | inl earlier ↦ (are j inside_old).0 (sym kept ∙ none) l earlier
          | inr last ↦ λ own.
              let same : l ≡ k = omega arith in
              let both : Some i ≡ Some j = sym is ∙ ap (origin_at known) (sym same) ∙ own in
              let equal : i ≡ j = cc in
              other (sym equal)
        ],
        λ no. kept ∙ (are j inside_old).1 (λ l before. no l (omega arith)),
      )
]

pub partner_kept : (known partners : List (Option ℕ)) (k : ℕ) → ArePartners known k partners
    → ((i : ℕ) → i < length partners → origin_at known k ≢ Some i) → ArePartners known (k + 1) partners
partner_kept known partners k are nobody j inside = (
  λ none l before. elim (cases_lt l k) [
    | inl earlier ↦ (are j inside).0 none l earlier
    | inr last ↦
        let same : l ≡ k = omega arith in
        λ own. nobody j inside (ap (origin_at known) (sym same) ∙ own)
  ],
  λ no. (are j inside).1 (λ l before. no l (omega arith)),
)

-- where none is left of the block
pub no_last_is : (known : List (Option ℕ)) (block ops : List Op) (k : ℕ) → origin_at known k ≡ None
    → (partners : List (Option ℕ)) → length partners ≡ length block → ArePartners known (length known) partners
    → ((i : ℕ) → IsOnly (IsUnknown block partners (op_at ops k)) i → ⊥) → (i : ℕ)
    → (None ≡ Some i) ↔ ((origin_at known k ≡ Some i) ⊎ AreLast block ops known i k)
no_last_is known block ops k none partners size are nobody i = (
  λ wrong. absurd cc,
  λ one. elim one [
    | inl known_there ↦ let wrong : None ≡ Some i = sym none ∙ known_there in absurd cc
    | inr last ↦ absurd (nobody i (free_only known partners block size are (op_at ops k) i last.0))
  ],
)
