-- The entries of a file's blocks, one after another or made by several workers.
use Rattle.iloc_driver.proofs.Common.{◌≡◌, ℕ, suc, ◌+◌, List, [], ◌∷◌, ◌++◌, map, length, IfOk, OnOk, slice_get, Some, Ok, Err, Option, Result, MatchOption, flat_map, sym, refl, ap, ◌∙◌, subst, append_assoc, append-nil, arith, Block, AreEntries, AreListed, IsListingAfter, IsListingOf, Grows}
use Rattle.std.proofs.lemmas.List.Concat.{flat_map-cons}
use Rattle.iloc_listing.specs.Listing.{entries}

pub parts_joined : (text head line entry : List ℕ) → ((text ++ head) ++ line) ++ entry ≡ text ++ ((head ++ line) ++ entry)
parts_joined text head line entry = simp append_assoc

-- what holds at `Ok` holds of what is answered
pub if_ok : {T E P : Type 0} (Q : T → Type 0) (result : Result T E) → ((x : T) → P → Q x) → OnOk result P → IfOk result Q
if_ok Q (Ok x) f p = f x p
if_ok Q (Err e) f p = tt

module _ {X F : Type 0} (lists : ℕ → X → List ℕ → F → Type 0) where
  -- one block more
  entries_more : (k n : ℕ) (blocks : List X) (found : List F) (b : X) (f : F) (text entry : List ℕ)
      → k + length blocks ≡ n → AreEntries lists k blocks found text → lists n b entry f
      → AreEntries lists k (blocks ++ b ∷ []) (found ++ f ∷ []) (text ++ entry)
  entries_more k n [] [] b f text entry at are is =
      let P : ℕ → Type 0 = λ m. lists m b entry f in
      let same : n ≡ k = omega arith in
      (entry, [], subst P same is, refl, ap (λ xs. xs ++ entry) are ∙ sym (append-nil entry))
  entries_more k n [] (g ∷ found) b f text entry at are is = absurd are
  entries_more k n (a ∷ blocks) [] b f text entry at are is = absurd are
  entries_more k n (a ∷ blocks) (g ∷ found) b f text entry at are is =
      grind (arith, append_assoc, entries_more (k + 1) n blocks found b f are.1 entry (omega arith) are.3 is)

  pub entries_long : (k : ℕ) (blocks : List X) (found : List F) (text : List ℕ) → AreEntries lists k blocks found text
      → length found ≡ length blocks
  entries_long k [] [] text are = refl
  entries_long k [] (f ∷ found) text are = absurd are
  entries_long k (b ∷ blocks) [] text are = absurd are
  entries_long k (b ∷ blocks) (f ∷ found) text are =
      let rest : length found ≡ length blocks = entries_long (k + 1) blocks found are.1 are.3 in omega arith

  pub one_more : (blocks : List X) (b : X) (n : ℕ) (text old new entry : List ℕ) (found all more : List F) (f : F)
      → Grows lists blocks text old found all → length blocks + 1 ≡ n → lists n b entry f → new ≡ old ++ entry
      → more ≡ all ++ f ∷ [] → Grows lists (blocks ++ b ∷ []) text new found more
  one_more blocks b n text old new entry found all more f so_far at is added kept = grind (arith, append_assoc, entries_more)

  -- what was listed behind nothing, and the ending
  pub whole_listing : (ending : List F → List ℕ) (blocks : List X) (start text all : List ℕ) (before found : List F)
      → start ≡ [] → before ≡ [] → Grows lists blocks start text before found → all ≡ text ++ ending found
      → IsListingOf lists ending blocks all
  whole_listing ending blocks start text all before found empty none so_far ended = grind arith

module _ {F : Type 0} (lists : ℕ → Block → List ℕ → F → Type 0) where
  -- what each block has is what all have, one after another
  module _ {E : Type 0} (text_of : E → List ℕ) (found_of : E → F) where
    each_listed : (k : ℕ) (blocks : List Block) (made : List E) → length made ≡ length blocks
        → ((i : ℕ) (e : E) → slice_get made i ≡ Some e
        → MatchOption (slice_get blocks i) ⊥ (λ (b : Block). lists (i + k) b (text_of e) (found_of e)))
        → AreEntries lists k blocks (map found_of made) (flat_map text_of made)
    each_listed k [] [] long each = refl
    each_listed k [] (e ∷ made) long each = absurd (omega arith)
    each_listed k (b ∷ blocks) [] long each = absurd (omega arith)
    each_listed k (b ∷ blocks) (e ∷ made) long each = (
      text_of e,
      flat_map text_of made,
      (let P : ℕ → Type 0 = λ n. lists n b (text_of e) (found_of e) in subst P (omega arith) (each 0 e refl)),
      each_listed (k + 1) blocks made (omega arith) (λ i x at.
          let Q : ℕ → Type 0 =
          λ n. MatchOption (slice_get blocks i) ⊥ (λ (block : Block). lists n block (text_of x) (found_of x)) in
          subst Q (omega arith) (each (suc i) x at)),
      flat_map-cons text_of e made,
    )

    pub made_listing : (ending : List F → List ℕ) (blocks : List Block) (made : List E) (text : List ℕ)
        → AreListed (λ k b e. lists k b (text_of e) (found_of e)) blocks made
        → text ≡ flat_map text_of made ++ ending (map found_of made) → IsListingOf lists ending blocks text
    made_listing ending blocks made text are whole = grind (arith, each_listed)

-- Where two kinds of entries agree, so do their listings.
module _ {F : Type 0} (lists lists' : ℕ → Block → List ℕ → F → Type 0)
    (agree : (k : ℕ) (b : Block) (e e' : List ℕ) (f f' : F) → lists k b e f → lists' k b e' f' → (e ≡ e') × (f ≡ f')) where
  entries_same : (k : ℕ) (blocks : List Block) (found found' : List F) (text text' : List ℕ)
      → AreEntries lists k blocks found text → AreEntries lists' k blocks found' text'
      → (text ≡ text') × (found ≡ found')
  entries_same k [] [] [] text text' are are' = (are ∙ sym are', refl)
  entries_same k [] [] (f ∷ found') text text' are are' = absurd are'
  entries_same k [] (f ∷ found) found' text text' are are' = absurd are
  entries_same k (b ∷ blocks) [] found' text text' are are' = absurd are
  entries_same k (b ∷ blocks) (f ∷ found) [] text text' are are' = absurd are'
  entries_same k (b ∷ blocks) (f ∷ found) (f' ∷ found') text text' are are' =
      grind (arith, entries_same (k + 1) blocks found found' are.1 are'.1 are.3 are'.3)

  pub one_listing_after : (opening opening' : List ℕ) (ending ending' : List F → List ℕ) (blocks : List Block)
      (text text' : List ℕ)
      → opening ≡ opening' → ending ≡ ending' → IsListingAfter lists opening ending blocks text
      → IsListingAfter lists' opening' ending' blocks text' → text ≡ text'
  one_listing_after opening opening' ending ending' blocks text text' opens ends is is' = grind (arith, entries_same)

  pub one_listing : (ending : List F → List ℕ) (blocks : List Block) (text text' : List ℕ)
      → IsListingOf lists ending blocks text → IsListingOf lists' ending blocks text' → text ≡ text'
  one_listing ending blocks text text' is is' =
      one_listing_after [] [] ending ending blocks text text' refl refl is is'

-- where an entry of the one kind is one of the other, so it is with listings
module _ {F : Type 0} (lists lists' : ℕ → Block → List ℕ → F → Type 0)
    (also : (k : ℕ) (b : Block) (e : List ℕ) (f : F) → lists k b e f → lists' k b e f) where
  entries_also : (k : ℕ) (blocks : List Block) (found : List F) (text : List ℕ) → AreEntries lists k blocks found text
      → AreEntries lists' k blocks found text
  entries_also k [] [] text are = are
  entries_also k [] (f ∷ found) text are = absurd are
  entries_also k (b ∷ blocks) [] text are = absurd are
  entries_also k (b ∷ blocks) (f ∷ found) text are =
      (are.0, are.1, also k b are.0 f are.2, entries_also (k + 1) blocks found are.1 are.3, are.4)

  pub listing_after_also : (opening : List ℕ) (ending : List F → List ℕ) (blocks : List Block) (text : List ℕ)
      → IsListingAfter lists opening ending blocks text → IsListingAfter lists' opening ending blocks text
  listing_after_also opening ending blocks text is = grind (arith, entries_also)

  pub listing_also : (ending : List F → List ℕ) (blocks : List Block) (text : List ℕ)
      → IsListingOf lists ending blocks text → IsListingOf lists' ending blocks text
  listing_also ending blocks text is = listing_after_also [] ending blocks text is

-- the listing of what was found of each block, where a line says it
module _ {X : Type 0} (lists : ℕ → Block → List ℕ → X → Type 0) (Finds : ℕ → Block → X → Type 0)
    (line : ℕ → Option (List ℕ) → X → List ℕ)
    (entry : (k : ℕ) (b : Block) (x : X) → Finds k b x → lists k b (line k b.name x) x) where
  lines_of : (k : ℕ) (blocks : List Block) (found : List X) → length found ≡ length blocks
      → ((i : ℕ) (x : X) → slice_get found i ≡ Some x
      → MatchOption (slice_get blocks i) ⊥ (λ (b : Block). Finds (i + k) b x))
      → AreEntries lists k blocks found (entries line k blocks found)
  lines_of k [] [] long each = refl
  lines_of k [] (x ∷ found) long each = absurd (omega arith)
  lines_of k (b ∷ blocks) [] long each = absurd (omega arith)
  lines_of k (b ∷ blocks) (x ∷ found) long each = (
    line k b.name x,
    entries line (k + 1) blocks found,
    entry k b x (let P : ℕ → Type 0 = λ n. Finds n b x in subst P (omega arith) (each 0 x refl)),
    lines_of (k + 1) blocks found (omega arith) (λ i y at.
        let Q : ℕ → Type 0 = λ n. MatchOption (slice_get blocks i) ⊥ (λ (block : Block). Finds n block y) in
        subst Q (omega arith) (each (suc i) y at)),
    refl,
  )

  pub lined_listing : (opening : List ℕ) (ending : List X → List ℕ) (blocks : List Block) (found : List X)
      (text : List ℕ)
      → AreListed Finds blocks found
      → text ≡ (opening ++ entries line 1 blocks found) ++ ending found
      → IsListingAfter lists opening ending blocks text
  lined_listing opening ending blocks found text are whole = grind (arith, lines_of)
