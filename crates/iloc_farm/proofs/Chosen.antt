-- The entries of a listing as lines of things, one for each block.
use Rattle.iloc_farm.proofs.Common.{◌≡◌, ℕ, ◌+◌, List, [], ◌∷◌, ◌++◌, map, Option, sym, refl, ap, ◌∙◌, ap₂, AllZip, zip, Block, Table, Latencies, cycles_of, total_of_all, AreEntries}
use Rattle.std.proofs.lemmas.List.Sums.{sum-map}
use Rattle.std.proofs.lemmas.Simd.{map-map}
use Rattle.iloc_listing.specs.Listing.{entries, total_line, total_of}

-- an entry of block k is the line of `item`, which is right for the block, and from which follows what is found
pub record IsOf {X F : Type 0} (line : ℕ → Option (List ℕ) → X → List ℕ) (finds : X → F) (Right : Block → X → Type 0) (k : ℕ)
    (b : Block) (entry : List ℕ) (found : F) : Type 0 where
  pub item : X
  pub right : Right b item
  pub listed : entry ≡ line k b.name item
  pub is_found : found ≡ finds item

-- the entries of blocks from number k on are the lines of `items`
pub record AreOf {X F : Type 0} (line : ℕ → Option (List ℕ) → X → List ℕ) (finds : X → F) (Right : Block → X → Type 0) (k : ℕ)
    (blocks : List Block) (text : List ℕ) (found : List F) : Type 0 where
  pub items : List X
  pub right : AllZip Right blocks items
  pub listed : text ≡ entries line k blocks items
  pub are_found : found ≡ map finds items

module _ {X F : Type 0} (line : ℕ → Option (List ℕ) → X → List ℕ) (finds : X → F) (Right : Block → X → Type 0)
    (lists : ℕ → Block → List ℕ → F → Type 0)
    (gives : (k : ℕ) (b : Block) (entry : List ℕ) (found : F) → lists k b entry found → IsOf line finds Right k b entry found) where
  pub items_of : (k : ℕ) (blocks : List Block) (found : List F) (text : List ℕ) → AreEntries lists k blocks found text
      → AreOf line finds Right k blocks text found
  items_of k [] [] text are = record { items = []; right = tt; listed = are; are_found = refl }
  items_of k [] (f ∷ found) text are = absurd are
  items_of k (b ∷ blocks) [] text are = absurd are
  items_of k (b ∷ blocks) (f ∷ found) text are =
      let one : IsOf line finds Right k b are.0 f = gives k b are.0 f are.2 in
      let rest : AreOf line finds Right (k + 1) blocks are.1 found = items_of (k + 1) blocks found are.1 are.3 in
      record {
        items = one.item ∷ rest.items;
        right = (one.right, rest.right);
        listed = are.4 ∙ ap₂ (λ xs ys. xs ++ ys) one.listed rest.listed;
        are_found = ap₂ (λ x xs. x ∷ xs) one.is_found rest.are_found;
      }

abbrev pub first : {A B : Type 0} → A × B → A
first p = p.0

abbrev pub second : {A B : Type 0} → A × B → B
second p = p.1

-- what follows for each follows for all
pub weaker : {A B : Type 0} (P Q : A → B → Type 0) → ((a : A) (b : B) → P a b → Q a b) → (xs : List A) (ys : List B)
    → AllZip P xs ys → AllZip Q xs ys
weaker P Q gives [] [] all = tt
weaker P Q gives [] (y ∷ ys) all = absurd all
weaker P Q gives (x ∷ xs) [] all = absurd all
weaker P Q gives (x ∷ xs) (y ∷ ys) all = (gives x y all.0, weaker P Q gives xs ys all.1)

-- what holds of each holds of what comes of each
pub mapped : {A B C : Type 0} (P : A → B → Type 0) (f : B → C) (Q : A → C → Type 0) → ((a : A) (b : B) → P a b → Q a (f b))
    → (xs : List A) (ys : List B) → AllZip P xs ys → AllZip Q xs (map f ys)
mapped P f Q gives [] [] all = tt
mapped P f Q gives [] (y ∷ ys) all = absurd all
mapped P f Q gives (x ∷ xs) [] all = absurd all
mapped P f Q gives (x ∷ xs) (y ∷ ys) all = (gives x y all.0, mapped P f Q gives xs ys all.1)

-- so it does of each thing beside the half of its pair
pub halves : {A B C : Type 0} (P : A → B × C → Type 0) (Q : A × B → C → Type 0) → ((a : A) (p : B × C) → P a p → Q (a, p.0) p.1)
    → (xs : List A) (ps : List (B × C)) → AllZip P xs ps
    → AllZip Q (zip xs (map first ps)) (map second ps)
halves P Q gives [] [] all = tt
halves P Q gives [] (p ∷ ps) all = absurd all
halves P Q gives (x ∷ xs) [] all = absurd all
halves P Q gives (x ∷ xs) (p ∷ ps) all = (gives x p all.0, halves P Q gives xs ps all.1)

pub zip_halves : {B C : Type 0} (ps : List (B × C)) → ps ≡ zip (map first ps) (map second ps)
zip_halves [] = refl
zip_halves (p ∷ ps) = ap (λ rest. p ∷ rest) (zip_halves ps)

pub entries_mapped : {X Y : Type 0} (line : ℕ → Option (List ℕ) → Y → List ℕ) (f : X → Y) (k : ℕ) (blocks : List Block)
    (xs : List X) → entries (λ k name x. line k name (f x)) k blocks xs ≡ entries line k blocks (map f xs)
entries_mapped line f k [] xs = refl
entries_mapped line f k (b ∷ blocks) [] = refl
entries_mapped line f k (b ∷ blocks) (x ∷ xs) =
    ap (λ rest. line k b.name (f x) ++ rest) (entries_mapped line f (k + 1) blocks xs)

-- the total of the cycles of schedules
pub total_same : (lat : Latencies) (schedules : List Table)
    → total_of_all (map (cycles_of lat) schedules) ≡ total_line lat schedules
total_same lat schedules = ap total_of (sum-map (cycles_of lat) schedules)

pub total_mapped : {X : Type 0} (lat : Latencies) (f : X → Table) (xs : List X)
    → total_of_all (map (λ x. cycles_of lat (f x)) xs) ≡ total_line lat (map f xs)
total_mapped lat f xs = ap total_of_all (sym (map-map (cycles_of lat) f xs)) ∙ total_same lat (map f xs)
