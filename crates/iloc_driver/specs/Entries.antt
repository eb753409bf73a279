-- The listing of a file's blocks: an entry for each, and an ending.
use Rattle.std.specs.Prelude.{◌≡◌, ℕ, ◌+◌, List, [], ◌∷◌, ◌++◌, length, slice_get, MatchOption, Option, Some}
use Rattle.iloc_ops.specs.declared.file.Block.{Block}
use Rattle.iloc_text.specs.Files.{Denotes}
use Rattle.iloc_text.specs.Streams.{ReadsText}
use Rattle.iloc_driver.specs.Priorities.{Own}

-- `lists k b entry f` says that this is the entry of the block b, or of what else is listed, with the number k, of which f is
-- found
module _ {X F : Type 0} (lists : ℕ → X → List ℕ → F → Type 0) where
  -- `text` is the entries of the blocks, numbered from `k` on, and the other list has what is found of each
  abbrev pub AreEntries : ℕ → List X → List F → List ℕ → Type 0
  AreEntries k [] [] text = text ≡ []
  AreEntries k [] (f ∷ found) text = ⊥
  AreEntries k (b ∷ blocks) [] text = ⊥
  AreEntries k (b ∷ blocks) (f ∷ found) text =
      (entry : List ℕ) × (rest : List ℕ) × lists k b entry f × AreEntries (k + 1) blocks found rest
      × (text ≡ entry ++ rest)

  -- `text` is `opening`, the entries of `blocks`, numbered from 1 on, and the `ending` that follows from what is found
  -- of them
  pub record IsListingAfter (opening : List ℕ) (ending : List F → List ℕ) (blocks : List X) (text : List ℕ)
      : Type 0 where
    pub found : List F
    pub entries : List ℕ
    pub listed : AreEntries 1 blocks found entries
    pub whole : text ≡ opening ++ entries ++ ending found

  -- without an opening
  abbrev pub IsListingOf : (List F → List ℕ) → List X → List ℕ → Type 0
  IsListingOf ending blocks text = IsListingAfter [] ending blocks text

-- an entry joined the text, of which this holds with what was found
pub record AppendsEntry {F : Type 0} (is : List ℕ → F → Type 0) (text more : List ℕ) (found : F) : Type 0 where
  pub entry : List ℕ
  pub right : is entry found
  pub added : more ≡ text ++ entry

-- there is no ending
abbrev pub no_ending : List (Unit {0}) → List ℕ
no_ending found = []

-- the bytes that were read denote a file, and `text` is the listing of its blocks, with priorities of their own that
-- `are_own`
pub record ListsRead (is_listing : Own → List Block → List ℕ → Type 0) (are_own : List Block → Own → Type 0)
    (old new : Option (List ℕ)) (text : List ℕ) : Type 0 where
  pub input : List ℕ
  pub read : ReadsText old new input
  pub blocks : List Block
  pub denoted : Denotes input blocks
  pub own : Own
  pub ranked : are_own blocks own
  pub listed : is_listing own blocks text

-- `lists k b x` says that x is listed of the block b with the number k, counted from 1
module _ {A : Type 0} (lists : ℕ → Block → A → Type 0) where
  -- this is listed of block i; past the last block there is none
  abbrev pub OfBlock : List Block → ℕ → A → Type 0
  OfBlock blocks i x = MatchOption (slice_get blocks i) ⊥ (λ (b : Block). lists (i + 1) b x)

  -- `all` has what is listed of each of `blocks`
  pub record AreListed (blocks : List Block) (all : List A) : Type 0 where
    pub many : length all ≡ length blocks
    pub each : (i : ℕ) (x : A) → slice_get all i ≡ Some x → OfBlock blocks i x
