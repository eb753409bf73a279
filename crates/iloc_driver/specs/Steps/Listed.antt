-- Entries that are listed one after another, or by several workers.
use Rattle.std.specs.Prelude.{◌≡◌, ℕ, List, [], ◌++◌}
use Rattle.std.specs.List.{All}
use Rattle.iloc_ops.specs.declared.file.Block.{Block}
use Rattle.iloc_args.specs.declared.request.Request.{Request}
use Rattle.iloc_driver.specs.Entries.{AreEntries}
use Rattle.iloc_driver.specs.Priorities.{Own}

-- blocks to be listed, with the request and their own priorities
pub record ToList : Type 0 where
  pub blocks : List Block
  pub request : Request
  pub own : Own

module _ {X F : Type 0} (lists : ℕ → X → List ℕ → F → Type 0) where
  -- the entries of `blocks` joined `text`, and what was found of them joined `found`
  pub record Grows (blocks : List X) (text more : List ℕ) (found all : List F) : Type 0 where
    pub entries : List ℕ
    pub next : List F
    pub right : AreEntries lists 1 blocks next entries
    pub added : more ≡ text ++ entries
    pub kept : all ≡ found ++ next

  -- of `all` blocks `left` are left; the others were listed in `text` after `opening`, and `found` has what was found
  -- of them
  pub record AreListedTo (fits : F → Type 0) (opening : List ℕ) (all left : List X) (text : List ℕ) (found : List F)
      : Type 0 where
    pub done : List X
    pub split : done ++ left ≡ all
    pub grown : Grows done opening text [] found
    pub small : All fits found
