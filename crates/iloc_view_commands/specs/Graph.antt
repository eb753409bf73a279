-- `graph` draws which operation of each block waits for which, in the language of Graphviz.
use Rattle.std.specs.Prelude.{◌≡◌, ℕ, ◌==◌, if◌then◌else◌, List, [], ◌∷◌, ◌++◌}
use Rattle.iloc_ops.specs.declared.file.Block.{Block}
use Rattle.iloc_graph.specs.Listing.{IsCluster, opening, closing}
use Rattle.iloc_args.specs.declared.request.Request.{Request}
use Rattle.iloc_args.specs.Rule.{memory_rule}
use Rattle.iloc_driver.specs.Command.{Command, of_files}
use Rattle.iloc_driver.specs.Entries.{IsListingOf}

-- the first block opens the drawing
abbrev pub opening_at : ℕ → List ℕ
opening_at k = if k == 1 then opening else []

-- The entry of block k: its cluster by the request's rule of memory. No more is found of it.
pub record IsGraphEntry (request : Request) (k : ℕ) (b : Block) (entry : List ℕ) (found : Unit {0}) : Type 0 where
  pub cluster : List ℕ
  pub draws : IsCluster (memory_rule request) request.latencies k b.name b.ops cluster
  pub listed : entry ≡ opening_at k ++ cluster

-- the end of the drawing, which has nothing in it where there is no block
abbrev pub drawing_end : List (Unit {0}) → List ℕ
drawing_end [] = opening ++ closing
drawing_end (f ∷ found) = closing

abbrev pub graph_command : Command
graph_command = of_files (λ request own. IsListingOf (IsGraphEntry request) drawing_end)
