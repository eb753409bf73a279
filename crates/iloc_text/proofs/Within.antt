-- A file that a text denotes is within the limits.
use Rattle.iloc_text.proofs.Common.{ℕ, ◌≤◌, List, [], ◌∷◌, ◌++◌, length, Some, None, Option, sym, ap, subst, arith, AllByRecursion, MAX_BLOCKS, MAX_OPS, Block, Op, NoneFaulty, Reading, FilesAreWithinLimits, last_ops, with_line, with_op, with_optional_label, with_optional_op}
use Rattle.iloc_text.specs.Files.{block_count, block_names, file_of}
use Rattle.iloc_text.proofs.Counts.{fronts-snoc}
use Rattle.iloc_text.proofs.BlockOps.{over_lines}
use Rattle.iloc_text.proofs.Every.{all-snoc}
use Rattle.iloc_text.proofs.BlockLists.{length-file, last-file, file-snoc}

abbrev AllFit : List Block → Type 0
AllFit blocks = AllByRecursion (λ b. length b.ops ≤ MAX_OPS) blocks

fit-with_op : (op : Op) (bs : List Block) → AllFit bs → length (last_ops (with_op op bs)) ≤ MAX_OPS
    → AllFit (with_op op bs)
fit-with_op op [] h l = tt
fit-with_op op (x ∷ []) h l = (l, tt)
fit-with_op op (x ∷ y ∷ []) h l = (h.0, (l, tt))
fit-with_op op (x ∷ y ∷ z ∷ bs) h l = (h.0, fit-with_op op (y ∷ z ∷ bs) h.1 l)

fit-with_label : (label : Option (List ℕ)) (bs : List Block) → AllFit bs → AllFit (with_optional_label label bs)
fit-with_label None bs h = h
fit-with_label (Some name) bs h = all-snoc (λ b. length b.ops ≤ MAX_OPS) bs (record { name = Some name; ops = [] }) h (omega arith)

fit-with_optional : (op : Option Op) (bs : List Block) → AllFit bs → length (last_ops (with_optional_op op bs)) ≤ MAX_OPS
    → AllFit (with_optional_op op bs)
fit-with_optional op bs h l = grind (arith, fit-with_op)

fit-with_line : (label : Option (List ℕ)) (op : Option Op) (bs : List Block) → AllFit bs
    → length (last_ops (with_line label op bs)) ≤ MAX_OPS → AllFit (with_line label op bs)
fit-with_line label op bs h l = fit-with_optional op (with_optional_label label bs) (fit-with_label label bs h) l

all-front : {A : Type 0} (P : A → Type 0) (xs : List A) (x : A) → AllByRecursion P (xs ++ x ∷ []) → AllByRecursion P xs
    × P x
all-front P [] x h = (tt, h.0)
all-front P (y ∷ ys) x h = let rest = all-front P ys x h.1 in ((h.0, rest.0), rest.1)

-- the file of these lines fits, and has few enough blocks, where no line was faulty
abbrev Fits : List Reading → Type 0
Fits rs = NoneFaulty rs → AllFit (file_of rs) × (block_count rs ≤ MAX_BLOCKS)

fits-step : (rs : List Reading) (r : Reading) → Fits rs → Fits (rs ++ r ∷ [])
fits-step rs r f = grind (arith, all-front, file-snoc, fit-with_line, fronts-snoc, last-file)

fits-none : Fits []
unfolding file_of block_names block_count
fits-none h = (tt, omega arith)

pub files_within : FilesAreWithinLimits
files_within input blocks d =
    let fits = over_lines Fits fits-step [] d.readings fits-none d.none_faulty in
    let most = fits.1 in
    (omega (arith, ap length d.file, length-file d.readings), subst AllFit (sym d.file) fits.0)
