-- What a text denotes is within the limits.
use Rattle.iloc_rows.proofs.Common.{◌≡◌, ℕ, ◌≤◌, List, [], ◌∷◌, ◌++◌, map, length, sym, refl, ap, ◌∙◌, subst, inl, inr, append_assoc, append-nil, arith, cases_eq, AllByRecursion, range_with_len, MAX_OPS, Block, Op, Nop, cycles, head, nothing, row, total, AreWithinLimits, SubmissionsApartAreWithinLimits, SubmissionsAreWithinLimits, AllFit, Fits, IsNumbered, block_of, ops_in, proposal_of, proposals_of, row_in, rows_of, Propose, Told, read, unread, Proposed}
use Rattle.iloc_text.specs.Files as files
use Rattle.iloc_text.proofs.Within.{files_within}
use Rattle.iloc_rows.proofs.Picking.{picked-nothing, picked-here, picked-else, picked-none}
use Rattle.iloc_rows.proofs.Numbering.{ops_in-snoc}
use Rattle.iloc_rows.proofs.Growing.{length-proposals, still_of}
use Rattle.iloc_rows.proofs.Slots.{numbered_once, numbered_in_range}

-- Operations

-- the rows of each block have at most 10,000 operations
abbrev AreFew : List Told → Type 0
AreFew ss = (k : ℕ) → length (ops_in (rows_of k ss)) ≤ MAX_OPS

few_rows : (rows rows' : List (Op × Op)) → rows ≡ rows' → length (ops_in rows') ≤ MAX_OPS → length (ops_in rows) ≤ MAX_OPS
few_rows rows rows' e h = omega (arith, ap (λ rs. length (ops_in rs)) e)

few-row : (blocks : List Block) (ss : List Told) (one two : Op) → Fits blocks ss (read (row one two)) → AreFew ss
    → AreFew (ss ++ read (row one two) ∷ [])
few-row blocks ss one two f h = grind (arith, cases_eq, few_rows, picked-else, picked-here, still_of)

few-line : (blocks : List Block) (ss : List Told) (s : Told) → Fits blocks ss s → AreFew ss → AreFew (ss ++ s ∷ [])
few-line blocks ss (read nothing) f h k = few_rows _ _ (picked-nothing row_in k ss (read nothing) refl) (h k)
few-line blocks ss (read (row one two)) f h k = few-row blocks ss one two f h k
few-line blocks ss (read (head n name)) f h k = few_rows _ _ (picked-nothing row_in k ss (read (head n name)) refl) (h k)
few-line blocks ss (read (cycles c)) f h k = few_rows _ _ (picked-nothing row_in k ss (read (cycles c)) refl) (h k)
few-line blocks ss (read (total t)) f h k = few_rows _ _ (picked-nothing row_in k ss (read (total t)) refl) (h k)
few-line blocks ss (unread turn n text) f h k =
    elim (cases_eq (block_of (ss ++ unread turn n text ∷ [])) k) [
      | inl here ↦ few_rows _ _ (picked-here row_in k ss (unread turn n text) (Nop, Nop) refl here) (few_more (h k))
      | inr apart ↦ few_rows _ _ (picked-else row_in k ss (unread turn n text) apart) (h k)
    ]
  where
    few_more : length (ops_in (rows_of k ss)) ≤ MAX_OPS → length (ops_in (rows_of k ss ++ (Nop, Nop) ∷ [])) ≤ MAX_OPS
    few_more few =
        let same : ops_in (rows_of k ss ++ (Nop, Nop) ∷ []) ≡ ops_in (rows_of k ss) =
        ops_in-snoc (rows_of k ss) (Nop, Nop) ∙ append-nil (ops_in (rows_of k ss)) in
        omega (arith, ap length same)

few-lines : (blocks : List Block) (lines ss : List Told) → AllFit blocks lines ss → AreFew lines → AreFew (lines ++ ss)
few-lines blocks lines [] f h = subst AreFew (sym (append-nil lines)) h
few-lines blocks lines (s ∷ ss) f h =
    subst AreFew (append_assoc lines (s ∷ []) ss)
    (few-lines blocks (lines ++ s ∷ []) ss f.1 (few-line blocks lines s f.0 h))

few-none : AreFew []
few-none k = few_rows _ _ (picked-none row_in k) (omega arith)

-- Proposals

all-map : {A B : Type 0} (P : B → Type 0) (f : A → B) (xs : List A) → ((x : A) → P (f x)) → AllByRecursion P (map f xs)
all-map P f [] h = tt
all-map P f (x ∷ xs) h = (h x, all-map P f xs h)

-- what holds of what any block is proposed holds of all that is proposed
all_proposed : (P : Proposed → Type 0) (count : ℕ) (ss : List Told) (proposals : List Proposed)
    → proposals ≡ proposals_of count ss → ((k : ℕ) → P (proposal_of ss k)) → AllByRecursion P proposals
all_proposed P count ss proposals e h =
    subst (AllByRecursion P) (sym e) (all-map P (proposal_of ss) (range_with_len 1 count) h)

-- each number in the rows that lines propose is an operation's, and each operation is in one slot
pub proposed_numbered : (blocks : List Block) (n : ℕ) (lines : List (List ℕ)) (proposals : List Proposed)
    → Propose blocks n lines proposals → AllByRecursion IsNumbered proposals
proposed_numbered blocks n lines proposals propose = grind (arith, all_proposed, numbered_in_range, numbered_once)

-- what lines propose for the blocks of a file is within the limits
proposals_within : (text : List ℕ) (blocks : List Block) (n : ℕ) (lines : List (List ℕ)) (proposals : List Proposed)
    → files.Denotes text blocks → Propose blocks n lines proposals → AreWithinLimits blocks proposals
proposals_within text blocks n lines proposals file propose =
    let few = files_within text blocks file in
    let told = propose.told in
    record {
      few_blocks = few.0;
      short_blocks = few.1;
      as_many = ap length propose.are ∙ length-proposals (length blocks) told;
      short_proposals = all_proposed (λ p. length p.ops ≤ MAX_OPS) (length blocks) told proposals propose.are
          (few-lines blocks [] told propose.fit few-none);
      once = all_proposed _ (length blocks) told proposals propose.are (λ k. numbered_once (rows_of k told));
      in_range = all_proposed _ (length blocks) told proposals propose.are (λ k. numbered_in_range (rows_of k told));
    }

pub submissions_within : SubmissionsAreWithinLimits
submissions_within input blocks proposals d = proposals_within _ blocks _ d.after proposals d.file d.propose

pub submissions_apart_within : SubmissionsApartAreWithinLimits
submissions_apart_within task input blocks proposals d =
    proposals_within task blocks _ d.rows.lines proposals d.task.file d.rows.propose
