-- The lines of operations, one after another.
use Rattle.iloc_explain.proofs.Common.{◌≡◌, ℕ, ◌+◌, ◌<◌, List, ◌∷◌, ◌++◌, length, get_or, drop, sym, refl, ap, ◌∙◌, append_assoc, arith, drop_more, Op, Nop, without_nops, Explained}
use Rattle.iloc_rules.proofs.Renamed.WithoutNops.{is_nop-true}
use Rattle.std.proofs.lemmas.List.Concat.{flat_map-cons}
use Rattle.iloc_explain.specs.Listing.{each_after, explained_lines}

pub nop_passed : (block : List Op) (i : ℕ) (d : Op) → i < length block → get_or block i d ≡ Nop
    → without_nops (drop (i + 1) block) ≡ without_nops (drop i block)
nop_passed block i d within is = sym (ap without_nops (drop_more block i d within ∙ ap (λ op. op ∷ drop (i + 1) block) is))

kept : (op : Op) (rest : List Op) → (op ≡ Nop → ⊥) → without_nops (op ∷ rest) ≡ op ∷ without_nops rest
kept op rest other = grind (arith, is_nop-true)

pub op_taken : (block : List Op) (i : ℕ) (d : Op) → i < length block → (get_or block i d ≡ Nop → ⊥)
    → without_nops (drop i block) ≡ get_or block i d ∷ without_nops (drop (i + 1) block)
op_taken block i d within other =
    ap without_nops (drop_more block i d within) ∙ kept (get_or block i d) (drop (i + 1) block) other

-- one more line
pub line_more : (head : List ℕ) (line : ℕ → Explained → Op → Op → List ℕ) (text new all : List ℕ) (j : ℕ)
    (explained : List Explained) (left rest renamed : List Op)
    (e : Explained) (op other : Op) → j < length explained → j < length renamed → e ≡ get_or explained j e
    → left ≡ op ∷ rest → text ++ each_after head (explained_lines line j (drop j explained) left (drop j renamed)) ≡ all
    → new ≡ text ++ (head ++ line j e op (get_or renamed j other))
    → new ++ each_after head (explained_lines line (j + 1) (drop (j + 1) explained) rest (drop (j + 1) renamed)) ≡ all
line_more head line text new all j explained left rest renamed e op other known there is taken so_far pushed =
    let after : List (List ℕ) = explained_lines line (j + 1) (drop (j + 1) explained) rest (drop (j + 1) renamed) in
    let own : List ℕ = line j e op (get_or renamed j other) in
    let first : drop j explained ≡ e ∷ drop (j + 1) explained =
    drop_more explained j e known ∙ ap (λ x. x ∷ drop (j + 1) explained) (sym is) in
    let second : drop j renamed ≡ get_or renamed j other ∷ drop (j + 1) renamed = drop_more renamed j other there in
    let lines : explained_lines line j (drop j explained) left (drop j renamed) ≡ own ∷ after =
    rw (first, second, taken) refl in
    let whole : each_after head (explained_lines line j (drop j explained) left (drop j renamed))
    ≡ (head ++ own) ++ each_after head after =
    ap (each_after head) lines ∙ flat_map-cons (λ l. head ++ l) own after in
    ap (λ xs. xs ++ each_after head after) pushed ∙ (append_assoc text (head ++ own) (each_after head after)
    ∙ (ap (λ xs. text ++ xs) (sym whole) ∙ so_far))

-- the parts of an explanation, pushed one after another
pub parts_pushed : (text lines cycles chain path first second third all : List ℕ) → first ≡ text ++ lines
    → second ≡ first ++ cycles → third ≡ second ++ chain → all ≡ third ++ path
    → all ≡ text ++ (lines ++ cycles ++ chain ++ path)
parts_pushed text lines cycles chain path first second third all by_lines by_cycles by_chain by_path =
    by_path ∙ rw (by_chain, by_cycles, by_lines) (simp append_assoc)
