-- What is left of a text after a write.
use Rattle.iloc_listing.proofs.Common.{◌≡◌, ℕ, ◌+◌, ◌-◌, ◌<◌, List, ◌++◌, length, get_or, take, drop, OnErr, Ok, Err, Option, Result, append_assoc, arith, length-drop, take-append-drop, take_all, drop_more, Appends, flat_map, WritesFront}
use Rattle.std.proofs.lemmas.List.Concat.{flat_map-cons}

-- the bytes taken join the front, and the others are left
pub moves_on : (text front rest : List ℕ) (count n : ℕ) → text ≡ front ++ rest → n ≡ length rest - count
    → text ≡ (front ++ take count rest) ++ take n (drop count rest)
moves_on text front rest count n whole left = grind (arith, append_assoc, length-drop, take-append-drop, take_all)

-- a front of what stands behind a first part, which was written, is a front of the whole
pub front_behind : (start old new : Option (List ℕ)) (first part after whole : List ℕ) → Appends start old first
    → WritesFront old new part → first ++ (part ++ after) ≡ whole → WritesFront start new whole
front_behind start old new first part after whole before behind all = grind (arith, append_assoc)

-- a front of a part is a front of what begins with it
pub front_before : (old new : Option (List ℕ)) (part after whole : List ℕ) → WritesFront old new part
    → part ++ after ≡ whole → WritesFront old new whole
front_before old new part after whole failed all = grind (arith, append_assoc)

-- what is left of entries before one of them and after it
pub next_entry : {E : Type 0} (text_of : E → List ℕ) (entries : List E) (i : ℕ) (entry : E) (ending : List ℕ)
    → i < length entries → entry ≡ get_or entries i entry
    → flat_map text_of (drop i entries) ++ ending ≡ text_of entry ++ (flat_map text_of (drop (i + 1) entries) ++ ending)
next_entry text_of entries i entry ending lt here = grind (arith, append_assoc, drop_more, flat_map-cons)

pub on_err : {T E : Type 0} {P : Type 0} (result : Result T E) → P → OnErr result P
on_err (Ok x) p = tt
on_err (Err e) p = p
