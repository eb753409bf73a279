-- Parts of a text that are read apart.
use Rattle.iloc_text.proofs.Common.{◌≡◌, ℕ, ◌≢◌, List, [], ◌∷◌, ◌++◌, IfErr, Err, Result, flat_map, sym, ap, ◌∙◌, subst, append_assoc, append-nil, arith, IsRefused, has_copied, HasBegun, HasCome, ended, HasRead, ReadFault, NoMemory}
use Rattle.iloc_text.specs.declared.reader.copies.Copies.{Copies}
use Rattle.iloc_text.specs.declared.stream.parts.PartedText.{PartedText}

ended_all : (parts : List (List ℕ)) (part : List ℕ)
    → flat_map ended (parts ++ part ∷ []) ≡ flat_map ended parts ++ ended part
ended_all [] part = append-nil (ended part)
ended_all (p ∷ ps) part = ap (λ rest. ended p ++ rest) (ended_all ps part)
    ∙ sym (append_assoc (ended p) (flat_map ended ps) (ended part))

-- what the reader reads of a part, whatever it has read
abbrev pub ReadsPart : {P : Type 0} → PartedText P → PartedText P → List ℕ → Type 0
ReadsPart old new part = (start : Copies) (done : List ℕ) → HasRead has_copied start old.reader done
    → HasRead has_copied start new.reader (done ++ part ++ 10 ∷ [])

-- the first part is taken
pub first_taken : {P : Type 0} (texts : P → List (List ℕ)) (old new : PartedText P) (part text : List ℕ)
    → texts old.readers ≡ part ∷ texts new.readers → ReadsPart old new part → HasBegun texts old text
    → HasBegun texts new text
first_taken texts old new part text first reads begun = record {
  start = begun.start;
  none = begun.none;
  done = begun.done ++ part ++ 10 ∷ [];
  read = reads begun.start begun.done begun.read;
  whole = begun.whole ∙ ap (λ ps. begun.done ++ flat_map ended ps) first
      ∙ sym (append_assoc begun.done (part ++ 10 ∷ []) (flat_map ended (texts new.readers)))
      ∙ ap (λ front. front ++ flat_map ended (texts new.readers)) (sym (append_assoc begun.done part (10 ∷ [])));
}

-- one more is being read
pub one_started : {P : Type 0} (texts : P → List (List ℕ)) (old new : PartedText P) (part text : List ℕ)
    → new.reader ≡ old.reader → texts new.readers ≡ texts old.readers ++ part ∷ [] → HasBegun texts old text
    → HasBegun texts new (text ++ part ++ 10 ∷ [])
one_started texts old new part text kept more begun = record {
  start = begun.start;
  none = begun.none;
  done = begun.done;
  read = subst (λ r. HasRead has_copied begun.start r begun.done) (sym kept) begun.read;
  whole = append_assoc text part (10 ∷ [])
      ∙ ap (λ front. front ++ ended part) begun.whole
      ∙ append_assoc begun.done (flat_map ended (texts old.readers)) (ended part)
      ∙ ap (λ rest. begun.done ++ rest) (sym (ended_all (texts old.readers) part) ∙ ap (flat_map ended) (sym more));
}

-- the same where the readers read the same
pub begun_as : {P : Type 0} (texts : P → List (List ℕ)) (old new : PartedText P) (text : List ℕ)
    → new.reader ≡ old.reader → texts new.readers ≡ texts old.readers → HasBegun texts old text → HasBegun texts new text
begun_as texts old new text kept same begun = record {
  start = begun.start;
  none = begun.none;
  done = begun.done;
  read = subst (λ r. HasRead has_copied begun.start r begun.done) (sym kept) begun.read;
  whole = begun.whole ∙ ap (λ ps. begun.done ++ flat_map ended ps) (sym same);
}

-- and where a piece more has come
pub come_more : {P : Type 0} (texts : P → List (List ℕ)) (old new : PartedText P) (text piece : List ℕ)
    → new.reader ≡ old.reader → texts new.readers ≡ texts old.readers → new.rest.items ≡ old.rest.items ++ piece
    → HasCome texts old text → HasCome texts new (text ++ piece)
come_more texts old new text piece kept same more come = record {
  front = come.front;
  begun = begun_as texts old new come.front kept same come.begun;
  whole = ap (λ t. t ++ piece) come.whole ∙ append_assoc come.front old.rest.items piece
      ∙ ap (λ rest. come.front ++ rest) (sym more);
}

-- where no part is being read, all is read
pub none_left : {P : Type 0} (texts : P → List (List ℕ)) (parted : PartedText P) (text : List ℕ)
    → texts parted.readers ≡ [] → (begun : HasBegun texts parted text) → text ≡ begun.done
none_left texts parted text none begun =
    begun.whole ∙ ap (λ ps. begun.done ++ flat_map ended ps) none ∙ append-nil begun.done

-- one is taken where none is being read
pub one_taken : {P : Type 0} (texts : P → List (List ℕ)) (old new : PartedText P) (part given text : List ℕ) → part ≡ given
    → texts old.readers ≡ [] → texts new.readers ≡ [] → ReadsPart old new part → HasBegun texts old text
    → HasBegun texts new (text ++ given ++ 10 ∷ [])
one_taken texts old new part given text same none none' reads begun = record {
  start = begun.start;
  none = begun.none;
  done = begun.done ++ part ++ 10 ∷ [];
  read = reads begun.start begun.done begun.read;
  whole = ap (λ p. text ++ p ++ 10 ∷ []) (sym same)
      ∙ ap (λ front. front ++ part ++ 10 ∷ []) (none_left texts old text none begun)
      ∙ sym (ap (λ ps. begun.done ++ part ++ 10 ∷ [] ++ flat_map ended ps) none' ∙ append-nil _);
}

-- a part is cut off the rest
pub cut_off : {P : Type 0} (texts : P → List (List ℕ)) (old : PartedText P) (text part back : List ℕ)
    (come : HasCome texts old text) → old.rest.items ≡ part ++ 10 ∷ back
    → text ≡ come.front ++ part ++ 10 ∷ [] ++ back
cut_off texts old text part back come falls = grind (arith, append_assoc)

-- a refusal that is handed on is that of the same text
pub err_as : {A : Type 0} (text read : List ℕ) (fault : ReadFault) (r : Result A ReadFault) → text ≡ read
    → (fault ≢ NoMemory → IsRefused read fault) → r ≡ Err fault → IfErr r (λ f. f ≢ NoMemory → IsRefused text f)
err_as text read fault r same refused is = grind arith
