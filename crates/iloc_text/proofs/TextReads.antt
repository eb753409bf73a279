-- What a reader has read of a text that comes piece by piece, piece after piece.
use Rattle.iloc_text.proofs.Common.{◌≡◌, ℕ, suc, ◌+◌, ◌-◌, ◌^◌, ◌<◌, ◌≤◌, min, true, false, ◌≢◌, ◌⊎◌, List, [], ◌∷◌, ◌++◌, length, get_or, take, drop, is_some, IfErr, ◌==◌, Some, None, Ok, Err, Option, Result, sym, refl, ap, ◌∙◌, subst, ap₂, subst₂, inl, inr, append_assoc, append-nil, arith, length-drop, take-append-drop, take_all, drop-cons, nat_tests, MAX_INPUT, Block, IsRefused, lines_of, BeginsLabelled, HasTaken, GoesOn, HasFault, StandsAt, answer_from, on_verdict, verdict, ReadFault, NoMemory}
use Rattle.iloc_text.specs.declared.stream.text_reader.TextReader.{TextReader}
use Rattle.iloc_text.proofs.Answer.{answer}
use Rattle.iloc_text.proofs.Reading.{answer_begins, refused}
use Rattle.iloc_text.proofs.Apart.{lines_of_both, answer_of_both}

-- whatever comes behind the text, its answer is that of the rest from line n on, where these blocks stand before it
abbrev pub Goes : List ℕ → List Block → ℕ → List ℕ → Type 0
Goes text blocks n rest = (more : List ℕ)
    → answer_from [] 1 (lines_of (text ++ more)) ≡ answer_from blocks n (lines_of (rest ++ more))

-- the piece ends the line that was kept, and more lines
lines_behind : (text rest piece front back : List ℕ) (blocks : List Block) (n : ℕ) → Goes text blocks n rest
    → piece ≡ front ++ 10 ∷ back → (more : List ℕ) → answer_from [] 1 (lines_of ((text ++ piece) ++ more))
    ≡ answer_from blocks n (lines_of (rest ++ front) ++ lines_of (back ++ more))
lines_behind text rest piece front back blocks n h e more =
    ap (λ t. answer_from [] 1 (lines_of t)) (append_assoc text piece more)
    ∙ h (piece ++ more)
    ∙ ap (λ t. answer_from blocks n (lines_of t))
    (ap (λ p. rest ++ (p ++ more)) e ∙ ap (λ t. rest ++ t) (append_assoc front (10 ∷ back) more)
    ∙ sym (append_assoc rest front (10 ∷ (back ++ more))))
    ∙ ap (answer_from blocks n) (lines_of_both (rest ++ front) (back ++ more))

pub read_further : (text rest piece front back : List ℕ) (blocks out : List Block) (n : ℕ) → Goes text blocks n rest
    → piece ≡ front ++ 10 ∷ back → answer_from blocks n (lines_of (rest ++ front)) ≡ Ok out
    → Goes (text ++ piece) out (length (lines_of (rest ++ front)) + n) back
read_further text rest piece front back blocks out n h e ok more = lines_behind text rest piece front back blocks n h e more
    ∙ answer_of_both blocks out n (lines_of (rest ++ front)) (lines_of (back ++ more)) ok

-- a fault stays, whatever lines come
fault_of_both : (blocks : List Block) (fault : ReadFault) (n : ℕ) (ls ms : List (List ℕ))
    → answer_from blocks n ls ≡ Err fault → answer_from blocks n (ls ++ ms) ≡ Err fault
fault_of_both blocks fault n [] ms e = cc
fault_of_both blocks fault n (l ∷ ls) ms e = by (verdict blocks l n) e (λ grown. fault_of_both grown fault (n + 1) ls ms)
  where
    by : (v : Result (List Block) ReadFault) → on_verdict n ls v ≡ Err fault
        → ((grown : List Block) → answer_from grown (n + 1) ls ≡ Err fault
        → answer_from grown (n + 1) (ls ++ ms) ≡ Err fault)
        → on_verdict n (ls ++ ms) v ≡ Err fault
    by (Ok grown) f rest = rest grown f
    by (Err bad) f rest = f

pub fault_further : (text rest piece front back : List ℕ) (blocks : List Block) (n : ℕ) (fault : ReadFault)
    → Goes text blocks n rest → piece ≡ front ++ 10 ∷ back
    → answer_from blocks n (lines_of (rest ++ front)) ≡ Err fault → HasFault (text ++ piece) fault
fault_further text rest piece front back blocks n fault h e bad more =
    lines_behind text rest piece front back blocks n h e more
    ∙ fault_of_both blocks fault n (lines_of (rest ++ front)) (lines_of (back ++ more)) bad

-- so it is where a call hands the fault on
pub err_further : {A : Type 0} (text rest piece front back : List ℕ) (blocks : List Block) (n : ℕ) (fault : ReadFault)
    (r : Result A ReadFault) → Goes text blocks n rest → piece ≡ front ++ 10 ∷ back
    → (fault ≢ NoMemory → answer_from blocks n (lines_of (rest ++ front)) ≡ Err fault) → r ≡ Err fault
    → IfErr r (λ f. f ≢ NoMemory → HasFault (text ++ piece) f)
err_further text rest piece front back blocks n fault r h e bad is =
    subst (λ x. IfErr x (λ f. f ≢ NoMemory → HasFault (text ++ piece) f)) (sym is)
    (λ memory. fault_further text rest piece front back blocks n fault h e (bad memory))

-- Readers

-- a reader that stands where another does
pub taken_as : {T : Type 0} (took : T → List Block → T → Type 0) (start : T) (a b : TextReader T) (blocks : List Block)
    → b.taker ≡ a.taker → b.open_block ≡ a.open_block → HasTaken took start a.taker a.open_block blocks
    → HasTaken took start b.taker b.open_block blocks
taken_as took start a b blocks taker opened = subst₂ (λ t o. HasTaken took start t o blocks) (sym taker) (sym opened)

pub goes_as : {T : Type 0} (took : T → List Block → T → Type 0) (start : T) (a b : TextReader T) (text : List ℕ)
    → b.taker ≡ a.taker → b.open_block ≡ a.open_block → b.number ≡ a.number → b.rest.items ≡ a.rest.items
    → GoesOn took start a text → GoesOn took start b text
goes_as took start a b text taker opened number rest goes = record {
  blocks = goes.blocks;
  taken = taken_as took start a b goes.blocks taker opened goes.taken;
  answer = λ more. goes.answer more
      ∙ ap₂ (λ n r. answer_from goes.blocks (n + 1) (lines_of (r ++ more))) (sym number) (sym rest);
}

-- a reader that has read what another has, and the piece behind it
pub goes_further : {T : Type 0} (took : T → List Block → T → Type 0) (start : T) (a b : TextReader T)
    (text piece front back : List ℕ) (out : List Block) → (goes : GoesOn took start a text) → piece ≡ front ++ 10 ∷ back
    → answer_from goes.blocks (a.number + 1) (lines_of (a.rest.items ++ front)) ≡ Ok out
    → HasTaken took start b.taker b.open_block out → b.number ≡ a.number + length (lines_of (a.rest.items ++ front))
    → b.rest.items ≡ back → GoesOn took start b (text ++ piece)
goes_further took start a b text piece front back out goes e ok taken number rest = record {
  blocks = out;
  taken = taken;
  answer = λ more.
      read_further text a.rest.items piece front back goes.blocks out (a.number + 1) goes.answer e ok more
      ∙ ap₂ (λ n r. answer_from out n (lines_of (r ++ more))) (omega (arith, number)) (sym rest);
}

-- without a fault the reading goes on behind the part and its line end
pub stands_behind : {T : Type 0} (took : T → List Block → T → Type 0) (start : T) (reader : TextReader T)
    (before part : List ℕ) → reader.fault ≡ None → GoesOn took start reader (before ++ (part ++ 10 ∷ []))
    → StandsAt reader.fault took start reader (before ++ part ++ 10 ∷ [])
stands_behind took start reader before part none goes = subst (λ fault. StandsAt fault took start reader (before ++ part ++ 10 ∷ [])) (sym none)
    (subst (GoesOn took start reader) (sym (append_assoc before part (10 ∷ []))) goes)

-- a part that opens the text, or a block behind these
pub opens_behind : (blocks : List Block) (part : List ℕ) (count number : ℕ) → length blocks ≡ count
    → ((count ≡ 0) × (number ≡ 0)) ⊎ BeginsLabelled part → ((length blocks ≡ 0) × (number + 1 ≡ 1)) ⊎ BeginsLabelled part
opens_behind blocks part count number e (inl first) = inl (e ∙ first.0, ap (λ n. n + 1) first.1)
opens_behind blocks part count number e (inr begins) = inr begins

-- At the end

pub answer_at_end : (text rest : List ℕ) (blocks : List Block) (n : ℕ) → length text ≤ MAX_INPUT
    → Goes text blocks n rest → answer text ≡ answer_from blocks n (lines_of rest)
answer_at_end text rest blocks n short h =
    answer_begins text short ∙ ap (λ t. answer_from [] 1 (lines_of t)) (sym (append-nil text)) ∙ h []
    ∙ ap (λ t. answer_from blocks n (lines_of t)) (append-nil rest)

pub refused_at_end : (text : List ℕ) (fault : ReadFault) → length text ≤ MAX_INPUT → HasFault text fault
    → IsRefused text fault
refused_at_end text fault short h = refused text _ fault (answer_begins text short)
    (ap (λ t. answer_from [] 1 (lines_of t)) (sym (append-nil text)) ∙ h [])

-- Pieces

-- a piece with a line end at this place
pub split_at : (piece : List ℕ) (end : ℕ) → end < length piece → (get_or piece end 0 == 10) ≡ true
    → piece ≡ take end piece ++ 10 ∷ drop (end + 1) piece
split_at piece end inside is = sym (take-append-drop end piece)
    ∙ ap (λ d. take end piece ++ d)
    (drop-cons piece end 0 inside ∙ ap (λ c. c ∷ drop (suc end) piece) ten ∙ ap (λ n. 10 ∷ drop n piece) one_more)
  where
    ten : get_or piece end 0 ≡ 10
    ten = grind (arith, nat_tests)

    one_more : suc end ≡ end + 1
    one_more = omega arith

-- a count that stops at 2^64 - 1 tells a short text
pub short_by_count : (n m : ℕ) → n ≡ min m (2 ^ 64 - 1) → n ≤ MAX_INPUT → m ≤ MAX_INPUT
short_by_count n m e le = grind (arith, nat_tests)

pub count_further : (counted n more sum : ℕ) → sum ≡ min (counted + more) (2 ^ 64 - 1) → counted ≡ min n (2 ^ 64 - 1)
    → sum ≡ min (n + more) (2 ^ 64 - 1)
count_further counted n more sum e f = grind (arith, nat_tests)

pub none_where_not_some : {A : Type 0} (o : Option A) → is_some o ≡ false → o ≡ None
none_where_not_some None e = refl
none_where_not_some (Some x) e = cc

-- a text and a piece in two
pub joined : (text piece : List ℕ) (n : ℕ) → (text ++ take n piece) ++ take (length piece - n) (drop n piece) ≡ text ++ piece
joined text piece n = append_assoc text (take n piece) (take (length piece - n) (drop n piece))
    ∙ ap (λ back. text ++ (take n piece ++ back)) (take_all (length piece - n) (drop n piece) (omega (arith, length-drop n piece)))
    ∙ ap (λ all. text ++ all) (take-append-drop n piece)

-- a fault of the front is one of the whole
pub fault_longer : (text front back piece : List ℕ) (fault : ReadFault) → front ++ back ≡ piece → HasFault (text ++ front) fault
    → HasFault (text ++ piece) fault
fault_longer text front back piece fault e bad = λ more.
    ap (λ all. answer_from [] 1 (lines_of ((text ++ all) ++ more))) (sym e)
    ∙ ap (λ all. answer_from [] 1 (lines_of all))
    (append_assoc text (front ++ back) more ∙ ap (λ t. text ++ t) (append_assoc front back more)
    ∙ sym (append_assoc text front (back ++ more)))
    ∙ bad (back ++ more)
