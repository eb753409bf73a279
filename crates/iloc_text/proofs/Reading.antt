-- What the reader has read, from line to line.
use Rattle.iloc_text.proofs.Common.{◌≡◌, ℕ, zero, suc, ◌+◌, ◌<◌, ◌≤◌, true, ◌≢◌, List, [], ◌∷◌, length, get_or, IfErr, Some, None, Ok, Err, IsUtf8, Option, Result, sym, refl, ap, ◌∙◌, subst, arith, Bor, nat_tests, AllByRecursion, MAX_INPUT, Block, Op, Denotes, IsRefused, IsName, Reads, is_word_byte, lines_left, lines_of, limited, with_line, FirstIs, FirstLine, Leaves, answer_from, on_verdict, verdict, ReadFault, BadLine, NoMemory, NumberTooLarge}
use Rattle.std.specs.Option.{ForSome}
use Rattle.std.proofs.lemmas.Str.{IsUtf8-from_ascii}
use Rattle.iloc_text.specs.declared.line.ParseFault.TheVariants as faults
use Rattle.iloc_text.specs.Files.{block_names, file_of}
use Rattle.iloc_text.proofs.Parts.{all-Before}
use Rattle.iloc_text.proofs.Answer.{answer, answer_short, reads_verdict, bad_verdict, large_verdict}
use Rattle.iloc_text.proofs.Every.{Answers, answers}

-- The text of a label

word_byte_is_ascii : (c : ℕ) → is_word_byte c ≡ true → c < 128
word_byte_is_ascii c h = grind (arith, nat_tests)

word_is_ascii : (bytes : List ℕ) → AllByRecursion (λ c. is_word_byte c ≡ true) bytes → (i : ℕ) → get_or bytes i 0 < 128
word_is_ascii [] h i = omega arith
word_is_ascii (c ∷ cs) h zero = word_byte_is_ascii c h.0
word_is_ascii (c ∷ cs) h (suc i) = word_is_ascii cs h.1 i

name_is_utf8 : (name : List ℕ) → IsName name → IsUtf8 name
name_is_utf8 [] h = absurd h
name_is_utf8 (c ∷ cs) h = IsUtf8-from_ascii (c ∷ cs) (word_is_ascii (c ∷ cs) (grind (arith, nat_tests), h.1))

pub label_is_utf8 : (line : List ℕ) (label : Option (List ℕ)) (op : Option Op) → Reads line label op
    → ForSome label IsUtf8
label_is_utf8 line None op r = λ x e. cc
label_is_utf8 line (Some name) op r = grind (arith, all-Before, name_is_utf8)

-- From line to line

pub nothing_read : file_of [] ≡ []
unfolding file_of block_names
nothing_read = refl

pub answer_begins : (input : List ℕ) → length input ≤ MAX_INPUT → answer input ≡ answer_from [] 1 (lines_of input)
answer_begins input short = answer_short input short ∙ ap (λ bs. answer_from bs 1 (lines_of input)) nothing_read

-- with these blocks on the lines before, the answer of the whole hangs on the line at hand
answer_at : (whole : Result (List Block) ReadFault) (blocks : List Block) (n : ℕ) (text : List ℕ) {line : List ℕ}
    {more : List (List ℕ)} → whole ≡ answer_from blocks n (lines_of text) → lines_of text ≡ line ∷ more
    → whole ≡ on_verdict n more (verdict blocks line n)
answer_at whole blocks n text e split = e ∙ ap (answer_from blocks n) split

pub answer_read : (whole : Result (List Block) ReadFault) (blocks : List Block) (n : ℕ) {text : List ℕ}
    {after : Option (Bor (List ℕ))} (label : Option (List ℕ)) (op : Option Op)
    → whole ≡ answer_from blocks n (lines_of text) → FirstIs (λ line. Reads line label op) text after
    → whole ≡ on_verdict n (lines_left after) (limited (with_line label op blocks) n)
answer_read whole blocks n {text} {after} label op e first = answer_at whole blocks n text e first.split
    ∙ ap (on_verdict n (lines_left after)) (reads_verdict blocks first.line n label op first.is)

pub bad_answer : (whole : Result (List Block) ReadFault) (blocks : List Block) (n : ℕ) {text : List ℕ}
    → whole ≡ answer_from blocks n (lines_of text) → FirstLine text (Err faults.Bad) → whole ≡ Err (BadLine n)
bad_answer whole blocks n {text} e bad = answer_at whole blocks n text e bad.1.split
    ∙ ap (on_verdict n (lines_left bad.0)) (bad_verdict blocks bad.1.line n bad.1.is)

pub large_answer : (whole : Result (List Block) ReadFault) (blocks : List Block) (n : ℕ) {text : List ℕ}
    → whole ≡ answer_from blocks n (lines_of text) → FirstLine text (Err faults.NumberTooLarge)
    → whole ≡ Err (NumberTooLarge n)
large_answer whole blocks n {text} e large = answer_at whole blocks n text e large.1.split
    ∙ ap (on_verdict n (lines_left large.0)) (large_verdict blocks large.1.line n large.1.is.0 large.1.is.1)

-- what is left of the lines that were left is left of the whole
pub then_leaves : (count further : ℕ) (lines : List (List ℕ)) {Stand Later : List Block → Type 0}
    {whole : Result (List Block) ReadFault} {rest : Option (Bor (List ℕ))} {text : Bor (List ℕ)}
    → Leaves Stand whole count (lines_left rest) → rest ≡ Some text
    → ((blocks : List Block) → Stand blocks
    → Leaves Later (answer_from blocks (count + 1) (lines_of text.now)) further lines) → Leaves Later whole further lines
then_leaves count further lines left some read =
    let later = read left.0 left.1 in (
      later.0,
      later.1,
      left.2 ∙ ap (λ rest. answer_from left.0 (count + 1) (lines_left rest)) some ∙ later.2,
    )

-- the fault that a call hands on
pub err_answer : (whole : Result (List Block) ReadFault) (n : ℕ) (more : List (List ℕ)) (v : Result (List Block) ReadFault)
    (fault : ReadFault) → whole ≡ on_verdict n more v → (fault ≢ NoMemory → v ≡ Err fault) → fault ≢ NoMemory
    → whole ≡ Err fault
err_answer whole n more v fault e bad memory = e ∙ ap (on_verdict n more) (bad memory)

-- the refusal of a text with this answer
pub refused : (input : List ℕ) (whole : Result (List Block) ReadFault) (fault : ReadFault) → answer input ≡ whole
    → whole ≡ Err fault → IsRefused input fault
refused input whole fault e bad = subst (Answers input) (e ∙ bad) (answers input)

-- the refusal of a text, where a call hands a fault on
pub err_refused : {A : Type 0} (input : List ℕ) (whole : Result (List Block) ReadFault)
    (fault : ReadFault) (r : Result A ReadFault) → answer input ≡ whole → (fault ≢ NoMemory → whole ≡ Err fault)
    → r ≡ Err fault → IfErr r (λ f. f ≢ NoMemory → IsRefused input f)
err_refused input whole fault r e bad is = subst (λ x. IfErr x (λ f. f ≢ NoMemory → IsRefused input f)) (sym is)
    (λ memory. refused input whole fault e (bad memory))

-- the file of one
pub denoted : (input : List ℕ) (whole : Result (List Block) ReadFault) (blocks : List Block) → answer input ≡ whole
    → whole ≡ Ok blocks → Denotes input blocks
denoted input whole blocks e good = subst (Answers input) (e ∙ good) (answers input)
