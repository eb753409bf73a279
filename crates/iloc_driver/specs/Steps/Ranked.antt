-- Numbers and words that are read one after another.
use Rattle.std.specs.Prelude.{ℕ, Bool, if◌then◌else◌, List, [], ◌∷◌, ◌++◌, not, Result, Ok, Err}
use Rattle.iloc_text.specs.Grammar.{is_blank}
use Rattle.iloc_driver.specs.declared.fault.NumbersFault.{NumbersFault}

-- what was read before, and the others; or the first fault
abbrev pub before_and : {X : Type 0} → List X → Result (List X) NumbersFault → Result (List X) NumbersFault
before_and done (Ok xs) = Ok (done ++ xs)
before_and done (Err fault) = Err fault

-- a text from its first byte on of which `p` doesn't hold
abbrev pub without : (ℕ → Bool) → List ℕ → List ℕ
without p [] = []
without p (c ∷ cs) = if p c then without p cs else c ∷ cs

abbrev pub is_no_blank : ℕ → Bool
is_no_blank c = not (is_blank c)
