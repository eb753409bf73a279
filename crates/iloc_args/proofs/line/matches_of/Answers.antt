use Rattle.iloc_args.proofs.Common.{◌≡◌, true, List, [], sym, refl, ap, ◌∙◌, subst, inl, inr, HasKind, IsAmong, subcommand_of, Text, App, HasMatchesOf, fault_of, is_simple, is_simple_and_free, kind_of, subcommand_rows_of, OutOfMemory, farm_app}
use Rattle.clap.proofs.OnLiterals.{clap_on_literals}
use Rattle.clap.specs.declared.error.Error.{Error}
use Rattle.clap.specs.declared.error.kind.ErrorKind.{ErrorKind}
use Rattle.clap.specs.declared.parser.matches.ArgMatches.{ArgMatches}
use Rattle.iloc_args.specs.Due.{IsAskedFor, IsDue, faults_in}
use Rattle.iloc_args.specs.Steps.Refusing.{IsFaultBy}
use Rattle.iloc_args.specs.declared.fault.LineFault.{LineFault}
use Rattle.iloc_args.specs.declared.fault.LineFault.TheVariants.{Help, Refused, NoMemory}
use Rattle.iloc_args.proofs.line.matches_of.Goals as goal

-- What the parser's two outcomes say of the faults in the words.
farm_is_free : is_simple_and_free farm_app ≡ true
unfolding clap_on_literals
farm_is_free = refl

farm_is_simple : is_simple farm_app ≡ true
unfolding clap_on_literals
farm_is_simple = refl

-- the matches of the command that the words name are those of the definition
met_rows : (a : App) (words : List Text) (m : ArgMatches) → a ≡ farm_app → HasMatchesOf a words m
    → subcommand_rows_of m ≡ subcommand_of farm_app words
met_rows a words m is h =
    (h (ap is_simple is ∙ farm_is_simple)).1 ∙ ap (λ (b : App). subcommand_of b words) is

-- the parser takes only words in which it finds no fault
taken_words : (a : App) (words : List Text) → a ≡ farm_app
    → (is_simple_and_free a ≡ true → fault_of a words ≡ []) → faults_in words ≡ []
unfolding faults_in
taken_words a words is h = ap (λ (b : App). fault_of b words) (sym is) ∙ h (ap is_simple_and_free is ∙ farm_is_free)

-- a text that was asked for is no want of memory
asked_is_no_want : (kind : ErrorKind) → IsAskedFor kind → kind ≡ OutOfMemory → ⊥
asked_is_no_want kind asked memory = elim asked [ inl help ↦ cc | inr version ↦ cc ]

-- the fault for an error of the parser is due to the words
refused_words : (a : App) (words : List Text) (e : Error) (f : LineFault) → a ≡ farm_app
    → (is_simple_and_free a ≡ true → HasKind (fault_of a words) e) → IsFaultBy (kind_of e) f
    → IsDue words f
unfolding faults_in
refused_words a words e f is h =
    go f (subst (λ (b : App). HasKind (fault_of b words) e) is (h (ap is_simple_and_free is ∙ farm_is_free)))
  where
    among : (f : LineFault) → HasKind (fault_of farm_app words) e → (kind_of e ≡ OutOfMemory → ⊥)
        → IsAmong (kind_of e) (fault_of farm_app words)
    among f has other = elim has [ inl memory ↦ absurd (other memory) | inr found ↦ found ]

    go : (f : LineFault) → HasKind (fault_of farm_app words) e → IsFaultBy (kind_of e) f → IsDue words f
    go (Help text) has by = (kind_of e, among (Help text) has (asked_is_no_want (kind_of e) by), by)
    go (Refused text) has by = (kind_of e, among (Refused text) has by.1, by.0)
    go NoMemory has by = tt
    go _ has by = absurd by

pub returns-in-Ok-clause-rows : goal.returns-in-Ok-clause-rows
returns-in-Ok-clause-rows g c =
    met_rows _ _ _ c.in_ok-farm_command.ensures.app c.in-Ok.ensures.matches

pub returns-in-Ok-clause-taken : goal.returns-in-Ok-clause-taken
returns-in-Ok-clause-taken g c =
    taken_words _ _ c.in_ok-farm_command.ensures.app c.in-Ok.ensures.kinds

pub returns-in_ok-of_parser-in-Err-clause-err : goal.returns-in_ok-of_parser-in-Err-clause-err
returns-in_ok-of_parser-in-Err-clause-err g c =
    refused_words _ _ c.in-Err.error _ c.in_ok-farm_command.ensures.app c.in-Err.ensures.kinds
    c.in_ok-of_parser-in-Err.ensures
