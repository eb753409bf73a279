-- Where a walk may stop: the parser's own command `help` is a fault, so a walk without one stops elsewhere.
use Rattle.iloc_args.proofs.Common.{◌≡◌, ℕ, false, cond, not, ◌&&◌, List, [], ◌∷◌, IfSome, None, codes, fold, Option, bytes_eq, arith, turn_fault, walk_fault, Shape, Held, Names, Outcome, Rule, Step, Text, Waiting, Walk, after_flag, after_step, idle, long_or_other, plain_word, short_or_plain, subcommand, subcommand_or_other, walked, DisplayHelp, InvalidSubcommand}
use Rattle.iloc_args.proofs.Rows.{both_empty}

-- the walk has not stopped, or at a command of another name
abbrev pub IsElsewhere : Option (Text × List Text) → Type 0
IsElsewhere stop = IfSome stop (λ p. bytes_eq p.0 (codes "help") ≡ false)

-- the step names no command
abbrev IsWithin : Step → Type 0
IsWithin (subcommand name) = ⊥
IsWithin _ = Unit {0}

plain_within : (c : List Rule) (waiting : Waiting) (word : Text) (h : Held) → IsWithin (plain_word c waiting word h).1
plain_within c idle word h = tt
plain_within c _ word h = tt

flag_within : (c : List Rule) (waiting : Waiting) (word : Text) (h : Held) (met : Outcome)
    → IsWithin (after_flag c waiting word h met).1
flag_within c waiting word h met = grind (arith, plain_within)

short_within : (c : List Rule) (waiting : Waiting) (word : Text) (flags : Option Text) (h : Held)
    → IsWithin (short_or_plain c waiting word flags h).1
short_within c waiting word flags h = grind (arith, flag_within, plain_within)

long_within : (c : List Rule) (waiting : Waiting) (word : Text) (long : Option (Text × Option Text)) (h : Held)
    → IsWithin (long_or_other c waiting word long h).1
long_within c waiting word long h = grind (arith, flag_within, short_within)

other_within : (c : List Rule) (waiting : Waiting) (at : ℕ) (word : Text) (h : Held)
    → IsWithin (subcommand_or_other c None waiting at word h).1
other_within c waiting at word h = grind (arith, long_within)

-- after such a step the walk has not stopped
goes_on : (c : List Rule) (word : Text) (w : Walk) (h : Held) (step : Step) → IsWithin step
    → IsElsewhere (after_step c word (record w { stopped = None }) h step).stopped
goes_on c word w h step within = grind arith

module _ (s : Shape) (names : Names) (has_help : s.disable_help_subcommand ≡ false) where
  -- a command that is met without a fault has another name
  other_name : (name : Text)
      → cond (bytes_eq name (codes "help") && not s.disable_help_subcommand)
      (DisplayHelp ∷ InvalidSubcommand ∷ []) [] ≡ []
      → bytes_eq name (codes "help") ≡ false
  other_name name e = grind (arith, codes)

  turn_elsewhere : (w : Walk) (word : Text) → IsElsewhere w.stopped → turn_fault s names w word ≡ []
      → IsElsewhere (walked s.rules names w word).stopped
  unfolding walked
  turn_elsewhere w word elsewhere e = grind (arith, both_empty, goes_on, other_name, other_within)

  pub walk_elsewhere : (words : List Text) (w : Walk) → IsElsewhere w.stopped → walk_fault s names w words ≡ []
      → IsElsewhere (fold (walked s.rules names) w words).stopped
  unfolding walk_fault
  walk_elsewhere [] w elsewhere e = elsewhere
  walk_elsewhere (word ∷ rest) w elsewhere e =
      let parts = both_empty (turn_fault s names w word) (walk_fault s names (walked s.rules names w word) rest) e in
      walk_elsewhere rest (walked s.rules names w word) (turn_elsewhere w word elsewhere parts.0) parts.1
