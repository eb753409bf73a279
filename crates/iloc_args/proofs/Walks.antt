-- The walk over the words of a command: where the parser finds no fault, the rows that it makes are kept.
use Rattle.iloc_args.proofs.Common.{◌≡◌, ℕ, zero, suc, Bool, true, false, cond, List, [], ◌∷◌, length, drop, is_some, slice_get, Some, None, fold, Option, chars, encode_utf8, refl, arith, option_map_or, bundle_fault, bundle_step_fault, flag_word_fault, flags_fault, long_fault, option_fault, other_fault, positional_fault, react_fault, short_fault, step_fault, stray_fault, turn_fault, walk_fault, word_fault, Kinds, or_else, short_of, Shape, Held, Outcome, Rule, Step, Text, Waiting, Walk, after_flag, after_step, arg_by_index, arg_by_long, arg_by_short, attached_value, bundle_met, bundle_step, done, flag_met, idle, long_met, long_or_other, option, option_met, plain_word, positional, reacted, short_met, short_or_plain, subcommand_or_other, takes_values, to_positional, value, walked, word_met, TooManyValues}
use Rattle.iloc_args.proofs.Rows.{AllKept, both_empty}
use Rattle.iloc_args.proofs.Uses.{AllOurs, IsOurs, found_ours, settled_kept, use_kept}

-- what the walk keeps between two words
pub record IsHeld (rules : List Rule) (h : Held) : Type 0 where
  pub rows : AllKept rules h.rows
  pub skip : h.skip ≡ 0

module _ (s : Shape) (ours : AllOurs s.rules) where
  reacted_kept : (a : Rule) (values : List Text) (h : Held) → IsOurs s.rules a → IsHeld s.rules h
      → react_fault s.rules s.args_override_self a values h ≡ [] → IsHeld s.rules (reacted s.rules a values h)
  reacted_kept a values h own held e = grind (arith, both_empty, settled_kept, use_kept)

  -- ---- an option or a flag

  option_kept : (a : Rule) (v : Option Text) (h : Held) → IsOurs s.rules a → IsHeld s.rules h
      → option_fault s.rules s.args_override_self a v h ≡ [] → IsHeld s.rules (option_met s.rules a v h).0
  option_kept a (Some v) h own held e = reacted_kept a (v ∷ []) h own held e
  option_kept a None h own held e = grind (arith, settled_kept)

  long_kept : (o : Option Rule) (v : Option Text) (h : Held) → ((a : Rule) → o ≡ Some a → IsOurs s.rules a)
      → IsHeld s.rules h
      → long_fault s.rules s.args_override_self o v h ≡ [] → IsHeld s.rules (long_met s.rules o v h).0
  long_kept None v h own held e = held
  long_kept (Some a) v h own held e = go (takes_values a) v e
    where
      go : (b : Bool) (v : Option Text)
          → cond b (option_fault s.rules s.args_override_self a v h)
          (cond (is_some v) (TooManyValues ∷ []) (react_fault s.rules s.args_override_self a [] h)) ≡ []
          → IsHeld s.rules (cond b (option_met s.rules a v h) (flag_met s.rules a v h)).0
      go true v e = option_kept a v h (own a refl) held e
      go false (Some v) e = held
      go false None e = reacted_kept a [] h (own a refl) held e

  short_kept : (o : Option Rule) (rest : Text) (h : Held) (after : Held → Kinds) (then : Held → Held × Outcome)
      → ((a : Rule) → o ≡ Some a → IsOurs s.rules a) → IsHeld s.rules h
      → ((x : Held) → IsHeld s.rules x → after x ≡ [] → IsHeld s.rules (then x).0)
      → short_fault s.rules s.args_override_self o rest h after ≡ []
      → IsHeld s.rules (short_met s.rules o rest h then).0
  short_kept None rest h after then own held later e = held
  short_kept (Some a) rest h after then own held later e = go (takes_values a) e
    where
      go : (b : Bool)
          → cond b (option_fault s.rules s.args_override_self a (attached_value rest) h)
          (or_else (react_fault s.rules s.args_override_self a [] h) (after (reacted s.rules a [] h))) ≡ []
          → IsHeld s.rules (cond b (option_met s.rules a (attached_value rest) h) (then (reacted s.rules a [] h))).0
      go true e = option_kept a (attached_value rest) h (own a refl) held e
      go false e =
          let parts = both_empty (react_fault s.rules s.args_override_self a [] h) (after (reacted s.rules a [] h)) e in
          later (reacted s.rules a [] h) (reacted_kept a [] h (own a refl) held parts.0) parts.1

  bundle_kept : (n : ℕ) (flags : Text) (so_far : Outcome) (h : Held) → IsHeld s.rules h
      → flags_fault s.rules s.args_override_self n flags 0 h ≡ []
      → IsHeld s.rules (bundle_met s.rules n flags 0 so_far h).0
  unfolding flags_fault bundle_met
  bundle_kept zero flags so_far h held e = held
  bundle_kept (suc n) flags so_far h held e =
      go (slice_get (chars flags) 0) (λ rest x xs none. bundle_kept n rest done x xs none) e
    where
      go : (c : Option ℕ)
          → ((rest : Text) (x : Held) → IsHeld s.rules x → flags_fault s.rules s.args_override_self n rest 0 x ≡ []
          → IsHeld s.rules (bundle_met s.rules n rest 0 done x).0)
          → bundle_step_fault s.rules s.args_override_self c flags 0 h (flags_fault s.rules s.args_override_self n) ≡ []
          → IsHeld s.rules (bundle_step s.rules c flags 0 so_far h (bundle_met s.rules n)).0
      go None later e = held
      go (Some c) later e =
          let rest = drop (length (encode_utf8 c)) flags in
          short_kept (arg_by_short s.rules c) rest h (flags_fault s.rules s.args_override_self n rest 0)
          (bundle_met s.rules n rest 0 done)
          (λ a is. found_ours s.rules _ s.rules a ours is) held (later rest) e

  -- ---- a word

  plain_kept : (waiting : Waiting) (word : Text) (h : Held) → IsHeld s.rules h
      → IsHeld s.rules (plain_word s.rules waiting word h).0
  plain_kept waiting word h held = grind arith

  flag_kept : (waiting : Waiting) (word : Text) (h : Held) (met : Outcome) → IsHeld s.rules h
      → IsHeld s.rules (after_flag s.rules waiting word h met).0
  flag_kept waiting word h met held = grind (arith, plain_kept)

  short_word_kept : (waiting : Waiting) (word : Text) (flags : Option Text) (h : Held) → IsHeld s.rules h
      → option_map_or (λ f. bundle_fault s.rules s.args_override_self f h) flags [] ≡ []
      → IsHeld s.rules (short_or_plain s.rules waiting word flags h).0
  short_word_kept waiting word flags h held e = grind (arith, bundle_kept, flag_kept, plain_kept)

  flag_word_kept : (waiting : Waiting) (word : Text) (long : Option (Text × Option Text)) (h : Held) → IsHeld s.rules h
      → flag_word_fault s.rules s.args_override_self long word h ≡ []
      → IsHeld s.rules (long_or_other s.rules waiting word long h).0
  flag_word_kept waiting word None h held e = short_word_kept waiting word (short_of word) h held e
  flag_word_kept waiting word (Some p) h held e =
      let met = long_met s.rules (arg_by_long s.rules p.0) p.1 h in
      flag_kept waiting word met.0 met.1
      (long_kept (arg_by_long s.rules p.0) p.1 h (λ a is. found_ours s.rules _ s.rules a ours is) held e)

  other_kept : (waiting : Waiting) (at : ℕ) (word : Text) (h : Held) → IsHeld s.rules h → other_fault s None word h ≡ []
      → IsHeld s.rules (subcommand_or_other s.rules None waiting at word h).0
  other_kept waiting at word h held e = grind (arith, flag_word_kept)

  word_kept : (is_trailing : Bool) (waiting : Waiting) (at : ℕ) (word : Text) (h : Held) → IsHeld s.rules h
      → word_fault s [] is_trailing waiting word h ≡ []
      → IsHeld s.rules (word_met s.rules [] is_trailing waiting at word h).0
  word_kept true waiting at word h held e = held
  word_kept false idle at word h held e = other_kept idle at word h held e
  word_kept false positional at word h held e = other_kept positional at word h held e
  word_kept false (option id) at word h held e = other_kept (option id) at word h held e

  -- ---- a word of a positional

  positional_kept : (o : Option Rule) (word : Text) (w : Walk) (h : Held) → IsHeld s.rules h
      → option_map_or (λ a. positional_fault s.rules s.args_override_self a h) o (stray_fault s) ≡ []
      → IsHeld s.rules (to_positional s.rules o word w h).held
  positional_kept o word w h held e = grind (arith, settled_kept)

  step_kept : (word : Text) (w : Walk) (h : Held) (step : Step) → IsHeld s.rules h
      → step_fault s w.position h step ≡ [] → IsHeld s.rules (after_step s.rules word w h step).held
  step_kept word w h value held e = positional_kept (arg_by_index s.rules w.position) word w h held e
  step_kept word w h _ held e = held

  -- ---- the walk

  turn_kept : (w : Walk) (word : Text) → IsHeld s.rules w.held → turn_fault s [] w word ≡ []
      → IsHeld s.rules (walked s.rules [] w word).held
  unfolding walked
  turn_kept w word held e = grind (arith, both_empty, step_kept, word_kept)

  pub walk_kept : (words : List Text) (w : Walk) → IsHeld s.rules w.held → walk_fault s [] w words ≡ []
      → IsHeld s.rules (fold (walked s.rules []) w words).held
  unfolding walk_fault
  walk_kept [] w held e = held
  walk_kept (word ∷ rest) w held e =
      let parts = both_empty (turn_fault s [] w word) (walk_fault s [] (walked s.rules [] w word) rest) e in
      walk_kept rest (walked s.rules [] w word) (turn_kept w word held parts.0) parts.1
