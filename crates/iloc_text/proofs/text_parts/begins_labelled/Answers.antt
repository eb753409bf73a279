use Rattle.iloc_text.proofs.Common.{◌≡◌, ℕ, true, List, is_some, Some, None, Option, option_map, sym, refl, ap, ◌∙◌, Bor, Reads, lines_left, BeginsLabelled, FirstIs, label_of}
use Rattle.iloc_text.specs.declared.line.Line.{Line}
use Rattle.iloc_text.proofs.Splitting.{lines_are}
use Rattle.iloc_text.proofs.text_parts.begins_labelled.Goals as goal

-- How a text falls into parts.

-- a first line that is read with a label
labelled_first : (text : List ℕ) (line : Line) (after : Option (Bor (List ℕ)))
    → FirstIs (λ bytes. Reads bytes (label_of line) line.op) text after → is_some line.label ≡ true
    → BeginsLabelled text
labelled_first text line after first some = by line.label refl
  where
    by : (label : Option (Bor (List ℕ))) → line.label ≡ label → BeginsLabelled text
    by None e = cc
    by (Some name) e = record {
      line = first.line;
      more = lines_left after;
      are_lines = rw (← first.split) (lines_are text);
      name = name.now;
      op = line.op;
      reads = rw (ap (option_map (λ (n : Bor (List ℕ)). n.now)) e) at first.is;
    }

pub returns-in-Some : goal.returns-in-Some
returns-in-Some c = λ some.
    labelled_first c.args.text.now c.in-Some.line c.in-Some.field-0-1 c.in-Some.ensures (sym c.is_some.ensures ∙ some)
