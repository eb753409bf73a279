-- What one pass finds is the first line of the text.
use Rattle.iloc_text.proofs.Common.{◌≡◌, ℕ, ◌-◌, ◌≤◌, true, List, [], ◌∷◌, ◌++◌, length, get_or, take, drop, Some, None, Option, sym, refl, ap, ◌∙◌, subst, arith, take_all, Bor, onto_first, opcode_text, Opcode, Op, HasNoLineEnd, Blanks, IsWithinLimit, OptionalComment, OptionalLabel, Reads, ReadsWidely, ◌⋅◌, lines_left, lines_of, FirstBody, FirstIs, after_blanks, called_at, is_within, is_within_limit}
use Rattle.iloc_text.proofs.Parts.{Before}
use Rattle.iloc_text.proofs.Tokens.{blanks_read}
use Rattle.iloc_text.proofs.Operations.{called_finds}
use Rattle.iloc_text.proofs.Labels.{no_label}
use Rattle.iloc_text.proofs.Caps.{capped-within, within_limit}
use Rattle.iloc_text.proofs.Splitting.{no_line_end}
use Rattle.iloc_text.proofs.InLines.{IsInside, blanks_inside, optional_label_inside, operation_inside}

-- what has no line end lengthens the first line of what stands behind it
lines_behind : (front rest first : List ℕ) (more : List (List ℕ)) → HasNoLineEnd front → lines_of rest ≡ first ∷ more
    → lines_of (front ++ rest) ≡ (front ++ first) ∷ more
lines_behind [] rest first more h e = e
lines_behind (c ∷ cs) rest first more h e = rw (no_line_end c h.0, lines_behind cs rest first more h.1 e) refl

pub ahead : {P Q : List ℕ → Type 0} {rest text : List ℕ} {after : Option (Bor (List ℕ))} → IsInside P
    → Before P rest text → FirstIs Q rest after → FirstIs (P ⋅ Q) text after
ahead {P} {Q} {rest} {text} {after} inside b f = record {
  line = b.front ++ f.line;
  split = ap lines_of b.whole
      ∙ lines_behind b.front rest f.line (lines_left after) (inside b.front b.first) f.split;
  is = record { front = b.front; rest = f.line; first = b.first; second = f.is; whole = refl };
}

pub comment_first : (bytes line : List ℕ) (after : Option (Bor (List ℕ))) → 2 ≤ length bytes → get_or bytes 0 0 ≡ 47
    → get_or bytes 1 0 ≡ 47 → lines_of (take (length bytes - 2) (drop 2 bytes)) ≡ line ∷ lines_left after
    → FirstIs OptionalComment bytes after
comment_first (c ∷ d ∷ cs) line after long first second e = rw (first, second) (record {
  line = 47 ∷ 47 ∷ line;
  split = ap (λ lines. onto_first 47 (onto_first 47 lines))
      (ap lines_of (sym (take_all (length (c ∷ d ∷ cs) - 2) cs (omega arith))) ∙ e);
  is = (refl, refl);
})
comment_first bytes line after long first second e = absurd (omega arith)

pub operation_first : (start behind rest : List ℕ) (after : Option (Bor (List ℕ))) (o : Opcode) (op : Op)
    → start ≡ opcode_text o ++ behind → called_at o behind ≡ Some (op, rest) → is_within_limit op ≡ true
    → FirstIs (Blanks ⋅ OptionalComment) rest after → FirstBody start (Some op) after
operation_first start behind rest after o op begins called small ends =
    let found = called_finds o start behind op rest begins called in
    let within : IsWithinLimit found.0 = within_limit found.0 (ap (λ p. is_within (Some p)) (sym found.2) ∙ small) in
    subst (λ p. FirstBody start (Some p) after) (sym (found.2 ∙ capped-within found.0 within))
    (ahead (operation_inside found.0) found.1 ends, within)

-- what stands behind a label, or behind none, makes the line
pub line_first : (label : Option (List ℕ)) (op : Option Op) {text start behind rest : List ℕ}
    {after : Option (Bor (List ℕ))}
    → Before Blanks start text → Before (OptionalLabel label) behind start → Before Blanks rest behind
    → FirstBody rest op after → FirstIs (λ line. Reads line label op) text after
line_first label op {text} {start} {behind} {rest} {after} first named second body =
    let whole : FirstIs (λ line. ReadsWidely line label op) text after =
    ahead blanks_inside first (ahead (optional_label_inside label) named (ahead blanks_inside second body.0)) in
    record { line = whole.line; split = whole.split; is = (whole.is, body.1) }

pub body_first : (text start : List ℕ) (op : Option Op) (after : Option (Bor (List ℕ))) → start ≡ after_blanks text
    → FirstBody start op after → FirstIs (λ line. Reads line None op) text after
body_first text start op after e body =
    line_first None op (rw e (blanks_read text)) (no_label start)
    (record { front = []; first = tt; whole = refl }) body
