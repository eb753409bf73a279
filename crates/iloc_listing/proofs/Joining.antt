-- Texts that are joined before they are written, part after part.
use Rattle.iloc_listing.proofs.Common.{◌≡◌, ℕ, List, [], ◌++◌, Option, sym, ap, ◌∙◌, subst, append_assoc, append-nil, Appends-nil, Appends-trans, Appends, WritesFront, Joins, JoinsTo}
use Rattle.iloc_listing.proofs.Written.{front_behind}

-- the buffer and the text were written
pub goes : (old mid new : Option (List ℕ)) (before after text : List ℕ) → Appends old mid before → after ≡ []
    → Appends mid new text → Joins old new before after text
goes old mid new before after text first is last = record {
  front = before ++ text;
  whole = sym (ap (λ t. (before ++ text) ++ t) is ∙ append-nil (before ++ text));
  written = Appends-trans old mid new before text first last;
}

-- nothing is joined yet
pub none_joined : (now : Option (List ℕ)) (first buffer text left : List ℕ) → buffer ≡ first → left ≡ text
    → JoinsTo now now first buffer text left
none_joined now first buffer text left same all = record {
  front = [];
  whole = ap (λ t. first ++ t) (sym all) ∙ ap (λ b. b ++ left) (sym same);
  written = Appends-nil now;
}

module _ (start mid : Option (List ℕ)) (first buffer text left : List ℕ)
    (so_far : JoinsTo start mid first buffer text left) where
  module _ (part rest : List ℕ) (parts : left ≡ part ++ rest) where
    split : first ++ text ≡ so_far.front ++ ((buffer ++ part) ++ rest)
    split = so_far.whole ∙ ap (λ t. so_far.front ++ t)
        (ap (λ t. buffer ++ t) parts ∙ sym (append_assoc buffer part rest))

    -- the next part is joined too
    pub part_joined : (new : Option (List ℕ)) (after : List ℕ) → Joins mid new buffer after part
        → JoinsTo start new first after text rest
    part_joined new after next = record {
      front = so_far.front ++ next.front;
      whole = split ∙ (ap (λ t. so_far.front ++ (t ++ rest)) next.whole
          ∙ (ap (λ t. so_far.front ++ t) (append_assoc next.front after rest)
          ∙ sym (append_assoc so_far.front next.front (after ++ rest))));
      written = Appends-trans start mid new so_far.front next.front so_far.written next.written;
    }

    -- of the buffer and the next part a prefix was written
    pub part_failed : (new : Option (List ℕ)) → WritesFront mid new (buffer ++ part) → WritesFront start new (first ++ text)
    part_failed new failed =
        front_behind start mid new so_far.front (buffer ++ part) rest (first ++ text) so_far.written failed (sym split)

  -- of the buffer a prefix was written
  pub buffer_failed : (new : Option (List ℕ)) → WritesFront mid new buffer → WritesFront start new (first ++ text)
  buffer_failed new failed =
      front_behind start mid new so_far.front buffer left (first ++ text) so_far.written failed (sym so_far.whole)

  module _ (none : left ≡ []) where
    ended : first ++ text ≡ so_far.front ++ buffer
    ended = so_far.whole ∙ ap (λ t. so_far.front ++ t) (ap (λ t. buffer ++ t) none ∙ append-nil buffer)

    -- all is joined
    pub all_joined : Joins start mid first buffer text
    all_joined = record { front = so_far.front; whole = ended; written = so_far.written }

    -- and the buffer was written
    pub buffer_written : (new : Option (List ℕ)) → Appends mid new buffer → Appends start new (first ++ text)
    buffer_written new last =
        subst (Appends start new) (sym ended)
        (Appends-trans start mid new so_far.front buffer so_far.written last)
