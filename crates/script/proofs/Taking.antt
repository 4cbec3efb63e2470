-- A word and a line taken from the front: the lemmas on `words` and `lines` that the iterators rest on.
use Rattle.std.proofs.Common.{◌≡◌, ℕ, suc, ◌+◌, ◌-◌, min, ◌<◌, Bool, true, false, cond, List, [], ◌∷◌, length, take, drop, sym, refl, ap, ◌∙◌, subst, one-add, arith}
use Rattle.std.specs.List.{prefix_len}
use Rattle.std.proofs.lemmas.List.{take_rest}
use Rattle.script.specs.Text.{blank, solid, onto_first, words, inner, lines}

-- blanks in front add no word
blanks_pass : (bs : List ℕ) → words (drop (prefix_len blank bs) bs) ≡ words bs
unfolding words
blanks_pass [] = refl
blanks_pass (b ∷ bs) = passed (blanks_pass bs) (blank b) refl
  where
    passed : words (drop (prefix_len blank bs) bs) ≡ words bs → (t : Bool) → blank b ≡ t → words (drop (cond (blank b) (1 + prefix_len blank bs) 0) (b ∷ bs)) ≡ words (b ∷ bs)
    passed more true e = rw (e, one-add) more
    passed more false e = simp e

-- no blank stands in front
abbrev Unled : List ℕ → Type 0
Unled [] = Unit {0}
Unled (b ∷ bs) = blank b ≡ false

unled : (bs : List ℕ) → Unled (drop (prefix_len blank bs) bs)
unled [] = tt
unled (b ∷ bs) = past (unled bs) (blank b) refl
  where
    past : Unled (drop (prefix_len blank bs) bs) → (t : Bool) → blank b ≡ t → Unled (drop (cond (blank b) (1 + prefix_len blank bs) 0) (b ∷ bs))
    past more true e = rw (e, one-add) more
    past more false e = rw e e

word_front : (b : ℕ) (bs : List ℕ) → blank b ≡ false → words (b ∷ bs) ≡ (b ∷ take (prefix_len solid bs) bs) ∷ words (drop (prefix_len solid bs) bs)
unfolding words
word_front b [] e = rw e refl
word_front b (c ∷ cs) e = grown (word_front c cs) (blank c) refl
  where
    grown : (blank c ≡ false → words (c ∷ cs) ≡ (c ∷ take (prefix_len solid cs) cs) ∷ words (drop (prefix_len solid cs) cs)) → (t : Bool) → blank c ≡ t → words (b ∷ c ∷ cs) ≡ (b ∷ take (prefix_len solid (c ∷ cs)) (c ∷ cs)) ∷ words (drop (prefix_len solid (c ∷ cs)) (c ∷ cs))
    grown after true f = simp (e, f)
    grown after false f =
        let more : words (b ∷ c ∷ cs) ≡ onto_first b (words (c ∷ cs)) = simp (e, f) in
        more ∙ ap (onto_first b) (after f) ∙ simp (f, one-add)

none_taken : (line : List ℕ) → Unled line → length (take (prefix_len solid line) line) ≡ 0 → line ≡ []
none_taken [] u none = refl
none_taken (b ∷ bs) u none = absurd (let some : 0 < length (take (prefix_len solid (b ∷ bs)) (b ∷ bs)) = rw (u, one-add) (omega arith) in omega arith)

some_taken : (line : List ℕ) → Unled line → (length (take (prefix_len solid line) line) ≡ 0 → ⊥) → words line ≡ take (prefix_len solid line) line ∷ words (drop (prefix_len solid line) line)
some_taken [] u some = absurd (some refl)
some_taken (b ∷ bs) u some = word_front b bs u ∙ rw (u, one-add) refl

module _ (bs line word rest : List ℕ) (m n : ℕ) (led : m ≡ prefix_len blank bs) (past : line ≡ drop m bs) (long : n ≡ prefix_len solid line) (front : word ≡ take n line) (back : rest ≡ drop n line) where
  from_line : line ≡ drop (prefix_len blank bs) bs
  from_line = past ∙ ap (λ k. drop k bs) led

  same_words : words line ≡ words bs
  same_words = ap words from_line ∙ blanks_pass bs

  no_blank : Unled line
  no_blank = subst Unled (sym from_line) (unled bs)

  whole_word : word ≡ take (prefix_len solid line) line
  whole_word = front ∙ ap (λ k. take k line) long

  whole_rest : rest ≡ drop (prefix_len solid line) line
  whole_rest = back ∙ ap (λ k. drop k line) long

  pub no_word : length word ≡ 0 → (words bs ≡ []) × (words rest ≡ [])
  unfolding words
  no_word none =
      let gone : line ≡ [] = none_taken line no_blank (sym (ap length whole_word) ∙ none) in
      let left : rest ≡ [] = whole_rest ∙ ap (λ l. drop (prefix_len solid l) l) gone in
      (sym same_words ∙ ap words gone, ap words left)

  pub a_word : (length word ≡ 0 → ⊥) → words bs ≡ word ∷ words rest
  a_word some =
      let cut : words bs ≡ take (prefix_len solid line) line ∷ words (drop (prefix_len solid line) line) = sym same_words ∙ some_taken line no_blank (λ none. some (ap length whole_word ∙ none)) in
      cut ∙ ap (λ w. w ∷ words (drop (prefix_len solid line) line)) (sym whole_word) ∙ ap (λ r. word ∷ words r) (sym whole_rest)

line_front : (b : ℕ) (bs : List ℕ) → lines (b ∷ bs) ≡ take (prefix_len inner (b ∷ bs)) (b ∷ bs) ∷ lines (drop 1 (drop (prefix_len inner (b ∷ bs)) (b ∷ bs)))
unfolding lines
line_front b [] = alone (inner b) refl
  where
    alone : (t : Bool) → inner b ≡ t → lines (b ∷ []) ≡ take (prefix_len inner (b ∷ [])) (b ∷ []) ∷ lines (drop 1 (drop (prefix_len inner (b ∷ [])) (b ∷ [])))
    alone true e = rw e refl
    alone false e = rw e refl
line_front b (c ∷ cs) = grown (line_front c cs) (inner b) refl
  where
    grown : lines (c ∷ cs) ≡ take (prefix_len inner (c ∷ cs)) (c ∷ cs) ∷ lines (drop 1 (drop (prefix_len inner (c ∷ cs)) (c ∷ cs))) → (t : Bool) → inner b ≡ t → lines (b ∷ c ∷ cs) ≡ take (prefix_len inner (b ∷ c ∷ cs)) (b ∷ c ∷ cs) ∷ lines (drop 1 (drop (prefix_len inner (b ∷ c ∷ cs)) (b ∷ c ∷ cs)))
    grown after false e = simp e
    grown after true e =
        let more : lines (b ∷ c ∷ cs) ≡ onto_first b (lines (c ∷ cs)) = simp e in
        more ∙ ap (onto_first b) after ∙ simp (e, one-add)

module _ (bs line rest after : List ℕ) (n : ℕ) (long : n ≡ prefix_len inner bs) (front : line ≡ take n bs) (back : rest ≡ drop n bs) (next : after ≡ drop 1 rest) where
  cut_line : (length bs ≡ 0 → ⊥) → lines bs ≡ take (prefix_len inner bs) bs ∷ lines (drop 1 (drop (prefix_len inner bs) bs))
  cut_line some = at bs some
    where
      at : (l : List ℕ) → (length l ≡ 0 → ⊥) → lines l ≡ take (prefix_len inner l) l ∷ lines (drop 1 (drop (prefix_len inner l) l))
      at [] some = absurd (some refl)
      at (b ∷ l) some = line_front b l

  pub a_line : (length bs ≡ 0 → ⊥) → lines bs ≡ line ∷ lines after
  a_line some =
      let whole_line : line ≡ take (prefix_len inner bs) bs = front ∙ ap (λ k. take k bs) long in
      let left : after ≡ drop 1 (drop (prefix_len inner bs) bs) = next ∙ ap (λ (l : List ℕ). drop 1 l) (back ∙ ap (λ k. drop k bs) long) in
      cut_line some ∙ ap (λ l. l ∷ lines (drop 1 (drop (prefix_len inner bs) bs))) (sym whole_line) ∙ ap (λ l. line ∷ lines l) (sym left)

pub no_line : (bs : List ℕ) → length bs ≡ 0 → lines bs ≡ []
unfolding lines
no_line [] none = refl
no_line (b ∷ bs) none = absurd (omega arith)

-- an iterator whose state shows the list of what is left makes progress with each item
pub nearer : (before left : List (List ℕ)) (w : List ℕ) → before ≡ w ∷ left → length left < length before
nearer before left w is = let long : length before ≡ 1 + length left = ap length is ∙ omega arith in omega arith

-- what follows the end of a line, as a part of a slice is written
pub past_end : (l : List ℕ) → take (length l - min (length l) 1) (drop (min (length l) 1) l) ≡ drop 1 l
past_end l = take_rest l (min (length l) 1) ∙ past l
  where
    past : (l : List ℕ) → drop (min (length l) 1) l ≡ drop 1 l
    past [] = refl
    past (b ∷ l) = let one : min (suc (length l)) 1 ≡ 1 = omega arith in rw one
