-- A buffer in which the bytes of packets are laid one after another.
use Rattle.std.proofs.Common.{◌≡◌, ℕ, ◌+◌, ◌≤◌, List, ◌++◌, length, take, drop, sym, ap, ◌∙◌, append_assoc, arith, length-append, length-drop, length-take, take-add}
use Rattle.std.proofs.lemmas.List.{take_at}
use Rattle.host.specs.Commands.{laid_at}

-- so many bytes from a place on
pub length_part : (place m : ℕ) (bytes : List ℕ) → place + m ≤ length bytes → length (take m (drop place bytes)) ≡ m
length_part place m bytes h = simp (length-take, length-drop) (omega arith)

pub length_laid : (place : ℕ) (body buffer : List ℕ) → place + length body ≤ length buffer → length (laid_at place body buffer) ≡ length buffer
length_laid place body buffer h = simp (length-append, length-take, length-drop) (omega arith)

-- where the front of a buffer holds the first of some bytes, it holds more of them once the next are laid in
pub the_front_grows : (place m : ℕ) (bytes buffer : List ℕ) → place + m ≤ length bytes → place + m ≤ length buffer → take place buffer ≡ take place bytes
    → take (place + m) (laid_at place (take m (drop place bytes)) buffer) ≡ take (place + m) bytes
the_front_grows place m bytes buffer h l front =
    let body = take m (drop place bytes) in
    let long : length (take place buffer ++ body) ≡ place + m = simp (length-append, length-take, length-drop) (omega arith) in
    ap (take (place + m)) (sym (append_assoc (take place buffer) body (drop (place + length body) buffer)))
    ∙ take_at (take place buffer ++ body) (drop (place + length body) buffer) (place + m) long
    ∙ ap (λ (l : List ℕ). l ++ body) front
    ∙ sym (take-add place m bytes)
