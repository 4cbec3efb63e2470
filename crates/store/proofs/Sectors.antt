-- Laws of cutting a memory into sectors, and of laying bytes over one.
use Rattle.std.specs.Prelude.{◌≡◌, ℕ, zero, suc, ◌+◌, ◌*◌, ◌<◌, ◌≤◌, List, [], ◌∷◌, ◌++◌, length, take, drop, slice_index_or, slice_set, refl}
use Rattle.std.proofs.Common.{sym, ap, ◌∙◌, le_of_suc-le-suc, zero-add, arith, length-drop, length-append, take-add}
use Rattle.std.proofs.lemmas.List.{take_at, drop_at, drop-drop, length-take-le, append_assoc}
use Rattle.store.specs.Plain.{whole, overlaid}

pub getD_whole : (n i : ℕ) (memory : List ℕ) → i < n → slice_index_or (whole n memory) i [] ≡ take 512 (drop (i * 512) memory)
unfolding whole
getD_whole zero i memory h = absurd (omega arith)
getD_whole (suc n) zero memory h = refl
getD_whole (suc n) (suc i) memory h =
    getD_whole n i (drop 512 memory) (le_of_suc-le-suc h)
    ∙ ap (take 512) (drop-drop (i * 512) 512 memory ∙ ap (λ k. drop k memory) (omega arith))

pub length_overlaid : (memory bytes : List ℕ) (start : ℕ) → start + length bytes ≤ length memory → length (overlaid memory start bytes) ≡ length memory
unfolding overlaid
length_overlaid memory bytes start fits =
    omega (
      arith,
      length-append (take start memory) (bytes ++ drop (start + length bytes) memory),
      length-append bytes (drop (start + length bytes) memory),
      length-take-le start memory (omega arith),
      length-drop (start + length bytes) memory,
    )

-- past the first sector, an overlay is one of what follows that sector
past_the_first : (memory bytes : List ℕ) (i : ℕ)
    → overlaid memory (suc i * 512) bytes ≡ take 512 memory ++ overlaid (drop 512 memory) (i * 512) bytes
unfolding overlaid
past_the_first memory bytes i =
    let front : suc i * 512 ≡ 512 + i * 512 = omega arith in
    let back : suc i * 512 + length bytes ≡ 512 + (i * 512 + length bytes) = omega arith in
    ap (λ k. take k memory ++ (bytes ++ drop (suc i * 512 + length bytes) memory)) front
    ∙ ap (λ k. take (512 + i * 512) memory ++ (bytes ++ drop k memory)) back
    ∙ ap (λ l. l ++ (bytes ++ drop (512 + (i * 512 + length bytes)) memory)) (take-add 512 (i * 512) memory)
    ∙ ap (λ l. (take 512 memory ++ take (i * 512) (drop 512 memory)) ++ (bytes ++ l)) (sym (drop-drop (i * 512 + length bytes) 512 memory))
    ∙ append_assoc (take 512 memory) (take (i * 512) (drop 512 memory)) _

-- at the first sector, an overlay is the bytes and what follows that sector
at_the_first : (memory bytes : List ℕ) → length bytes ≡ 512 → overlaid memory 0 bytes ≡ bytes ++ drop 512 memory
unfolding overlaid
at_the_first memory bytes long = ap (λ k. bytes ++ drop k memory) (zero-add (length bytes) ∙ long)

-- a memory that begins with a sector, cut into sectors
whole_behind : (n : ℕ) (sector rest : List ℕ) → length sector ≡ 512 → whole (suc n) (sector ++ rest) ≡ sector ∷ whole n rest
unfolding whole
whole_behind n sector rest long =
    ap (λ l. l ∷ whole n (drop 512 (sector ++ rest))) (take_at sector rest 512 long)
    ∙ ap (λ l. sector ∷ whole n l) (drop_at sector rest 512 long)

-- a sector laid over is a sector replaced, and every other stays
pub whole_overlaid : (n i : ℕ) (memory bytes : List ℕ) → i < n → length bytes ≡ 512 → n * 512 ≤ length memory
    → whole n (overlaid memory (i * 512) bytes) ≡ slice_set (whole n memory) i bytes
unfolding whole
whole_overlaid zero i memory bytes h long fits = absurd (omega arith)
whole_overlaid (suc n) zero memory bytes h long fits =
    ap (whole (suc n)) (at_the_first memory bytes long) ∙ whole_behind n bytes (drop 512 memory) long
whole_overlaid (suc n) (suc i) memory bytes h long fits =
    ap (whole (suc n)) (past_the_first memory bytes i)
    ∙ whole_behind n (take 512 memory) (overlaid (drop 512 memory) (i * 512) bytes) (length-take-le 512 memory (omega arith))
    ∙ ap (λ l. take 512 memory ∷ l) (whole_overlaid n i (drop 512 memory) bytes (le_of_suc-le-suc h) long (omega (arith, length-drop 512 memory)))
