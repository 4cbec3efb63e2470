-- That a blank sector, and each sector that a memory is cut into, is 512 bytes long. The impls of `Store` cite these
-- proofs, so they stand here, and are terms that call no tactic.
use Rattle.std.specs.Prelude.{◌≡◌, ℕ, zero, suc, ◌+◌, ◌*◌, ◌<◌, ◌≤◌, List, [], ◌∷◌, length, drop, slice_index_or, refl}
use Rattle.std.proofs.Common.{sym, ap, ◌∙◌, subst, le_of_suc-le-suc, add_comm, length-drop}
use Rattle.std.proofs.lemmas.List.{length-take-le, length-replicate}
use Rattle.std.proofs.Math.Arith.{lt-one, add-le_cancel_left}
use Rattle.std.proofs.Math.Nat.{not-suc-le-zero, zero-lt-suc, le_trans, mul-le-mul_right, suc-mul, add-sub_of_le}
use Rattle.store.specs.Plain.{blank, whole}

pub length_blank : length blank ≡ 512
unfolding blank
length_blank = length-replicate {A = ℕ} 512 0

-- the only sector there is
pub first_of_one : (sector : ℕ) → sector < 1 → slice_index_or (blank ∷ []) sector [] ≡ blank
first_of_one sector h = ap (λ n. slice_index_or (blank ∷ []) n []) (lt-one h)

pub length_whole : (n : ℕ) (memory : List ℕ) → length (whole n memory) ≡ n
unfolding whole
length_whole zero memory = refl
length_whole (suc n) memory = ap suc (length_whole n (drop 512 memory))

-- of sectors that fit into a memory, the first does, and the others fit into what is behind it
first_fits : (n : ℕ) (memory : List ℕ) → suc n * 512 ≤ length memory → 512 ≤ length memory
first_fits n memory fits = le_trans (mul-le-mul_right 512 (zero-lt-suc n)) fits

rest_fits : (n : ℕ) (memory : List ℕ) → suc n * 512 ≤ length memory → n * 512 ≤ length (drop 512 memory)
rest_fits n memory fits =
    let behind : 512 + length (drop 512 memory) ≡ length memory = ap (λ k. 512 + k) (length-drop 512 memory) ∙ add-sub_of_le (first_fits n memory fits) in
    let both : 512 + n * 512 ≤ length memory = subst (λ k. k ≤ length memory) (suc-mul n 512 ∙ add_comm (n * 512) 512) fits in
    add-le_cancel_left 512 (subst (λ k. 512 + n * 512 ≤ k) (sym behind) both)

pub length_of_a_sector : (n i : ℕ) (memory : List ℕ) → i < n → n * 512 ≤ length memory → length (slice_index_or (whole n memory) i []) ≡ 512
unfolding whole
length_of_a_sector zero i memory h fits = absurd (not-suc-le-zero h)
length_of_a_sector (suc n) zero memory h fits = length-take-le 512 memory (first_fits n memory fits)
length_of_a_sector (suc n) (suc i) memory h fits =
    length_of_a_sector n i (drop 512 memory) (le_of_suc-le-suc h) (rest_fits n memory fits)
