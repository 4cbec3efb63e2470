-- That a plain disk keeps the laws of a store: how many sectors it has, that it has as many as it says, and how long each
-- is. The impls of `Store` cite these proofs, so they stand here, and are terms that call no tactic.
use Rattle.std.specs.Prelude.{◌≡◌, ℕ, ◌*◌, ◌/◌, ◌<◌, ◌≤◌, min, List, [], ◌∷◌, length, slice_index_or}
use Rattle.std.proofs.Common.{sym, ap, ◌∙◌, subst, ⊎_elim, lit≤}
use Rattle.std.proofs.lemmas.Bool.{le-ltb, lt-ltb, cases_lt, cond-true, cond-false}
use Rattle.std.proofs.lemmas.Nat.{le-div}
use Rattle.std.proofs.Math.Nat.{le_trans, le-min, min-le_left, min-le_right, mul-le-mul_right, div-mul-le_self}
use Rattle.store.specs.Plain.{blank, whole, plain_size, plain_sectors}
use Rattle.store.specs.Sectors.{first_of_one, length_blank, length_whole, length_of_a_sector}

-- a memory below one sector
module _ (memory : List ℕ) (small : length memory < 512) where
  pub small_size : plain_size memory ≡ 1
  small_size = cond-true _ _ _ (lt-ltb _ _ small)

  pub small_sectors : plain_sectors memory ≡ blank ∷ []
  small_sectors = cond-true _ _ _ (lt-ltb _ _ small)

-- a memory of one sector or more
module _ (memory : List ℕ) (big : 512 ≤ length memory) where
  pub big_size : plain_size memory ≡ min (length memory / 512) 65536
  big_size = cond-false _ _ _ (le-ltb _ _ big)

  pub big_sectors : plain_sectors memory ≡ whole (plain_size memory) memory
  big_sectors = cond-false _ _ _ (le-ltb _ _ big) ∙ ap (λ n. whole n memory) (sym big_size)

  -- all its sectors lie in the memory
  pub sectors_fit : plain_size memory * 512 ≤ length memory
  sectors_fit =
      subst (λ n. n * 512 ≤ length memory) (sym big_size) (le_trans (mul-le-mul_right 512 (min-le_left (length memory / 512) 65536)) (div-mul-le_self (length memory) 512))

module _ (memory : List ℕ) where
  pub plain_bounds : (1 ≤ plain_size memory) × (plain_size memory ≤ 65536)
  plain_bounds =
      ⊎_elim (λ small. subst (λ n. (1 ≤ n) × (n ≤ 65536)) (sym (small_size memory small)) (lit≤ tt, lit≤ tt))
      (λ big. subst (λ n. (1 ≤ n) × (n ≤ 65536)) (sym (big_size memory big)) (le-min (le-div 1 (length memory) 512 (lit≤ tt) big) (lit≤ tt), min-le_right (length memory / 512) 65536))
      (cases_lt (length memory) 512)

  pub plain_count : length (plain_sectors memory) ≡ plain_size memory
  plain_count =
      ⊎_elim (λ small. ap length (small_sectors memory small) ∙ sym (small_size memory small))
      (λ big. ap length (big_sectors memory big) ∙ length_whole (plain_size memory) memory)
      (cases_lt (length memory) 512)

  pub plain_lengths : (i : ℕ) → i < plain_size memory → length (slice_index_or (plain_sectors memory) i []) ≡ 512
  plain_lengths i h =
      ⊎_elim (λ small. ap (λ l. length (slice_index_or l i [])) (small_sectors memory small) ∙ ap length (first_of_one i (subst (λ n. i < n) (small_size memory small) h)) ∙ length_blank)
      (λ big. ap (λ l. length (slice_index_or l i [])) (big_sectors memory big) ∙ length_of_a_sector (plain_size memory) i memory h (sectors_fit memory big))
      (cases_lt (length memory) 512)
