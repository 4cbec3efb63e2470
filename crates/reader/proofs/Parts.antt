-- Parts of lists, and of sectors joined.
use Rattle.std.proofs.Common.{◌≡◌, ℕ, zero, suc, ◌+◌, ◌*◌, ◌/◌, ◌%◌, ◌<◌, ◌≤◌, List, [], ◌∷◌, ◌++◌, length, get_or, take, drop, sym, refl, ap, ◌∙◌, arith, length-append, length-drop}
use Rattle.std.proofs.lemmas.List.{drop_all, drop-drop, drop-append-le, take-append-le, drop_at, drop_more, get_or-drop}
use Rattle.reader.specs.Disk.{all_bytes}

-- sectors joined -------------------------------------------------------------------------------------------------

-- each of the lists has 512 bytes
abbrev pub Whole : List (List ℕ) → Type 0
Whole ls = (i : ℕ) → i < length ls → length (get_or ls i []) ≡ 512

whole_tail : (l : List ℕ) (ls : List (List ℕ)) → Whole (l ∷ ls) → Whole ls
whole_tail l ls w i h = w (suc i) (omega arith)

pub length_all_bytes : (ls : List (List ℕ)) → Whole ls → length (all_bytes ls) ≡ length ls * 512
unfolding all_bytes
length_all_bytes [] w = refl
length_all_bytes (l ∷ ls) w =
    length-append l (all_bytes ls) ∙ omega (arith, w 0 (omega arith), length_all_bytes ls (whole_tail l ls w))

whole_drop : (n : ℕ) (ls : List (List ℕ)) → Whole ls → Whole (drop n ls)
whole_drop n ls w i h = rw get_or-drop (w (n + i) (omega (arith, length-drop n ls)))

-- whole lists are passed over one by one
skip_whole : (q r : ℕ) (ls : List (List ℕ)) → Whole ls → q ≤ length ls → drop (q * 512 + r) (all_bytes ls) ≡ drop r (all_bytes (drop q ls))
unfolding all_bytes
skip_whole zero r ls w h =
    let none : 0 * 512 + r ≡ r = omega arith in
    rw none refl
skip_whole (suc q) r [] w h = absurd (omega arith)
skip_whole (suc q) r (l ∷ ls) w h =
    let more : suc q * 512 + r ≡ 512 + (q * 512 + r) = omega arith in
    let first : length l ≡ 512 = w 0 (omega arith) in
    rw more (sym (drop-drop (q * 512 + r) 512 (l ++ all_bytes ls)) ∙ ap (drop (q * 512 + r)) (drop_at l (all_bytes ls) 512 first) ∙ skip_whole q r ls (whole_tail l ls w) (omega arith))

-- the bytes at a place in joined sectors lie in one of them
pub within_a_sector : (sectors : List (List ℕ)) (first moved n : ℕ) → Whole sectors → first + moved / 512 < length sectors → moved % 512 + n ≤ 512
    → take n (drop moved (all_bytes (drop first sectors))) ≡ take n (drop (moved % 512) (get_or sectors (first + moved / 512) []))
unfolding all_bytes
within_a_sector sectors first moved n w within room =
    let q = moved / 512 in
    let r = moved % 512 in
    let split : moved ≡ q * 512 + r = omega arith in
    let sector : length (get_or sectors (first + q) []) ≡ 512 = w (first + q) within in
    let skipped : drop moved (all_bytes (drop first sectors)) ≡ drop r (all_bytes (drop q (drop first sectors))) =
    ap (λ m. drop m (all_bytes (drop first sectors))) split ∙ skip_whole q r (drop first sectors) (whole_drop first sectors w) (omega (arith, length-drop first sectors)) in
    let there : drop q (drop first sectors) ≡ get_or sectors (first + q) [] ∷ drop (first + q + 1) sectors = drop-drop q first sectors ∙ drop_more sectors (first + q) [] within in
    ap (take n) (skipped ∙ ap (λ l. drop r (all_bytes l)) there ∙ drop-append-le r (get_or sectors (first + q) []) _ (omega arith))
    ∙ take-append-le n (drop r (get_or sectors (first + q) [])) _ (rw length-drop (omega arith))

-- and past the last sector there are none
pub past_the_sectors : (sectors : List (List ℕ)) (first moved n : ℕ) → Whole sectors → length sectors ≤ first + moved / 512 → take n (drop moved (all_bytes (drop first sectors))) ≡ []
past_the_sectors sectors first moved n w past =
    let long = length_all_bytes (drop first sectors) (whole_drop first sectors w) in
    ap (take n) (drop_all moved (all_bytes (drop first sectors)) (omega (arith, long, length-drop first sectors))) ∙ take_nil n
  where
    take_nil : (k : ℕ) → take {A = ℕ} k [] ≡ []
    take_nil zero = refl
    take_nil (suc k) = refl
