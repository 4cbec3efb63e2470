-- The bytes of sectors that stand one after another.
use Rattle.std.proofs.Common.{◌≡◌, ℕ, zero, suc, ◌+◌, ◌*◌, ◌≤◌, List, [], ◌∷◌, ◌++◌, length, take, drop, refl, ap, ◌∙◌, arith, length-drop, take-add}
use Rattle.std.proofs.lemmas.List.{take_at, drop_at, take_all, get_or-drop}
use Rattle.reader.specs.Disk.{Disk, all_bytes}
use Rattle.reader.proofs.Parts.{Whole, length_all_bytes}
use Rattle.host_laws.specs.InStep.{Sound}

-- the first so many sectors joined
pub front_of_sectors : (count : ℕ) (ls : List (List ℕ)) → Whole ls → take (count * 512) (all_bytes ls) ≡ all_bytes (take count ls)
unfolding all_bytes
front_of_sectors zero ls whole = refl
front_of_sectors (suc count) [] whole = take_all (suc count * 512) [] (omega arith)
front_of_sectors (suc count) (l ∷ ls) whole =
    let more : suc count * 512 ≡ 512 + count * 512 = omega arith in
    let long : length l ≡ 512 = whole 0 (omega arith) in
    ap (λ n. take n (l ++ all_bytes ls)) more
    ∙ take-add 512 (count * 512) (l ++ all_bytes ls)
    ∙ ap (λ (b : List ℕ). b ++ take (count * 512) (drop 512 (l ++ all_bytes ls))) (take_at l (all_bytes ls) 512 long)
    ∙ ap (λ (b : List ℕ). l ++ take (count * 512) b) (drop_at l (all_bytes ls) 512 long)
    ∙ ap (λ (b : List ℕ). l ++ b) (front_of_sectors count ls (λ i h. whole (suc i) (omega arith)))

pub whole_sectors : (d : Disk) → Sound d → (sector : ℕ) → Whole (drop sector d.sectors)
whole_sectors d sound sector i h = rw get_or-drop (sound.lengths (sector + i) (omega (arith, length-drop sector d.sectors, sound.count)))

-- there are enough bytes from a sector on for all that the size allows
pub enough_sectors : (d : Disk) → Sound d → (sector count : ℕ) → sector + count ≤ d.size → count * 512 ≤ length (all_bytes (drop sector d.sectors))
enough_sectors d sound sector count h = omega (arith, length_all_bytes (drop sector d.sectors) (whole_sectors d sound sector), length-drop sector d.sectors, sound.count)
