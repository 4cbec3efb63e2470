-- Laws of a plain disk's sectors, as its memory has them and after a sector is laid over.
use Rattle.std.specs.Prelude.{◌≡◌, ℕ, ◌+◌, ◌*◌, ◌/◌, ◌<◌, ◌≤◌, min, cond, List, [], length, get_or, take, drop, set, nat_lt, slice_index_or, slice_set}
use Rattle.std.proofs.Common.{sym, ap, ◌∙◌, arith}
use Rattle.store.specs.Plain.{whole, overlaid, plain_size, plain_sectors}
use Rattle.store.specs.PlainLaws.{big_sectors, sectors_fit}
use Rattle.store.proofs.Sectors.{getD_whole, length_overlaid, whole_overlaid}

-- a memory of one sector or more
module _ (memory : List ℕ) (big : 512 ≤ length memory) where
  pub sector_fits : (sector : ℕ) → sector < plain_size memory → sector * 512 + 512 ≤ length memory
  sector_fits sector h = omega (arith, sectors_fit memory big, h)

  pub sector_read : (sector : ℕ) → sector < plain_size memory → slice_index_or (plain_sectors memory) sector [] ≡ take 512 (drop (sector * 512) memory)
  sector_read sector h = ap (λ l. get_or l sector []) (big_sectors memory big) ∙ getD_whole (plain_size memory) sector memory h

-- a sector laid over
module _ (memory bytes : List ℕ) (sector : ℕ) (big : 512 ≤ length memory) (there : sector < plain_size memory) (long : length bytes ≡ 512) where
  as_long : length (overlaid memory (sector * 512) bytes) ≡ length memory
  as_long = length_overlaid memory bytes (sector * 512) (omega (arith, sector_fits memory big sector there))

  pub size_kept : plain_size (overlaid memory (sector * 512) bytes) ≡ plain_size memory
  size_kept = ap (λ n. cond (nat_lt n 512) 1 (min (n / 512) 65536)) as_long

  pub sector_replaced : plain_sectors (overlaid memory (sector * 512) bytes) ≡ slice_set (plain_sectors memory) sector bytes
  sector_replaced =
      big_sectors (overlaid memory (sector * 512) bytes) (omega (arith, as_long))
      ∙ ap (λ n. whole n (overlaid memory (sector * 512) bytes)) size_kept
      ∙ whole_overlaid (plain_size memory) sector memory bytes there long (sectors_fit memory big)
      ∙ ap (λ l. set l sector bytes) (sym (big_sectors memory big))
