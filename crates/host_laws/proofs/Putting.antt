-- Sectors put one after another, and the packets in which the bytes of a sector come.
use Rattle.std.proofs.Common.{◌≡◌, ℕ, zero, suc, ◌+◌, ◌*◌, ◌≤◌, List, ◌++◌, length, take, drop, set, Some, sym, refl, ap, ◌∙◌, add-zero, arith, length-drop, length-take-le, drop-drop, take-add}
use Rattle.reader.specs.Disk.{Disk}
use Rattle.store.specs.declared.answers.Verdict.{Verdict}
use Rattle.host.specs.Commands.{packet_size, packet_start}
use Rattle.host.specs.Process.{written_on}
use Rattle.host_laws.specs.Commands.{sectors_in, put_over, Put}

-- the sector in this place of the bytes
abbrev pub sector_in : ℕ → List ℕ → List ℕ
sector_in k bytes = take 512 (drop (k * 512) bytes)

-- one sector more is put behind those that were
pub one_more_put : (k first : ℕ) (bytes : List ℕ) (sectors : List (List ℕ)) → put_over first (sectors_in (suc k) bytes) sectors ≡ set (put_over first (sectors_in k bytes) sectors) (first + k) (sector_in k bytes)
one_more_put zero first bytes sectors = rw add-zero
one_more_put (suc k) first bytes sectors =
    let place : first + 1 + k ≡ first + suc k = omega arith in
    let start : 512 + k * 512 ≡ suc k * 512 = omega arith in
    let here = one_more_put k (first + 1) (drop 512 bytes) (set sectors first (take 512 bytes)) in
    here ∙ rw (drop-drop, place, start)

pub put_none : (first : ℕ) (bytes : List ℕ) (d : Disk) → Put 0 first bytes d d
put_none first bytes d = record { size = refl; sectors = refl }

pub put_next : (k first : ℕ) (bytes : List ℕ) (d d' : Disk) (v : ℕ → List ℕ → Verdict) → Put k first bytes d d' → Put (suc k) first bytes d (written_on (Some (first + k, sector_in k bytes)) v d')
put_next k first bytes d d' v p = record {
  size = p.size;
  sectors = ap (λ x. set x (first + k) (sector_in k bytes)) p.sectors ∙ sym (one_more_put k first bytes d.sectors);
}

-- the packet in this place of the bytes
abbrev pub packet_in : ℕ → List ℕ → List ℕ
packet_in index bytes = take (packet_size (length bytes) index) (drop (packet_start index) bytes)

module _ (bytes : List ℕ) (index : ℕ) (fits : index * 64 + 64 ≤ length bytes) where
  full_packet : packet_size (length bytes) index ≡ 64
  full_packet = omega arith

  pub packet_length : length (packet_in index bytes) ≡ 64
  packet_length = rw full_packet (length-take-le 64 (drop (index * 64) bytes) (simp length-drop (omega arith)))

  -- it goes on where the bytes of the sector that came before it end
  pub packet_goes_on : (k j : ℕ) → index ≡ k * 8 + j → take (j * 64) (drop (k * 512) bytes) ++ packet_in index bytes ≡ take (suc j * 64) (drop (k * 512) bytes)
  packet_goes_on k j e =
      let start : k * 512 + j * 64 ≡ index * 64 = omega arith in
      let more : suc j * 64 ≡ j * 64 + 64 = omega arith in
      rw (full_packet, more, take-add, drop-drop, start)
