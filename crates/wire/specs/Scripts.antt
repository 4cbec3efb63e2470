-- What the scripted wire does: one entry of its script for each sending.
use Rattle.std.specs.Prelude.{ℕ, ◌+◌, ◌-◌, ◌*◌, ◌/◌, ◌%◌, Bool, true, false, cond, ◌&&◌, List, [], length, if◌then◌else◌, ◌==◌, nat_le, nat_lt, slice_index}
use Rattle.packet.specs.Promises.{bit_changed}
use Rattle.packet.specs.Reading.{Reading, packet, refused, reading}
use Rattle.wire.specs.declared.scripted.Entry.{Entry}
use Rattle.wire.specs.declared.scripted.Entry.TheVariants.{Deliver, Lose, Flip}
use Rattle.wire.specs.declared.scripted.ScriptedWire.{ScriptedWire}
use Rattle.wire.specs.Carrying.{one_more}

abbrev pub is_packet : Reading → Bool
is_packet (packet p) = true
is_packet (refused n) = false

-- the bytes with this bit flipped; bits are counted from the first byte's low bit, and from there again behind the last
abbrev pub with_bit_flipped : ℕ → List ℕ → List ℕ
with_bit_flipped bit sent = bit_changed sent (bit % (8 * length sent) / 8) (bit % (8 * length sent) % 8)

-- bytes with a bit flipped arrive unless they are a packet again
abbrev pub unless_packet : List ℕ → List ℕ
unless_packet bytes = cond (is_packet (reading bytes)) [] bytes

-- 0 delivers, 65535 loses, any other number flips the bit of the number before it
abbrev pub entry_of : ℕ → Entry
entry_of number = cond (number == 0) Deliver (cond (number == 65535) Lose (Flip (number - 1)))

abbrev pub by_entry : Entry → List ℕ → List ℕ
by_entry Deliver sent = sent
by_entry Lose sent = []
by_entry (Flip bit) sent = unless_packet (with_bit_flipped bit sent)

-- only a sending of 1 to 67 bytes takes an entry
abbrev pub takes_entry : List ℕ → Bool
takes_entry sent = nat_le 1 (length sent) && nat_le (length sent) 67

-- past its end a script delivers
abbrev pub entry_at : List ℕ → ℕ → Entry
entry_at script place = entry_of (slice_index script place)

abbrev pub scripted_arrival : List ℕ → ℕ → List ℕ → List ℕ
scripted_arrival script place sent = cond (takes_entry sent) (by_entry (entry_at script place) sent) []

abbrev pub place_after : List ℕ → ℕ → List ℕ → ℕ
place_after script place sent = cond (takes_entry sent && nat_lt place (length script)) (place + 1) place

-- all entries but one that delivers spoil what is sent
abbrev pub entry_spoils : Entry → Bool
entry_spoils Deliver = false
entry_spoils Lose = true
entry_spoils (Flip bit) = true

-- such an entry spoils what is sent, and so do too many bytes
abbrev pub spoils : List ℕ → ℕ → List ℕ → Bool
spoils script place sent = cond (takes_entry sent) (entry_spoils (entry_at script place)) (nat_lt 67 (length sent))

abbrev pub tally_after : List ℕ → ℕ → List ℕ → ℕ → ℕ
tally_after script place sent tally = cond (spoils script place sent) (one_more tally) tally

-- the wire with its tally cleared
abbrev pub cleared : ScriptedWire → ScriptedWire
cleared w = record { script = w.script; place = w.place; tally = 0 }

-- the wire once it has used an entry, if one is left
abbrev pub after_entry : ScriptedWire → ScriptedWire
after_entry w = record { script = w.script; place = if nat_lt w.place (length w.script.items) then w.place + 1 else w.place; tally = w.tally }

-- the wire after a sending
abbrev pub after_sending : List ℕ → ScriptedWire → ScriptedWire
after_sending sent w = record { script = w.script; place = place_after w.script.items w.place sent; tally = tally_after w.script.items w.place sent w.tally }
