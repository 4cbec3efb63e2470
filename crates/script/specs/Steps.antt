-- The steps of a script as plain values, and which of them a line names.
use Rattle.std.specs.Prelude.{ℕ, Bool, true, false, cond, List, [], ◌∷◌, Some, None, Ok, Err, vec_items, codes, Option, Result, ◌==◌}
use Rattle.packet.specs.Parts.{Parts, token, data_packet, handshake}
use Rattle.wire.specs.declared.hub.Port.{Port as Ports}
use Rattle.wire.specs.declared.interface.Direction.{Direction}
use Rattle.script.specs.declared.link.Cable.{Cable as Cables}
use Rattle.script.specs.declared.misread.Misread.{Misread}
use Rattle.script.specs.declared.misread.Misread.TheVariants.{UnknownStep}
use Rattle.script.specs.declared.step.Step.{Step as Steps}
use Rattle.script.specs.declared.step.Step.TheVariants.{Packet, BuildToken, BuildData, BuildHandshake, Cable, Port, Carry, Clear, Memory, Lock, Sector, Put}
use Rattle.script.specs.declared.step.Verb.{Verb}
use Rattle.script.specs.declared.step.Verb.TheVariants.{Packet as PacketVerb, Build as BuildVerb, Cable as CableVerb, Port as PortVerb, Carry as CarryVerb, Clear as ClearVerb, Memory as MemoryVerb, Lock as LockVerb, Sector as SectorVerb, Put as PutVerb}
use Rattle.script.specs.declared.build_steps.Sort.{Sort}
use Rattle.script.specs.declared.build_steps.Sort.TheVariants.{Token as TokenSort, Data as DataSort, Handshake as HandshakeSort}
use Rattle.script.specs.Arguments.{argument, optional, some_of, all_read, no_more, and_then}
use Rattle.script.specs.Hex.{bytes_read}
use Rattle.script.specs.Names.{named, token_kind_read, data_kind_read, handshake_read, cable_read, port_read, direction_read}
use Rattle.script.specs.Numbers.{number_read, seed_read, most_bytes}
use Rattle.script.specs.Text.{words, rest_of}

-- a step: bytes to be read as a packet; a packet to be built; a script for a cable; a port to be opened or closed; bytes
-- to be carried; a tally to be cleared; a memory of so many bytes, zeros or the pattern of a seed; a lock; a sector to
-- be read into so many bytes; and one to be written with the pattern of a seed, so many bytes long
pub data Action : Type 0 where
  read_packet : List ℕ → Action
  build_packet : Parts → Action
  lay_cable : Cables → List ℕ → Action
  turn_port : Ports → Action
  carry_bytes : Direction → List ℕ → Action
  clear_tally : Action
  new_memory : ℕ → Option ℕ → Action
  lock_disk : Action
  show_sector : ℕ → ℕ → Action
  put_sector : ℕ → ℕ → ℕ → Action

-- a line: passed over, a step, or not understood
pub data Saying : Type 0 where
  nothing_said : Saying
  says : Action → Saying
  not_understood : Misread → Saying

-- a step as the code holds it
abbrev pub action : Steps → Action
action (Packet v) = read_packet (vec_items v)
action (BuildToken k a e) = build_packet (token k a e)
action (BuildData k v) = build_packet (data_packet k (vec_items v))
action (BuildHandshake h) = build_packet (handshake h)
action (Cable n v) = lay_cable n (vec_items v)
action (Port p) = turn_port p
action (Carry d v) = carry_bytes d (vec_items v)
action Clear = clear_tally
action (Memory n s) = new_memory n s
action Lock = lock_disk
action (Sector i n) = show_sector i n
action (Put i s n) = put_sector i s n

abbrev pub step_seen : Result Steps Misread → Result Action Misread
step_seen (Ok s) = Ok (action s)
step_seen (Err why) = Err why

-- what a line says, as the code answers it
abbrev pub line_seen : Result (Option Steps) Misread → Saying
line_seen (Ok None) = nothing_said
line_seen (Ok (Some s)) = says (action s)
line_seen (Err why) = not_understood why

abbrev pub verb_read : List ℕ → Result Verb Misread
verb_read w =
    named w (codes "packet") PacketVerb (
    named w (codes "build") BuildVerb (
    named w (codes "cable") CableVerb (
    named w (codes "port") PortVerb (
    named w (codes "carry") CarryVerb (
    named w (codes "clear") ClearVerb (
    named w (codes "memory") MemoryVerb (
    named w (codes "lock") LockVerb (
    named w (codes "sector") SectorVerb (
    named w (codes "put") PutVerb (Err UnknownStep))))))))))

abbrev pub sort_read : List ℕ → Result Sort Misread
sort_read w = named w (codes "token") TokenSort (named w (codes "data") DataSort (named w (codes "handshake") HandshakeSort (Err UnknownStep)))

-- KIND ADDRESS ENDPOINT; a number above 255 is read as 255, which no address and no endpoint can be
abbrev pub token_step : List (List ℕ) → Result Action Misread
token_step ws =
    and_then (argument token_kind_read ws)
    (λ k. and_then (argument (number_read 255) (rest_of ws))
    (λ a. and_then (argument (number_read 255) (rest_of (rest_of ws)))
    (λ e. and_then (no_more (rest_of (rest_of (rest_of ws)))) (λ _. Ok (build_packet (token k a e))))))

-- KIND BYTES
abbrev pub data_step : List (List ℕ) → Result Action Misread
data_step ws = and_then (argument data_kind_read ws) (λ k. and_then (bytes_read (rest_of ws)) (λ bs. Ok (build_packet (data_packet k bs))))

-- KIND
abbrev pub handshake_step : List (List ℕ) → Result Action Misread
handshake_step ws = and_then (argument handshake_read ws) (λ h. and_then (no_more (rest_of ws)) (λ _. Ok (build_packet (handshake h))))

abbrev pub sort_step : Sort → List (List ℕ) → Result Action Misread
sort_step TokenSort ws = token_step ws
sort_step DataSort ws = data_step ws
sort_step HandshakeSort ws = handshake_step ws

abbrev pub build_step : List (List ℕ) → Result Action Misread
build_step ws = and_then (argument sort_read ws) (λ s. sort_step s (rest_of ws))

abbrev pub packet_step : List (List ℕ) → Result Action Misread
packet_step ws = and_then (bytes_read ws) (λ bs. Ok (read_packet bs))

-- CABLE ENTRIES
abbrev pub cable_step : List (List ℕ) → Result Action Misread
cable_step ws = and_then (argument cable_read ws) (λ n. and_then (all_read (number_read 65535) (rest_of ws)) (λ es. Ok (lay_cable n es)))

-- PORT
abbrev pub port_step : List (List ℕ) → Result Action Misread
port_step ws = and_then (argument port_read ws) (λ p. and_then (no_more (rest_of ws)) (λ _. Ok (turn_port p)))

-- DIRECTION BYTES
abbrev pub carry_step : List (List ℕ) → Result Action Misread
carry_step ws = and_then (argument direction_read ws) (λ d. and_then (bytes_read (rest_of ws)) (λ bs. Ok (carry_bytes d bs)))

abbrev pub clear_step : List (List ℕ) → Result Action Misread
clear_step ws = and_then (no_more ws) (λ _. Ok clear_tally)

-- LENGTH, and a SEED or none
abbrev pub memory_step : List (List ℕ) → Result Action Misread
memory_step ws =
    and_then (argument (number_read most_bytes) ws)
    (λ n. and_then (optional (λ w. some_of (seed_read w)) None (rest_of ws))
    (λ s. and_then (no_more (rest_of (rest_of ws))) (λ _. Ok (new_memory n s))))

abbrev pub lock_step : List (List ℕ) → Result Action Misread
lock_step ws = and_then (no_more ws) (λ _. Ok lock_disk)

-- SECTOR, and the LENGTH of the buffer, which is 512 where no word says
abbrev pub sector_step : List (List ℕ) → Result Action Misread
sector_step ws =
    and_then (argument (number_read 4294967295) ws)
    (λ i. and_then (optional (number_read most_bytes) 512 (rest_of ws))
    (λ n. and_then (no_more (rest_of (rest_of ws))) (λ _. Ok (show_sector i n))))

-- SECTOR SEED, and the LENGTH of the buffer, which is 512 where no word says
abbrev pub put_step : List (List ℕ) → Result Action Misread
put_step ws =
    and_then (argument (number_read 4294967295) ws)
    (λ i. and_then (argument seed_read (rest_of ws))
    (λ s. and_then (optional (number_read most_bytes) 512 (rest_of (rest_of ws)))
    (λ n. and_then (no_more (rest_of (rest_of (rest_of ws)))) (λ _. Ok (put_sector i s n)))))

abbrev pub verb_step : Verb → List (List ℕ) → Result Action Misread
verb_step PacketVerb ws = packet_step ws
verb_step BuildVerb ws = build_step ws
verb_step CableVerb ws = cable_step ws
verb_step PortVerb ws = port_step ws
verb_step CarryVerb ws = carry_step ws
verb_step ClearVerb ws = clear_step ws
verb_step MemoryVerb ws = memory_step ws
verb_step LockVerb ws = lock_step ws
verb_step SectorVerb ws = sector_step ws
verb_step PutVerb ws = put_step ws

-- the step that the words of a line name
abbrev pub step_named : List (List ℕ) → Result Action Misread
step_named ws = and_then (argument verb_read ws) (λ v. verb_step v (rest_of ws))

abbrev pub comment : List ℕ → Bool
comment [] = false
comment (b ∷ bs) = b == 35

-- a line without words, and a comment, which begins with #
abbrev pub passed_over : List (List ℕ) → Bool
passed_over [] = true
passed_over (w ∷ ws) = comment w

abbrev pub saying : Result Action Misread → Saying
saying (Ok a) = says a
saying (Err why) = not_understood why

-- what a line says
unfoldable pub understood : List ℕ → Saying
understood line = cond (passed_over (words line)) nothing_said (saying (step_named (words line)))
