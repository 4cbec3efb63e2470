-- What a bulk endpoint sends stays the same until it is acknowledged.
use Rattle.std.proofs.Common.{◌≡◌, ℕ, true, false, cond, List, [], ◌∷◌, sym, refl, ap, ◌∙◌, arith}
use Rattle.std.proofs.lemmas.Bool.{and_right}
use Rattle.packet.specs.declared.kind.DataKind.{DataKind}
use Rattle.packet.specs.declared.kind.TokenKind.TheVariants.{Out, In, Setup}
use Rattle.packet.specs.Parts.{token, data_packet, handshake}
use Rattle.packet.specs.Reading.{Reading, packet, refused}
use Rattle.reader.specs.Answers.{Answer, says, naks, stalls}
use Rattle.reader.specs.BulkEnds.{sending_halted}
use Rattle.reader.specs.Control.{addressed}
use Rattle.reader.specs.Disk.{Disk}
use Rattle.reader.specs.Hears.{hears}
use Rattle.reader.specs.Promises.{asks, AnUnacknowledgedPacketIsSentAgainUnchanged}
use Rattle.reader.specs.Reaching.{reaches_bulk, NoneReachesBulk}
use Rattle.reader.specs.Runs.{heard_all}
use Rattle.reader.specs.Stages.{waiting}
use Rattle.reader.specs.State.{State, Bulk, Phase, command, data_in, data_out, status}
use Rattle.transport.specs.Statuses.{status_bytes}

-- the bulk endpoints but for whether a status has been sent
abbrev marked : Phase → Phase
marked command = command
marked (data_in tag due left moved source) = data_in tag due left moved source
marked (data_out tag due left sector come) = data_out tag due left sector come
marked (status block sent) = status block true

abbrev but_for_sent : Bulk → Bulk
but_for_sent b = record { toggles = b.toggles; halts = b.halts; phase = marked b.phase }

-- they stay the same, and so does the configuration
abbrev Kept : State → State → Type 0
Kept s after = (but_for_sent after.bulk ≡ but_for_sent s.bulk) × (after.control.configured ≡ s.control.configured)

keeps : (s : State) (d : Disk) (r : Reading) → reaches_bulk s r ≡ false → Kept s (hears s d r).state
keeps s d (packet (token Setup a e)) is = grind arith
keeps s d (packet (token Out a e)) is = grind arith
keeps s d (packet (token In a e)) is = grind arith
keeps s d (packet (data_packet k body)) is = grind arith
keeps s d (packet (handshake h)) is = grind arith
keeps s d (refused n) is = (refl, refl)

all_keep : (s : State) (d : Disk) (rs : List Reading) → NoneReachesBulk s d rs → Kept s (heard_all s d rs)
all_keep s d [] none = (refl, refl)
all_keep s d (r ∷ rs) none =
    let first = keeps s d r none.0 in
    let rest = all_keep (hears s d r).state d rs none.1 in
    (rest.0 ∙ first.0, rest.1 ∙ first.1)

-- the answer to an IN by no more than what is kept
abbrev offer : Phase → DataKind → Disk → Answer
offer command k d = naks
offer (data_in tag due left moved source) k d = says (data_packet k (waiting d left moved source))
offer (data_out tag due left sector come) k d = naks
offer (status block sent) k d = says (data_packet k (status_bytes block))

abbrev answer_by : Bulk → Disk → Answer
answer_by b d = cond (sending_halted b.halts) stalls (offer b.phase b.toggles.data_in d)

answered_by : (s : State) (d : Disk) (a : ℕ) → s.control.configured ≡ true → addressed s.control.addresses a ≡ true
    → (hears s d (asks a)).answer ≡ answer_by (but_for_sent s.bulk) d
answered_by s d a on heard = grind arith

pub an_unacknowledged_packet_is_sent_again_unchanged : AnUnacknowledgedPacketIsSentAgainUnchanged
an_unacknowledged_packet_is_sent_again_unchanged s d a between p on heard sent none heard-still =
    let kept = all_keep s d (asks a ∷ between) (and_right (addressed s.control.addresses a) false refl, none) in
    answered_by (heard_all s d (asks a ∷ between)) d a (kept.1 ∙ on) heard-still
    ∙ ap (λ b. answer_by b d) kept.0
    ∙ sym (answered_by s d a on heard)
    ∙ sent
