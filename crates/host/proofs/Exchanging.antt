-- What one exchange comes to, from the contracts of the wire, of the reader and of the store.
use Rattle.std.proofs.Common.{◌≡◌, ℕ, min, true, List, [], ◌++◌, length, take, Some, None, sym, refl, ap, ◌∙◌, subst, subst₂, inl, inr, arith}
use Rattle.std.proofs.lemmas.List.{take_at}
use Rattle.packet.specs.Building.{building, built_memory, can_be_built}
use Rattle.packet.specs.Parts.{Parts}
use Rattle.packet.specs.Reading.{reading, refused}
use Rattle.reader.specs.Answers.{Answer, quiet, says, answer_bytes, answer_memory}
use Rattle.reader.specs.BulkEnds.{Outcome}
use Rattle.reader.specs.Disk.{Disk, Written, Left}
use Rattle.reader.specs.Hears.{hears}
use Rattle.reader.specs.Promises.{CanBeSent}
use Rattle.reader.specs.State.{State}
use Rattle.reader.proofs.Heard.{an_answer_is_nothing_or_a_built_packet}
use Rattle.wire.specs.Carrying.{Arrives, Carried}
use Rattle.wire.specs.Delivery.{Delivery, delivered, spoiled, heard_of, counted}
use Rattle.wire.proofs.Choice.{a_built_packet_is_delivered_or_spoiled}
use Rattle.host.specs.Process.{World, Runs, Stands, Performs, sends, exchange, counts, counts_home, comes_home, written_on}

-- a tally that stops at 255 counts as the number of spoiled packets does
tally_counts : (n : ℕ) (f : Delivery) → counted (min 255 n) f ≡ min 255 (counts f n)
tally_counts n delivered = refl
tally_counts n (spoiled k) = omega arith

-- the tally after an answer went home, if there was one
abbrev counted_home : Answer → Delivery → ℕ → ℕ
counted_home quiet g n = n
counted_home (says q) g n = counted n g

home_counts : (a : Answer) (g : Delivery) (n : ℕ) → counted_home a g (min 255 n) ≡ min 255 (counts_home a g n)
home_counts quiet g n = refl
home_counts (says q) g n = tally_counts n g

-- what the wire did with an answer
pub record Home (a : Answer) (before : ℕ) (arrival : List ℕ) (after : ℕ) : Type 0 where
  pub choice : Delivery
  pub heard : reading arrival ≡ comes_home a choice
  pub tally : after ≡ counted_home a choice before

nothing_is_heard : reading [] ≡ refused 20
unfolding reading
nothing_is_heard = refl

-- of nothing, nothing comes and nothing is counted
none_counted : (before after : ℕ) (arrival : List ℕ) → arrival ≡ [] → Arrives [] before arrival after → after ≡ before
none_counted before after arrival none (inl same) = same.1
none_counted before after arrival none (inr other) = absurd (other.0 none)

goes_home : (a : Answer) (before : ℕ) (arrival : List ℕ) (after : ℕ) → CanBeSent a → Carried (answer_bytes a) before arrival after → Home a before arrival after
goes_home quiet before arrival after can c =
    let none = c.none_of_none refl in
    record { choice = delivered; heard = ap reading none ∙ nothing_is_heard; tally = none_counted before after arrival none c.arrives }
goes_home (says q) before arrival after can c =
    let d = a_built_packet_is_delivered_or_spoiled q before arrival after can c in
    record { choice = d.0; heard = d.1; tally = d.2 }

-- the disk is what was left of it, with the verdicts that it has now
disk_left : (x : Written) (d d' : Disk) → Left x d d' → d' ≡ written_on x d'.verdict d
disk_left None d d' l = λ i. record { size = l.0 i; sectors = l.1 i; verdict = λ k bytes. l.2 k bytes i }
disk_left (Some w) d d' l = λ i. record { size = l.0 i; sectors = l.1 i; verdict = d'.verdict }

-- what an exchange leaves, once the wire's choices are known
module _ (p : Parts) (n : ℕ) (s : State) (d : Disk) (f : Delivery) (s' : State) (d' : Disk) (t' : ℕ) (arrival : List ℕ) where
  abbrev Reached : Outcome → Type 0
  Reached o = (g : Delivery) × (s' ≡ o.state) × Left o.written d d' × (reading arrival ≡ comes_home o.answer g) × (t' ≡ counted_home o.answer g (counted (min 255 n) f))

  reached_runs : Reached (hears s d (heard_of p f)) → (w' : World) × Stands (record { tally = t'; reader = s'; disk = d' }) w' × Runs (sends p) (record { reader = s; disk = d; spoiled = n }) (reading arrival) w'
  reached_runs r =
      let g = r.0 in
      let w : World = record { reader = s; disk = d; spoiled = n } in
      let a = (hears s d (heard_of p f)).answer in
      let t = ap (counted_home a g) (tally_counts n f) ∙ home_counts a g (counts f n) in (
        (exchange p w f g d'.verdict).1,
        record { tally = r.4 ∙ t; reader = r.1; disk = disk_left _ d d' r.2 },
        (f, g, d'.verdict, (sym r.3, refl)),
      )

-- bytes in front of their memory, as code cuts them
front_of : (n : ℕ) (bytes memory behind : List ℕ) → memory ≡ bytes ++ behind → n ≡ length bytes → take n memory ≡ bytes
front_of n bytes memory behind is count = ap (take n) is ∙ take_at bytes behind n (sym count)

module _ (p : Parts) (can : can_be_built p ≡ true) (tally : ℕ) (s : State) (d : Disk) where
  -- from the two carryings and what the reader did between them
  by_bytes : (arrival : List ℕ) (between : ℕ) → Carried (building p) tally arrival between
      → (s' : State) (d' : Disk) → s' ≡ (hears s d (reading arrival)).state → Left (hears s d (reading arrival)).written d d'
      → (home : List ℕ) (after : ℕ) → Carried (answer_bytes (hears s d (reading arrival)).answer) between home after
      → Performs (sends p) (record { tally = tally; reader = s; disk = d }) (reading home) (record { tally = after; reader = s'; disk = d' })
  by_bytes arrival between out s' d' state left home after back w stands =
      let choice = a_built_packet_is_delivered_or_spoiled p tally arrival between can out in
      let f = choice.0 in
      let can-go = (an_answer_is_nothing_or_a_built_packet s d (reading arrival)).0 in
      let h = goes_home (hears s d (reading arrival)).answer between home after can-go back in
      let n = w.spoiled in
      let told : between ≡ counted (min 255 n) f = choice.2 ∙ ap (λ k. counted k f) stands.tally in
      let reached : Reached p n s d f s' d' after home (hears s d (heard_of p f)) =
      subst (λ r. Reached p n s d f s' d' after home (hears s d r)) choice.1
      (h.choice, state, left, h.heard, h.tally ∙ ap (counted_home (hears s d (reading arrival)).answer h.choice) told) in
      let done = reached_runs p n s d f s' d' after home reached in
      (done.0, done.1, subst₂ (λ x y. Runs (sends p) (record { reader = x; disk = y; spoiled = n }) (reading home) done.0) stands.reader stands.disk done.2)

  -- the same, from the memories that the bytes stand in
  pub exchanged : (sent : ℕ) (memory : List ℕ) → sent ≡ length (building p) → memory ≡ built_memory p
      → (arrived : ℕ) (heard : List ℕ) (between : ℕ) → Carried (take sent memory) tally (take arrived heard) between
      → (s' : State) (d' : Disk) → s' ≡ (hears s d (reading (take arrived heard))).state → Left (hears s d (reading (take arrived heard))).written d d'
      → (answered : ℕ) (answer : List ℕ) → answered ≡ length (answer_bytes (hears s d (reading (take arrived heard))).answer) → answer ≡ answer_memory (hears s d (reading (take arrived heard))).answer
      → (home : List ℕ) (after : ℕ) → Carried (take answered answer) between home after
      → Performs (sends p) (record { tally = tally; reader = s; disk = d }) (reading home) (record { tally = after; reader = s'; disk = d' })
  exchanged sent memory count is arrived heard between out s' d' state left answered answer told bytes home after back =
      let a = (hears s d (reading (take arrived heard))).answer in
      by_bytes (take arrived heard) between
      (subst (λ l. Carried l tally (take arrived heard) between) (front_of sent (building p) memory _ is count) out)
      s' d' state left home after
      (subst (λ l. Carried l between home after) (front_of answered (answer_bytes a) answer _ bytes told) back)
