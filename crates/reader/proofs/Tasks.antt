-- A status answers the command of the last valid block.
use Rattle.std.proofs.Common.{◌≡◌, ℕ, ◌+◌, ◌-◌, ◌≤◌, min, Bool, true, false, cond, not, ◌&&◌, eqb, List, [], ◌∷◌, ◌++◌, length, Some, None, Ok, Err, Option, Result, sym, refl, subst, arith, length-append}
use Rattle.std.proofs.lemmas.Bool.{eqb-true, true≢false}
use Rattle.packet.specs.declared.kind.DataKind.{DataKind}
use Rattle.packet.specs.declared.kind.Handshake.TheVariants.{Ack, Nak, Stall}
use Rattle.packet.specs.declared.kind.TokenKind.TheVariants.{Out, In, Setup}
use Rattle.packet.specs.Kinds.{same_kind}
use Rattle.packet.specs.Parts.{token, data_packet, handshake}
use Rattle.packet.specs.Reading.{Reading, packet, refused}
use Rattle.reader.specs.declared.state.Expectation.{Expectation}
use Rattle.reader.specs.declared.state.Expectation.TheVariants.{Nothing, SetupData, ControlData, BulkData, ControlAck, BulkAck}
use Rattle.reader.specs.declared.state.Halts.{Halts}
use Rattle.reader.specs.Answers.{acks, stalls}
use Rattle.reader.specs.BulkEnds.{unwritten, receiving_halted, wanted}
use Rattle.reader.specs.Control.{expecting}
use Rattle.reader.specs.Disk.{Disk, Written}
use Rattle.reader.specs.Hears.{hears, hears_data}
use Rattle.reader.specs.Promises.{AStatusAnswersItsCommand}
use Rattle.reader.specs.Reaching.{wants, takes}
use Rattle.reader.specs.Stages.{Plan, fails, plan_of, begin, over, taken_block, take_data, sector_answered}
use Rattle.reader.specs.State.{State, Bulk, Phase, command, data_in, data_out, status, fresh}
use Rattle.reader.specs.Tasks.{Task, with_moved, needed, begun_task, counted, moved_with, after_data, task_after, run, AnswersTask}
use Rattle.store.specs.Access.{write_answer}
use Rattle.store.specs.declared.answers.StoreRefusal.{StoreRefusal}
use Rattle.store.specs.declared.answers.Verdict.{Verdict}
use Rattle.store.specs.declared.answers.Verdict.TheVariants.{Taken, Locked, Full}
use Rattle.transport.specs.Blocks.{block_read}
use Rattle.transport.specs.Commands.{command_of}
use Rattle.transport.specs.declared.blocks.CommandBlock.{CommandBlock}
use Rattle.transport.specs.declared.blocks.DataDirection.TheVariants.{In as Sends, Out as Receives}
use Rattle.transport.specs.declared.refusals.TransportRefusal.{TransportRefusal}
use Rattle.transport.specs.declared.statuses.Status.TheVariants.{PhaseError}
use Rattle.transport.specs.declared.statuses.StatusBlock.{StatusBlock}
use Rattle.transport.specs.declared.toggles.Toggles.{Toggles}
use Rattle.transport.specs.Toggles.{toggle_turned}

-- a task whose data are moving
record UnderWay (tag due left : ℕ) (t : Task) : Type 0 where
  same_tag : tag ≡ t.block.tag
  still_due : due + t.moved ≡ t.block.length
  still_left : left + t.moved ≡ needed t.plan
  fits : left ≤ due
  sound : t.plan ≡ fails → ⊥

-- what the phase says of the task
abbrev Agree : Phase → Option Task → Type 0
Agree command o = Unit {0}
Agree (data_in tag due left moved source) None = ⊥
Agree (data_in tag due left moved source) (Some t) = UnderWay tag due left t
Agree (data_out tag due left sector come) None = ⊥
Agree (data_out tag due left sector come) (Some t) = UnderWay tag due left t × (length come ≤ t.moved)
Agree (status block sent) None = ⊥
Agree (status block sent) (Some t) = AnswersTask block t

-- a block begins a task
agree_begin : (t : Toggles) (h : Halts) (b : CommandBlock) (p : Plan) → Agree (begin t h b p).phase (Some (record { block = b; plan = p; moved = 0 }))
agree_begin t h b p = grind arith

agree_block : (t : Toggles) (h : Halts) (size : ℕ) (r : Result CommandBlock TransportRefusal) (o : Option Task) → Agree (taken_block t h size r).phase (begun_task r size o)
agree_block t h size (Ok b) o = agree_begin t h b (plan_of (command_of b.command) size)
agree_block t h size (Err e) o = tt

-- data for the disk
module _ (t : Toggles) (h : Halts) (d : Disk) (tag due left sector : ℕ) (come body : List ℕ) (k : Task) (u : UnderWay tag due left k) (some : length come ≤ k.moved) where
  agree_answered : (a : Result Verdict StoreRefusal) → length body ≡ min 64 left → length (come ++ body) ≡ 512
      → Agree (sector_answered t h tag (due - length body) (left - length body) sector (come ++ body) a).0.phase
      (Some (with_moved (counted (sector_answered t h tag (due - length body) (left - length body) sector (come ++ body) a).1 (k.moved + length body)) k))
  agree_answered (Ok Taken) full whole = grind (arith, length-append)
  agree_answered (Ok Locked) full whole = grind (arith, length-append)
  agree_answered (Ok Full) full whole = grind (arith, length-append)
  agree_answered (Err e) full whole = grind (arith, length-append)

  abbrev taken_on : (full whole : Bool) → Bulk × Written
  taken_on full whole =
      cond full
      (cond whole (sector_answered t h tag (due - length body) (left - length body) sector (come ++ body) (write_answer d.size sector 512 (d.verdict sector (come ++ body)))) (record { toggles = t; halts = h; phase = data_out tag (due - length body) (left - length body) sector (come ++ body) }, None))
      (over t h Receives tag due PhaseError, None)

  agree_taken : (full whole : Bool) → eqb (length body) (min 64 left) ≡ full → eqb (length (come ++ body)) 512 ≡ whole
      → Agree (taken_on full whole).0.phase (Some (with_moved (cond full (cond whole (counted (taken_on full whole).1 (k.moved + length body)) (k.moved + length body)) k.moved) k))
  agree_taken true true f w = agree_answered (write_answer d.size sector 512 (d.verdict sector (come ++ body))) (eqb-true _ _ f) (eqb-true _ _ w)
  agree_taken true false f w = grind (arith, length-append)
  agree_taken false whole f w = grind arith

  agree_data : Agree (take_data t h d tag due left sector come body).0.phase (Some (with_moved (moved_with (needed k.plan - k.moved) come body (take_data t h d tag due left sector come body).1 k.moved) k))
  agree_data =
      let same : needed k.plan - k.moved ≡ left = omega (arith, u.still_left) in
      rw same (agree_taken _ _ refl refl)

agree_wanted : (p : Phase) (s : State) (d : Disk) (body : List ℕ) (o : Option Task) → wants p ≡ true → Agree p o → Agree (wanted p s d body).state.bulk.phase (after_data p d.size body (wanted p s d body).written o)
agree_wanted command s d body o is agree = agree_block (toggle_turned Receives s.bulk.toggles) s.bulk.halts d.size (block_read body) o
agree_wanted (data_out tag due left sector come) s d body (Some k) is agree = agree_data (toggle_turned Receives s.bulk.toggles) s.bulk.halts d tag due left sector come body k agree.0 agree.1
agree_wanted (status block true) s d body o is agree = agree_block (toggle_turned Receives (toggle_turned Sends s.bulk.toggles)) s.bulk.halts d.size (block_read body) o
agree_wanted (data_out tag due left sector come) s d body None is agree = absurd agree
agree_wanted (data_in tag due left moved source) s d body o is agree = absurd (true≢false (sym is))
agree_wanted (status block false) s d body o is agree = absurd (true≢false (sym is))

agree_bulk_data : (turn halt : Bool) (p : Phase) (s : State) (d : Disk) (body : List ℕ) (o : Option Task) → s.bulk.phase ≡ p → Agree p o
    → Agree (cond turn (cond halt (unwritten (expecting Nothing s, stalls)) (wanted p s d body)) (unwritten (expecting Nothing s, acks))).state.bulk.phase
    (cond (turn && (not halt && wants p)) (after_data p d.size body (cond turn (cond halt (unwritten (expecting Nothing s, stalls)) (wanted p s d body)) (unwritten (expecting Nothing s, acks))).written o) o)
agree_bulk_data turn halt p s d body o is agree = grind (arith, agree_wanted p s d body o)

agree_hears_data : (x : Expectation) (s : State) (d : Disk) (k : DataKind) (body : List ℕ) (o : Option Task) → Agree s.bulk.phase o
    → Agree (hears_data x s d k body).state.bulk.phase (cond (takes x s k) (after_data s.bulk.phase d.size body (hears_data x s d k body).written o) o)
agree_hears_data SetupData s d k body o agree = grind arith
agree_hears_data ControlData s d k body o agree = agree
agree_hears_data BulkData s d k body o agree = agree_bulk_data (same_kind k s.bulk.toggles.data_out) (receiving_halted s.bulk.halts) s.bulk.phase s d body o refl agree
agree_hears_data Nothing s d k body o agree = agree
agree_hears_data ControlAck s d k body o agree = agree
agree_hears_data BulkAck s d k body o agree = agree

agree_hears : (s : State) (d : Disk) (r : Reading) (o : Option Task) → Agree s.bulk.phase o → Agree (hears s d r).state.bulk.phase (task_after s d r o)
agree_hears s d (packet (token Setup a e)) o agree = grind arith
agree_hears s d (packet (token Out a e)) o agree = grind arith
agree_hears s d (packet (token In a e)) o agree = grind arith
agree_hears s d (packet (data_packet k body)) o agree = agree_hears_data s.expects s d k body o agree
agree_hears s d (packet (handshake Ack)) o agree = grind arith
agree_hears s d (packet (handshake Nak)) o agree = agree
agree_hears s d (packet (handshake Stall)) o agree = agree
agree_hears s d (refused n) o agree = agree

agree_run : (s : State) (o : Option Task) (arrivals : List (Disk × Reading)) → Agree s.bulk.phase o → Agree (run s o arrivals).0.bulk.phase (run s o arrivals).1
agree_run s o [] agree = agree
agree_run s o (x ∷ xs) agree = agree_run (hears s x.0 x.1).state (task_after s x.0 x.1 o) xs (agree_hears s x.0 x.1 o agree)

answers : (b : StatusBlock) (sent : Bool) (o : Option Task) → Agree (status b sent) o → (t : Task) × ((o ≡ Some t) × AnswersTask b t)
answers b sent None agree = absurd agree
answers b sent (Some t) agree = (t, (refl, agree))

pub a_status_answers_its_command : AStatusAnswersItsCommand
a_status_answers_its_command arrivals b sent waits =
    answers b sent (run fresh None arrivals).1
    (subst (λ p. Agree p (run fresh None arrivals).1) waits (agree_run fresh None arrivals tt))
