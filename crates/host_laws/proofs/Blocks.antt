-- The block of a command is taken once, or three packets at least were spoiled.
use Rattle.std.proofs.Common.{◌≡◌, ℕ, ◌+◌, ◌^◌, ◌<◌, ◌≤◌, Bool, true, false, cond, List, Some, None, Err, Option, Result, refl, ap, ◌∙◌}
use Rattle.std.proofs.lemmas.Bool.{cond-true, cond-false}
use Rattle.packet.specs.declared.kind.DataKind.{DataKind}
use Rattle.packet.specs.declared.kind.TokenKind.TheVariants.{Out}
use Rattle.packet.specs.Parts.{token, data_packet}
use Rattle.reader.specs.declared.state.Expectation.{Expectation}
use Rattle.reader.specs.declared.state.Expectation.TheVariants.{Nothing, BulkData}
use Rattle.reader.specs.declared.state.Halts.{Halts}
use Rattle.reader.specs.declared.state.Halts.TheVariants.{Each}
use Rattle.reader.specs.declared.state.Transfer.{Transfer}
use Rattle.reader.specs.Answers.{acks, stalls}
use Rattle.reader.specs.Control.{expecting}
use Rattle.reader.specs.BulkEnds.{unwritten, wanted, bulk_data, receiving_halted, turned, same_kind}
use Rattle.reader.specs.Disk.{Disk}
use Rattle.reader.specs.Stages.{Plan, passes, fails, sends, receives, plan_of, begin, take_block, taken_block}
use Rattle.reader.specs.State.{State, Bulk, Phase, command, status}
use Rattle.transport.specs.declared.blocks.CommandBlock.{CommandBlock}
use Rattle.transport.specs.declared.blocks.DataDirection.{DataDirection}
use Rattle.transport.specs.declared.commands.Command.{Command}
use Rattle.transport.specs.Blocks.{block_bytes}
use Rattle.transport.specs.Promises.{CommandFits}
use Rattle.transport.proofs.BlockRoundTrip.{reading_a_built_command_block_returns_it}
use Rattle.transport.proofs.CommandRoundTrip.{reading_a_built_command_returns_it, every_command_fits_a_block}
use Rattle.host.specs.declared.command.Opened.{Opened}
use Rattle.host.specs.declared.fault.Cause.TheVariants.{Nothing as NoAnswer}
use Rattle.host.specs.declared.fault.Fault.{Fault}
use Rattle.transport.specs.declared.toggles.Toggles.{Toggles}
use Rattle.host.specs.Commands.{block_of, block_ended, opens}
use Rattle.host.specs.Process.{World, Runs, done}
use Rattle.host.specs.Transactions.{Ending}
use Rattle.host.specs.Tries.{delivers}
use Rattle.host_laws.specs.Deliveries.{world, Taking, Between, before, begun_only, after, Delivered, taken_once, given_up}
use Rattle.host_laws.specs.InStep.{attached, at_address_1, bulk_at, awaiting, unacknowledged}
use Rattle.host_laws.specs.Stages.{begun_with, Opening, taken, given_up as opening-given-up, ABlockIsTakenOrIsPaidFor}
use Rattle.host_laws.proofs.Chains.{halfway, stays}
use Rattle.host_laws.proofs.Deliveries.{failed_deliveries_are_paid_for}
use Rattle.host.proofs.Toggles.{same_as_itself, not_as_turned, turned_twice}

-- whatever a command comes to, its beginning leaves the toggles as they are
begins_or_is_over : (b : Bool) (v : Bulk) (w : Bulk) (k : DataKind) → v.toggles.data_out ≡ k → w.toggles.data_out ≡ k → (cond b v w).toggles.data_out ≡ k
begins_or_is_over true v w k p q = p
begins_or_is_over false v w k p q = q

begin_keeps_the_toggle : (t : Toggles) (h : Halts) (b : CommandBlock) (p : Plan) → (begin t h b p).toggles.data_out ≡ t.data_out
begin_keeps_the_toggle t h b passes = refl
begin_keeps_the_toggle t h b fails = refl
begin_keeps_the_toggle t h b (sends source n) = begins_or_is_over _ _ _ _ refl refl
begin_keeps_the_toggle t h b (receives sector n) = begins_or_is_over _ _ _ _ refl refl

-- data with the toggle that is not expected are acknowledged and dropped
a_repeat_is_dropped : (s : State) (d : Disk) (k : DataKind) (body : List ℕ) → s.bulk.toggles.data_out ≡ turned k → bulk_data s d k body ≡ unwritten (expecting Nothing s, acks)
a_repeat_is_dropped s d k body e =
    cond-false (same_kind k s.bulk.toggles.data_out) (cond (receiving_halted s.bulk.halts) (unwritten (expecting Nothing s, stalls)) (wanted s.bulk.phase s d body)) (unwritten (expecting Nothing s, acks))
    (ap (same_kind k) e ∙ not_as_turned k)

module _ (tag moves : ℕ) (way : DataDirection) (k : Command) (t : Toggles) (d : Disk) where
  abbrev bytes : List ℕ
  bytes = block_bytes (block_of tag moves way k)

  -- the bytes of the block are read as the block, and its command's as the command
  read_back : tag < 2 ^ 32 → moves < 2 ^ 32 → CommandFits k → (u : Toggles) (h : Halts)
      → take_block u h d.size bytes ≡ begin u h (block_of tag moves way k) (plan_of (Some k) d.size)
  read_back narrow short fits u h =
      ap (taken_block u h d.size) (reading_a_built_command_block_returns_it _ (every_command_fits_a_block tag moves way k narrow short))
      ∙ ap (λ (c : Option Command). begin u h (block_of tag moves way k) (plan_of c d.size)) (reading_a_built_command_returns_it k fits)

  abbrev before_it : Transfer → DataKind → Phase → Expectation → State
  before_it x sending p e = attached x (bulk_at sending t.data_out (Each false false) p) e

  abbrev after_it : Transfer → Expectation → State
  after_it x e = attached x (begun_with tag moves way k t d) e

  abbrev Wants : Transfer → DataKind → Phase → Type 0
  Wants x sending p = wanted p (before_it x sending p BulkData) d bytes ≡ record { state = after_it x Nothing; answer = acks; written = None }

  abbrev block_taking : (x : Transfer) (sending : DataKind) (p : Phase) → Wants x sending p → Taking (token Out 1 2) t.data_out bytes
  block_taking x sending p wants = record {
    disk = d;
    untaken = before_it x sending p Nothing;
    begun = before_it x sending p Nothing;
    taken = after_it x Nothing;
    due = BulkData;
    written = None;
    token_heard = λ e. refl;
    token_again = λ e. refl;
    takes = cond-true _ _ _ (same_as_itself t.data_out) ∙ wants;
    token_after = λ b e. refl;
    repeats = λ b. a_repeat_is_dropped (after_it x BulkData) b t.data_out bytes (begin_keeps_the_toggle (record { data_in = t.data_in; data_out = turned t.data_out }) (Each false false) (block_of tag moves way k) (plan_of (Some k) d.size));
  }

  -- what a run of tries comes to
  module _ (x : Transfer) (sending : DataKind) (p : Phase) (wants : Wants x sending p) where
    still_attached : (n : ℕ) (w : World) → Between (block_taking x sending p wants) n w → (from : ℕ) (fault : Fault) → from + 3 ≤ n → Opening tag moves way k t d from (Err fault, t) w
    still_attached n w (before e) from fault h = opening-given-up n _ fault (at_address_1 x _ e) h
    still_attached n w (begun_only e) from fault h = opening-given-up n _ fault (at_address_1 x _ e) h
    still_attached n w (after e v) from fault h = opening-given-up n _ fault (at_address_1 x _ e) h

    opened : (from : ℕ) (e : Ending (Unit {0})) (w : World) → Delivered (block_taking x sending p wants) 3 from e w → Opening tag moves way k t d from (block_ended tag moves t e) w
    opened from e w (taken_once n y v h) = taken n x y h
    opened from e w (given_up n cause u b h) = still_attached n u b from _ h

    runs_to_opening : (from : ℕ) (e : Expectation) (r : Result Opened Fault × Toggles) (w' : World) → Runs (opens tag moves way k t) (world from (before_it x sending p e) d) r w' → Opening tag moves way k t d from r w'
    runs_to_opening from e r w' runs =
        let h = halfway (delivers 3 (token Out 1 2) (data_packet t.data_out bytes) NoAnswer) (λ y. done (block_ended tag moves t y)) (world from (before_it x sending p e) d) r w' runs in
        stays (Opening tag moves way k t d from) (block_ended tag moves t h.result) h.between r w' h.second
        (opened from h.result h.between
        (failed_deliveries_are_paid_for Out 1 2 t.data_out bytes (block_taking x sending p wants) 3 NoAnswer from _ (before e) _ _ h.first))

pub a_block_is_taken_or_is_paid_for : ABlockIsTakenOrIsPaidFor
a_block_is_taken_or_is_paid_for tag moves way k t s d from narrow short fits (awaiting x e) r w' runs =
    runs_to_opening tag moves way k t d x t.data_in command (ap (λ (b : Bulk). record { state = attached x b Nothing; answer = acks; written = None }) (read_back tag moves way k t d narrow short fits _ _)) from e r w' runs
a_block_is_taken_or_is_paid_for tag moves way k t s d from narrow short fits (unacknowledged x e b) r w' runs =
    runs_to_opening tag moves way k t d x (turned t.data_in) (status b true)
    (ap (λ (c : Bulk). record { state = attached x c Nothing; answer = acks; written = None }) (read_back tag moves way k t d narrow short fits _ _ ∙ ap (λ (y : DataKind). begin (record { data_in = y; data_out = turned t.data_out }) (Each false false) (block_of tag moves way k) (plan_of (Some k) d.size)) (turned_twice t.data_in)))
    from e r w' runs
