-- A capacity is the disk's size, or three packets at least were spoiled.
use Rattle.std.proofs.Common.{◌≡◌, ℕ, ◌^◌, ◌<◌, ◌≤◌, List, length, take, replicate, Some, Option, Result, sym, refl, ap, ◌∙◌, subst, arith}
use Rattle.std.proofs.lemmas.List.{take_all}
use Rattle.reader.specs.declared.phase.Source.TheVariants.{Capacity as CapacityReply}
use Rattle.reader.specs.Disk.{Disk}
use Rattle.transport.specs.declared.blocks.DataDirection.TheVariants.{In as DataIn, Out as DataOut}
use Rattle.transport.specs.declared.commands.Command.TheVariants.{Capacity}
use Rattle.transport.specs.Capacity.{capacity_bytes, capacity_of}
use Rattle.transport.proofs.CapacityRoundTrip.{reading_a_built_capacity_returns_the_size}
use Rattle.transport.specs.Toggles.{toggle_turned}
use Rattle.host.specs.declared.command.Opened.{Opened}
use Rattle.host.specs.declared.fault.Fault.{Fault}
use Rattle.transport.specs.declared.toggles.Toggles.{Toggles}
use Rattle.host.specs.Commands.{ConductedIn, opens, opened_in, conducts_in, size_told, capacity_ended}
use Rattle.host.specs.Process.{World, Runs, done}
use Rattle.host_laws.specs.Commands.{Sized, passed, given_up, ACapacityIsTheSizeOrIsPaidFor}
use Rattle.host_laws.specs.Deliveries.{world}
use Rattle.host_laws.specs.InStep.{Sound}
use Rattle.host_laws.specs.Stages.{Opening, taken, given_up as opening-given-up}
use Rattle.host_laws.proofs.Blocks.{a_block_is_taken_or_is_paid_for}
use Rattle.host_laws.proofs.Chains.{halfway, stays}
use Rattle.host_laws.proofs.Incoming.{level}
use Rattle.host_laws.proofs.Inward.{Brought, brought, given_up as not-brought, data_and_status}

eight_bytes : (size : ℕ) → length (capacity_bytes size) ≡ 8
unfolding capacity_bytes
eight_bytes size = refl

module _ (tag : ℕ) (t : Toggles) (d : Disk) (from : ℕ) (narrow : tag < 2 ^ 32) (sound : Sound d) where
  abbrev bytes : List ℕ
  bytes = capacity_bytes d.size

  -- the eight bytes are read as the size
  told : (buffer : List ℕ) → buffer ≡ take 8 bytes → capacity_of buffer ≡ Some d.size
  told buffer whole =
      ap capacity_of (whole ∙ take_all 8 bytes (omega (arith, eight_bytes d.size)))
      ∙ reading_a_built_capacity_returns_the_size d.size sound.some sound.most

  ends : (n : ℕ) → from ≤ n → (c : ConductedIn) (w : World) → Brought CapacityReply d n 8 c w → Sized d from (capacity_ended tag c) w
  ends n l c w (brought m s t' buffer h in_step whole) =
      subst (λ (o : Option ℕ). Sized d from (size_told tag o, t') w) (sym (told buffer whole)) (passed m s t' (omega arith) in_step)
  ends n l c w (not-brought m s fault t' buffer long at h) = given_up m s fault t' at (omega arith)

  goes_on : (o : Result Opened Fault × Toggles) (w : World) → Opening tag 8 DataIn Capacity t d from o w
      → (c : ConductedIn) (w' : World) → Runs (opened_in (replicate 8 0) o) w c w' → Sized d from (capacity_ended tag c) w'
  goes_on o w (taken n x e h) c w' runs =
      ends n h c w'
      (data_and_status tag CapacityReply d n 8 (omega (arith, eight_bytes d.size)) narrow (omega arith) (toggle_turned DataOut t) (replicate 8 0) refl w (level n x e (omega arith)) c w' runs)
  goes_on o w (opening-given-up n s fault at h) c w' runs = stays (λ (y : ConductedIn). Sized d from (capacity_ended tag y)) _ w c w' runs (given_up n s fault t at h)

pub a_capacity_is_the_size_or_is_paid_for : ACapacityIsTheSizeOrIsPaidFor
a_capacity_is_the_size_or_is_paid_for tag t s d from narrow sound in_step r w' runs =
    let h = halfway (conducts_in tag Capacity t (replicate 8 0)) (λ y. done (capacity_ended tag y)) (world from s d) r w' runs in
    let k = halfway (opens tag 8 DataIn Capacity t) (opened_in (replicate 8 0)) (world from s d) h.result h.between h.first in
    stays (Sized d from) _ h.between r w' h.second
    (goes_on tag t d from narrow sound k.result k.between
    (a_block_is_taken_or_is_paid_for tag 8 DataIn Capacity t s d from narrow (omega arith) tt in_step k.result k.between k.first) h.result h.between k.second)
