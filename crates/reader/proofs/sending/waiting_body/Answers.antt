use Rattle.std.proofs.Common.{◌≡◌, ℕ, ◌+◌, ◌/◌, ◌%◌, ◌<◌, ◌≤◌, min, List, [], length, get_or, take, drop, Ok, Err, sym, ap, ◌∙◌, arith}
use Rattle.reader.specs.declared.phase.Source.TheVariants.{Sectors}
use Rattle.reader.specs.Disk.{Disk, disk_of}
use Rattle.reader.specs.Stages.{waiting}
use Rattle.store.specs.declared.answers.StoreRefusal.{StoreRefusal}
use Rattle.store.specs.Access.{read_answer}
use Rattle.reader.proofs.Parts.{Whole, within_a_sector, past_the_sectors}
use Rattle.reader.proofs.sending.waiting_body.Goals as goal

-- the next bytes of sectors, by what reading the sector that they lie in is answered
module _ (d : Disk) (first moved left number : ℕ) (bound : d.size ≤ 65536) (count : length d.sectors ≡ d.size) (lengths : (i : ℕ) → i < d.size → length (get_or d.sectors i []) ≡ 512) (packets : moved % 64 ≡ 0) (capped : number ≡ min (first + moved / 512) 4294967295) where
  whole : Whole d.sectors
  whole i h = lengths i (omega arith)

  part_of_a_sector : (memory : List ℕ) → Ok tt ≡ read_answer d.size number 512 → memory ≡ get_or d.sectors number [] → take (min 64 left) (drop (moved % 512) memory) ≡ waiting d left moved (Sectors first)
  part_of_a_sector memory allowed same =
      let inside : number < d.size = grind arith in
      let place : first + moved / 512 ≡ number = omega arith in
      ap (λ l. take (min 64 left) (drop (moved % 512) l)) (same ∙ ap (λ i. get_or d.sectors i []) (sym place))
      ∙ sym (within_a_sector d.sectors first moved (min 64 left) whole (omega arith) (omega arith))

  nothing_left : (e : StoreRefusal) → Err e ≡ read_answer d.size number 512 → [] ≡ waiting d left moved (Sectors first)
  nothing_left e refused =
      let past : d.size ≤ number = grind arith in
      sym (past_the_sectors d.sectors first moved (min 64 left) whole (omega arith))

pub returns-in-Ok : goal.returns-in-Ok
returns-in-Ok g c =
    let laws = g.met.S.Store in
    let store = c.args.store.now in
    let sending = c.args.sending in
    rw c.in-Sectors.is
    (c.body_from-in-Ok.ensures
    ∙ part_of_a_sector (disk_of g.S.Store store) c.in-Sectors.first sending.moved sending.left c.saturating_add-number.result (laws.bounds store).1 (laws.count store) (laws.lengths store) sending.packets (omega arith) _ c.in-Ok.ensures.answer c.in-Ok.ensures.memory)

pub returns-in-Err : goal.returns-in-Err
returns-in-Err g c =
    let laws = g.met.S.Store in
    let store = c.args.store.now in
    let sending = c.args.sending in
    rw c.in-Sectors.is
    (c.empty.ensures
    ∙ nothing_left (disk_of g.S.Store store) c.in-Sectors.first sending.moved sending.left c.saturating_add-number.result (laws.bounds store).1 (laws.count store) (laws.lengths store) sending.packets (omega arith) _ c.in-Err.ensures.answer)
