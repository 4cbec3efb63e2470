use Rattle.std.proofs.Common.{◌≡◌, ℕ, ◌≤◌, List, [], ◌∷◌, length, sym, ap, ◌∙◌, subst, take_all, leb-true, get_or, suc, Fits, w8, arith}
use Rattle.packet.specs.Bodies.{held}
use Rattle.packet.specs.Kinds.{same_kind}
use Rattle.packet.specs.Parts.{parts, data_packet}
use Rattle.packet.specs.Promises.{Bytes}
use Rattle.packet.specs.Reading.{reading, packet}
use Rattle.packet.proofs.RoundTrip.{only_built_packets_are_accepted}
use Rattle.host.specs.Tries.{fits, fetch_data, fetch_of}
use Rattle.host.proofs.judging.judge_arrival.Goals as goal

each_is_a_byte : (l : List ℕ) → ((i : ℕ) → Fits w8 (get_or l i 0)) → Bytes l
each_is_a_byte [] all = tt
each_is_a_byte (b ∷ bs) all = (let first : Fits w8 b = all 0 in omega arith, each_is_a_byte bs (λ i. all (suc i)))

pub returns-in-Ok-Data : goal.returns-in-Ok-Data
returns-in-Ok-Data c =
    let d = c.in-Ok-Data in
    let seen : packet (data_packet d.kind d.body.now) ≡ reading c.args.heard.now = subst (λ p. packet (parts p) ≡ reading c.args.heard.now) d.field-0-is d.ensures in
    let bytes : Bytes c.args.heard.now = each_is_a_byte c.args.heard.now c.type_inv.heard in
    let short : length d.body.now ≤ 64 = leb-true (length d.body.now) 64 (only_built_packets_are_accepted c.args.heard.now (data_packet d.kind d.body.now) bytes (sym seen)).0 in
    let whole : held c.of.result ≡ d.body.now = c.of.ensures ∙ take_all 64 d.body.now short in
    c.judge_data.ensures ∙ ap (λ b. fetch_data (same_kind d.kind c.args.awaited.toggle) (fits c.args.awaited.length b) b) whole ∙ ap (fetch_of c.args.awaited.toggle c.args.awaited.length) seen
