use Rattle.std.proofs.Common.{◌≡◌, ℕ, ◌-◌, ◌<◌, List, [], ◌∷◌, length, get_or, take, drop, Ok, Err, Result, refl, ap, ◌∙◌, arith, take_all, rules}
use Rattle.std.proofs.lemmas.Result.{err_from_is_err_and}
use Rattle.packet.specs.declared.kind.Kind.{Kind}
use Rattle.packet.specs.declared.kind.Kind.TheVariants.{Token, Data, Handshake}
use Rattle.packet.specs.declared.refusal.Refusal.{Refusal}
use Rattle.packet.specs.Kinds.{kind_of_pid}
use Rattle.packet.specs.Reading.{reading, reading_data, reading_rest, refused}
use Rattle.packet.proofs.reading.read.Goals as goal

no_bytes : (s : List ℕ) → length s < 1 → refused 20 ≡ reading s
unfolding reading
no_bytes [] h = refl
no_bytes (b ∷ s) h = absurd (omega arith)

-- what follows the first byte is read by what that byte names
by_kind : (s : List ℕ) (named : Result Kind Refusal) → 0 < length s → kind_of_pid (get_or s 0 0) ≡ named → reading_rest named (drop 1 s) ≡ reading s
unfolding reading
by_kind [] named h k = absurd (omega arith)
by_kind (b ∷ s) named h k = rw k

-- all that follows it
rest_of : (s : List ℕ) → 0 < length s → take (length s - 1) (drop 1 s) ≡ drop 1 s
rest_of [] h = absurd (omega arith)
rest_of (b ∷ s) h = take_all _ _ (omega arith)

pub returns-in_default : goal.returns-in_default
returns-in_default c = no_bytes _ (search rules)

pub returns-in_err-kind : goal.returns-in_err-kind
returns-in_err-kind c =
    let e = err_from_is_err_and c.from_residual.result c.from_residual.ensures.1 in
    rw (e.1, e.2) (by_kind c.args.bytes.now (Err _) (search rules) (search rules))

pub returns-in-Token : goal.returns-in-Token
returns-in-Token c = c.read_token.ensures ∙ by_kind c.args.bytes.now (Ok (Token c.in-Token.kind)) (search rules) (search rules)

pub returns-in-Data : goal.returns-in-Data
returns-in-Data c = c.read_data.ensures ∙ ap (reading_data c.in-Data.kind) (rest_of c.args.bytes.now (search rules)) ∙ by_kind c.args.bytes.now (Ok (Data c.in-Data.kind)) (search rules) (search rules)

pub returns-in-Handshake : goal.returns-in-Handshake
returns-in-Handshake c = c.read_handshake.ensures ∙ by_kind c.args.bytes.now (Ok (Handshake c.in-Handshake.handshake)) (search rules) (search rules)
