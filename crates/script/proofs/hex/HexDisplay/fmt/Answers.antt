use Rattle.std.proofs.Common.{rules, ◌≡◌, ℕ, ◌+◌, ◌<◌, ◌≤◌, List, [], ◌∷◌, ◌++◌, length, get_or, take, sym, refl, ap, ◌∙◌}
use Rattle.std.proofs.Output.{has_written_append, has_written_of_eq}
use Rattle.std.proofs.lemmas.List.{take_more, take_all}
use Rattle.std.specs.Fmt.{HasWritten}
use Rattle.script.specs.Hex.{hex_byte, after_blanks, hex_bytes}
use Rattle.script.proofs.hex.HexDisplay.fmt.Goals as goal

after_append : (bs : List ℕ) (b : ℕ) → after_blanks (bs ++ (b ∷ [])) ≡ after_blanks bs ++ (32 ∷ hex_byte b)
after_append [] b = refl
after_append (c ∷ cs) b = ap (λ l. 32 ∷ (hex_byte c ++ l)) (after_append cs b)

one_more : (bs : List ℕ) (i : ℕ) → i < length bs → after_blanks (take i bs) ++ (32 ∷ hex_byte (get_or bs i 0)) ≡ after_blanks (take (i + 1) bs)
one_more bs i lt = sym (after_append (take i bs) (get_or bs i 0)) ∙ ap after_blanks (sym (take_more bs i 0 lt))

all_of : (all bs : List ℕ) (b i : ℕ) → all ≡ b ∷ bs → length bs ≤ i → hex_byte b ++ after_blanks (take i bs) ≡ hex_bytes all
all_of all bs b i is past = ap (λ l. hex_byte b ++ after_blanks l) (take_all i bs past) ∙ ap hex_bytes (sym is)

pub loop-byte-preserved : goal.loop-byte-preserved
loop-byte-preserved g c =
    λ p.
    let bs = c.in-Some.rest.now in
    let i = c.loop-byte.byte-index in
    let put : HasWritten g.W.Write.write_str_gives c.loop-byte.f (32 ∷ []) c.write_str-in-loop-byte.new.self = search rules in
    let shown : HasWritten g.W.Write.write_str_gives c.write_str-in-loop-byte.new.self (hex_byte (get_or bs i 0)) c.fmt-in-loop-byte.new.f = search rules in
    let wrote = has_written_append _ _ _ _ _ _ put shown in
    has_written_of_eq _ _ _ _ _ (one_more bs i c.loop-byte-test.true) (has_written_append _ _ _ _ _ _ (c.loop-byte.invariant p) wrote)

pub returns-clause-writes : goal.returns-clause-writes
returns-clause-writes g c =
    λ p e.
    let b = c.in-Some.first.now in
    let bs = c.in-Some.rest.now in
    let is : c.args.self.now.0.now ≡ b ∷ bs = search rules in
    let wrote : HasWritten g.W.Write.write_str_gives c.args.f.now (hex_byte b) c.fmt.new.f = search rules in
    has_written_of_eq _ _ _ _ _ (all_of c.args.self.now.0.now bs b c.loop-byte.byte-index is c.loop-byte-test.false) (has_written_append _ _ _ _ _ _ wrote (c.loop-byte.invariant wrote.plain))
