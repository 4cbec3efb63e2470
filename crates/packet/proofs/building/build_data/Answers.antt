use Rattle.std.proofs.Common.{◌≡◌, ℕ, suc, ◌+◌, ◌-◌, ◌≤◌, List, [], ◌∷◌, ◌++◌, length, get_or, drop, set, replicate, sym, ap, ◌∙◌, append_assoc, arith, length-append}
use Rattle.std.proofs.lemmas.List.{set_at, drop-replicate}
use Rattle.packet.specs.declared.kind.DataKind.{DataKind}
use Rattle.packet.specs.declared.kind.Kind.TheVariants.{Data}
use Rattle.packet.specs.Building.{building, built_memory, body_check, word_bytes}
use Rattle.packet.specs.Kinds.{pid}
use Rattle.packet.specs.Parts.{data_packet}
use Rattle.packet.proofs.Words.{le_bytes_of_word}
use Rattle.packet.proofs.building.build_data.Goals as goal

-- two bytes written behind a body, where zeros were
behind : (first : ℕ) (body z : List ℕ) (x y : ℕ) → set (set (first ∷ (body ++ 0 ∷ 0 ∷ z)) (length body + 1) x) (length body + 2) y ≡ (first ∷ (body ++ x ∷ y ∷ [])) ++ z
behind first body z x y =
    ap (λ l. set l (length body + 2) y) (set_at (first ∷ body) 0 (0 ∷ z) x (length body + 1) (omega arith) ∙ ap (λ l. first ∷ l) (sym (append_assoc body (x ∷ []) (0 ∷ z))))
    ∙ set_at (first ∷ (body ++ x ∷ [])) 0 z y (length body + 2) (omega (arith, length-append body (x ∷ [])))
    ∙ ap (λ l. first ∷ l) (append_assoc body (x ∷ []) (y ∷ z) ∙ sym (append_assoc body (x ∷ y ∷ []) z))

module _ (k : DataKind) (body : List ℕ) (short : length body ≤ 64) where
  counted : length body + 3 ≡ length (building (data_packet k body))
  unfolding building
  counted = omega (arith, length-append body (word_bytes (body_check body)))

  zeros : drop {A = ℕ} (length body + 1 - 1) (replicate 66 0) ≡ 0 ∷ 0 ∷ replicate (64 - length body) 0
  zeros =
      let left : 66 - (length body + 1 - 1) ≡ suc (suc (64 - length body)) = omega arith in
      ◌∙◌ {b = replicate (66 - (length body + 1 - 1)) 0} (drop-replicate (length body + 1 - 1) 66 0) (ap (λ n. replicate n 0) left)

  filled : (first : ℕ) (copied bytes : List ℕ) → first ≡ pid (Data k) → copied ≡ body → bytes ≡ word_bytes (body_check body)
      → set (set (first ∷ (copied ++ drop (length body + 1 - 1) (replicate 66 0))) (length body + 1) (get_or bytes 0 0)) (length body + 2) (get_or bytes 1 0) ≡ built_memory (data_packet k body)
  unfolding building
  filled first copied bytes f same b =
      let rest : 64 - length body ≡ 67 - length (building (data_packet k body)) = omega (arith, counted) in
      rw (same, zeros, behind first body (replicate (64 - length body) 0) (get_or bytes 0 0) (get_or bytes 1 0), f, b) (ap (λ n. building (data_packet k body) ++ replicate n 0) rest)

pub returns : goal.returns
returns c = record {
  count = counted c.args.kind _ c.requires;
  memory = filled c.args.kind _ c.requires _ _ _ c.from.ensures c.copy_from_slice.ensures.after (c.to_le_bytes.ensures ∙ le_bytes_of_word _ c.body_check.type_inv ∙ ap word_bytes c.body_check.ensures);
}
