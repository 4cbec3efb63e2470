use Rattle.std.proofs.Common.{◌≡◌, ℕ, ◌+◌, ◌-◌, List, ◌++◌, length, take, drop, ap, ◌∙◌, arith}
use borrow.Rule.Slice.PartMut.{put_mid}
use Rattle.std.proofs.lemmas.List.{drop-drop}
use Rattle.store.specs.Plain.{overlaid}
use Rattle.store.proofs.plain.lay_over.Goals as goal

put_is_overlaid : (memory bytes copied : List ℕ) (start : ℕ) → copied ≡ bytes
    → put_mid start (start + length bytes - start) memory copied ≡ overlaid memory start bytes
unfolding overlaid
put_is_overlaid memory bytes copied start same =
    let n : start + length bytes - start ≡ length bytes = omega arith in
    ap (λ l. take start memory ++ (l ++ drop (start + length bytes - start) (drop start memory))) same
    ∙ ap (λ k. take start memory ++ (bytes ++ drop k (drop start memory))) n
    ∙ ap (λ l. take start memory ++ (bytes ++ l)) (drop-drop (length bytes) start memory)

pub returns : goal.returns
returns c = put_is_overlaid c.args.memory.now c.args.bytes.now _ c.args.start c.copy_from_slice.ensures.after
