-- Reading a built status block returns it, and only built status blocks are accepted.
use Rattle.std.proofs.Common.{◌≡◌, ℕ, zero, suc, ◌≤◌, true, eqb, leb, List, ◌∷◌, ◌++◌, length, get_or, Ok, Result, refl, ap, ◌∙◌, subst, arith}
use Rattle.std.proofs.lemmas.List.{drop_all}
use Rattle.std.proofs.lemmas.Bool.{eqb-true, eq-eqb, le-leb, leb-true, and_from, and_parts, cond-true}
use Rattle.transport.specs.declared.refusals.TransportRefusal.{TransportRefusal}
use Rattle.transport.specs.declared.statuses.Status.{Status}
use Rattle.transport.specs.declared.statuses.Status.TheVariants.{Passed, Failed, PhaseError}
use Rattle.transport.specs.declared.statuses.StatusBlock.{StatusBlock}
use Rattle.transport.specs.Numbers.{low_first, low_first_at}
use Rattle.transport.specs.Promises.{Bytes, StatusFits, ReadingABuiltStatusBlockReturnsIt, OnlyBuiltStatusBlocksAreAccepted}
use Rattle.transport.specs.Statuses.{status_signature, status_number, status_of, status_bytes, status_read, status_in, is_status, is_sound}
use Rattle.transport.proofs.Bytes.{low_first_back, four_at, narrow_at, split_off, passed}

known : (s : Status) → leb (status_number s) 2 ≡ true
known Passed = refl
known Failed = refl
known PhaseError = refl

status_back : (s : Status) → status_of (status_number s) ≡ s
status_back Passed = refl
status_back Failed = refl
status_back PhaseError = refl

status_in_built : (s : StatusBlock) (most : ℕ) → StatusFits s most → status_in (status_bytes s) ≡ s
unfolding status_bytes
status_in_built s most fits = λ i. record {
  tag = low_first_back s.tag fits.narrow_tag i;
  residue = low_first_back s.residue fits.narrow_residue i;
  status = status_back s.status i;
}

built_is_sound : (s : StatusBlock) (most : ℕ) → StatusFits s most → is_sound (status_bytes s) most ≡ true
unfolding status_bytes
built_is_sound s most fits = and_from _ _ (le-leb _ _ (omega (arith, low_first_back s.residue fits.narrow_residue, fits.small_residue))) (known s.status)

built_has_the_tag : (s : StatusBlock) (most : ℕ) → StatusFits s most → eqb (low_first_at (status_bytes s) 4) s.tag ≡ true
unfolding status_bytes
built_has_the_tag s most fits = eq-eqb _ _ (low_first_back s.tag fits.narrow_tag)

built_is_status : (s : StatusBlock) → is_status (status_bytes s) ≡ true
unfolding status_bytes
built_is_status s = refl

pub reading_a_built_status_block_returns_it : ReadingABuiltStatusBlockReturnsIt
unfolding status_read
reading_a_built_status_block_returns_it s most fits =
    cond-true _ _ _ (built_is_status s) ∙ cond-true _ _ _ (built_has_the_tag s most fits) ∙ cond-true _ _ _ (built_is_sound s most fits) ∙ ap Ok (status_in_built s most fits)

same_block : (r s : StatusBlock) → ◌≡◌ {A = Result StatusBlock TransportRefusal} (Ok r) (Ok s) → r ≡ s
same_block r s e = cc

number_back : (n : ℕ) → n ≤ 2 → n ≡ status_number (status_of n)
number_back zero h = refl
number_back (suc zero) h = refl
number_back (suc (suc zero)) h = refl
number_back (suc (suc (suc n))) h = absurd (omega arith)

module _ (bs : List ℕ) (all : Bytes bs) where
  bytes_back : length bs ≡ 13 → low_first_at bs 0 ≡ status_signature → get_or bs 12 0 ≤ 2 → bs ≡ status_bytes (status_in bs)
  unfolding status_bytes
  bytes_back long signed status =
      split_off 13 0 bs (omega (arith, long))
      ∙ (λ i. (four_at bs all 0 ∙ ap low_first signed) i ++ (four_at bs all 4 i ++ (four_at bs all 8 i ++ (number_back _ status i ∷ drop_all 13 bs (omega (arith, long)) i))))

pub only_built_status_blocks_are_accepted : OnlyBuiltStatusBlocksAreAccepted
unfolding status_read
only_built_status_blocks_are_accepted bytes expected most s all e =
    let block = passed _ _ _ _ e in
    let tagged = passed _ _ _ _ block.1 in
    let sound = passed _ _ _ _ tagged.1 in
    let formed = and_parts (eqb (length bytes) 13) (eqb (low_first_at bytes 0) status_signature) block.0 in
    let limits = and_parts (leb (low_first_at bytes 8) most) (leb (get_or bytes 12 0) 2) sound.0 in
    subst (λ r. StatusFits r most × (r.tag ≡ expected) × (bytes ≡ status_bytes r)) (same_block _ _ sound.1) (
      record { narrow_tag = narrow_at bytes all 4; narrow_residue = narrow_at bytes all 8; small_residue = leb-true _ _ limits.0 },
      eqb-true _ _ tagged.0,
      bytes_back bytes all (eqb-true _ _ formed.0) (eqb-true _ _ formed.1) (leb-true _ _ limits.1),
    )
