-- Reading a built command block returns it, and only built command blocks are accepted.
use Rattle.std.proofs.Common.{◌≡◌, ℕ, true, ◌||◌, eqb, leb, ◌⊎◌, List, ◌∷◌, ◌++◌, length, get_or, take, drop, Ok, sym, refl, ap, ◌∙◌, subst, inl, inr, arith, length-drop}
use Rattle.std.proofs.lemmas.List.{take_all}
use Rattle.std.proofs.lemmas.Bool.Decides.{nat_tests}
use Rattle.std.proofs.lemmas.Bool.{eq-eqb, and_from, and_parts, cond-true}
use Rattle.transport.specs.declared.blocks.CommandBlock.{CommandBlock}
use Rattle.transport.specs.declared.blocks.DataDirection.{DataDirection}
use Rattle.transport.specs.declared.blocks.DataDirection.TheVariants.{In, Out}
use Rattle.transport.specs.Blocks.{flags, direction_of, block_signature, block_bytes, block_read, can_be_sent, is_block, block_in}
use Rattle.transport.specs.Numbers.{low_first, low_first_at}
use Rattle.transport.specs.Promises.{Bytes, BlockFits, ReadingABuiltCommandBlockReturnsIt, OnlyBuiltCommandBlocksAreAccepted}
use Rattle.transport.proofs.Bytes.{low_first_back, four_at, narrow_at, split_off, passed}

known : (d : DataDirection) → (eqb (flags d) 0x80 || eqb (flags d) 0x00) ≡ true
known In = refl
known Out = refl

direction_back : (d : DataDirection) → direction_of (flags d) ≡ d
direction_back In = refl
direction_back Out = refl

built_is_block : (b : CommandBlock) → BlockFits b → is_block (block_bytes b) ≡ true
unfolding block_bytes
built_is_block b fits =
    let long : length (block_bytes b) ≡ 31 = omega (arith, fits.whole_command) in
    let both = and_parts (leb 1 b.command_length) (leb b.command_length 16) fits.sendable in
    and_from _ _ (and_from _ _ (and_from _ _ (and_from _ _ (and_from _ _ (eq-eqb _ _ long) refl) (known b.direction)) refl) both.0) both.1

block_in_built : (b : CommandBlock) → BlockFits b → block_in (block_bytes b) ≡ b
unfolding block_bytes
block_in_built b fits = λ i. record {
  tag = low_first_back b.tag fits.narrow_tag i;
  length = low_first_back b.length fits.narrow_length i;
  direction = direction_back b.direction i;
  command_length = b.command_length;
  command = take_all 16 b.command (omega (arith, fits.whole_command)) i;
}

pub reading_a_built_command_block_returns_it : ReadingABuiltCommandBlockReturnsIt
unfolding block_read
reading_a_built_command_block_returns_it b fits = cond-true _ _ _ (built_is_block b fits) ∙ ap Ok (block_in_built b fits)

flags_back : (f : ℕ) → (f ≡ 0x80) ⊎ (f ≡ 0x00) → f ≡ flags (direction_of f)
flags_back f (inl e) = rw e refl
flags_back f (inr e) = rw e refl

-- what the test says of the bytes
pub record BlockLike (bs : List ℕ) : Type 0 where
  pub long : length bs ≡ 31
  pub signed : low_first_at bs 0 ≡ block_signature
  pub way : (get_or bs 12 0 ≡ 0x80) ⊎ (get_or bs 12 0 ≡ 0x00)
  pub unit : get_or bs 13 0 ≡ 0
  pub sendable : can_be_sent (block_in bs) ≡ true

block_like : (bs : List ℕ) → is_block bs ≡ true → BlockLike bs
block_like bs e = record {
  long = grind (arith, nat_tests);
  signed = grind (arith, nat_tests);
  way = grind (arith, nat_tests);
  unit = grind (arith, nat_tests);
  sendable = grind (arith, nat_tests);
}

module _ (bs : List ℕ) (all : Bytes bs) (like : BlockLike bs) where
  rest : drop 15 bs ≡ take 16 (drop 15 bs)
  rest = sym (take_all 16 (drop 15 bs) (simp length-drop (omega (arith, like.long))))

  bytes_back : bs ≡ block_bytes (block_in bs)
  unfolding block_bytes
  bytes_back =
      split_off 15 0 bs (omega (arith, like.long))
      ∙ (λ i. (four_at bs all 0 ∙ ap low_first like.signed) i ++ (four_at bs all 4 i ++ (four_at bs all 8 i ++ (flags_back _ like.way i ∷ like.unit i ∷ get_or bs 14 0 ∷ rest i))))

  fits : BlockFits (block_in bs)
  fits = record {
    narrow_tag = narrow_at bs all 4;
    narrow_length = narrow_at bs all 8;
    sendable = like.sendable;
    whole_command = ap length (sym rest) ∙ simp length-drop (omega (arith, like.long));
  }

pub only_built_command_blocks_are_accepted : OnlyBuiltCommandBlocksAreAccepted
unfolding block_read
only_built_command_blocks_are_accepted bytes b all e =
    let test = passed _ _ _ _ e in
    let like = block_like bytes test.0 in
    let same : block_in bytes ≡ b = cc (test.1) in
    subst (λ c. BlockFits c × (bytes ≡ block_bytes c)) same (fits bytes all like, bytes_back bytes all like)
