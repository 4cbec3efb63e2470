-- One changed bit of a built packet gives no packet.
use Rattle.std.proofs.Common.{◌≡◌, ℕ, zero, suc, ◌+◌, ◌-◌, ◌*◌, ◌/◌, ◌%◌, ◌^◌, ◌<◌, ◌≤◌, Bool, true, false, cond, not, eqb, leb, List, [], ◌∷◌, ◌++◌, length, get_or, take, Err, sym, refl, ap, ◌∙◌, subst, subst₂, inl, inr, append_assoc, append-nil, suc-add, pow-suc, zero-add, add-one, one-add, arith, lit≤, length-append, length-set, length-take, shr-shr}
use native.Mathlib.Nat.{mul-mod_left}
use lib.Bits.{bit_xor, xor_lt, xor_shr, xor_mod, xor_zero_r}
use lib.Pow.{pow-lt, field, mod-mod-pow}
use Rattle.std.proofs.lemmas.List.{get_or-set_same, get_or-set_other, get_or_at}
use Rattle.std.proofs.lemmas.Bool.{eqb-true, and_parts, leb-true, cases_eq}
use Rattle.packet.specs.declared.kind.TokenKind.{TokenKind}
use Rattle.packet.specs.declared.kind.TokenKind.TheVariants.{Out, In, Setup}
use Rattle.packet.specs.declared.kind.DataKind.{DataKind}
use Rattle.packet.specs.declared.kind.DataKind.TheVariants.{Data0, Data1}
use Rattle.packet.specs.declared.kind.Handshake.TheVariants.{Ack, Nak, Stall}
use Rattle.packet.specs.declared.kind.Kind.{Kind}
use Rattle.packet.specs.declared.kind.Kind.TheVariants.{Token, Data, Handshake}
use Rattle.packet.specs.declared.refusal.Refusal.TheVariants.{WrongComplement}
use Rattle.packet.specs.Bits.{bits, bits_of, odd}
use Rattle.packet.specs.Building.{building, can_be_built, token_check, token_word, body_check, word_bytes}
use Rattle.packet.specs.Kinds.{pid, kind_of_pid}
use Rattle.packet.specs.Lawful.{Sized}
use Rattle.packet.specs.Parts.{Parts, token, data_packet, handshake}
use Rattle.packet.specs.Promises.{OneBit, bit_changed, OneChangedBitIsNoPacket}
use Rattle.packet.specs.Reading.{packet, refused, reading, reading_rest, reading_token, reading_word, reading_data, reading_body}
use Rattle.packet.proofs.Mirrored.{mirrored_below}
use Rattle.packet.specs.OddGenerator.{odd_generator_is_lawful}
use Rattle.packet.proofs.RoundTrip.{word_fields, read_by_kind, read_body_and_word, last_two}
use Rattle.packet.proofs.WrongCheck.{one_changed_bit_gives_a_wrong_check}

-- the lowest bit, changed
changed_digit : (d : ℕ) → d < 2 → eqb (bit_xor d 1) 1 ≡ not (eqb d 1)
changed_digit zero h = refl
changed_digit (suc zero) h = refl
changed_digit (suc (suc d)) h = absurd (omega arith)

even_power : (k : ℕ) → 2 ^ suc k % 2 ≡ 0
even_power k = rw pow-suc (mul-mod_left (2 ^ k) 2)

half_power : (k : ℕ) → 2 ^ suc k / 2 ≡ 2 ^ k
half_power k = rw pow-suc (omega arith)

-- a number's bits, one of which is changed
changed_bits : (n b k : ℕ) → k < n → OneBit (bits n b) (bits n (bit_xor b (2 ^ k)))
unfolding bits
changed_bits zero b k h = absurd (omega arith)
changed_bits (suc n) b zero h = inl (
  ap (λ z. eqb z 1) (xor_mod b 1 1) ∙ changed_digit (b % 2) (omega arith),
  ap (bits n) (sym (xor_shr b 1 1 ∙ xor_zero_r (b / 2))),
)
changed_bits (suc n) b (suc k) h = inr (
  ap (λ z. eqb z 1) (sym (xor_mod b (2 ^ suc k) 1 ∙ ap (bit_xor (b % 2)) (even_power k) ∙ xor_zero_r (b % 2))),
  subst (λ z. OneBit (bits n (b / 2)) (bits n z)) (sym (xor_shr b (2 ^ suc k) 1 ∙ ap (bit_xor (b / 2)) (half_power k))) (changed_bits n (b / 2) k (omega arith)),
)

-- a list of bits that differs in one place still does with others in front of it and behind it
in_front : (xs ys zs : List Bool) → OneBit ys zs → OneBit (xs ++ ys) (xs ++ zs)
in_front [] ys zs d = d
in_front (x ∷ xs) ys zs d = inr (refl, in_front xs ys zs d)

behind : (xs ys zs : List Bool) → OneBit xs ys → OneBit (xs ++ zs) (ys ++ zs)
behind [] ys zs d = absurd d
behind (x ∷ xs) [] zs d = absurd d
behind (x ∷ xs) (y ∷ ys) zs (inl d) = inl (d.0, ap (λ l. l ++ zs) d.1)
behind (x ∷ xs) (y ∷ ys) zs (inr d) = inr (d.0, behind xs ys zs d.1)

-- bytes, one bit of which is changed
changed_bytes : (bytes : List ℕ) (i k : ℕ) → i < length bytes → k < 8 → OneBit (bits_of bytes) (bits_of (bit_changed bytes i k))
unfolding bits_of
changed_bytes [] i k h g = absurd (omega arith)
changed_bytes (b ∷ bytes) zero k h g = behind (bits 8 b) (bits 8 (bit_xor b (2 ^ k))) (bits_of bytes) (changed_bits 8 b k g)
changed_bytes (b ∷ bytes) (suc i) k h g = in_front (bits 8 b) (bits_of bytes) (bits_of (bit_changed bytes i k)) (changed_bytes bytes i k (omega arith) g)

-- fields of a number as bits --------------------------------------------------------------------------------------

bits_split : (m n v : ℕ) → bits (m + n) v ≡ bits m v ++ bits n (v / 2 ^ m)
unfolding bits
bits_split zero n v =
    let one : v / 1 ≡ v = omega arith in
    rw (zero-add, one) refl
bits_split (suc m) n v =
    rw suc-add
    (ap (λ l. odd v ∷ l) (bits_split m n (v / 2) ∙ ap (λ z. bits m (v / 2) ++ bits n z) (shr-shr v 1 m ∙ ap (λ z. v / 2 ^ z) (one-add m))))

bits_low : (k v : ℕ) → bits k v ≡ bits k (v % 2 ^ k)
unfolding bits
bits_low zero v = refl
bits_low (suc k) v =
    let half : v % 2 ^ suc k / 2 ≡ v / 2 % 2 ^ k = ap (λ z. v % 2 ^ z / 2) (sym (add-one k)) ∙ field v k 1 in
    let low : v % 2 ^ suc k % 2 ≡ v % 2 = ap (λ z. v % 2 ^ z % 2) (sym (add-one k)) ∙ mod-mod-pow v k 1 in
    rw (half, low) (ap (λ l. odd v ∷ l) (bits_low k (v / 2)))

-- a word by its two bytes
two_bits : (x y : ℕ) → x < 256 → bits_of (x ∷ y ∷ []) ≡ bits 16 (x + y * 256)
unfolding bits_of
two_bits x y small =
    let low : (x + y * 256) % 256 ≡ x = omega arith in
    let high : (x + y * 256) / 256 ≡ y = omega arith in
    sym (bits_split 8 8 (x + y * 256) ∙ rw (high, bits_low 8 (x + y * 256), low, append-nil) refl)

word_bits : (w : ℕ) → bits_of (word_bytes w) ≡ bits 16 w
word_bits w =
    let back : w % 256 + w / 256 * 256 ≡ w = omega arith in
    two_bits (w % 256) (w / 256) (omega arith) ∙ ap (bits 16) back

-- a token's word by its three fields
token_bits : (w : ℕ) → bits 16 w ≡ (bits 7 (w % 128) ++ bits 4 (w / 128 % 16)) ++ bits 5 (w / 2048)
token_bits w =
    let check : w / 128 / 16 ≡ w / 2048 = omega arith in
    bits_split 7 9 w
    ∙ ap (λ l. bits 7 w ++ l) (bits_split 4 5 (w / 128) ∙ ap (λ z. bits 4 (w / 128) ++ bits 5 z) check)
    ∙ sym (append_assoc (bits 7 w) (bits 4 (w / 128)) (bits 5 (w / 2048)))
    ∙ (λ i. (bits_low 7 w i ++ bits_low 4 (w / 128) i) ++ bits 5 (w / 2048))

bits_of_append : (xs ys : List ℕ) → bits_of (xs ++ ys) ≡ bits_of xs ++ bits_of ys
unfolding bits_of
bits_of_append [] ys = refl
bits_of_append (x ∷ xs) ys = ap (λ l. bits 8 x ++ l) (bits_of_append xs ys) ∙ sym (append_assoc (bits 8 x) (bits_of xs) (bits_of ys))

sized_5 : Sized 5 0x05
sized_5 = record { some = lit≤ tt; most = lit≤ tt; generator_fits = lit≤ tt }

sized_16 : Sized 16 0x8005
sized_16 = record { some = lit≤ tt; most = lit≤ tt; generator_fits = lit≤ tt }

-- each part of a packet ------------------------------------------------------------------------------------------

below_8 : (P : ℕ → Type 0) → P 0 → P 1 → P 2 → P 3 → P 4 → P 5 → P 6 → P 7 → (k : ℕ) → k < 8 → P k
below_8 P a b c d e f g h zero l = a
below_8 P a b c d e f g h (suc zero) l = b
below_8 P a b c d e f g h (suc (suc zero)) l = c
below_8 P a b c d e f g h (suc (suc (suc zero))) l = d
below_8 P a b c d e f g h (suc (suc (suc (suc zero)))) l = e
below_8 P a b c d e f g h (suc (suc (suc (suc (suc zero))))) l = f
below_8 P a b c d e f g h (suc (suc (suc (suc (suc (suc zero)))))) l = g
below_8 P a b c d e f g h (suc (suc (suc (suc (suc (suc (suc zero))))))) l = h
below_8 P a b c d e f g h (suc (suc (suc (suc (suc (suc (suc (suc k)))))))) l = absurd (omega arith)

-- a changed bit of the first byte: its halves are no longer complements
Unpaired : Kind → ℕ → Type 0
Unpaired kind k = kind_of_pid (bit_xor (pid kind) (2 ^ k)) ≡ Err WrongComplement

unpaired : (kind : Kind) (k : ℕ) → k < 8 → Unpaired kind k
unfolding Unpaired
unpaired (Token Out) = below_8 (Unpaired (Token Out)) refl refl refl refl refl refl refl refl
unpaired (Token In) = below_8 (Unpaired (Token In)) refl refl refl refl refl refl refl refl
unpaired (Token Setup) = below_8 (Unpaired (Token Setup)) refl refl refl refl refl refl refl refl
unpaired (Data Data0) = below_8 (Unpaired (Data Data0)) refl refl refl refl refl refl refl refl
unpaired (Data Data1) = below_8 (Unpaired (Data Data1)) refl refl refl refl refl refl refl refl
unpaired (Handshake Ack) = below_8 (Unpaired (Handshake Ack)) refl refl refl refl refl refl refl refl
unpaired (Handshake Nak) = below_8 (Unpaired (Handshake Nak)) refl refl refl refl refl refl refl refl
unpaired (Handshake Stall) = below_8 (Unpaired (Handshake Stall)) refl refl refl refl refl refl refl refl

changed_first : (kind : Kind) (rest : List ℕ) (k : ℕ) → k < 8 → reading (bit_xor (pid kind) (2 ^ k) ∷ rest) ≡ refused 21
unfolding reading Unpaired
changed_first kind rest k h = ap (λ r. reading_rest r rest) (unpaired kind k h)

-- a test that cannot pass refuses
refuses : (t : Bool) (p : Parts) → (t ≡ true → ⊥) → cond t (packet p) (refused 24) ≡ refused 24
refuses true p never = absurd (never refl)
refuses false p never = refl

changed_word : (kind : TokenKind) (a e u v : ℕ) → a ≤ 127 → e ≤ 15 → u < 256 → OneBit (bits_of (word_bytes (token_word a e))) (bits_of (u ∷ v ∷ [])) → reading_word kind (u + v * 256) ≡ refused 24
changed_word kind a e u v narrow low small d =
    let w = u + v * 256 in
    let fields = word_fields a e (token_check a e) narrow low (mirrored_below 5 _) in
    let sent : bits_of (word_bytes (token_word a e)) ≡ (bits 7 a ++ bits 4 e) ++ bits 5 (token_check a e) =
    word_bits (token_word a e) ∙ token_bits (token_word a e) ∙ (λ i. (bits 7 (fields.0 i) ++ bits 4 (fields.1 i)) ++ bits 5 (fields.2 i)) in
    let heard : bits_of (u ∷ v ∷ []) ≡ (bits 7 (w % 128) ++ bits 4 (w / 128 % 16)) ++ bits 5 (w / 2048) = two_bits u v small ∙ token_bits w in
    refuses _ _
    (λ right. one_changed_bit_gives_a_wrong_check 5 0x05 sized_5 (odd_generator_is_lawful 4 0x05 refl) (bits 7 a ++ bits 4 e) (bits 7 (w % 128) ++ bits 4 (w / 128 % 16)) (w / 2048) (subst₂ OneBit sent heard d) (eqb-true _ _ right))

changed_body : (kind : DataKind) (body front : List ℕ) (u v : ℕ) → u < 256 → OneBit (bits_of (body ++ word_bytes (body_check body))) (bits_of (front ++ u ∷ v ∷ [])) → reading_body kind front (u + v * 256) ≡ refused 24
changed_body kind body front u v small d =
    let sent : bits_of (body ++ word_bytes (body_check body)) ≡ bits_of body ++ bits 16 (body_check body) = bits_of_append body _ ∙ ap (λ l. bits_of body ++ l) (word_bits (body_check body)) in
    let heard : bits_of (front ++ u ∷ v ∷ []) ≡ bits_of front ++ bits 16 (u + v * 256) = bits_of_append front _ ∙ ap (λ l. bits_of front ++ l) (two_bits u v small) in
    refuses _ _
    (λ right. one_changed_bit_gives_a_wrong_check 16 0x8005 sized_16 (odd_generator_is_lawful 15 0x8005 refl) (bits_of body) (bits_of front) (u + v * 256) (subst₂ OneBit sent heard d) (eqb-true _ _ right))

-- a byte stays one when a bit of it is changed
byte_stays : (b k : ℕ) → b < 256 → k < 8 → bit_xor b (2 ^ k) < 256
byte_stays b k h g = xor_lt 8 b (2 ^ k) h (pow-lt g)

byte_of_changed : (l : List ℕ) (i j k : ℕ) → j < length l → get_or l i 0 < 256 → k < 8 → get_or (bit_changed l j k) i 0 < 256
byte_of_changed l i j k within small g =
    elim (cases_eq i j) [
      | inl same ↦ rw same (rw get_or-set_same (byte_stays (get_or l j 0) k (rw same at small) g))
      | inr other ↦ rw get_or-set_other small
    ]

changed_rest_token : (kind : TokenKind) (a e i k : ℕ) → a ≤ 127 → e ≤ 15 → i < 2 → k < 8 → reading_token kind (bit_changed (word_bytes (token_word a e)) i k) ≡ refused 24
changed_rest_token kind a e zero k narrow low h g =
    changed_word kind a e _ _ narrow low (byte_stays (token_word a e % 256) k (omega arith) g) (changed_bytes (word_bytes (token_word a e)) 0 k (omega arith) g)
changed_rest_token kind a e (suc zero) k narrow low h g =
    changed_word kind a e _ _ narrow low (omega arith) (changed_bytes (word_bytes (token_word a e)) 1 k (omega arith) g)
changed_rest_token kind a e (suc (suc i)) k narrow low h g = absurd (omega arith)

changed_data : (kind : DataKind) (body heard : List ℕ) → length body ≤ 64 → length heard ≡ length body + 2 → get_or heard (length heard - 2) 0 < 256 → OneBit (bits_of (body ++ word_bytes (body_check body))) (bits_of heard) → reading_data kind heard ≡ refused 24
changed_data kind body heard short long small d =
    let parts = last_two heard (omega arith) in
    let short' : length (take (length heard - 2) heard) ≤ 64 = simp length-take (omega arith) in
    ap (reading_data kind) parts
    ∙ read_body_and_word kind (take (length heard - 2) heard) _ _ short'
    ∙ changed_body kind body _ _ _ small (subst (λ l. OneBit (bits_of (body ++ word_bytes (body_check body))) (bits_of l)) parts d)

changed_rest_data : (kind : DataKind) (body : List ℕ) (i k : ℕ) → length body ≤ 64 → i < length (body ++ word_bytes (body_check body)) → k < 8 → reading_data kind (bit_changed (body ++ word_bytes (body_check body)) i k) ≡ refused 24
changed_rest_data kind body i k short h g =
    let sent = body ++ word_bytes (body_check body) in
    let long : length (bit_changed sent i k) ≡ length body + 2 = length-set sent i (bit_xor (get_or sent i 0) (2 ^ k)) ∙ length-append body (word_bytes (body_check body)) in
    let at : length (bit_changed sent i k) - 2 ≡ length body = omega arith in
    let low : get_or sent (length body) 0 < 256 = rw (get_or_at body (body_check body % 256) (body_check body / 256 ∷ []) 0 (length body) refl) (omega arith) in
    changed_data kind body (bit_changed sent i k) short long
    (subst (λ n. get_or (bit_changed sent i k) n 0 < 256) (sym at) (byte_of_changed sent (length body) i k h low g))
    (changed_bytes sent i k h g)

no_packet : (p : Parts) (i k : ℕ) → can_be_built p ≡ true → i < length (building p) → k < 8 → (n : ℕ) × (reading (bit_changed (building p) i k) ≡ refused n)
unfolding building
no_packet (token kind a e) zero k can h g = (21, changed_first (Token kind) _ k g)
no_packet (token kind a e) (suc i) k can h g =
    let both = and_parts (leb a 127) (leb e 15) can in
    (24, read_by_kind (Token kind) _ ∙ changed_rest_token kind a e i k (leb-true a 127 both.0) (leb-true e 15 both.1) (omega arith) g)
no_packet (data_packet kind body) zero k can h g = (21, changed_first (Data kind) _ k g)
no_packet (data_packet kind body) (suc i) k can h g = (24, read_by_kind (Data kind) _ ∙ changed_rest_data kind body i k (leb-true (length body) 64 can) (omega arith) g)
no_packet (handshake x) zero k can h g = (21, changed_first (Handshake x) _ k g)
no_packet (handshake x) (suc i) k can h g = absurd (omega arith)

pub one_changed_bit_is_no_packet : OneChangedBitIsNoPacket
one_changed_bit_is_no_packet = no_packet
