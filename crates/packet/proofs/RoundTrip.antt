-- Reading a built packet returns its parts, and only built packets are accepted.
use Rattle.std.proofs.Common.{◌≡◌, ℕ, zero, suc, ◌+◌, ◌-◌, ◌*◌, ◌/◌, ◌%◌, ◌<◌, ◌≤◌, Bool, true, false, cond, eqb, leb, List, [], ◌∷◌, ◌++◌, length, get_or, take, drop, Ok, Err, Result, sym, refl, ap, ◌∙◌, subst, arith, length-append, take-append-drop, length-take}
use Rattle.std.proofs.lemmas.List.{take_at, get_or_at, get_or-append-add, drop_more, drop_all}
use Rattle.std.proofs.lemmas.Bool.{eqb-true, eq-eqb, le-leb, leb-true, and_from, and_parts, cond-true}
use Rattle.packet.specs.declared.kind.TokenKind.{TokenKind}
use Rattle.packet.specs.declared.kind.TokenKind.TheVariants.{Out, In, Setup}
use Rattle.packet.specs.declared.kind.DataKind.{DataKind}
use Rattle.packet.specs.declared.kind.DataKind.TheVariants.{Data0, Data1}
use Rattle.packet.specs.declared.kind.Handshake.{Handshake as Handshakes}
use Rattle.packet.specs.declared.kind.Handshake.TheVariants.{Ack, Nak, Stall}
use Rattle.packet.specs.declared.kind.Kind.{Kind}
use Rattle.packet.specs.declared.kind.Kind.TheVariants.{Token, Data, Handshake}
use Rattle.packet.specs.declared.refusal.Refusal.{Refusal}
use Rattle.packet.specs.declared.refusal.Refusal.TheVariants.{WrongComplement}
use Rattle.packet.specs.Building.{building, can_be_built, token_check, token_word, body_check, word_bytes}
use Rattle.packet.specs.Kinds.{pid, kinds, sought, kind_of_pid}
use Rattle.packet.specs.Parts.{Parts, token, data_packet, handshake}
use Rattle.packet.specs.Promises.{Bytes, ReadingABuiltPacketReturnsItsParts, OnlyBuiltPacketsAreAccepted}
use Rattle.packet.specs.Reading.{Reading, packet, refused, reading, reading_rest, reading_token, reading_word, reading_data, reading_body, reading_handshake}
use Rattle.packet.proofs.Mirrored.{mirrored_below}

-- a first byte names its kind
pub pid_names_its_kind : (k : Kind) → kind_of_pid (pid k) ≡ Ok k
pid_names_its_kind (Token Out) = refl
pid_names_its_kind (Token In) = refl
pid_names_its_kind (Token Setup) = refl
pid_names_its_kind (Data Data0) = refl
pid_names_its_kind (Data Data1) = refl
pid_names_its_kind (Handshake Ack) = refl
pid_names_its_kind (Handshake Nak) = refl
pid_names_its_kind (Handshake Stall) = refl

-- a packet that begins with the byte of a kind is read by that kind
pub read_by_kind : (k : Kind) (rest : List ℕ) → reading (pid k ∷ rest) ≡ reading_rest (Ok k) rest
unfolding reading
read_by_kind k rest = ap (λ r. reading_rest r rest) (pid_names_its_kind k)

-- the three fields of a token's word
pub word_fields : (a e t : ℕ) → a ≤ 127 → e ≤ 15 → t < 32 → ((a + e * 128 + t * 2048) % 128 ≡ a) × ((a + e * 128 + t * 2048) / 128 % 16 ≡ e) × ((a + e * 128 + t * 2048) / 2048 ≡ t)
word_fields a e t narrow low small = (omega arith, omega arith, omega arith)

-- a word is had back from its two bytes
two_bytes : (w : ℕ) → w % 256 + w / 256 * 256 ≡ w
two_bytes w = omega arith

read_built_word : (k : TokenKind) (a e : ℕ) → a ≤ 127 → e ≤ 15 → reading_word k (token_word a e) ≡ packet (token k a e)
read_built_word k a e narrow low =
    let fields = word_fields a e (token_check a e) narrow low (mirrored_below 5 _) in
    rw (fields.0, fields.1) (cond-true _ _ _ (eq-eqb _ _ fields.2))

-- a body with a word behind it
pub read_body_and_word : (k : DataKind) (body : List ℕ) (x y : ℕ) → length body ≤ 64 → reading_data k (body ++ x ∷ y ∷ []) ≡ reading_body k body (x + y * 256)
read_body_and_word k body x y short =
    let whole : length (body ++ x ∷ y ∷ []) ≡ length body + 2 = length-append body (x ∷ y ∷ []) in
    let n : length (body ++ x ∷ y ∷ []) - 2 ≡ length body = omega arith in
    let m : length (body ++ x ∷ y ∷ []) - 1 ≡ length body + 1 = omega arith in
    let front : take (length body) (body ++ x ∷ y ∷ []) ≡ body = take_at body (x ∷ y ∷ []) (length body) refl in
    let first : get_or (body ++ x ∷ y ∷ []) (length body) 0 ≡ x = get_or_at body x (y ∷ []) 0 (length body) refl in
    let second : get_or (body ++ x ∷ y ∷ []) (length body + 1) 0 ≡ y = get_or-append-add body (x ∷ y ∷ []) 1 0 in
    cond-true _ _ _ (and_from _ _ (le-leb 2 (length (body ++ x ∷ y ∷ [])) (omega arith)) (le-leb (length (body ++ x ∷ y ∷ [])) 66 (omega arith)))
    ∙ rw (n, m, front, first, second) refl

read_built : (p : Parts) → can_be_built p ≡ true → reading (building p) ≡ packet p
unfolding building
read_built (token k a e) can =
    let both = and_parts (leb a 127) (leb e 15) can in
    read_by_kind (Token k) _ ∙ ap (reading_word k) (two_bytes (token_word a e)) ∙ read_built_word k a e (leb-true a 127 both.0) (leb-true e 15 both.1)
read_built (data_packet k body) can =
    read_by_kind (Data k) _ ∙ read_body_and_word k body _ _ (leb-true (length body) 64 can)
    ∙ cond-true _ _ _ (eq-eqb _ _ (two_bytes (body_check body)))
read_built (handshake h) can = read_by_kind (Handshake h) []

pub reading_a_built_packet_returns_its_parts : ReadingABuiltPacketReturnsItsParts
reading_a_built_packet_returns_its_parts = read_built

-- a first byte that names a kind is that kind's
from_sought : (ks : List Kind) (b : ℕ) (k : Kind) → sought ks b ≡ Ok k → b ≡ pid k
from_sought [] b k e = cc
from_sought (j ∷ ks) b k e = go (eqb b (pid j)) refl (from_sought ks b k) e
  where
    go : (t : Bool) → eqb b (pid j) ≡ t → (sought ks b ≡ Ok k → b ≡ pid k) → cond t (Ok j) (sought ks b) ≡ Ok k → b ≡ pid k
    go true is later e = let same : j ≡ k = cc in eqb-true b (pid j) is ∙ ap pid same
    go false is later e = later e

pub kind_has_its_pid : (b : ℕ) (k : Kind) → kind_of_pid b ≡ Ok k → b ≡ pid k
kind_has_its_pid b k = go (eqb (b / 16 + b % 16) 15)
  where
    go : (t : Bool) → cond t (sought kinds b) (Err WrongComplement) ≡ Ok k → b ≡ pid k
    go true e = from_sought kinds b k e
    go false e = cc

-- a test that is followed by a refusal has passed where a packet came out
passed : (t : Bool) (r : Reading) (n : ℕ) (p : Parts) → cond t r (refused n) ≡ packet p → (t ≡ true) × (r ≡ packet p)
passed true r n p e = (refl, e)
passed false r n p e = cc

same_parts : (p q : Parts) → packet p ≡ packet q → p ≡ q
same_parts p q e = cc

pub byte_at : (bs : List ℕ) → Bytes bs → (i : ℕ) → get_or bs i 0 < 256
byte_at [] all i = omega arith
byte_at (b ∷ bs) all zero = all.0
byte_at (b ∷ bs) all (suc i) = byte_at bs all.1 i

-- the last two of a list
pub last_two : (l : List ℕ) → 2 ≤ length l → l ≡ take (length l - 2) l ++ get_or l (length l - 2) 0 ∷ get_or l (length l - 1) 0 ∷ []
last_two l h =
    let i : length l - 2 + 1 ≡ length l - 1 = omega arith in
    let one : drop (length l - 2) l ≡ get_or l (length l - 2) 0 ∷ drop (length l - 2 + 1) l = drop_more l (length l - 2) 0 (omega arith) in
    let two : drop (length l - 1) l ≡ get_or l (length l - 1) 0 ∷ drop (length l - 1 + 1) l = drop_more l (length l - 1) 0 (omega arith) in
    let none : drop (length l - 1 + 1) l ≡ [] = drop_all (length l - 1 + 1) l (omega arith) in
    sym (take-append-drop (length l - 2) l) ∙ ap (λ r. take (length l - 2) l ++ r) (one ∙ rw (i, two, none) refl)

-- a word whose low byte is a byte has the two bytes that it was made of
pub bytes_of_word : (x y : ℕ) → x < 256 → x ∷ y ∷ [] ≡ word_bytes (x + y * 256)
bytes_of_word x y small =
    let low : x ≡ (x + y * 256) % 256 = omega arith in
    let high : y ≡ (x + y * 256) / 256 = omega arith in
    λ i. low i ∷ high i ∷ []

word_parts : (w t : ℕ) → w / 2048 ≡ t → w % 128 + w / 128 % 16 * 128 + t * 2048 ≡ w
word_parts w t e = omega arith

-- what an accepted packet is
Accepted : Parts → List ℕ → Type 0
Accepted p bytes = (can_be_built p ≡ true) × (bytes ≡ building p)

accepted_word : (k : TokenKind) (x y w : ℕ) → x ∷ y ∷ [] ≡ word_bytes w → eqb (w / 2048) (token_check (w % 128) (w / 128 % 16)) ≡ true → Accepted (token k (w % 128) (w / 128 % 16)) (pid (Token k) ∷ x ∷ y ∷ [])
unfolding building Accepted
accepted_word k x y w same right = (
  and_from _ _ (le-leb (w % 128) 127 (omega arith)) (le-leb (w / 128 % 16) 15 (omega arith)),
  ap (λ l. pid (Token k) ∷ l) (same ∙ ap word_bytes (sym (word_parts w _ (eqb-true _ _ right)))),
)

accepted_token : (k : TokenKind) (rest : List ℕ) (p : Parts) → Bytes rest → reading_token k rest ≡ packet p → Accepted p (pid (Token k) ∷ rest)
accepted_token k (x ∷ y ∷ []) p all e =
    let test = passed _ _ _ _ e in
    subst (λ q. Accepted q (pid (Token k) ∷ x ∷ y ∷ [])) (same_parts _ _ test.1) (accepted_word k x y (x + y * 256) (bytes_of_word x y all.0) test.0)
accepted_token k [] p all e = cc
accepted_token k (x ∷ []) p all e = cc
accepted_token k (x ∷ y ∷ z ∷ rest) p all e = cc

accepted_body : (k : DataKind) (body : List ℕ) (x y : ℕ) → length body ≤ 64 → x < 256 → eqb (x + y * 256) (body_check body) ≡ true → Accepted (data_packet k body) (pid (Data k) ∷ (body ++ x ∷ y ∷ []))
unfolding building Accepted
accepted_body k body x y short small right = (
  le-leb (length body) 64 short,
  ap (λ l. pid (Data k) ∷ (body ++ l)) (bytes_of_word x y small ∙ ap word_bytes (eqb-true _ _ right)),
)

accepted_data : (k : DataKind) (rest : List ℕ) (p : Parts) → Bytes rest → reading_data k rest ≡ packet p → Accepted p (pid (Data k) ∷ rest)
accepted_data k rest p all e =
    let long = passed _ _ _ _ e in
    let both = and_parts (leb 2 (length rest)) (leb (length rest) 66) long.0 in
    let least = leb-true 2 (length rest) both.0 in
    let most = leb-true (length rest) 66 both.1 in
    let short : length (take (length rest - 2) rest) ≤ 64 = simp length-take (omega arith) in
    let test = passed _ _ _ _ long.1 in
    subst (λ q. Accepted q (pid (Data k) ∷ rest)) (same_parts _ _ test.1)
    (subst (λ l. Accepted (data_packet k (take (length rest - 2) rest)) (pid (Data k) ∷ l)) (sym (last_two rest least))
    (accepted_body k (take (length rest - 2) rest) _ _ short (byte_at rest all (length rest - 2)) test.0))

accepted_handshake : (h : Handshakes) (rest : List ℕ) (p : Parts) → reading_handshake h rest ≡ packet p → Accepted p (pid (Handshake h) ∷ rest)
unfolding building Accepted
accepted_handshake h [] p e = subst (λ q. Accepted q (pid (Handshake h) ∷ [])) (same_parts _ _ e) (refl, refl)
accepted_handshake h (x ∷ rest) p e = cc

accepted_rest : (first : ℕ) (rest : List ℕ) (p : Parts) (r : Result Kind Refusal) → kind_of_pid first ≡ r → Bytes rest → reading_rest r rest ≡ packet p → Accepted p (first ∷ rest)
accepted_rest first rest p (Ok (Token k)) is all e = subst (λ b. Accepted p (b ∷ rest)) (sym (kind_has_its_pid first (Token k) is)) (accepted_token k rest p all e)
accepted_rest first rest p (Ok (Data k)) is all e = subst (λ b. Accepted p (b ∷ rest)) (sym (kind_has_its_pid first (Data k) is)) (accepted_data k rest p all e)
accepted_rest first rest p (Ok (Handshake h)) is all e = subst (λ b. Accepted p (b ∷ rest)) (sym (kind_has_its_pid first (Handshake h) is)) (accepted_handshake h rest p e)
accepted_rest first rest p (Err x) is all e = cc

accepted : (bytes : List ℕ) (p : Parts) → Bytes bytes → reading bytes ≡ packet p → Accepted p bytes
unfolding reading
accepted [] p all e = cc
accepted (first ∷ rest) p all e = accepted_rest first rest p (kind_of_pid first) refl all.1 e

pub only_built_packets_are_accepted : OnlyBuiltPacketsAreAccepted
unfolding Accepted
only_built_packets_are_accepted = accepted
