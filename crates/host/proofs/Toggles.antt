-- What holds of the two kinds of data packets.
use Rattle.std.proofs.Common.{◌≡◌, true, false, refl}
use Rattle.packet.specs.declared.kind.DataKind.{DataKind}
use Rattle.packet.specs.declared.kind.DataKind.TheVariants.{Data0, Data1}
use Rattle.packet.specs.Kinds.{turned, same_kind}

pub same_as_itself : (k : DataKind) → same_kind k k ≡ true
same_as_itself Data0 = refl
same_as_itself Data1 = refl

pub not_as_turned : (k : DataKind) → same_kind k (turned k) ≡ false
not_as_turned Data0 = refl
not_as_turned Data1 = refl

pub not_its_other : (k : DataKind) → same_kind (turned k) k ≡ false
not_its_other Data0 = refl
not_its_other Data1 = refl

pub turned_twice : (k : DataKind) → turned (turned k) ≡ k
turned_twice Data0 = refl
turned_twice Data1 = refl
