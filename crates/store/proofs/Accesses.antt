-- What is known of an access that is allowed.
use Rattle.std.proofs.Common.{◌≡◌, ℕ, ◌<◌, Bool, true, false, cond, eqb, ltb, Ok, Err, refl, arith}
use Rattle.std.proofs.lemmas.Bool.{ltb-true, eqb-true}
use Rattle.store.specs.declared.answers.StoreRefusal.TheVariants.{PastTheEnd, WrongBuffer}
use Rattle.store.specs.Access.{access}

both : {X : Type 0} (within long : Bool) (x y : X) → Ok y ≡ cond within (cond long (Ok x) (Err WrongBuffer)) (Err PastTheEnd)
    → (within ≡ true) × (long ≡ true) × (y ≡ x)
both true true x y e = (refl, refl, cc)
both true false x y e = let no : ◌≡◌ {A = ℕ} 0 1 = cc in absurd (omega arith)
both false long x y e = let no : ◌≡◌ {A = ℕ} 0 1 = cc in absurd (omega arith)

-- the sector is there, the buffer is a sector long, and the answer is what was to be answered
pub allowed_access : {X : Type 0} (size sector buffer : ℕ) (x y : X) → Ok y ≡ access size sector buffer x
    → (sector < size) × (buffer ≡ 512) × (y ≡ x)
allowed_access size sector buffer x y e =
    let tests = both (ltb sector size) (eqb buffer 512) x y e in
    (ltb-true _ _ tests.0, eqb-true _ _ tests.1, tests.2)
