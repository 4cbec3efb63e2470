-- One tree after another: what a run of both is made of.
use Rattle.std.proofs.Common.{refl, subst}
use Rattle.host.specs.Process.{World, Process, done, send, reset, clear, bind, Runs}

-- what lies between a tree and the one after it
pub record Halfway {A B : Type 0} (p : Process A) (f : A → Process B) (w : World) (b : B) (w' : World) : Type 0 where
  pub result : A
  pub between : World
  pub first : Runs p w result between
  pub second : Runs (f result) between b w'

pub halfway : {A B : Type 0} (p : Process A) (f : A → Process B) (w : World) (b : B) (w' : World) → Runs (bind p f) w b w' → Halfway p f w b w'
halfway (done a) f w b w' r = record { result = a; between = w; first = (refl, refl); second = r }
halfway (send p k) f w b w' r =
    let h = halfway (k _) f _ b w' r.3 in
    record { result = h.result; between = h.between; first = (r.0, r.1, r.2, h.first); second = h.second }
halfway (reset k) f w b w' r = let h = halfway k f _ b w' r in record { result = h.result; between = h.between; first = h.first; second = h.second }
halfway (clear k) f w b w' r = let h = halfway k f _ b w' r in record { result = h.result; between = h.between; first = h.first; second = h.second }

-- a tree that is done stays where it is
pub stays : {A : Type 0} (P : A → World → Type 0) (a : A) (w : World) (b : A) (w' : World) → Runs (done a) w b w' → P a w → P b w'
stays P a w b w' r p = subst (λ x. P b x) r.1 (subst (λ x. P x w) r.0 p)
