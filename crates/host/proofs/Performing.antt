-- Code that performs one tree after another performs both.
use Rattle.std.proofs.Common.{sym, refl, ◌∙◌, subst₂}
use Rattle.store.specs.declared.interface.Store as store
use Rattle.wire.specs.declared.interface.Wire as wire
use Rattle.host.specs.declared.bus.Bus.{Bus as Ends}
use Rattle.host.specs.Buses.{PerformsOver}
use Rattle.host.specs.Process.{World, Process, done, send, reset, clear, bind, Runs, Bus, Performs}

runs_both : {A B : Type 0} (p : Process A) (f : A → Process B) (w m w' : World) (a : A) (b : B) → Runs p w a m → Runs (f a) m b w' → Runs (bind p f) w b w'
runs_both (done a0) f w m w' a b e r = subst₂ (λ x y. Runs (f x) y b w') (sym e.0) (sym e.1) r
runs_both (send p k) f w m w' a b x r = (x.0, x.1, x.2, runs_both (k _) f _ m w' a b x.3 r)
runs_both (reset k) f w m w' a b x r = runs_both k f _ m w' a b x r
runs_both (clear k) f w m w' a b x r = runs_both k f _ m w' a b x r

pub both : {A B : Type 0} (p : Process A) (f : A → Process B) (before between after : Bus) (a : A) (b : B) → Performs p before a between → Performs (f a) between b after → Performs (bind p f) before b after
both p f before between after a b first second w stands =
    let x = first w stands in
    let y = second x.0 x.1 in
    (y.0, y.1, runs_both p f w x.0 y.0 a b x.2 y.2)

pub over : {A : Type 0} (a : A) (b : Bus) → Performs (done a) b a b
over a b w stands = (w, stands, (refl, refl))

-- the same over a bus that keeps its ends
module _ {W S : Type 0} (w : wire.Ghosts W) (s : store.Ghosts S) where
  pub both_over : {A B : Type 0} (p : Process A) (f : A → Process B) (before between after : Ends W S) (a : A) (b : B) → PerformsOver w s p before a between → PerformsOver w s (f a) between b after → PerformsOver w s (bind p f) before b after
  both_over p f before between after a b first second = (first.0 ∙ second.0, first.1 ∙ second.1, both p f _ _ _ a b first.2 second.2)

  pub over_at : {A : Type 0} (a : A) (b : Ends W S) → PerformsOver w s (done a) b a b
  over_at a b = (refl, refl, over a _)

  pub ends_with : {A B : Type 0} (p : Process A) (f : A → B) (b m : Ends W S) (x : A) → PerformsOver w s p b x m → PerformsOver w s (bind p (λ r. done (f r))) b (f x) m
  ends_with p f b m x first = both_over p (λ r. done (f r)) b m m x (f x) first (over_at (f x) m)
