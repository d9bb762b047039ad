-- A run of numbered steps: the first k of the writes w, from number 0 on. A commit and a recovery are runs, and a cut is a shorter run.
-- Assumes nothing.
use Rattle.std.specs.Prelude.{◌≡◌, ℕ, zero, suc, ◌+◌}
use Rattle.std.proofs.Math.Path.{refl, ap}
use Rattle.std.proofs.Common.{◌∙◌}
use Rattle.std.proofs.Math.Numerals.{add-one}

module _ {A : Type 0} where
  -- the first k steps
  unfoldable pub run : (ℕ → A → A) → ℕ → A → A
  run w zero d = d
  run w (suc k) d = w k (run w k d)

  pub run_none : (w : ℕ → A → A) (d : A) → run w 0 d ≡ d
  unfolding run
  run_none w d = refl

  -- one more: what the step gives, then the run so far
  pub run_more : {e' e : A} (w : ℕ → A → A) (k : ℕ) (d : A) → e' ≡ w k e → e ≡ run w k d → e' ≡ run w (k + 1) d
  unfolding run
  run_more w k d p q = rw add-one (p ∙ ap (w k) q)
