-- Where the search for a block's buffer can begin: none of the buffers before has the block. Assumes nothing.
use Rattle.std.specs.Prelude.{◌≡◌, refl, Bool, true, false, ◌||◌, List, ℕ, ◌+◌, ◌≤◌, ◌<◌, get_or, eqb}
use Rattle.std.proofs.Common.{ap, sym, ◌∙◌, arith}
use Rattle.std.proofs.Math.Decide.{ℕ_discrete}
use Rattle.std.proofs.lemmas.Bool.{eqb-false}
use Rattle.base.specs.Decide.{never}

pub record NoneBelow (blocks : List ℕ) (b r : ℕ) : Type 0 where
  pub few : r ≤ 24
  pub none : (k : ℕ) → k < r → get_or blocks k 0 ≡ b → ⊥

-- so far: any is false only where none of the first j has it
pub record Missed (blocks : List ℕ) (b j : ℕ) (any : Bool) : Type 0 where
  pub none : any ≡ false → (k : ℕ) → k < j → get_or blocks k 0 ≡ b → ⊥

module _ (blocks : List ℕ) (b : ℕ) where
  pub missed_none : (any : Bool) → Missed blocks b 0 any
  missed_none any = record { none = λ _ k h. absurd (omega arith) }

  pub missed_more : (j : ℕ) (any : Bool) → Missed blocks b j any → Missed blocks b (j + 1) (any || eqb (get_or blocks j 0) b)
  missed_more j true g = record { none = λ e. never (sym e) }
  missed_more j false g = record { none = none }
    where
      none : eqb (get_or blocks j 0) b ≡ false → (k : ℕ) → k < j + 1 → get_or blocks k 0 ≡ b → ⊥
      none e k h z = elim (ℕ_discrete k j) [
        | yes u ↦ eqb-false (get_or blocks j 0) b e (sym (ap (λ (i : ℕ). get_or blocks i 0) u) ∙ z)
        | no u ↦ g.none refl k (omega arith) z
      ]

  pub below_all : (j : ℕ) (any : Bool) → Missed blocks b j any → 24 ≤ j → any ≡ false → NoneBelow blocks b 24
  below_all j any g h e = record { few = omega arith; none = λ k l. g.none e k (omega arith) }

  pub below-nothing : NoneBelow blocks b 0
  below-nothing = record { few = omega arith; none = λ k l. absurd (omega arith) }
