-- What a test's answer says: the contract of every test is `Decides`. Assumes nothing.
use Rattle.std.specs.Prelude.{◌≡◌, Bool, true, false, not, ◌≢◌, ◌⊎◌, ℕ, ◌≤◌, ◌<◌, leb, ltb, eqb}
use Rattle.std.proofs.Common.{sym, inl, inr, ⊎_elim, arith, eqb-true, ltb-true, ltb-false, leb-true, leb-false}
use Rattle.std.proofs.Math.Decide.{dec_le}
use Rattle.std.proofs.lemmas.Bool.{eqb-false, not-true, not-false}

-- b says whether P holds
pub record Decides (b : Bool) (P : Type 0) : Type 0 where
  pub true_is : b ≡ true → P
  pub false_is : b ≡ false → P → ⊥

tf : ◌≡◌ {A = Bool} true false → ⊥
tf e = let z : ◌≡◌ {A = ℕ} 0 1 = cc in omega arith

pub never : {A : Type 0} → ◌≡◌ {A = Bool} false true → A
never e = absurd (tf (sym e))

module _ {P : Type 0} where
  pub so : P → Decides true P
  so p = record { true_is = λ _. p; false_is = λ e. absurd (tf e) }

  pub not_so : (P → ⊥) → Decides false P
  not_so n = record { true_is = λ e. absurd (tf (sym e)); false_is = λ _. n }

  -- after `if !ok`: the branch says what the test itself was
  pub no_by : {b : Bool} → Decides b P → b ≡ false → P → ⊥
  no_by d e = d.false_is e

  pub yes_by : {b : Bool} → Decides b P → b ≡ true → P
  yes_by d e = d.true_is e

  pub alike : {Q : Type 0} {b : Bool} → (P → Q) → (Q → P) → Decides b P → Decides b Q
  alike f h d = record { true_is = λ e. f (d.true_is e); false_is = λ e q. d.false_is e (h q) }

pub negated : {P : Type 0} {b : Bool} → Decides b P → Decides (not b) (P → ⊥)
negated {b = b} d = record { true_is = λ e. d.false_is (not-true b e); false_is = λ e n. n (d.true_is (not-false b e)) }

pub eq_decides : (a b : ℕ) → Decides (eqb a b) (a ≡ b)
eq_decides a b = record { true_is = eqb-true a b; false_is = eqb-false a b }

pub ne_decides : (a b : ℕ) → Decides (not (eqb a b)) (a ≢ b)
ne_decides a b = record { true_is = λ e. eqb-false a b (not-true (eqb a b) e); false_is = λ e n. n (eqb-true a b (not-false (eqb a b) e)) }

pub lt_decides : (a b : ℕ) → Decides (ltb a b) (a < b)
lt_decides a b = record { true_is = ltb-true a b; false_is = λ e l. let m = ltb-false a b e in omega arith }

pub le_decides : (a b : ℕ) → Decides (leb a b) (a ≤ b)
le_decides a b = record { true_is = leb-true a b; false_is = λ e l. let m = leb-false a b e in omega arith }

-- either way
pub le_or_lt : (a b : ℕ) → (a ≤ b) ⊎ (b < a)
le_or_lt a b = go (dec_le a b)
  where
    go : Dec (a ≤ b) → (a ≤ b) ⊎ (b < a)
    go (yes h) = inl h
    go (no h) = inr (omega arith)

pub lt_or_le : (a b : ℕ) → (a < b) ⊎ (b ≤ a)
lt_or_le a b = ⊎_elim (λ h. inr h) (λ h. inl h) (le_or_lt b a)
