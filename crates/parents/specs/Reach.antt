-- If following f from i reaches 1 at all, it does so within N steps, where all on the way is below N and f keeps 1: of N + 1 numbers below N two
-- are the same (`pigeon`), and what comes twice comes again and again. Assumes nothing.
use Rattle.std.specs.Prelude.{◌≡◌, ◌≢◌}
use Rattle.std.proofs.Math.Path.{refl}
use Rattle.std.proofs.Common.{sym, ap, ◌∙◌, arith, div-add-mod', mod-lt, suc-mul, zero-add, suc-add}
use Prim.Native.Nat.{ℕ, zero, suc, ◌+◌, ◌-◌, ◌*◌, ◌/◌, ◌%◌, ◌≤◌, ◌<◌}
use Rattle.std.proofs.Math.Decide.{ℕ_discrete, dec_lt}
use Rattle.base.specs.Pigeon.{pigeon}
use Rattle.rules.specs.Tree.{follow}

module _ (f : ℕ → ℕ) where
  pub follow_add : (a b i : ℕ) → follow f (a + b) i ≡ follow f b (follow f a i)
  unfolding follow
  follow_add zero b i = rw (zero-add b)
  follow_add (suc a) b i = rw (suc-add a b) (follow_add a b (f i))

  module _ (stay : f 1 ≡ 1) (i : ℕ) where
    at_one : (n : ℕ) → follow f n 1 ≡ 1
    unfolding follow
    at_one zero = refl
    at_one (suc n) = rw stay (at_one n)

    -- once there, always there
    later : (a b : ℕ) → a ≤ b → follow f a i ≡ 1 → follow f b i ≡ 1
    later a b l e = ap (λ (x : ℕ). follow f x i) (omega arith) ∙ follow_add a (b - a) i ∙ rw e (at_one (b - a))

    -- what comes twice comes again and again
    again : (a p : ℕ) → follow f (a + p) i ≡ follow f a i → (q r : ℕ) → follow f (a + (q * p + r)) i ≡ follow f (a + r) i
    again a p e zero r = ap (λ (x : ℕ). follow f x i) (omega arith)
    again a p e (suc q) r =
        ap (λ (x : ℕ). follow f x i) (omega (arith, suc-mul q p)) ∙ follow_add (a + p) (q * p + r) i ∙ ap (follow f (q * p + r)) e
        ∙ sym (follow_add a (q * p + r) i) ∙ again a p e q r

    pub bounded : (N : ℕ) → ((k : ℕ) → follow f k i < N) → (m : ℕ) → follow f m i ≡ 1 → follow f N i ≡ 1
    bounded N h m e = elim (ℕ_discrete (follow f N i) 1) [
      | yes z ↦ z
      | no z ↦ absurd (let y : suc N ≤ N = pigeon N (suc N) (λ k. follow f k i) (λ k _. h k) (inj z) in omega arith)
    ]
      where
        twice : follow f N i ≢ 1 → (a b : ℕ) → a < b → b < suc N → follow f a i ≡ follow f b i → ⊥
        twice z a b l lb y =
            let p : ℕ = b - a in
            let c : follow f (a + p) i ≡ follow f a i = ap (λ (x : ℕ). follow f x i) (omega arith) ∙ sym y in
            let late : N < m = elim (dec_lt N m) [ yes s ↦ s | no s ↦ absurd (z (later m N (omega arith) e)) ] in
            let r : ℕ = (m - a) % p in
            let q : ℕ = (m - a) / p in
            let s : q * p + r ≡ m - a = div-add-mod' (m - a) p in
            let rl : r < p = mod-lt (m - a) (omega arith) in
            let one : follow f (a + r) i ≡ 1 = sym (again a p c q r) ∙ ap (λ (x : ℕ). follow f x i) (omega arith) ∙ e in
            z (later (a + r) N (omega arith) one)

        inj : follow f N i ≢ 1 → (a b : ℕ) → a < suc N → b < suc N → follow f a i ≡ follow f b i → a ≡ b
        inj z a b la lb y = elim (dec_lt a b) [
          | yes s ↦ absurd (twice z a b s lb y)
          | no s ↦ elim (dec_lt b a) [ yes s₂ ↦ absurd (twice z b a s₂ la (sym y)) | no s₂ ↦ omega arith ]
        ]
