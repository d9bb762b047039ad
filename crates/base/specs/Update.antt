-- A function changed at one index. Assumes nothing.
use Rattle.std.specs.Prelude.{◌≡◌, refl, ◌≢◌, cond, List, ℕ, ◌<◌, length, set, eqb}
use Rattle.std.proofs.Common.{sym, ◌∙◌, get_or-set_same, get_or-set_other, eq-eqb, ne_eqb}
use Rattle.std.proofs.Math.Path.{fun_ext}
use Rattle.std.proofs.Math.Decide.{ℕ_discrete}
use Rattle.base.specs.Bytes.{bytes}

module _ {A : Type 0} where
  -- f with a at index i
  unfoldable pub upd : (ℕ → A) → ℕ → A → ℕ → A
  upd f i a j = cond (eqb j i) a (f j)

  pub upd_same : (f : ℕ → A) (i : ℕ) (a : A) → upd f i a i ≡ a
  unfolding upd
  upd_same f i a = rw (eq-eqb i i refl)

  pub upd_other : (f : ℕ → A) (i : ℕ) (a : A) (j : ℕ) → j ≢ i → upd f i a j ≡ f j
  unfolding upd
  upd_other f i a j h = rw (ne_eqb j i h)

  pub upd_upd : (f : ℕ → A) (i : ℕ) (a b : A) → upd (upd f i a) i b ≡ upd f i b
  upd_upd f i a b = fun_ext λ j. elim (ℕ_discrete j i) [
    | yes z ↦ rw (z, upd_same (upd f i a) i b, upd_same f i b)
    | no z ↦ upd_other (upd f i a) i b j z ∙ upd_other f i a j z ∙ sym (upd_other f i b j z)
  ]

  pub upd_id : (f : ℕ → A) (i : ℕ) (a : A) → a ≡ f i → upd f i a ≡ f
  upd_id f i a h = fun_ext λ j. elim (ℕ_discrete j i) [
    | yes z ↦ rw (z, upd_same f i a) h
    | no z ↦ upd_other f i a j z
  ]

-- a store to an array
pub upd_set : (l : List ℕ) (i v : ℕ) → i < length l → bytes (set l i v) ≡ upd (bytes l) i v
upd_set l i v h = fun_ext λ j. elim (ℕ_discrete j i) [
  | yes z ↦ rw z (get_or-set_same l i v 0 h ∙ sym (upd_same (bytes l) i v))
  | no z ↦ get_or-set_other l i j v 0 z ∙ sym (upd_other (bytes l) i v j z)
]
