-- A number is among the first n of a list; distinct numbers. Assumes nothing.
use Rattle.std.proofs.Math.Path.{◌≡◌, sym}
use Rattle.std.specs.Prelude.{refl, Bool, List, ℕ, ◌+◌, ◌≤◌, ◌<◌, get_or, ltb}
use Rattle.std.proofs.Common.{ap, ◌∙◌, arith}
use Rattle.std.proofs.Math.Bool.{true, false}
use Rattle.std.proofs.Math.Decide.{ℕ_discrete, dec_lt}
use Rattle.std.proofs.Math.Dec.{eqb}
use borrow.Author.Tests.{eq-eqb, eqb-true, lt-ltb, le-ltb, ltb-true}
use Rattle.base.specs.First.{first, first_before, first_holds}

-- b is one of the first n
unfoldable pub among : List ℕ → ℕ → ℕ → Bool
among l n b = ltb (first (λ k. eqb (get_or l k 0) b) n) n

module _ (l : List ℕ) (n b : ℕ) where
  pub among_where : among l n b ≡ true → (i : ℕ) × (i < n) × (get_or l i 0 ≡ b)
  unfolding among
  among_where h =
      let i = first (λ k. eqb (get_or l k 0) b) n in
      let m : i < n = ltb-true i n h in
      (i, m, eqb-true (get_or l i 0) b (first_holds (λ k. eqb (get_or l k 0) b) n m))

  pub among_yes : (i : ℕ) → i < n → get_or l i 0 ≡ b → among l n b ≡ true
  unfolding among
  among_yes i h e = elim (dec_lt i (first (λ k. eqb (get_or l k 0) b) n)) [
    | yes p ↦ absurd (let z : true ≡ false = sym (eq-eqb (get_or l i 0) b e) ∙ first_before (λ k. eqb (get_or l k 0) b) n i p in let w : ◌≡◌ {A = ℕ} 0 1 = cc in omega arith)
    | no p ↦ lt-ltb (first (λ k. eqb (get_or l k 0) b) n) n (omega arith)
  ]

  pub among_no : among l n b ≡ false → (i : ℕ) → i < n → get_or l i 0 ≡ b → ⊥
  among_no h i m e = let z : true ≡ false = sym (among_yes i m e) ∙ h in let w : ◌≡◌ {A = ℕ} 0 1 = cc in omega arith

  pub among_none : ((i : ℕ) → i < n → get_or l i 0 ≡ b → ⊥) → among l n b ≡ false
  among_none h = go (among l n b) refl
    where
      go : (t : Bool) → among l n b ≡ t → t ≡ false
      go true e = absurd (let w = among_where e in h w.0 w.1 w.2)
      go false e = refl

-- as a search's answer k says it
module _ (l : List ℕ) (n b k : ℕ) (e : k ≡ first (λ i. eqb (get_or l i 0) b) n) where
  pub among-found : k < n → among l n b ≡ true
  unfolding among
  among-found h = lt-ltb (first (λ i. eqb (get_or l i 0) b) n) n (omega arith)

  pub among_missed : n ≤ k → among l n b ≡ false
  unfolding among
  among_missed h = le-ltb (first (λ i. eqb (get_or l i 0) b) n) n (omega arith)

-- those of the first n that are below a limit are distinct
pub record Distinct (l : List ℕ) (n limit : ℕ) : Type 0 where
  pub same : (i j : ℕ) → i < n → j < n → get_or l i 0 < limit → get_or l i 0 ≡ get_or l j 0 → i ≡ j

module _ (l : List ℕ) (limit i : ℕ) where
  pub distinct_none : Distinct l 0 limit
  distinct_none = record { same = λ a b h k m e. absurd (omega arith) }

  pub distinct_high : Distinct l i limit → limit ≤ get_or l i 0 → Distinct l (i + 1) limit
  distinct_high d h = record {
    same = λ a b p q m e. elim (ℕ_discrete a i) [
      | yes z ↦ absurd (let y : get_or l a 0 ≡ get_or l i 0 = ap (λ (x : ℕ). get_or l x 0) z in omega arith)
      | no z ↦ elim (ℕ_discrete b i) [
        | yes y ↦ absurd (let x : get_or l b 0 ≡ get_or l i 0 = ap (λ (x : ℕ). get_or l x 0) y in omega arith)
        | no y ↦ d.same a b (omega arith) (omega arith) m e
      ]
    ];
  }

  pub distinct_new : Distinct l i limit → among l i (get_or l i 0) ≡ false → Distinct l (i + 1) limit
  distinct_new d h = record {
    same = λ a b p q m e. elim (ℕ_discrete a i) [
      | yes z ↦ elim (ℕ_discrete b i) [
        | yes y ↦ omega arith
        | no y ↦ absurd (among_no l i (get_or l i 0) h b (omega arith) (sym e ∙ ap (λ (x : ℕ). get_or l x 0) z))
      ]
      | no z ↦ elim (ℕ_discrete b i) [
        | yes y ↦ absurd (among_no l i (get_or l i 0) h a (omega arith) (e ∙ ap (λ (x : ℕ). get_or l x 0) y))
        | no y ↦ d.same a b (omega arith) (omega arith) m e
      ]
    ];
  }

  pub distinct_not : (n : ℕ) → i < n → get_or l i 0 < limit → among l i (get_or l i 0) ≡ true → Distinct l n limit → ⊥
  distinct_not n h m e d =
      let w = among_where l i (get_or l i 0) e in
      let z : w.0 ≡ i = d.same w.0 i (omega (arith, w.1)) h (omega (arith, w.2)) w.2 in
      omega (arith, w.1)
