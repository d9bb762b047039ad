-- The order of the buffers, most recently released first: it misses none, a buffer moves to its front, and the least recently released of
-- those without references is the last of them in it. Assumes nothing.
use Rattle.std.proofs.Math.Path.{◌≡◌, refl, sym, ap}
use Rattle.std.proofs.Common.{◌∙◌, arith, ext_get_or}
use Rattle.std.specs.Prelude.{◌≢◌, Bool, List, [], ◌∷◌, length, eqb}
use Rattle.std.proofs.Math.Bool.{true, false, cond}
use Prim.Native.Nat.{ℕ, zero, suc, ◌+◌, ◌-◌, ◌≤◌, ◌<◌}
use Rattle.std.proofs.Math.Decide.{ℕ_discrete, dec_lt}
use Rattle.std.proofs.Math.ListN.{get_or}
use Rattle.std.proofs.Math.Dec.{ltb}
use borrow.Author.Tests.{eq-eqb, ne_eqb, eqb-true, lt-ltb, le-ltb, ltb-true}
use Rattle.base.specs.First.{first, first-at, first-none, first_before, first_holds}
use Rattle.bio.specs.Among.{among, among_where, among_yes}

-- the order misses no buffer
pub record Named (order : List ℕ) : Type 0 where
  pub each : (j : ℕ) → j < 30 → among order 30 j ≡ true

-- a list without its first j
unfoldable pub without : ℕ → List ℕ → List ℕ
without j [] = []
without j (x ∷ xs) = cond (eqb x j) xs (x ∷ without j xs)

-- j at the front, and the others behind it in the order they had
abbrev pub front : ℕ → List ℕ → List ℕ
front j l = j ∷ without j l

-- the buffer at place k from the end of the order has no references
unfoldable pub free_at : List ℕ → List ℕ → ℕ → Bool
free_at order counts k = cond (ltb (get_or order (29 - k) 0) 30) (eqb (get_or counts (get_or order (29 - k) 0) 0) 0) false

-- the least recently released buffer without references: the last of them in the order, 30 where there is none
unfoldable pub least_recent : List ℕ → List ℕ → ℕ
least_recent order counts = cond (ltb (first (free_at order counts) 30) 30) (get_or order (29 - first (free_at order counts) 30) 0) 30

-- ---- the least recently released one

module _ (order counts : List ℕ) where
  module _ (k : ℕ) where
    pub free_no : 30 ≤ get_or order (29 - k) 0 → free_at order counts k ≡ false
    unfolding free_at
    free_no h = rw (le-ltb _ _ h)

    pub free_held : get_or order (29 - k) 0 < 30 → get_or counts (get_or order (29 - k) 0) 0 ≢ 0 → free_at order counts k ≡ false
    unfolding free_at
    free_held h e = rw (lt-ltb _ _ h, ne_eqb _ _ e)

    pub free_yes : get_or order (29 - k) 0 < 30 → get_or counts (get_or order (29 - k) 0) 0 ≡ 0 → free_at order counts k ≡ true
    unfolding free_at
    free_yes h e = rw (lt-ltb _ _ h, eq-eqb _ _ e)

    pub free_is : free_at order counts k ≡ true → (get_or order (29 - k) 0 < 30) × (get_or counts (get_or order (29 - k) 0) 0 ≡ 0)
    unfolding free_at
    free_is h = go (ltb (get_or order (29 - k) 0) 30) refl h
      where
        go : (s : Bool) → ltb (get_or order (29 - k) 0) 30 ≡ s → cond s (eqb (get_or counts (get_or order (29 - k) 0) 0) 0) false ≡ true → (get_or order (29 - k) 0 < 30) × (get_or counts (get_or order (29 - k) 0) 0 ≡ 0)
        go true e m = (ltb-true _ _ e, eqb-true _ _ m)
        go false e m = absurd (let z : ◌≡◌ {A = ℕ} 0 1 = cc in omega arith)

  -- a search from the end finds it
  pub least_at : (k : ℕ) → k < 30 → ((i : ℕ) → i < k → free_at order counts i ≡ false) → free_at order counts k ≡ true → get_or order (29 - k) 0 ≡ least_recent order counts
  unfolding least_recent
  least_at k h b t =
      let e : first (free_at order counts) 30 ≡ k = first-at (free_at order counts) 30 k h b t in
      rw (e, lt-ltb k 30 h)

  pub least_none : ((i : ℕ) → i < 30 → free_at order counts i ≡ false) → 30 ≡ least_recent order counts
  unfolding least_recent
  least_none b =
      let e : first (free_at order counts) 30 ≡ 30 = first-none (free_at order counts) 30 b in
      rw e

  -- it has no references
  pub least_free : least_recent order counts < 30 → get_or counts (least_recent order counts) 0 ≡ 0
  unfolding least_recent
  least_free h = go (dec_lt (first (free_at order counts) 30) 30) h
    where
      go : Dec (first (free_at order counts) 30 < 30)
          → cond (ltb (first (free_at order counts) 30) 30) (get_or order (29 - first (free_at order counts) 30) 0) 30 < 30
          → get_or counts (cond (ltb (first (free_at order counts) 30) 30) (get_or order (29 - first (free_at order counts) 30) 0) 30) 0 ≡ 0
      go (yes p) m = rw (lt-ltb _ _ p) (free_is (first (free_at order counts) 30) (first_holds (free_at order counts) 30 p)).1
      go (no p) m = absurd (let q : ◌<◌ 30 30 = (rw (le-ltb (first (free_at order counts) 30) 30 (omega arith)) at m) in omega arith)

  -- there is one where a buffer has no references
  pub least_some : Named order → (j : ℕ) → j < 30 → get_or counts j 0 ≡ 0 → least_recent order counts < 30
  unfolding least_recent
  least_some n j l e =
      let w = among_where order 30 j (n.each j l) in
      let i : 29 - (29 - w.0) ≡ w.0 = omega (arith, w.1) in
      let z : get_or order (29 - (29 - w.0)) 0 ≡ j = ap (λ (x : ℕ). get_or order x 0) i ∙ w.2 in
      let y : free_at order counts (29 - w.0) ≡ true = free_yes (29 - w.0) (rw z l) (rw z e) in
      let p : first (free_at order counts) 30 < 30 = elim (dec_lt (first (free_at order counts) 30) 30) [
        | yes q ↦ q
        | no q ↦ absurd (let x : true ≡ false = sym y ∙ first_before (free_at order counts) 30 (29 - w.0) (omega arith) in let v : ◌≡◌ {A = ℕ} 0 1 = cc in omega arith)
      ] in
      rw (lt-ltb _ _ p) (free_is (first (free_at order counts) 30) (first_holds (free_at order counts) 30 p)).0

-- ---- moving to the front

-- where j is in a list of n
abbrev pub place_of : ℕ → List ℕ → ℕ → ℕ
place_of j l n = first (λ i. eqb (get_or l i 0) j) n

pub without-length : (j : ℕ) (l : List ℕ) → place_of j l (length l) < length l → suc (length (without j l)) ≡ length l
unfolding without first
without-length j [] h = absurd (omega arith)
without-length j (x ∷ xs) h = go (eqb x j) refl (λ m. without-length j xs m)
  where
    go : (s : Bool) → eqb x j ≡ s → (place_of j xs (length xs) < length xs → suc (length (without j xs)) ≡ length xs) → suc (length (cond s xs (x ∷ without j xs))) ≡ suc (length xs)
    go true e f = refl
    go false e f =
        let m : suc (place_of j xs (length xs)) < suc (length xs) = (rw e at h) in
        ap suc (f (omega arith))

pub without_before : (j : ℕ) (l : List ℕ) (i : ℕ) → i < place_of j l (length l) → get_or (without j l) i 0 ≡ get_or l i 0
unfolding without first
without_before j [] i h = absurd (omega arith)
without_before j (x ∷ xs) i h = go (eqb x j) refl i h (λ k m. without_before j xs k m)
  where
    go : (s : Bool) → eqb x j ≡ s → (i : ℕ) → i < cond (eqb x j) 0 (suc (place_of j xs (length xs)))
        → ((k : ℕ) → k < place_of j xs (length xs) → get_or (without j xs) k 0 ≡ get_or xs k 0) → get_or (cond s xs (x ∷ without j xs)) i 0 ≡ get_or (x ∷ xs) i 0
    go true e i m f = absurd (let q : i < 0 = (rw e at m) in omega arith)
    go false e zero m f = refl
    go false e (suc i) m f = let q : suc i < suc (place_of j xs (length xs)) = (rw e at m) in f i (omega arith)

pub without_after : (j : ℕ) (l : List ℕ) (i : ℕ) → place_of j l (length l) ≤ i → get_or (without j l) i 0 ≡ get_or l (suc i) 0
unfolding without first
without_after j [] i h = refl
without_after j (x ∷ xs) i h = go (eqb x j) refl i h (λ k m. without_after j xs k m)
  where
    go : (s : Bool) → eqb x j ≡ s → (i : ℕ) → cond (eqb x j) 0 (suc (place_of j xs (length xs))) ≤ i
        → ((k : ℕ) → place_of j xs (length xs) ≤ k → get_or (without j xs) k 0 ≡ get_or xs (suc k) 0) → get_or (cond s xs (x ∷ without j xs)) i 0 ≡ get_or xs i 0
    go true e i m f = refl
    go false e zero m f = absurd (let q : suc (place_of j xs (length xs)) ≤ 0 = (rw e at m) in omega arith)
    go false e (suc i) m f = let q : suc (place_of j xs (length xs)) ≤ suc i = (rw e at m) in f i (omega arith)

-- place by place
module _ (j : ℕ) (l : List ℕ) (size : length l ≡ 30) where
  pub front_length : place_of j l 30 < 30 → length (front j l) ≡ 30
  front_length h = without-length j l (rw size h) ∙ size

  pub front_before : (i : ℕ) → 0 < i → i ≤ place_of j l 30 → get_or (front j l) i 0 ≡ get_or l (i - 1) 0
  front_before zero h m = absurd (omega arith)
  front_before (suc i) h m = let e : suc i - 1 ≡ i = omega arith in rw e (without_before j l i (rw size (omega arith)))

  pub front_after : (i : ℕ) → place_of j l 30 < i → get_or (front j l) i 0 ≡ get_or l i 0
  front_after zero m = absurd (omega arith)
  front_after (suc i) m = without_after j l i (rw size (omega arith))

  pub front_is : (r : List ℕ) → length r ≡ 30 → place_of j l 30 < 30 → ((i : ℕ) → i < 30 → get_or r i 0 ≡ get_or (front j l) i 0) → r ≡ front j l
  front_is r s h e = ext_get_or 0 r (front j l) (s ∙ sym (front_length h)) (λ i m. e i (omega arith))

  -- the order still misses no buffer
  pub front-named : place_of j l 30 < 30 → Named l → Named (front j l)
  front-named h n = record {
    each = λ x m.
        let w = among_where l 30 x (n.each x m) in
        elim (ℕ_discrete x j) [
          | yes z ↦ among_yes (front j l) 30 x 0 (omega arith) (sym z)
          | no z ↦ elim (dec_lt w.0 (place_of j l 30)) [
            | yes b ↦
                among_yes (front j l) 30 x (w.0 + 1) (omega arith)
                (front_before (w.0 + 1) (omega arith) (omega arith) ∙ ap (λ (y : ℕ). get_or l y 0) (omega arith) ∙ w.2)
            | no b ↦
                let q : place_of j l 30 ≢ w.0 = λ e. z (sym w.2 ∙ ap (λ (y : ℕ). get_or l y 0) (sym e) ∙ eqb-true _ _ (first_holds (λ i. eqb (get_or l i 0) j) 30 h)) in
                among_yes (front j l) 30 x w.0 w.1 (front_after w.0 (omega arith) ∙ w.2)
          ]
        ];
  }

-- an order that misses no buffer has a place for each
pub named-place : (l : List ℕ) (j : ℕ) → Named l → j < 30 → place_of j l 30 < 30
unfolding among
named-place l j n h = ltb-true _ _ (n.each j h)
