-- The library's searches and tests over a slice or a range are `first` and `all`. Assumes nothing.
use Rattle.std.specs.Prelude.{◌≡◌, refl, Bool, true, false, cond, List, ℕ, zero, suc, ◌+◌, ◌≤◌, ◌<◌, length, not, ltb, Option, Some, None, position, unwrap_or, ◌&&◌}
use Rattle.std.specs.List.{position_or_len, list_all, range_with_len}
use Rattle.std.proofs.Common.{ltb-true, ltb-false, ap, sym, ◌∙◌, arith, lt-ltb, le-ltb}
use Rattle.std.proofs.Math.Decide.{dec_lt}
use Rattle.std.proofs.lemmas.List.Recursion.{is_position_or_len}
use Rattle.base.specs.First.{first, first_before, first-le, first-same, all, all_same}
use Rattle.base.specs.Bytes.{bytes}

-- the least index below n that passes the test, None where none does
abbrev pub found : (ℕ → Bool) → ℕ → Option ℕ
found p n = cond (ltb (first p n) n) (Some (first p n)) None

pub found-some : (p : ℕ → Bool) (n i : ℕ) → found p n ≡ Some i → (i ≡ first p n) × (i < n)
found-some p n i e = go (ltb (first p n) n) refl e
  where
    go : (t : Bool) → ltb (first p n) n ≡ t → cond t (Some (first p n)) None ≡ Some i → (i ≡ first p n) × (i < n)
    go true q h = let z : first p n ≡ i = cc in (sym z, omega (arith, z, ltb-true (first p n) n q))
    go false q h = absurd (cc)

pub found-none : (p : ℕ → Bool) (n : ℕ) → found p n ≡ None → (j : ℕ) → j < n → p j ≡ false
found-none p n e j l = go (ltb (first p n) n) refl e
  where
    go : (t : Bool) → ltb (first p n) n ≡ t → cond t (Some (first p n)) None ≡ None → p j ≡ false
    go true q h = absurd (cc)
    go false q h = let m : n ≤ first p n = ltb-false (first p n) n q in first_before p n j (omega arith)

-- what a search that was told the length answers where it finds none
or_length : (p : ℕ → Bool) (l : List ℕ) (n : ℕ) → n ≡ position_or_len p l → n ≤ length l → n ≡ unwrap_or (position p l) (length l)
or_length p l n e h = go (dec_lt (position_or_len p l) (length l))
  where
    go : Dec (position_or_len p l < length l) → n ≡ unwrap_or (position p l) (length l)
    go (yes m) = rw (lt-ltb _ _ m) e
    go (no m) = rw (le-ltb (position_or_len p l) (length l) (omega arith)) (omega arith)

-- the first byte of a slice that passes
pub first_position : (p : ℕ → Bool) (l : List ℕ) → first (λ k. p (bytes l k)) (length l) ≡ unwrap_or (position p l) (length l)
unfolding first
first_position p l = or_length p l (first (λ k. p (bytes l k)) (length l)) (is_position_or_len (λ (m : List ℕ). first (λ k. p (bytes m k)) (length m)) p refl (λ x xs. ap (cond (p x) 0) (omega arith)) l) (first-le (λ k. p (bytes l k)) (length l))

-- the first number of a range that passes
searched : (p : ℕ → Bool) (a n : ℕ) → first (λ k. p (a + k)) n ≡ position_or_len p (range_with_len a n)
unfolding first
searched p a zero = refl
searched p a (suc n) =
    let z : a + 0 ≡ a = omega arith in
    rw z (go (p a) (first-same (λ k. p (a + suc k)) (λ k. p (a + 1 + k)) n (λ k l. ap p (omega arith)) ∙ searched p (a + 1) n))
  where
    go : (t : Bool) → first (λ k. p (a + suc k)) n ≡ position_or_len p (range_with_len (a + 1) n) → cond t 0 (suc (first (λ k. p (a + suc k)) n)) ≡ cond (not t) (1 + position_or_len p (range_with_len (a + 1) n)) 0
    go true e = refl
    go false e = omega arith

length_range : (a n : ℕ) → length (range_with_len a n) ≡ n
length_range a zero = refl
length_range a (suc n) = ap suc (length_range (a + 1) n)

pub position_range : (p : ℕ → Bool) (n : ℕ) → position p (range_with_len 0 n) ≡ found p n
position_range p n =
    let e : position_or_len p (range_with_len 0 n) ≡ first p n = sym (first-same p (λ k. p (0 + k)) n (λ k l. ap p (omega arith)) ∙ searched p 0 n) in
    rw (e, length_range 0 n) refl

-- all numbers of a range
all_from : (p : ℕ → Bool) (a n : ℕ) → list_all p (range_with_len a n) ≡ all (λ k. p (a + k)) n
unfolding all
all_from p a zero = refl
all_from p a (suc n) =
    let z : a + 0 ≡ a = omega arith in
    rw (z, all_from p (a + 1) n, all_same (λ k. p (a + 1 + k)) (λ k. p (a + suc k)) n (λ k l. ap p (omega arith))) (go (p a))
  where
    go : (t : Bool) → (t && all (λ k. p (a + suc k)) n) ≡ cond t (all (λ k. p (a + suc k)) n) false
    go true = refl
    go false = refl

pub all_range : (p : ℕ → Bool) (n : ℕ) → list_all p (range_with_len 0 n) ≡ all p n
all_range p n = all_from p 0 n ∙ all_same (λ k. p (0 + k)) p n (λ k l. ap p (omega arith))
