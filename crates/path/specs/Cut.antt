-- A path ends at its first NUL: what follows it changes no component. So the length that refusal 2 looks at is that of the path that is walked.
-- Assumes nothing.
use Rattle.std.specs.Prelude.{◌≡◌, Bool, List, Some, ℕ, ◌+◌, ◌-◌, ◌<◌, ◌≤◌, length, take, drop}
use Rattle.std.proofs.Math.Path.{ap, sym}
use Rattle.std.proofs.Common.{◌∙◌, get_or-take, get_or-drop, take-add, take-take, drop_at, length-take-le}
use Rattle.std.proofs.Math.Bool.{true, false, not, cond}
use native.Mathlib.Omega.{arith}
use Rattle.std.proofs.Math.Decide.{dec_lt}
use Rattle.std.proofs.Math.ListN.{length-drop}
use Rattle.std.proofs.Math.Dec.{eqb}
use borrow.Author.Tests.{eq-eqb, ne_eqb, eqb-false, eqb-true}
use Rattle.base.specs.First.{first, first_from, first-at, first-none, first-same, from_at, from_none, first-le, first_holds, first_before}
use Rattle.base.specs.Bytes.{Bytes, bytes, bytes_past}
use Rattle.base.specs.Decide.{never}
use Rattle.path.specs.Parts.{path_len, other, other_yes, ends, ends_nul, start_of, end_of, part_of, part_in, part_within, part_at}

-- the path alone: the bytes before its first NUL
abbrev pub cut : List ℕ → List ℕ
cut l = take (path_len l) l

-- a part of a part
drop-take : (e m : ℕ) (l : List ℕ) → e ≤ length l → drop e (take (e + m) l) ≡ take m (drop e l)
drop-take e m l h = ap (drop e) (take-add e m l) ∙ drop_at (take e l) (take m (drop e l)) e (length-take-le e l h)

from_zero : (p : ℕ → Bool) (n : ℕ) → first_from p 0 n ≡ first p n
from_zero p n = let z : n - 0 ≡ n = omega arith in rw z (omega (arith, first-same (λ k. p (0 + k)) p n (λ k l. ap p (omega arith))))

module _ (l : List ℕ) where
  len_le : path_len l ≤ length l
  unfolding path_len
  len_le = first-le (λ k. eqb (bytes l k) 0) (length l)

  len_live : (k : ℕ) → k < path_len l → bytes l k ≡ 0 → ⊥
  unfolding path_len
  len_live k h = eqb-false (bytes l k) 0 (first_before (λ k. eqb (bytes l k) 0) (length l) k h)

  len_end : bytes l (path_len l) ≡ 0
  unfolding path_len
  len_end = elim (dec_lt (first (λ k. eqb (bytes l k) 0) (length l)) (length l)) [
    | yes m ↦ eqb-true _ 0 (first_holds (λ k. eqb (bytes l k) 0) (length l) m)
    | no m ↦ sym (bytes_past l (first (λ k. eqb (bytes l k) 0) (length l)) (omega arith))
  ]

  cut-length : length (cut l) ≡ path_len l
  cut-length = length-take-le (path_len l) l len_le

  cut_byte : (k : ℕ) → k ≤ path_len l → bytes (cut l) k ≡ bytes l k
  cut_byte k h = elim (dec_lt k (path_len l)) [
    | yes m ↦ get_or-take (path_len l) l k 0 m
    | no m ↦ let z : k ≡ path_len l = omega arith in sym (bytes_past (cut l) k (omega (arith, cut-length))) ∙ sym (ap (bytes l) z ∙ len_end)
  ]

  -- a search that the end of the path stops
  module _ (p : Bytes → ℕ → Bool) (same : (f h : Bytes) (k : ℕ) → f k ≡ h k → p f k ≡ p h k) (stops : (f : Bytes) (k : ℕ) → f k ≡ 0 → p f k ≡ true) where
    found-le : (s : ℕ) → s ≤ path_len l → first_from (p (bytes l)) s (length l) ≤ path_len l
    found-le s h = elim (dec_lt (path_len l) (first_from (p (bytes l)) s (length l))) [
      | yes m ↦
          let z : s + (path_len l - s) ≡ path_len l = omega arith in
          never (sym (first_before (λ k. p (bytes l) (s + k)) (length l - s) (path_len l - s) (omega arith)) ∙ rw z (stops (bytes l) (path_len l) len_end))
      | no m ↦ omega arith
    ]

    found-same : (s : ℕ) → s ≤ path_len l → first_from (p (bytes (cut l))) s (length (cut l)) ≡ first_from (p (bytes l)) s (length l)
    found-same s h = go (dec_lt e (path_len l))
      where
        e : ℕ
        e = first_from (p (bytes l)) s (length l)

        before : (k : ℕ) → k < e → s ≤ k → p (bytes (cut l)) k ≡ false
        before k m q =
            let z : s + (k - s) ≡ k = omega arith in
            same (bytes (cut l)) (bytes l) k (cut_byte k (omega (arith, found-le s h)))
            ∙ (rw z at (first_before (λ k. p (bytes l) (s + k)) (length l - s) (k - s) (omega arith)))

        go : Dec (e < path_len l) → first_from (p (bytes (cut l))) s (length (cut l)) ≡ e
        go (yes m) =
            from_at (p (bytes (cut l))) s (length (cut l)) e (omega arith) (omega (arith, cut-length)) before
            (same (bytes (cut l)) (bytes l) e (cut_byte e (omega arith)) ∙ first_holds (λ k. p (bytes l) (s + k)) (length l - s) (omega (arith, len_le)))
        go (no m) =
            from_none (p (bytes (cut l))) s (length (cut l)) (omega (arith, cut-length)) (λ k q r. before k (omega (arith, cut-length, found-le s h)) r)
            ∙ omega (arith, cut-length, found-le s h)

  other-same : (f h : Bytes) (k : ℕ) → f k ≡ h k → other f k ≡ other h k
  unfolding other
  other-same f h k e = ap (λ (x : ℕ). not (eqb x 47)) e

  other-stops : (f : Bytes) (k : ℕ) → f k ≡ 0 → other f k ≡ true
  other-stops f k e = other_yes f k (λ z. omega arith)

  ends_same : (f h : Bytes) (k : ℕ) → f k ≡ h k → ends f k ≡ ends h k
  unfolding ends
  ends_same f h k e = ap (λ (x : ℕ). cond (eqb x 47) true (eqb x 0)) e

  ends-stops : (f : Bytes) (k : ℕ) → f k ≡ 0 → ends f k ≡ true
  ends-stops f k e = ends_nul f k (λ z. omega arith) e

  start_cut : (start_of (cut l) ≡ start_of l) × (start_of l ≤ path_len l)
  unfolding start_of
  start_cut = (
    sym (from_zero (other (bytes (cut l))) (length (cut l))) ∙ found-same other other-same other-stops 0 (omega arith) ∙ from_zero (other (bytes l)) (length l),
    omega (arith, found-le other other-same other-stops 0 (omega arith), from_zero (other (bytes l)) (length l)),
  )

  end_cut : (s : ℕ) → s ≤ path_len l → (end_of (cut l) s ≡ end_of l s) × (end_of l s ≤ path_len l)
  unfolding end_of
  end_cut s h = (found-same ends ends_same ends-stops s h, found-le ends ends_same ends-stops s h)

  -- the next component is the same, and lies before the path's end
  pub part_cut : part_of (cut l) ≡ part_of l
  unfolding part_of
  part_cut =
      let a = start_cut.0 in
      let b = cut_byte (start_of l) start_cut.1 in
      rw (a, b, (end_cut (start_of l) start_cut.1).0)

  pub part_before : (s e : ℕ) → part_of l ≡ Some (part_at s e) → e ≤ path_len l
  part_before s e q =
      let w = part_within (cut l) s e (part_cut ∙ q) in
      omega (arith, w.inside, cut-length)

  pub part_bytes : (s e : ℕ) → part_of l ≡ Some (part_at s e) → part_in (cut l) s e ≡ part_in l s e
  part_bytes s e q =
      let w = part_within l s e q in
      let m = part_before s e q in
      let z : path_len l ≡ s + (path_len l - s) = omega (arith, w.ordered) in
      ap (λ (n : ℕ). take (e - s) (drop s (take n l))) z
      ∙ ap (take (e - s)) (drop-take s (path_len l - s) l (omega (arith, w.ordered, len_le)))
      ∙ take-take (e - s) (path_len l - s) (drop s l) (omega arith)

  rest_len : (e : ℕ) → e ≤ path_len l → path_len (drop e l) ≡ path_len l - e
  unfolding path_len
  rest_len e h = elim (dec_lt (path_len l) (length l)) [
    | yes m ↦ first-at (λ k. eqb (bytes (drop e l) k) 0) (length (drop e l)) (path_len l - e) (omega (arith, length-drop e l)) live
        (let z : e + (path_len l - e) ≡ path_len l = omega arith in eq-eqb _ 0 (get_or-drop e l (path_len l - e) 0 ∙ ap (bytes l) z ∙ len_end))
    | no m ↦ first-none (λ k. eqb (bytes (drop e l) k) 0) (length (drop e l)) (λ k q. live k (omega (arith, length-drop e l))) ∙ omega (arith, length-drop e l, len_le)
  ]
    where
      live : (k : ℕ) → k < path_len l - e → eqb (bytes (drop e l) k) 0 ≡ false
      live k q = ne_eqb _ 0 (λ z. len_live (e + k) (omega arith) (sym (get_or-drop e l k 0) ∙ z))

  -- the rest of the path
  pub rest-cut : (e : ℕ) → e ≤ path_len l → drop e (cut l) ≡ cut (drop e l)
  rest-cut e h =
      let z : path_len l ≡ e + (path_len l - e) = omega arith in
      ap (λ (n : ℕ). drop e (take n l)) z ∙ drop-take e (path_len l - e) l (omega (arith, len_le)) ∙ ap (λ (n : ℕ). take n (drop e l)) (sym (rest_len e h))
