-- A path's length and its components. A path reads as 0 past its slice's end, so that a NUL and the end are one case.
-- Assumes nothing.
use Rattle.std.specs.Prelude.{◌≡◌, refl, Bool, true, false, not, cond, List, Option, Some, None, ℕ, ◌+◌, ◌-◌, ◌<◌, ◌≤◌, length, take, drop, eqb, ltb, position, unwrap_or}
use Rattle.std.proofs.Common.{sym, ap, take_all, length-take, length-take-le, get_or-take, get_or, length-drop, get_or-drop, ◌∙◌, arith, lt_of_not-le, le-ltb, eq-eqb, ne_eqb, eqb-true}
use Rattle.std.specs.Bool.{Decides as Contained}
use Rattle.std.specs.List.{HoldsAt, IsAnyAnswer}
use Rattle.std.proofs.lemmas.List.Elements.{contains_decides, at_read}
use Rattle.std.proofs.lemmas.Bool.Decides.{Decides-eqb}
use Rattle.std.proofs.Math.Decide.{dec_lt}
use Rattle.std.proofs.lemmas.Bool.{eqb-false}
use Rattle.base.specs.First.{first, first-same, first_from, first-le, from_le, first_holds, first_before, first_pos}
use Rattle.base.specs.Bytes.{Bytes, bytes, bytes_past}
use Rattle.base.specs.Decide.{Decides, so, not_so, never}
use Rattle.path.specs.Search.{first_position}
use Rattle.path.specs.declared.Part.{Part}

-- a path's length: up to its first NUL or the slice's end
unfoldable pub path_len : List ℕ → ℕ
path_len l = first (λ k. eqb (bytes l k) 0) (length l)

-- byte k is no "/"
unfoldable pub other : Bytes → ℕ → Bool
other p k = not (eqb (p k) 47)

-- byte k ends a component: a "/", a NUL, or the slice's end
unfoldable pub ends : Bytes → ℕ → Bool
ends p k = cond (eqb (p k) 47) true (eqb (p k) 0)

-- where the next component starts: past a run of "/"
unfoldable pub start_of : List ℕ → ℕ
start_of l = first (other (bytes l)) (length l)

-- where a component that starts at s ends
unfoldable pub end_of : List ℕ → ℕ → ℕ
end_of l s = first_from (ends (bytes l)) s (length l)

-- the component from s up to e
abbrev pub part_at : ℕ → ℕ → Part
part_at s e = record { start = s; end = e }

-- the next component, or None at the path's end
unfoldable pub part_of : List ℕ → Option Part
part_of l = cond (eqb (bytes l (start_of l)) 0) None (Some (part_at (start_of l) (end_of l (start_of l))))

-- no component is left
abbrev pub is_end : Option Part → Bool
is_end None = true
is_end (Some c) = false

-- the bytes of a component from s up to e
abbrev pub part_in : List ℕ → ℕ → ℕ → List ℕ
part_in l s e = take (e - s) (drop s l)

-- ---- laws

-- where a component that starts at s ends, as a search of what follows s
pub end_from : (l : List ℕ) (s : ℕ) → s + unwrap_or (position (λ x. cond (eqb x 47) true (eqb x 0)) (take (length l - s) (drop s l))) (length (take (length l - s) (drop s l))) ≡ end_of l s
unfolding end_of ends
end_from l s =
    let rest : take (length l - s) (drop s l) ≡ drop s l = take_all (length l - s) (drop s l) (omega (arith, length-drop s l)) in
    rw rest (ap (λ (k : ℕ). s + k) (
    sym (first_position (λ x. cond (eqb x 47) true (eqb x 0)) (drop s l))
    ∙ ap (λ (n : ℕ). first (λ k. cond (eqb (bytes (drop s l) k) 47) true (eqb (bytes (drop s l) k) 0)) n) (length-drop s l)
    ∙ first-same (λ k. cond (eqb (bytes (drop s l) k) 47) true (eqb (bytes (drop s l) k) 0)) (λ k. cond (eqb (bytes l (s + k)) 47) true (eqb (bytes l (s + k)) 0)) (length l - s)
    (λ k h. ap (λ (x : ℕ). cond (eqb x 47) true (eqb x 0)) (get_or-drop s l k 0))
    ))

pub other_no : (p : Bytes) (k : ℕ) → p k ≡ 47 → other p k ≡ false
unfolding other
other_no p k e = rw (eq-eqb _ _ e)

pub other_yes : (p : Bytes) (k : ℕ) → (p k ≡ 47 → ⊥) → other p k ≡ true
unfolding other
other_yes p k e = rw (ne_eqb _ _ e)

pub ends_no : (p : Bytes) (k : ℕ) → (p k ≡ 47 → ⊥) → (p k ≡ 0 → ⊥) → ends p k ≡ false
unfolding ends
ends_no p k e f = rw (ne_eqb _ _ e, ne_eqb _ _ f)

pub ends_slash : (p : Bytes) (k : ℕ) → p k ≡ 47 → ends p k ≡ true
unfolding ends
ends_slash p k e = rw (eq-eqb _ _ e)

pub ends_nul : (p : Bytes) (k : ℕ) → (p k ≡ 47 → ⊥) → p k ≡ 0 → ends p k ≡ true
unfolding ends
ends_nul p k e f = rw (ne_eqb _ _ e, eq-eqb _ _ f)

pub part_end : (l : List ℕ) → bytes l (start_of l) ≡ 0 → part_of l ≡ None
unfolding part_of
part_end l e = rw (eq-eqb _ _ e)

pub part_name : (l : List ℕ) → (bytes l (start_of l) ≡ 0 → ⊥) → part_of l ≡ Some (part_at (start_of l) (end_of l (start_of l)))
unfolding part_of
part_name l e = rw (ne_eqb _ _ e)

pub start_le : (l : List ℕ) → start_of l ≤ length l
unfolding start_of
start_le l = first-le _ _

end_le : (l : List ℕ) (s : ℕ) → s ≤ length l → end_of l s ≤ length l
unfolding end_of
end_le l s h = from_le (ends (bytes l)) s (length l) h

-- what a caller that was told a name knows of its place: it lies in the slice, and takes a byte at least
pub record Within (l : List ℕ) (s e : ℕ) : Type 0 where
  pub ordered : s < e
  pub inside : e ≤ length l

pub part_within : (l : List ℕ) (s e : ℕ) → part_of l ≡ Some (part_at s e) → Within l s e
unfolding part_of start_of end_of
part_within l s e h = go (eqb (bytes l (start_of l)) 0) refl
  where
    go : (t : Bool) → eqb (bytes l (start_of l)) 0 ≡ t → Within l s e
    go true q = let h' : None ≡ Some (part_at s e) = (rw q at h) in absurd (cc)
    go false q =
        let h' : Some (part_at (start_of l) (end_of l (start_of l))) ≡ Some (part_at s e) = (rw q at h) in
        let w : part_at (start_of l) (end_of l (start_of l)) ≡ part_at s e = cc in
        let a : start_of l ≡ s = ap (λ (p : Part). p.start) w in
        let b : end_of l (start_of l) ≡ e = ap (λ (p : Part). p.end) w in
        let live : bytes l (start_of l) ≡ 0 → ⊥ = eqb-false _ _ q in
        let here : (length l ≤ start_of l) → ⊥ = λ m. live (sym (bytes_past l (start_of l) m)) in
        let in-it : start_of l < length l = lt_of_not-le here in
        let o : other (bytes l) (start_of l) ≡ true = first_holds (other (bytes l)) (length l) in-it in
        let z : start_of l + 0 ≡ start_of l = omega arith in
        let f : ends (bytes l) (start_of l + 0) ≡ false = rw z (ends_no (bytes l) (start_of l) (λ x. never (sym (other_no (bytes l) (start_of l) x) ∙ o)) live) in
        let p : 0 < first (λ k. ends (bytes l) (start_of l + k)) (length l - start_of l) = first_pos (λ k. ends (bytes l) (start_of l + k)) (length l - start_of l) (omega arith) f in
        record { ordered = omega arith; inside = omega (arith, end_le l (start_of l) (start_le l)) }

-- a path is too long exactly when its first 129 bytes are there and none is 0
pub not_long : (l : List ℕ) (i x : ℕ) → i < 129 → x ≡ bytes l i → x ≡ 0 → Decides false (128 < path_len l)
unfolding path_len
not_long l i x h e z = not_so λ m.
    never (sym (first_before (λ k. eqb (bytes l k) 0) (length l) i (omega arith)) ∙ eq-eqb (bytes l i) 0 (sym e ∙ z))

pub short : (l : List ℕ) → length l ≤ 128 → Decides (ltb 128 (length l)) (128 < path_len l)
unfolding path_len
short l h = rw (le-ltb 128 (length l) h) (not_so λ m. omega (arith, first-le (λ k. eqb (bytes l k) 0) (length l)))

pub long : (l : List ℕ) → ((k : ℕ) → k < 129 → bytes l k ≡ 0 → ⊥) → Decides true (128 < path_len l)
unfolding path_len
long l h = so (elim (dec_lt 128 (first (λ k. eqb (bytes l k) 0) (length l))) [
  | yes m ↦ m
  | no m ↦ absurd (h (first (λ k. eqb (bytes l k) 0) (length l)) (omega arith) (zero_there (dec_lt (first (λ k. eqb (bytes l k) 0) (length l)) (length l))))
])
  where
    zero_there : Dec (first (λ k. eqb (bytes l k) 0) (length l) < length l) → bytes l (first (λ k. eqb (bytes l k) 0) (length l)) ≡ 0
    zero_there (yes m) = eqb-true _ 0 (first_holds (λ k. eqb (bytes l k) 0) (length l) m)
    zero_there (no m) = sym (bytes_past l (first (λ k. eqb (bytes l k) 0) (length l)) (omega arith))

-- as the library's test of the first 129 bytes for a 0 says it
pub long_decides : (l : List ℕ) (b : Bool) → 128 < length l → IsAnyAnswer (λ y t. eqb y 0 ≡ t) (take 129 l) b → Decides (not b) (128 < path_len l)
long_decides l b m a = go b (contains_decides eqb Decides-eqb (take 129 l) 0 b a)
  where
    go : (b : Bool) → Contained b ((k : ℕ) × (k < length (take 129 l)) × HoldsAt (λ y. y ≡ 0) (take 129 l) k) → Decides (not b) (128 < path_len l)
    go true d =
        let w = d.0 refl in
        let k : w.0 < 129 = omega (arith, w.1, length-take 129 l) in
        not_long l w.0 (get_or (take 129 l) w.0 0) k (get_or-take 129 l w.0 0 k) (w.2 0)
    go false d = long l (λ k h z. never (d.1 (k, omega (arith, length-take-le 129 l m), at_read (take 129 l) (λ y. y ≡ 0) k 0 (omega (arith, length-take-le 129 l m)) (sym z ∙ sym (get_or-take 129 l k 0 h)) refl)))
