-- What `all` says of a range of numbers. Assumes nothing.
use Rattle.std.specs.Prelude.{◌≡◌, List, ℕ, ◌+◌, ◌-◌, ◌≤◌, ◌<◌, Bool, true, false, length, slice_index_or}
use Rattle.std.proofs.Common.{refl, sym, ◌∙◌, subst, arith}
use Rattle.std.specs.Bool.{MatchBool}
use Rattle.std.specs.List.{range_with_len, AllWithin, HoldsAt}
use Rattle.std.specs.Iterator.{ChecksAll}
use Rattle.std.proofs.iter.Yields.{nat_range_steps}
use Rattle.std.proofs.lemmas.Iterator.{YieldsList-from_range, cases_from_all}
use Rattle.std.proofs.lemmas.List.FromFn.{length-range_with_len, get_or-range_with_len}
use denote.Param.Members.{Mut, Called}
use Rattle.std.specs.declared.ops.Range.{Range}
use Rattle.base.specs.Decide.{Decides, so, not_so, no_by, yes_by, alike}

-- it is whether P holds of each, where a call's answer is whether P holds of its number
pub every : {F : Type 0} {g : Mut F (ℕ × Unit {0}) Bool} {s u : Range ℕ} {f : F} {r : Bool} (P : ℕ → Type 0) → ChecksAll nat_range_steps g s f r u
    → ((x : ℕ) (q : F) (b : Bool) → Called g f (x, tt) b q → (q ≡ f) × Decides b (P x))
    → Decides r ((k : ℕ) → s.start ≤ k → k < s.end → P k)
every {s = s} {u = u} {f = f} {r = r} P ran asked = go r (cases_from_all u f r P (λ x. P x → ⊥) ran (YieldsList-from_range s.start s.end (s.end - s.start) refl refl) (λ x q k. let h = asked x q true k in (h.0, yes_by h.1 refl)) (λ x q k. no_by (asked x q false k).1 refl))
  where
    n : ℕ
    n = s.end - s.start

    l : List ℕ
    l = range_with_len s.start n

    at : (k : ℕ) → s.start ≤ k → k < s.end → slice_index_or l (k - s.start) 0 ≡ k
    at k p q = get_or-range_with_len s.start n (k - s.start) 0 (omega arith) ∙ omega arith

    go : (b : Bool) → MatchBool b (AllWithin P l 0 (length l)) ((k : ℕ) × (k < length l) × HoldsAt (λ x. P x → ⊥) l k) → Decides b ((k : ℕ) → s.start ≤ k → k < s.end → P k)
    go true h = so (λ k p q. subst P (at k p q) (h (k - s.start) 0 (omega arith) (omega (arith, length-range_with_len s.start n))))
    go false h = not_so (λ a.
        let m : h.0 < n = omega (arith, h.1, length-range_with_len s.start n) in
        h.2 0 (subst P (sym (get_or-range_with_len s.start n h.0 0 m)) (a (s.start + h.0) (omega arith) (omega arith))))

-- the same from 0 on
pub every_below : {F : Type 0} {g : Mut F (ℕ × Unit {0}) Bool} {s u : Range ℕ} {f : F} {r : Bool} (P : ℕ → Type 0) → s.start ≡ 0 → ChecksAll nat_range_steps g s f r u
    → ((x : ℕ) (q : F) (b : Bool) → Called g f (x, tt) b q → (q ≡ f) × Decides b (P x))
    → Decides r ((k : ℕ) → k < s.end → P k)
every_below P z ran asked = alike (λ h k l. h k (omega arith) l) (λ h k m l. h k l) (every P ran asked)
