-- The walk of a path: steps until no component is left or one is refused. `walk_is` is the equation that it satisfies, whatever the path;
-- the number of steps in its definition is more than any path takes. Assumes nothing.
use Rattle.std.specs.Prelude.{◌≡◌, refl, List, [], ◌∷◌, Some, None, Result, Ok, Err, ℕ, zero, suc, ◌+◌, ◌-◌, ◌<◌, take, drop, length}
use Rattle.std.proofs.Common.{ap, sym, ◌∙◌, arith, length-drop, take_all, drop-drop}
use Rattle.base.specs.Refusals.{number}
use Rattle.base.specs.declared.Refusal.{Refusal}
use Rattle.superblock.specs.declared.Super.{Super}
use Rattle.superblock.specs.Disk.{Disk}
use Rattle.walk.specs.Step.{Stepped, step_at, step_of, step_led}

-- after a step: on from the inode found with the rest of the path, or the walk's end
abbrev pub onward : (ℕ → List ℕ → Result ℕ Refusal) → ℕ → List ℕ → Stepped → Result ℕ Refusal
onward k i l (Ok (Some t)) = k t.inum (drop t.used l)
onward k i l (Ok None) = Ok i
onward k i l (Err r) = Err r

-- at most n steps
unfoldable pub walk_in : Super → Disk → ℕ → ℕ → List ℕ → Result ℕ Refusal
walk_in s v zero i l = Ok i
walk_in s v (suc n) i l = onward (λ j m. walk_in s v n j m) i l (step_of s v i l)

-- the walk of the path l from inode i. A step takes a byte of the path at least, so that no walk takes more steps than l has bytes, and one
unfoldable pub walk_of : Super → Disk → ℕ → List ℕ → Result ℕ Refusal
walk_of s v i l = walk_in s v (suc (length l)) i l

-- a walk's answer as a number with its value: 0 and the inode reached, or the number of the refusal
abbrev pub given : Result ℕ Refusal → List ℕ
given (Ok i) = 0 ∷ i ∷ []
given (Err r) = number r ∷ []

-- ---- laws

-- any number of steps above the path's length gives the same walk
walk_enough : (s : Super) (v : Disk) (n m i : ℕ) (l : List ℕ) → length l < n → length l < m → walk_in s v n i l ≡ walk_in s v m i l
unfolding walk_in
walk_enough s v zero m i l h k = absurd (omega arith)
walk_enough s v (suc n) zero i l h k = absurd (omega arith)
walk_enough s v (suc n) (suc m) i l h k = go (step_of s v i l) refl (λ j r. walk_enough s v n m j r)
  where
    go : (t : Stepped) → step_of s v i l ≡ t → ((j : ℕ) (r : List ℕ) → length r < n → length r < m → walk_in s v n j r ≡ walk_in s v m j r)
        → onward (λ j r. walk_in s v n j r) i l t ≡ onward (λ j r. walk_in s v m j r) i l t
    go (Ok (Some t)) q f =
        let j = t.inum in let e = t.used in
        let led = step_led s v i l j e q in
        f j (drop e l) (omega (arith, length-drop e l, led.within, led.took)) (omega (arith, length-drop e l, led.within, led.took))
    go (Ok None) q f = refl
    go (Err r) q f = refl

-- a walk is a step, and the walk from where it leads
pub walk_is : (s : Super) (v : Disk) (i : ℕ) (l : List ℕ) → walk_of s v i l ≡ onward (walk_of s v) i l (step_of s v i l)
unfolding walk_of walk_in
walk_is s v i l = go (step_of s v i l) refl
  where
    go : (t : Stepped) → step_of s v i l ≡ t → onward (λ j r. walk_in s v (length l) j r) i l t ≡ onward (walk_of s v) i l t
    go (Ok (Some t)) q =
        let j = t.inum in let e = t.used in
        let led = step_led s v i l j e q in
        walk_enough s v (length l) (suc (length (drop e l))) j (drop e l) (omega (arith, length-drop e l, led.within, led.took)) (omega arith)
    go (Ok None) q = refl
    go (Err r) q = refl

-- a walk's turn, with the rest of the path handed on as a part of the slice
module _ (s : Super) (v : Disk) (i a : ℕ) (l : List ℕ) where
  rest_is : take (length l - a) (drop a l) ≡ drop a l
  rest_is = take_all (length l - a) (drop a l) (omega (arith, length-drop a l))

  turn : (t : Stepped) → t ≡ step_of s v i (take (length l - a) (drop a l)) → walk_of s v i (drop a l) ≡ onward (walk_of s v) i (drop a l) t
  turn t e = walk_is s v i (drop a l) ∙ ap (onward (walk_of s v) i (drop a l)) (ap (step_of s v i) (sym rest_is) ∙ sym e)

  pub walk_to : (j e : ℕ) → Ok (Some (step_at j e)) ≡ step_of s v i (take (length l - a) (drop a l)) → walk_of s v i (drop a l) ≡ walk_of s v j (drop (a + e) l)
  walk_to j e h = turn (Ok (Some (step_at j e))) h ∙ ap (walk_of s v j) (drop-drop e a l)

  pub walk_stay : Ok None ≡ step_of s v i (take (length l - a) (drop a l)) → walk_of s v i (drop a l) ≡ Ok i
  walk_stay h = turn (Ok None) h

  pub walk_no : (r : Refusal) → Err r ≡ step_of s v i (take (length l - a) (drop a l)) → walk_of s v i (drop a l) ≡ Err r
  walk_no r h = turn (Err r) h
