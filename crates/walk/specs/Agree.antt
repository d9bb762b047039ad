-- The two walks agree: where the walk to the parent finds a directory, the walk of the whole path is a lookup of the last component there.
-- Assumes nothing.
use Rattle.std.specs.Prelude.{◌≡◌, Bool, List, Option, Some, None, Result, Ok, Err, ℕ, zero, suc, ◌+◌, ◌-◌, ◌<◌, ◌≤◌, drop, length, ltb}
use Rattle.std.proofs.Math.Path.{refl, ap}
use Rattle.std.proofs.Common.{sym, ◌∙◌, arith, le_of_lt, length-drop, drop-drop}
use Rattle.std.proofs.Math.Bool.{true, false, cond}
use Rattle.std.proofs.Math.Dec.{eqb}
use borrow.Author.Tests.{eq-eqb}
use Rattle.base.specs.declared.Refusal.{Refusal}
use Rattle.base.specs.declared.Refusal.TheVariants.{Unfit, NoName}
use Rattle.superblock.specs.declared.Super.{Super}
use Rattle.superblock.specs.Disk.{Disk}
use Rattle.rules.specs.Fit.{Fit}
use Rattle.inode.specs.FitOf.{fit_of, fit_of_decides, decides_same}
use Rattle.base.specs.Decide.{so}
use Rattle.path.specs.Parts.{part_at, part_of, part_in, is_end}
use Rattle.path.specs.Names.{name_of}
use Rattle.path.specs.declared.Part.{Part}
use Rattle.dir.specs.Lookup.{lookup}
use Rattle.dir.specs.declared.Found.{Found}
use Rattle.walk.specs.Step.{Stepped, step_at, entered, sought, step_of, step_led, From}
use Rattle.walk.specs.Walks.{onward, walk_of, walk_is}
use Rattle.walk.specs.Parents.{parent_at, upward, climb, parent_from, parent_of, parent_is}
use Rattle.walk.specs.Reached.{last_is, parent_there_at}

-- a component's place, counted from further on
place_b : (x a b : ℕ) → a + x ≤ b → x + (b - (a + x)) ≡ b - a
place_b x a b h = omega arith

difference : (c b e : ℕ) → c ≤ b → b ≤ e → (e - c) - (b - c) ≡ e - b
difference c b e h k = omega arith

place_e : (x a b e : ℕ) → a + x ≤ b → b ≤ e → (e - (a + x)) - (b - (a + x)) ≡ (e - a) - (b - a)
place_e x a b e h k = difference (a + x) b e h k ∙ sym (difference a b e (omega arith) k)

-- the end of a walk at what the last lookup found: an inode of the card that is fit
abbrev pub ended : Super → Disk → Option Found → Result ℕ Refusal
ended s v (Some o) = cond (ltb o.inum s.ninodes) (cond (fit_of s v (v.ino o.inum)) (Ok o.inum) (Err Unfit)) (Err Unfit)
ended s v None = Err NoName

module _ (s : Super) (v : Disk) where
  -- with no component left, a walk ends where it stands, if that is fit
  stand : (i : ℕ) (l : List ℕ) → is_end (part_of l) ≡ true → walk_of s v i l ≡ cond (fit_of s v (v.ino i)) (Ok i) (Err Unfit)
  unfolding step_of
  stand i l h = walk_is s v i l ∙ go (part_of l) refl (fit_of s v (v.ino i))
    where
      go : (p : Option Part) → part_of l ≡ p → (t : Bool) → onward (walk_of s v) i l (cond t (sought s v i l p) (Err Unfit)) ≡ cond t (Ok i) (Err Unfit)
      go None q true = refl
      go None q false = refl
      go (Some p) q t = let z : is_end (Some (part_at p.start p.end)) ≡ true = ap is_end (sym q) ∙ h in absurd (cc)

  -- the last component, sought in a fit directory
  last_step : (i : ℕ) (l : List ℕ) (b e : ℕ) → part_of l ≡ Some (part_at b e) → is_end (part_of (drop e l)) ≡ true → Fit s v (v.ino i) → (v.ino i).kind ≡ 1
      → walk_of s v i l ≡ ended s v (lookup v i (name_of (part_in l b e)))
  unfolding step_of
  last_step i l b e q h f k =
      let ok : fit_of s v (v.ino i) ≡ true = decides_same _ _ (fit_of_decides s v (v.ino i)) (so f) in
      let d : eqb (v.ino i).kind 1 ≡ true = eq-eqb _ 1 k in
      let z : step_of s v i l ≡ entered s e (lookup v i (name_of (part_in l b e))) = rw (ok, q, d) in
      walk_is s v i l ∙ ap (onward (walk_of s v) i l) z ∙ found (lookup v i (name_of (part_in l b e)))
    where
      found : (r : Option Found) → onward (walk_of s v) i l (entered s e r) ≡ ended s v r
      found None = refl
      found (Some o) = inside (ltb o.inum s.ninodes)
        where
          inside : (t : Bool) → onward (walk_of s v) i l (cond t (Ok (Some (step_at o.inum e))) (Err Unfit)) ≡ cond t (cond (fit_of s v (v.ino o.inum)) (Ok o.inum) (Err Unfit)) (Err Unfit)
          inside true = stand o.inum (drop e l) h
          inside false = refl

  agree : (n i a : ℕ) (l : List ℕ) (j b e : ℕ) → length l < n → From s i → parent_from s v i a l ≡ Ok (parent_at j b e) → walk_of s v i l ≡ ended s v (lookup v j (name_of (part_in l (b - a) (e - a))))
  agree zero i a l j b e h f z = absurd (omega arith)
  agree (suc n) i a l j b e h f z = part (part_of l) refl (sym (parent_is s v i a l) ∙ z) (λ k c m. agree n k c m j b e)
    where
      Rec : Type 0
      Rec = (k c : ℕ) (m : List ℕ) → length m < n → From s k → parent_from s v k c m ≡ Ok (parent_at j b e) → walk_of s v k m ≡ ended s v (lookup v j (name_of (part_in m (b - c) (e - c))))

      Goal : Type 0
      Goal = walk_of s v i l ≡ ended s v (lookup v j (name_of (part_in l (b - a) (e - a))))

      step : Rec → (t : Stepped) → step_of s v i l ≡ t → upward (parent_from s v) a l t ≡ Ok (parent_at j b e) → Goal
      step rec (Ok (Some t)) q y =
          let k = t.inum in let x = t.used in
          let led = step_led s v i l k x q in
          let p = parent_there_at s v k (a + x) (drop x l) j b e led.from y in
          let less : length (drop x l) < n = omega (arith, length-drop x l, led.within, led.took) in
          let m = place_b x a b p.past in
          let w = place_e x a b e p.past (le_of_lt p.ordered) in
          walk_is s v i l ∙ ap (onward (walk_of s v) i l) q
          ∙ rec k (a + x) (drop x l) less led.from y
          ∙ ap (λ (r : List ℕ). ended s v (lookup v j (name_of r))) (rw (w, drop-drop, m) refl)
      step rec (Ok None) q y = absurd (cc)
      step rec (Err r) q y = absurd (cc)

      part : (p : Option Part) → part_of l ≡ p → climb (parent_from s v) s v i a l p ≡ Ok (parent_at j b e) → Rec → Goal
      part None q y rec = absurd (cc)
      part (Some o) q y rec = last (is_end (part_of (drop o.end l))) refl
        where
          last : (t : Bool) → is_end (part_of (drop o.end l)) ≡ t → Goal
          last true x =
              let w = last_is s v i (a + o.start) (a + o.end) j b e f (rw x at y) in
              let e0 : i ≡ j = w.0 in
              let eb : b - a ≡ o.start = omega (arith, w.1) in
              let ee : e - a ≡ o.end = omega (arith, w.2) in
              rw (eb, ee, ← e0) (last_step i l o.start o.end q x w.3 w.4)
          last false x = step rec (step_of s v i l) refl (rw x at y)

  pub walk_parent : (i : ℕ) (l : List ℕ) (j b e : ℕ) → From s i → parent_of s v i l ≡ Ok (parent_at j b e) → walk_of s v i l ≡ ended s v (lookup v j (name_of (part_in l b e)))
  walk_parent i l j b e f z =
      let x : b - 0 ≡ b = omega arith in
      let y : e - 0 ≡ e = omega arith in
      rw (x, y) at (agree (suc (length l)) i 0 l j b e (omega arith) f z)
