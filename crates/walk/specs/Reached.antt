-- What a caller knows of a walk's answer: the inode reached is one of the card's and fit; the parent is one, fit and a directory, and the last
-- component lies in the path; and a walk refuses with 5, 6 and 7 only. Assumes nothing.
use Rattle.std.specs.Prelude.{◌≡◌, Bool, List, Option, Some, None, Ok, Err, ℕ, zero, suc, ◌+◌, ◌<◌, ◌≤◌, drop, length, ltb}
use Rattle.std.proofs.Math.Path.{refl}
use Rattle.std.proofs.Common.{ap, sym, ◌∙◌, arith, length-drop}
use Rattle.std.proofs.Math.Bool.{true, false, cond}
use Rattle.std.proofs.Math.Dec.{eqb}
use borrow.Author.Tests.{eqb-true}
use Rattle.base.specs.declared.Refusal.{Refusal}
use Rattle.base.specs.declared.Refusal.TheVariants.{Unfit, NotDirectory, NoName}
use Rattle.superblock.specs.declared.Super.{Super}
use Rattle.superblock.specs.Disk.{Disk}
use Rattle.rules.specs.Fit.{Fit}
use Rattle.inode.specs.FitOf.{fit_of, fit_of_decides}
use Rattle.path.specs.Parts.{part_of, part_in, is_end, part_within}
use Rattle.path.specs.Names.{name_of}
use Rattle.path.specs.declared.Part.{Part}
use Rattle.dir.specs.Lookup.{lookup}
use Rattle.dir.specs.declared.Found.{Found}
use Rattle.walk.specs.Step.{Stepped, step_at, entered, sought, step_of, step_led, From}
use Rattle.walk.specs.Walks.{onward, walk_of, walk_is}
use Rattle.walk.specs.Parents.{parent_at, last_in, upward, climb, parent_from, parent_of, parent_is}
use Rattle.walk.specs.declared.Parent.{Parent}

-- the inode at which a walk ends
pub record Arrived (s : Super) (v : Disk) (i : ℕ) : Type 0 where
  pub from : From s i
  pub fit : Fit s v (v.ino i)

-- a refusal that a walk gives: 5, 6 or 7
pub data OfWalk : Refusal → Type 0 where
  unfit : OfWalk Unfit
  not_directory : OfWalk NotDirectory
  no_name : OfWalk NoName

module _ (s : Super) (v : Disk) where
  -- ---- one step

  -- a step that stays stands on a fit inode
  step_stay : (i : ℕ) (l : List ℕ) → step_of s v i l ≡ Ok None → Fit s v (v.ino i)
  unfolding step_of
  step_stay i l h = go (fit_of s v (v.ino i)) refl
    where
      go : (t : Bool) → fit_of s v (v.ino i) ≡ t → Fit s v (v.ino i)
      go true x = (fit_of_decides s v (v.ino i)).true_is x
      go false x = let h' : Err Unfit ≡ Ok None = (rw x at h) in absurd (cc)

  entered_only : (e : ℕ) (r : Option Found) (x : Refusal) → entered s e r ≡ Err x → OfWalk x
  entered_only e None x h = let z : NoName ≡ x = cc in rw z at no_name
  entered_only e (Some o) x h = go (ltb o.inum s.ninodes) refl
    where
      go : (t : Bool) → ltb o.inum s.ninodes ≡ t → OfWalk x
      go true y = let h' : Ok (Some (step_at o.inum e)) ≡ Err x = (rw y at h) in absurd (cc)
      go false y = let h' : Err Unfit ≡ Err x = (rw y at h) in let z : Unfit ≡ x = cc in rw z at unfit

  sought_only : (i : ℕ) (l : List ℕ) (p : Option Part) (x : Refusal) → sought s v i l p ≡ Err x → OfWalk x
  sought_only i l None x h = absurd (cc)
  sought_only i l (Some p) x h = go (eqb (v.ino i).kind 1) refl
    where
      go : (t : Bool) → eqb (v.ino i).kind 1 ≡ t → OfWalk x
      go true y = entered_only p.end (lookup v i (name_of (part_in l p.start p.end))) x (rw y at h)
      go false y = let h' : Err NotDirectory ≡ Err x = (rw y at h) in let z : NotDirectory ≡ x = cc in rw z at not_directory

  step_only : (i : ℕ) (l : List ℕ) (x : Refusal) → step_of s v i l ≡ Err x → OfWalk x
  unfolding step_of
  step_only i l x h = go (fit_of s v (v.ino i)) refl
    where
      go : (t : Bool) → fit_of s v (v.ino i) ≡ t → OfWalk x
      go true y = sought_only i l (part_of l) x (rw y at h)
      go false y = let h' : Err Unfit ≡ Err x = (rw y at h) in let z : Unfit ≡ x = cc in rw z at unfit

  -- ---- the walk

  reached : (n i : ℕ) (l : List ℕ) (j : ℕ) → length l < n → From s i → walk_of s v i l ≡ Ok j → Arrived s v j
  reached zero i l j h f e = absurd (omega arith)
  reached (suc n) i l j h f e = go (step_of s v i l) refl (sym (walk_is s v i l) ∙ e) (λ k m. reached n k m j)
    where
      stayed : (i : ℕ) → i ≡ j → From s i → Fit s v (v.ino i) → Arrived s v j
      stayed i y f g = record { from = rw y at f; fit = rw y at g }

      go : (t : Stepped) → step_of s v i l ≡ t → onward (walk_of s v) i l t ≡ Ok j → ((k : ℕ) (m : List ℕ) → length m < n → From s k → walk_of s v k m ≡ Ok j → Arrived s v j) → Arrived s v j
      go (Ok (Some t)) q z rec = let k = t.inum in let x = t.used in let led = step_led s v i l k x q in rec k (drop x l) (omega (arith, length-drop x l, led.within, led.took)) led.from z
      go (Ok None) q z rec = let y : i ≡ j = cc in stayed i y f (step_stay i l q)
      go (Err r) q z rec = absurd (cc)

  pub walk_reached : (i : ℕ) (l : List ℕ) (j : ℕ) → From s i → walk_of s v i l ≡ Ok j → Arrived s v j
  walk_reached i l j f e = reached (suc (length l)) i l j (omega arith) f e

  only : (n i : ℕ) (l : List ℕ) (x : Refusal) → length l < n → walk_of s v i l ≡ Err x → OfWalk x
  only zero i l x h e = absurd (omega arith)
  only (suc n) i l x h e = go (step_of s v i l) refl (sym (walk_is s v i l) ∙ e) (λ k m. only n k m x)
    where
      go : (t : Stepped) → step_of s v i l ≡ t → onward (walk_of s v) i l t ≡ Err x → ((k : ℕ) (m : List ℕ) → length m < n → walk_of s v k m ≡ Err x → OfWalk x) → OfWalk x
      go (Ok (Some t)) q z rec = let k = t.inum in let y = t.used in let led = step_led s v i l k y q in rec k (drop y l) (omega (arith, length-drop y l, led.within, led.took)) z
      go (Ok None) q z rec = absurd (cc)
      go (Err r) q z rec = let y : r ≡ x = cc in rw y at (step_only i l r q)

  pub walk_only : (i : ℕ) (l : List ℕ) (x : Refusal) → walk_of s v i l ≡ Err x → OfWalk x
  walk_only i l x e = only (suc (length l)) i l x (omega arith) e

  -- ---- the walk to the parent

  -- the directory found, and the last component's place in the path, whose bytes from a on are l
  pub record Parental (l : List ℕ) (a i b e : ℕ) : Type 0 where
    pub from : From s i
    pub fit : Fit s v (v.ino i)
    pub dir : (v.ino i).kind ≡ 1
    pub past : a ≤ b
    pub ordered : b < e
    pub inside : e ≤ a + length l

  pub last_is : (i c d : ℕ) (j b e : ℕ) → From s i → last_in s v i c d ≡ Ok (parent_at j b e) → (i ≡ j) × (c ≡ b) × (d ≡ e) × Fit s v (v.ino i) × ((v.ino i).kind ≡ 1)
  unfolding last_in
  last_is i c d j b e f h = go (fit_of s v (v.ino i)) refl
    where
      go : (t : Bool) → fit_of s v (v.ino i) ≡ t → (i ≡ j) × (c ≡ b) × (d ≡ e) × Fit s v (v.ino i) × ((v.ino i).kind ≡ 1)
      go false x = let h' : Err Unfit ≡ Ok (parent_at j b e) = (rw x at h) in absurd (cc)
      go true x = dirs (eqb (v.ino i).kind 1) refl (rw x at h)
        where
          dirs : (t : Bool) → eqb (v.ino i).kind 1 ≡ t → cond (eqb (v.ino i).kind 1) (Ok (parent_at i c d)) (Err NotDirectory) ≡ Ok (parent_at j b e)
              → (i ≡ j) × (c ≡ b) × (d ≡ e) × Fit s v (v.ino i) × ((v.ino i).kind ≡ 1)
          dirs true y z =
              let z' : Ok (parent_at i c d) ≡ Ok (parent_at j b e) = (rw y at z) in
              let w : parent_at i c d ≡ parent_at j b e = cc in
              (ap (λ (p : Parent). p.inum) w, ap (λ (p : Parent). p.start) w, ap (λ (p : Parent). p.end) w, (fit_of_decides s v (v.ino i)).true_is x, eqb-true _ 1 y)
          dirs false y z = let z' : Err NotDirectory ≡ Ok (parent_at j b e) = (rw y at z) in absurd (cc)

  last_only : (i c d : ℕ) (x : Refusal) → last_in s v i c d ≡ Err x → OfWalk x
  unfolding last_in
  last_only i c d x h = go (fit_of s v (v.ino i)) refl
    where
      go : (t : Bool) → fit_of s v (v.ino i) ≡ t → OfWalk x
      go false y = let h' : Err Unfit ≡ Err x = (rw y at h) in let z : Unfit ≡ x = cc in rw z at unfit
      go true y = dirs (eqb (v.ino i).kind 1) refl (rw y at h)
        where
          dirs : (t : Bool) → eqb (v.ino i).kind 1 ≡ t → cond (eqb (v.ino i).kind 1) (Ok (parent_at i c d)) (Err NotDirectory) ≡ Err x → OfWalk x
          dirs true w z = let z' : Ok (parent_at i c d) ≡ Err x = (rw w at z) in absurd (cc)
          dirs false w z = let z' : Err NotDirectory ≡ Err x = (rw w at z) in let u : NotDirectory ≡ x = cc in rw u at not_directory

  there : (n i a : ℕ) (l : List ℕ) (j b e : ℕ) → length l < n → From s i → parent_from s v i a l ≡ Ok (parent_at j b e) → Parental l a j b e
  there zero i a l j b e h f z = absurd (omega arith)
  there (suc n) i a l j b e h f z = part (part_of l) refl (sym (parent_is s v i a l) ∙ z) (λ k c m. there n k c m j b e)
    where
      Rec : Type 0
      Rec = (k c : ℕ) (m : List ℕ) → length m < n → From s k → parent_from s v k c m ≡ Ok (parent_at j b e) → Parental m c j b e

      step : Rec → (t : Stepped) → step_of s v i l ≡ t → upward (parent_from s v) a l t ≡ Ok (parent_at j b e) → Parental l a j b e
      step rec (Ok (Some t)) q y =
          let k = t.inum in let x = t.used in
          let led = step_led s v i l k x q in
          let p = rec k (a + x) (drop x l) (omega (arith, length-drop x l, led.within, led.took)) led.from y in
          record { from = p.from; fit = p.fit; dir = p.dir; past = omega (arith, p.past); ordered = p.ordered; inside = omega (arith, p.inside, length-drop x l, led.within) }
      step rec (Ok None) q y = absurd (cc)
      step rec (Err r) q y = absurd (cc)

      part : (p : Option Part) → part_of l ≡ p → climb (parent_from s v) s v i a l p ≡ Ok (parent_at j b e) → Rec → Parental l a j b e
      part None q y rec = absurd (cc)
      part (Some o) q y rec = last (is_end (part_of (drop o.end l))) refl
        where
          last : (t : Bool) → is_end (part_of (drop o.end l)) ≡ t → Parental l a j b e
          last true x =
              let w = last_is i (a + o.start) (a + o.end) j b e f (rw x at y) in
              let p = part_within l o.start o.end q in
              let e0 : i ≡ j = w.0 in
              record {
                from = rw e0 at f;
                fit = rw e0 at w.3;
                dir = rw e0 at w.4;
                past = omega (arith, w.1);
                ordered = omega (arith, w.1, w.2, p.ordered);
                inside = omega (arith, w.2, p.inside);
              }
          last false x = step rec (step_of s v i l) refl (rw x at y)

  pub parent_there_at : (i a : ℕ) (l : List ℕ) (j b e : ℕ) → From s i → parent_from s v i a l ≡ Ok (parent_at j b e) → Parental l a j b e
  parent_there_at i a l j b e f z = there (suc (length l)) i a l j b e (omega arith) f z

  pub parent_there : (i : ℕ) (l : List ℕ) (j b e : ℕ) → From s i → parent_of s v i l ≡ Ok (parent_at j b e) → Parental l 0 j b e
  parent_there i l j b e f z = parent_there_at i 0 l j b e f z

  parent_only_in : (n i a : ℕ) (l : List ℕ) (x : Refusal) → length l < n → parent_from s v i a l ≡ Err x → OfWalk x
  parent_only_in zero i a l x h z = absurd (omega arith)
  parent_only_in (suc n) i a l x h z = part (part_of l) refl (sym (parent_is s v i a l) ∙ z) (λ k c m. parent_only_in n k c m x)
    where
      Rec : Type 0
      Rec = (k c : ℕ) (m : List ℕ) → length m < n → parent_from s v k c m ≡ Err x → OfWalk x

      step : Rec → (t : Stepped) → step_of s v i l ≡ t → upward (parent_from s v) a l t ≡ Err x → OfWalk x
      step rec (Ok (Some t)) q y = let k = t.inum in let w = t.used in let led = step_led s v i l k w q in rec k (a + w) (drop w l) (omega (arith, length-drop w l, led.within, led.took)) y
      step rec (Ok None) q y = let u : NoName ≡ x = cc in rw u at no_name
      step rec (Err r) q y = let u : r ≡ x = cc in rw u at (step_only i l r q)

      part : (p : Option Part) → part_of l ≡ p → climb (parent_from s v) s v i a l p ≡ Err x → Rec → OfWalk x
      part None q y rec = let u : NoName ≡ x = cc in rw u at no_name
      part (Some p) q y rec = last (is_end (part_of (drop p.end l))) refl
        where
          last : (t : Bool) → is_end (part_of (drop p.end l)) ≡ t → OfWalk x
          last true w = last_only i (a + p.start) (a + p.end) x (rw w at y)
          last false w = step rec (step_of s v i l) refl (rw w at y)

  pub parent_only : (i : ℕ) (l : List ℕ) (x : Refusal) → parent_of s v i l ≡ Err x → OfWalk x
  parent_only i l x z = parent_only_in (suc (length l)) i 0 l x (omega arith) z
