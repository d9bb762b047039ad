-- A walk looks at nothing past the path's end, its first NUL: it is the walk of the path alone. Assumes nothing.
use Rattle.std.specs.Prelude.{◌≡◌, refl, List, Option, Some, None, Result, Ok, Err, ℕ, zero, suc, ◌+◌, ◌<◌, drop, length, eqb}
use Rattle.std.proofs.Math.Path.{ap}
use Rattle.std.proofs.Common.{sym, ◌∙◌, arith, length-drop}
use Rattle.std.proofs.Math.Bool.{cond}
use Rattle.superblock.specs.declared.Super.{Super}
use Rattle.superblock.specs.Disk.{Disk}
use Rattle.inode.specs.FitOf.{fit_of}
use Rattle.path.specs.Parts.{part_of, is_end}
use Rattle.path.specs.Names.{name_of}
use Rattle.path.specs.Cut.{cut, part_cut, part_before, part_bytes, rest-cut}
use Rattle.path.specs.declared.Part.{Part}
use Rattle.base.specs.declared.Refusal.{Refusal}
use Rattle.base.specs.declared.Refusal.TheVariants.{Unfit, NotDirectory}
use Rattle.dir.specs.Lookup.{lookup}
use Rattle.walk.specs.Step.{Stepped, step_at, entered, sought, step_of, step_led}
use Rattle.walk.specs.Walks.{onward, walk_of, walk_is}
use Rattle.walk.specs.Parents.{last_in, upward, climb, parent_from, parent_of, parent_is}
use Rattle.walk.specs.declared.Parent.{Parent}

module _ (s : Super) (v : Disk) where
  sought-cut : (i : ℕ) (l : List ℕ) (p : Option Part) → part_of l ≡ p → sought s v i (cut l) p ≡ sought s v i l p
  sought-cut i l None q = refl
  sought-cut i l (Some p) q = ap (λ (m : List ℕ). cond (eqb (v.ino i).kind 1) (entered s p.end (lookup v i (name_of m))) (Err NotDirectory)) (part_bytes l p.start p.end q)

  pub step_cut : (i : ℕ) (l : List ℕ) → step_of s v i (cut l) ≡ step_of s v i l
  unfolding step_of
  step_cut i l = ap (λ (t : Stepped). cond (fit_of s v (v.ino i)) t (Err Unfit)) (ap (sought s v i (cut l)) (part_cut l) ∙ sought-cut i l (part_of l) refl)

  cut_in : (n i : ℕ) (l : List ℕ) → length l < n → walk_of s v i (cut l) ≡ walk_of s v i l
  cut_in zero i l h = absurd (omega arith)
  cut_in (suc n) i l h = walk_is s v i (cut l) ∙ ap (onward (walk_of s v) i (cut l)) (step_cut i l) ∙ go (step_of s v i l) refl (λ j m. cut_in n j m) ∙ sym (walk_is s v i l)
    where
      go : (t : Stepped) → step_of s v i l ≡ t → ((j : ℕ) (m : List ℕ) → length m < n → walk_of s v j (cut m) ≡ walk_of s v j m)
          → onward (walk_of s v) i (cut l) t ≡ onward (walk_of s v) i l t
      go (Ok (Some t)) q rec =
          let j = t.inum in let e = t.used in
          let led = step_led s v i l j e q in
          ap (walk_of s v j) (rest-cut l e led.used) ∙ rec j (drop e l) (omega (arith, length-drop e l, led.within, led.took))
      go (Ok None) q rec = refl
      go (Err r) q rec = refl

  pub walk_cut : (i : ℕ) (l : List ℕ) → walk_of s v i (cut l) ≡ walk_of s v i l
  walk_cut i l = cut_in (suc (length l)) i l (omega arith)

  -- and so for the walk to the parent
  climb-cut : (k h : ℕ → ℕ → List ℕ → Result Parent Refusal) (i a : ℕ) (l : List ℕ) (p : Option Part) → part_of l ≡ p
      → ((j e : ℕ) → step_of s v i l ≡ Ok (Some (step_at j e)) → k j (a + e) (drop e (cut l)) ≡ h j (a + e) (drop e l)) → climb k s v i a (cut l) p ≡ climb h s v i a l p
  climb-cut k h i a l None q f = refl
  climb-cut k h i a l (Some p) q f =
      let z : is_end (part_of (drop p.end (cut l))) ≡ is_end (part_of (drop p.end l)) = ap (λ (m : List ℕ). is_end (part_of m)) (rest-cut l p.end (part_before l p.start p.end q)) ∙ ap is_end (part_cut (drop p.end l)) in
      rw (z, step_cut i l) (ap (λ (t : Result Parent Refusal). cond (is_end (part_of (drop p.end l))) (last_in s v i (a + p.start) (a + p.end)) t) (go (step_of s v i l) refl))
    where
      go : (t : Stepped) → step_of s v i l ≡ t → upward k a (cut l) t ≡ upward h a l t
      go (Ok (Some t)) x = f t.inum t.used x
      go (Ok None) x = refl
      go (Err r) x = refl

  parent_cut_in : (n i a : ℕ) (l : List ℕ) → length l < n → parent_from s v i a (cut l) ≡ parent_from s v i a l
  parent_cut_in zero i a l h = absurd (omega arith)
  parent_cut_in (suc n) i a l h =
      parent_is s v i a (cut l) ∙ ap (climb (parent_from s v) s v i a (cut l)) (part_cut l)
      ∙ climb-cut (parent_from s v) (parent_from s v) i a l (part_of l) refl
      (λ j e q. let led = step_led s v i l j e q in
      ap (parent_from s v j (a + e)) (rest-cut l e led.used) ∙ parent_cut_in n j (a + e) (drop e l) (omega (arith, length-drop e l, led.within, led.took)))
      ∙ sym (parent_is s v i a l)

  pub parent_cut : (i : ℕ) (l : List ℕ) → parent_of s v i (cut l) ≡ parent_of s v i l
  parent_cut i l = parent_cut_in (suc (length l)) i 0 l (omega arith)
