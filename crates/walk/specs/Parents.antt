-- The walk to the parent of what a path names, for a call that makes or takes a name: it stops before the last component, with the same tests on
-- the parent. A path without a component has no parent (7), and no inode is looked at then. Assumes nothing.
use Rattle.std.specs.Prelude.{◌≡◌, refl, Bool, true, false, cond, List, [], ◌∷◌, Option, Some, None, Result, Ok, Err, ℕ, zero, suc, ◌+◌, ◌-◌, ◌<◌, ◌≤◌, take, drop, length, eqb}
use Rattle.std.proofs.Common.{ap, sym, ◌∙◌, arith, length-take, length-drop, take_all, drop-drop}
use borrow.Author.Tests.{eq-eqb, ne_eqb}
use Rattle.base.specs.Bytes.{Bytes}
use Rattle.base.specs.Refusals.{number}
use Rattle.base.specs.declared.Refusal.{Refusal}
use Rattle.base.specs.declared.Refusal.TheVariants.{Unfit, NotDirectory, NoName}
use Rattle.superblock.specs.declared.Super.{Super}
use Rattle.superblock.specs.declared.Inode.{Inode}
use Rattle.superblock.specs.Disk.{Disk, disk, ino_of}
use Rattle.inode.specs.FitOf.{fit_of}
use Rattle.path.specs.Parts.{part_of, part_at, is_end, part_within}
use Rattle.path.specs.declared.Part.{Part}
use Rattle.walk.specs.Step.{Stepped, step_at, step_of, step_led, Fetched, fetched_fit, kind_is}
use Rattle.walk.specs.declared.Parent.{Parent}

abbrev pub parent_at : ℕ → ℕ → ℕ → Parent
parent_at i b e = record { inum = i; start = b; end = e }

-- inode i as the parent: fit, and a directory. The last component is at b, up to e
unfoldable pub last_in : Super → Disk → ℕ → ℕ → ℕ → Result Parent Refusal
last_in s v i b e = cond (fit_of s v (v.ino i)) (cond (eqb (v.ino i).kind 1) (Ok (parent_at i b e)) (Err NotDirectory)) (Err Unfit)

-- after a step, at place a with l left of the path: on from the inode found, or a refusal
abbrev pub upward : (ℕ → ℕ → List ℕ → Result Parent Refusal) → ℕ → List ℕ → Stepped → Result Parent Refusal
upward k a l (Ok (Some t)) = k t.inum (a + t.used) (drop t.used l)
upward k a l (Ok None) = Err NoName
upward k a l (Err r) = Err r

-- by the next component: there is none, it is the last, or there are more
abbrev pub climb : (ℕ → ℕ → List ℕ → Result Parent Refusal) → Super → Disk → ℕ → ℕ → List ℕ → Option Part → Result Parent Refusal
climb k s v i a l None = Err NoName
climb k s v i a l (Some p) = cond (is_end (part_of (drop p.end l))) (last_in s v i (a + p.start) (a + p.end)) (upward k a l (step_of s v i l))

-- at most n steps
unfoldable pub parent_in : Super → Disk → ℕ → ℕ → ℕ → List ℕ → Result Parent Refusal
parent_in s v zero i a l = Err NoName
parent_in s v (suc n) i a l = climb (λ j c m. parent_in s v n j c m) s v i a l (part_of l)

-- from inode i, at place a of the path with l left of it; a step takes a byte at least
unfoldable pub parent_from : Super → Disk → ℕ → ℕ → List ℕ → Result Parent Refusal
parent_from s v i a l = parent_in s v (suc (length l)) i a l

-- the parent of what the path l names, from inode i on
abbrev pub parent_of : Super → Disk → ℕ → List ℕ → Result Parent Refusal
parent_of s v i l = parent_from s v i 0 l

-- its answer as a number with its values: 0, the directory and the last component's place, or the number of the refusal
abbrev pub parent_given : Result Parent Refusal → List ℕ
parent_given (Ok p) = 0 ∷ p.inum ∷ p.start ∷ p.end ∷ []
parent_given (Err r) = number r ∷ []

-- ---- laws

-- by the last component or by a step, the rest of the walk being the same
climb-same : (s : Super) (v : Disk) (i a : ℕ) (l : List ℕ) (k h : ℕ → ℕ → List ℕ → Result Parent Refusal)
    → ((j e : ℕ) → step_of s v i l ≡ Ok (Some (step_at j e)) → k j (a + e) (drop e l) ≡ h j (a + e) (drop e l)) → (p : Option Part) → climb k s v i a l p ≡ climb h s v i a l p
climb-same s v i a l k h f None = refl
climb-same s v i a l k h f (Some p) = ap (λ (q : Result Parent Refusal). cond (is_end (part_of (drop p.end l))) (last_in s v i (a + p.start) (a + p.end)) q) (go (step_of s v i l) refl)
  where
    go : (t : Stepped) → step_of s v i l ≡ t → upward k a l t ≡ upward h a l t
    go (Ok (Some t)) q = f t.inum t.used q
    go (Ok None) q = refl
    go (Err r) q = refl

parent_enough : (s : Super) (v : Disk) (n m i a : ℕ) (l : List ℕ) → length l < n → length l < m → parent_in s v n i a l ≡ parent_in s v m i a l
unfolding parent_in
parent_enough s v zero m i a l h k = absurd (omega arith)
parent_enough s v (suc n) zero i a l h k = absurd (omega arith)
parent_enough s v (suc n) (suc m) i a l h k =
    climb-same s v i a l (λ j c r. parent_in s v n j c r) (λ j c r. parent_in s v m j c r)
    (λ j e q. let led = step_led s v i l j e q in
    parent_enough s v n m j (a + e) (drop e l) (omega (arith, length-drop e l, led.within, led.took)) (omega (arith, length-drop e l, led.within, led.took)))
    (part_of l)

-- the equation that it satisfies, whatever the path
pub parent_is : (s : Super) (v : Disk) (i a : ℕ) (l : List ℕ) → parent_from s v i a l ≡ climb (parent_from s v) s v i a l (part_of l)
unfolding parent_from parent_in
parent_is s v i a l =
    climb-same s v i a l (λ j c r. parent_in s v (length l) j c r) (parent_from s v)
    (λ j e q. let led = step_led s v i l j e q in
    parent_enough s v (length l) (suc (length (drop e l))) j (a + e) (drop e l) (omega (arith, length-drop e l, led.within, led.took)) (omega arith))
    (part_of l)

-- ---- where the code answers

module _ (s : Super) (d : Bytes) (i b e : ℕ) where
  pub last_unfit : (x : Refusal) → (x ≡ Unfit) × (fit_of s (disk s d) (ino_of s d i) ≡ false) → Err x ≡ last_in s (disk s d) i b e
  unfolding last_in
  last_unfit x h = rw (h.1, h.0)

  module _ (f : Inode) (at : Fetched s d i f) where
    pub last_no_directory : (f.kind ≡ 1 → ⊥) → Err NotDirectory ≡ last_in s (disk s d) i b e
    unfolding last_in
    last_no_directory k = rw (fetched_fit s d i f at, ne_eqb (ino_of s d i).kind 1 (λ z. k (kind_is s d i f at ∙ z)))

    pub last_there : f.kind ≡ 1 → Ok (parent_at i b e) ≡ last_in s (disk s d) i b e
    unfolding last_in
    last_there k = rw (fetched_fit s d i f at, eq-eqb (ino_of s d i).kind 1 (sym (kind_is s d i f at) ∙ k))

-- a component's place, from a on, in the whole path
pub record InPath (l : List ℕ) (a b e : ℕ) : Type 0 where
  pub ordered : b < e
  pub inside : a + e ≤ length l

pub in_path : (l : List ℕ) (a b e : ℕ) → a ≤ length l → Some (part_at b e) ≡ part_of (take (length l - a) (drop a l)) → InPath l a b e
in_path l a b e h q =
    let w = part_within (take (length l - a) (drop a l)) b e (sym q) in
    record { ordered = w.ordered; inside = omega (arith, w.inside, length-take (length l - a) (drop a l), length-drop a l) }

-- a turn, with the rest of the path handed on as a part of the slice
module _ (s : Super) (v : Disk) (i a : ℕ) (l : List ℕ) where
  rest_is : (a : ℕ) → take (length l - a) (drop a l) ≡ drop a l
  rest_is a = take_all (length l - a) (drop a l) (omega (arith, length-drop a l))

  turn : (p : Option Part) → p ≡ part_of (take (length l - a) (drop a l)) → parent_from s v i a (drop a l) ≡ climb (parent_from s v) s v i a (drop a l) p
  turn p e = parent_is s v i a (drop a l) ∙ ap (climb (parent_from s v) s v i a (drop a l)) (ap part_of (sym (rest_is a)) ∙ sym e)

  pub parent_none : None ≡ part_of (take (length l - a) (drop a l)) → parent_from s v i a (drop a l) ≡ Err NoName
  parent_none h = turn None h

  module _ (b e : ℕ) (named : Some (part_at b e) ≡ part_of (take (length l - a) (drop a l))) {t : Bool} (test : t ≡ is_end (part_of (take (length l - (a + e)) (drop (a + e) l)))) where
    ends_is : is_end (part_of (drop e (drop a l))) ≡ t
    ends_is = ap (λ (m : List ℕ). is_end (part_of m)) (drop-drop e a l ∙ sym (rest_is (a + e))) ∙ sym test

    pub parent_last : t ≡ true → (r : Result Parent Refusal) → r ≡ last_in s v i (a + b) (a + e) → r ≡ parent_from s v i a (drop a l)
    parent_last h r q = q ∙ sym (turn (Some (part_at b e)) named ∙ rw (ends_is ∙ h))

    module _ (h : t ≡ false) where
      more : (w : Stepped) → w ≡ step_of s v i (take (length l - a) (drop a l)) → parent_from s v i a (drop a l) ≡ upward (parent_from s v) a (drop a l) w
      more w q = turn (Some (part_at b e)) named ∙ rw (ends_is ∙ h) (ap (upward (parent_from s v) a (drop a l)) (ap (step_of s v i) (sym (rest_is a)) ∙ sym q))

      pub parent_to : (j x : ℕ) → Ok (Some (step_at j x)) ≡ step_of s v i (take (length l - a) (drop a l)) → parent_from s v i a (drop a l) ≡ parent_from s v j (a + x) (drop (a + x) l)
      parent_to j x q = more (Ok (Some (step_at j x))) q ∙ ap (parent_from s v j (a + x)) (drop-drop x a l)

      pub parent_stay : Ok None ≡ step_of s v i (take (length l - a) (drop a l)) → parent_from s v i a (drop a l) ≡ Err NoName
      parent_stay q = more (Ok None) q

      pub parent_no : (r : Refusal) → Err r ≡ step_of s v i (take (length l - a) (drop a l)) → parent_from s v i a (drop a l) ≡ Err r
      parent_no r q = more (Err r) q
