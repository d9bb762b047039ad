-- One step of a walk: the inode that it stands on must be fit (5), be a directory (6) and have the name (7),
-- and the number found must be an inode's (5). Assumes nothing.
use Rattle.std.specs.Prelude.{◌≡◌, Bool, cond, List, Option, Some, None, Result, Ok, Err, MatchResult, ℕ, ◌<◌, ◌≤◌, length, eqb, ltb}
use Rattle.std.proofs.Math.Path.{refl}
use Rattle.std.proofs.Common.{ap, sym, ◌∙◌, arith, eq-eqb, ne_eqb, lt-ltb, le-ltb, ltb-true}
use Rattle.std.proofs.Math.Bool.{true, false}
use Rattle.base.specs.Bytes.{Bytes}
use Rattle.base.specs.Decide.{Decides, so}
use Rattle.base.specs.declared.Refusal.{Refusal}
use Rattle.base.specs.declared.Refusal.TheVariants.{Unfit, NotDirectory, NoName}
use Rattle.superblock.specs.declared.Super.{Super}
use Rattle.superblock.specs.declared.Inode.{Inode}
use Rattle.superblock.specs.Geometry.{GoodNumbers}
use Rattle.superblock.specs.Node.{Node, node}
use Rattle.superblock.specs.Disk.{Disk, disk, ino_of}
use Rattle.rules.specs.Fit.{Fit}
use Rattle.inode.specs.FitOf.{fit_of, fit_of_decides, decides_same}
use Rattle.path.specs.Parts.{path_len, part_of, part_in, part_within}
use Rattle.path.specs.Cut.{part_before}
use Rattle.path.specs.Names.{name_of}
use Rattle.path.specs.declared.Part.{Part}
use Rattle.dir.specs.Lookup.{lookup, lookup_there}
use Rattle.dir.specs.Entries.{look_in, look_is}
use Rattle.dir.specs.declared.Found.{Found}
use Rattle.walk.specs.declared.Step.{Step}

-- what a step answers: another inode, past the bytes of the path that named it; None where no component is left; or a refusal
abbrev pub Stepped : Type 0
Stepped = Result (Option Step) Refusal

abbrev pub step_at : ℕ → ℕ → Step
step_at n e = record { inum = n; used = e }

-- the number found must be one of the card's inodes. A live entry's number is not 0 (`step_led`)
abbrev pub entered : Super → ℕ → Option Found → Stepped
entered s e (Some o) = cond (ltb o.inum s.ninodes) (Ok (Some (step_at o.inum e))) (Err Unfit)
entered s e None = Err NoName

-- the next component of l, where it has one, is sought in inode i, which must be a directory
abbrev pub sought : Super → Disk → ℕ → List ℕ → Option Part → Stepped
sought s v i l (Some p) = cond (eqb (v.ino i).kind 1) (entered s p.end (lookup v i (name_of (part_in l p.start p.end)))) (Err NotDirectory)
sought s v i l None = Ok None

-- one step from inode i, which must be fit, with the rest l of the path
unfoldable pub step_of : Super → Disk → ℕ → List ℕ → Stepped
step_of s v i l = cond (fit_of s v (v.ino i)) (sought s v i l (part_of l)) (Err Unfit)

-- i is the number of an inode: 1 to ninodes - 1
pub record From (s : Super) (i : ℕ) : Type 0 where
  pub some : 0 < i
  pub inside : i < s.ninodes

-- the root is one
pub from_root : (s : Super) → GoodNumbers s → From s 1
from_root s g = record { some = omega arith; inside = omega (arith, g.inodes_least) }

-- what a step says of the number that it leads to, and of the bytes that it took
pub record Led (s : Super) (l : List ℕ) (n e : ℕ) : Type 0 where
  pub from : From s n
  pub within : e ≤ length l
  pub took : 0 < e
  pub used : e ≤ path_len l

-- ---- laws

module _ (s : Super) (v : Disk) (i : ℕ) (l : List ℕ) where
  entered_to : (name : Bytes) (e : ℕ) → e ≤ length l → 0 < e → e ≤ path_len l → (r : Option Found) → lookup v i name ≡ r → (n k : ℕ) → entered s e r ≡ Ok (Some (step_at n k)) → Led s l n k
  entered_to name e w b u None q n k h = absurd (cc)
  entered_to name e w b u (Some o) q n k h = go (ltb o.inum s.ninodes) refl
    where
      go : (t : Bool) → ltb o.inum s.ninodes ≡ t → Led s l n k
      go true z =
          let h' : Ok (Some (step_at o.inum e)) ≡ Ok (Some (step_at n k)) = (rw z at h) in
          let y : step_at o.inum e ≡ step_at n k = cc in
          let a : o.inum ≡ n = ap (λ (t : Step). t.inum) y in
          let c : e ≡ k = ap (λ (t : Step). t.used) y in
          record {
            from = record { some = omega (arith, (lookup_there v i name o.inum o.entry q).live); inside = omega (arith, ltb-true o.inum s.ninodes z) };
            within = omega arith;
            took = omega arith;
            used = omega arith;
          }
      go false z = let h' : Err Unfit ≡ Ok (Some (step_at n k)) = (rw z at h) in absurd (cc)

  sought_to : (p : Option Part) → part_of l ≡ p → (n k : ℕ) → sought s v i l p ≡ Ok (Some (step_at n k)) → Led s l n k
  sought_to None q n k h = absurd (cc)
  sought_to (Some p) q n k h = go (eqb (v.ino i).kind 1) refl
    where
      go : (t : Bool) → eqb (v.ino i).kind 1 ≡ t → Led s l n k
      go true x =
          let w = part_within l p.start p.end q in
          entered_to (name_of (part_in l p.start p.end)) p.end w.inside (omega (arith, w.ordered)) (part_before l p.start p.end q) (lookup v i (name_of (part_in l p.start p.end))) refl n k (rw x at h)
      go false x = let h' : Err NotDirectory ≡ Ok (Some (step_at n k)) = (rw x at h) in absurd (cc)

  pub step_led : (n k : ℕ) → step_of s v i l ≡ Ok (Some (step_at n k)) → Led s l n k
  unfolding step_of
  step_led n k h = go (fit_of s v (v.ino i)) refl
    where
      go : (t : Bool) → fit_of s v (v.ino i) ≡ t → Led s l n k
      go true x = sought_to (part_of l) refl n k (rw x at h)
      go false x = let h' : Err Unfit ≡ Ok (Some (step_at n k)) = (rw x at h) in absurd (cc)

-- ---- inode i, fetched from the memory d and tested

-- f is the Disk's inode i, and fit
pub record Fetched (s : Super) (d : Bytes) (i : ℕ) (f : Inode) : Type 0 where
  pub is : node f ≡ ino_of s d i
  pub fit : Fit s (disk s d) (node f)

-- what a fetch answers: the inode, or 5 where it is not fit
abbrev pub Fetches : Super → Bytes → ℕ → Result Inode Refusal → Type 0
Fetches s d i r = MatchResult r (Fetched s d i) (λ e. (e ≡ Unfit) × (fit_of s (disk s d) (ino_of s d i) ≡ false))

module _ (s : Super) (d : Bytes) (i : ℕ) where
  pub fetches_no : (f : Inode) {ok : Bool} → node f ≡ ino_of s d i → Decides ok (Fit s (disk s d) (node f)) → ok ≡ false → fit_of s (disk s d) (ino_of s d i) ≡ false
  fetches_no f is test h = sym (ap (fit_of s (disk s d)) is) ∙ decides_same _ _ (fit_of_decides s (disk s d) (node f)) test ∙ h

  module _ (f : Inode) (at : Fetched s d i f) where
    pub fetched_fit : fit_of s (disk s d) (ino_of s d i) ≡ true
    fetched_fit = sym (ap (fit_of s (disk s d)) at.is) ∙ decides_same _ _ (fit_of_decides s (disk s d) (node f)) (so at.fit)

    pub kind_is : f.kind ≡ (ino_of s d i).kind
    kind_is = ap (λ (r : Node). r.kind) at.is

-- ---- where the code answers

module _ (s : Super) (d : Bytes) (i : ℕ) (l : List ℕ) where
  pub step_unfit : (e : Refusal) → (e ≡ Unfit) × (fit_of s (disk s d) (ino_of s d i) ≡ false) → Err e ≡ step_of s (disk s d) i l
  unfolding step_of
  step_unfit e h = rw (h.1, h.0)

  module _ (f : Inode) (at : Fetched s d i f) where
    fit_step : sought s (disk s d) i l (part_of l) ≡ step_of s (disk s d) i l
    unfolding step_of
    fit_step = rw (fetched_fit s d i f at)

    pub step_end : part_of l ≡ None → Ok None ≡ step_of s (disk s d) i l
    step_end e = ap (sought s (disk s d) i l) (sym e) ∙ fit_step

    module _ (p : Part) (q : part_of l ≡ Some p) where
      named : sought s (disk s d) i l (Some p) ≡ step_of s (disk s d) i l
      named = ap (sought s (disk s d) i l) (sym q) ∙ fit_step

      pub step_no_directory : (f.kind ≡ 1 → ⊥) → Err NotDirectory ≡ step_of s (disk s d) i l
      step_no_directory k = rw (ne_eqb (ino_of s d i).kind 1 (λ z. k (kind_is s d i f at ∙ z))) at named

      module _ (k : f.kind ≡ 1) (name : List ℕ) (z : name ≡ part_in l p.start p.end) (r : Option Found) (found : r ≡ look_in d f (name_of name)) where
        directory : entered s p.end r ≡ step_of s (disk s d) i l
        directory =
            let y : r ≡ lookup (disk s d) i (name_of (part_in l p.start p.end)) = found ∙ look_is s d f i at.is k at.fit (name_of name) ∙ ap (λ (x : List ℕ). lookup (disk s d) i (name_of x)) z in
            ap (entered s p.end) y ∙ (rw (eq-eqb (ino_of s d i).kind 1 (sym (kind_is s d i f at) ∙ k)) at named)

        pub step_missing : r ≡ None → Err NoName ≡ step_of s (disk s d) i l
        step_missing y = ap (entered s p.end) (sym y) ∙ directory

        pub step_to : (o : Found) → r ≡ Some o → o.inum < s.ninodes → Ok (Some (step_at o.inum p.end)) ≡ step_of s (disk s d) i l
        step_to o y m = (rw (lt-ltb o.inum s.ninodes m) at (ap (entered s p.end) (sym y))) ∙ directory

        pub step_outside : (o : Found) → r ≡ Some o → s.ninodes ≤ o.inum → Err Unfit ≡ step_of s (disk s d) i l
        step_outside o y m = (rw (le-ltb o.inum s.ninodes m) at (ap (entered s p.end) (sym y))) ∙ directory
