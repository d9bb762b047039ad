-- What a lookup finds, on the tree that a Disk shows: the first live entry (number not 0) of a directory whose 14 bytes are the name's.
-- Assumes nothing.
use Rattle.std.specs.Prelude.{◌≡◌, refl, Bool, true, false, cond, Option, Some, None, ℕ, ◌/◌, ◌<◌, eqb, ltb}
use Rattle.std.proofs.Common.{sym, ap, ◌∙◌, arith, eq-eqb, ltb-true}
use Rattle.std.proofs.Math.Decide.{dec_lt}
use Rattle.base.specs.First.{first, first_holds}
use Rattle.base.specs.Bytes.{Bytes}
use Rattle.base.specs.Decide.{never}
use Rattle.superblock.specs.Disk.{Disk}
use Rattle.rules.specs.Tree.{Tree, tree}
use Rattle.path.specs.Names.{same_name}
use Rattle.dir.specs.declared.Found.{Found}

-- how many entries directory i has
abbrev pub entries : Disk → ℕ → ℕ
entries v i = (v.ino i).size / 16

-- entry k of directory i is live and has the name
unfoldable pub has_name : Tree → ℕ → Bytes → ℕ → Bool
has_name t i name k = cond (eqb (t.num i k) 0) false (same_name (t.name i k) name)

-- the first such entry, or the number of entries where there is none
unfoldable pub entry_of : Disk → ℕ → Bytes → ℕ
entry_of v i name = first (has_name (tree v) i name) (entries v i)

-- inode n, by entry k
abbrev pub found_at : ℕ → ℕ → Found
found_at n k = record { inum = n; entry = k }

-- what a lookup of the name in directory i finds
unfoldable pub lookup : Disk → ℕ → Bytes → Option Found
lookup v i name = cond (ltb (entry_of v i name) (entries v i)) (Some (found_at ((tree v).num i (entry_of v i name)) (entry_of v i name))) None

-- ---- laws

-- what was found is the number of a live entry
pub record There (v : Disk) (i : ℕ) (name : Bytes) (n k : ℕ) : Type 0 where
  pub inside : k < entries v i
  pub is : n ≡ (tree v).num i k
  pub live : 0 < n
  pub named : same_name ((tree v).name i k) name ≡ true

pub lookup_there : (v : Disk) (i : ℕ) (name : Bytes) (n k : ℕ) → lookup v i name ≡ Some (found_at n k) → There v i name n k
unfolding lookup entry_of has_name
lookup_there v i name n k h = go (ltb (entry_of v i name) (entries v i)) refl
  where
    has : (x : ℕ) → has_name (tree v) i name x ≡ true → (t : Bool) → eqb ((tree v).num i x) 0 ≡ t → (0 < (tree v).num i x) × (same_name ((tree v).name i x) name ≡ true)
    has x q true e = let q' : false ≡ true = (rw e at q) in never q'
    has x q false e = let q' : same_name ((tree v).name i x) name ≡ true = (rw e at q) in (elim (dec_lt 0 ((tree v).num i x)) [ yes l ↦ l | no l ↦ never (sym e ∙ eq-eqb ((tree v).num i x) 0 (omega arith)) ], q')

    go : (t : Bool) → ltb (entry_of v i name) (entries v i) ≡ t → There v i name n k
    go true q =
        let h' : Some (found_at ((tree v).num i (entry_of v i name)) (entry_of v i name)) ≡ Some (found_at n k) = (rw q at h) in
        let w : found_at ((tree v).num i (entry_of v i name)) (entry_of v i name) ≡ found_at n k = cc in
        let a : (tree v).num i (entry_of v i name) ≡ n = ap (λ (f : Found). f.inum) w in
        let b : entry_of v i name ≡ k = ap (λ (f : Found). f.entry) w in
        let l : entry_of v i name < entries v i = ltb-true _ _ q in
        let w = has (entry_of v i name) (first_holds (has_name (tree v) i name) (entries v i) l) (eqb ((tree v).num i (entry_of v i name)) 0) refl in
        record { inside = omega arith; is = sym a ∙ ap ((tree v).num i) b; live = omega (arith, w.0); named = rw b at w.1 }
    go false q = let h' : None ≡ Some (found_at n k) = (rw q at h) in absurd (cc)
