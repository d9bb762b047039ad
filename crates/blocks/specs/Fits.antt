-- S3, slot by slot and inode by inode, as the code tests it. Assumes nothing.
use Rattle.std.specs.Prelude.{◌≡◌, ◌⊎◌, Bool, ℕ, ◌≤◌, ◌<◌}
use Rattle.std.proofs.Common.{sym, ◌∙◌, inl, inr, arith}
use Rattle.std.proofs.Math.Path.{ap}
use Rattle.std.proofs.Math.Decide.{dec_lt}
use Rattle.superblock.specs.declared.Super.{Super}
use Rattle.base.specs.Bytes.{Bytes}
use Rattle.superblock.specs.Disk.{Disk, disk}
use Rattle.rules.specs.Fit.{Shape, Taken, Fit, slots, held}
use Rattle.rules.specs.Rules.{S3}
use Rattle.base.specs.Decide.{Decides, alike}
use Rattle.reads.specs.Read.{Is, kind_none}

pub record SlotOk (g : Super) (v : Disk) (i n p : ℕ) : Type 0 where
  pub first : p < n → Taken g v (held v i p)
  pub rest : n ≤ p → held v i p ≡ 0

abbrev pub InodeOk : Super → Disk → ℕ → Type 0
InodeOk g v i = ((v.ino i).kind ≡ 0) ⊎ Fit g v (v.ino i)

module _ (g : Super) (v : Disk) (i k s : ℕ) (a : Is k (v.ino i).kind 65536) (b : Is s (v.ino i).size 4294967296) where
  not_free : (k ≡ 0 → ⊥) → InodeOk g v i → Fit g v (v.ino i)
  not_free z (inl e) = absurd (z (a.eq ∙ e))
  not_free z (inr f) = f

  pub inode_slots : (n : ℕ) (r : Bool) → (k ≡ 0 → ⊥) → Shape k s → n ≡ slots s → n < 270 → Decides r ((p : ℕ) → p < 269 → SlotOk g v i n p) → Decides r (InodeOk g v i)
  inode_slots n r z h e l d =
      let m : n ≡ slots (v.ino i).size = e ∙ ap slots b.eq in
      alike
      (λ f. inr (record {
        shape = rw (a.eq, b.eq) at h;
        first = λ p q. (f p (omega arith)).first (omega arith);
        rest = λ p q t. (f p t).rest (omega arith);
      }))
      (λ o p q. let f = not_free z o in record { first = λ t. f.first p (omega arith); rest = λ t. f.rest p (omega arith) q })
      d

module _ (g : Super) (m : Bytes) (few : 2 ≤ g.ninodes) where
  pub s3_each : (k : ℕ) (r : Bool) → Is k ((disk g m).ino 1).kind 65536 → k ≡ 1 → Decides r ((i : ℕ) → i < g.ninodes → InodeOk g (disk g m) i) → Decides r (S3 g (disk g m))
  s3_each k r a e d = alike
      (λ f. record { root = sym a.eq ∙ e; each = λ i. elim (dec_lt i g.ninodes) [ yes l ↦ f i l | no l ↦ inl (kind_none g m i (λ _. omega arith)) ] })
      (λ s i l. s.each i) d
