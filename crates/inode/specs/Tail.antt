-- The end of an indirect block, past the entries in use: its bytes are 0 exactly where its entries are. Assumes nothing.
use Rattle.std.specs.Prelude.{◌≡◌, Bool, ℕ, ◌+◌, ◌*◌, ◌/◌, ◌%◌, ◌≤◌, ◌<◌}
use Rattle.std.proofs.Common.{ap, ◌∙◌, arith}
use Rattle.std.proofs.Math.Decide.{dec_lt, ℕ_discrete}
use Rattle.base.specs.Bytes.{Bytes}
use Rattle.base.specs.Number.{get, get_four}
use Rattle.base.specs.Decide.{Decides, alike}
use Rattle.superblock.specs.declared.Super.{Super}
use Rattle.inode.specs.Slots.{TakenBy, SlotGood}

-- the bytes of a block from a on are 0
pub record BlankFrom (t : Bytes) (a : ℕ) : Type 0 where
  pub zero : (i : ℕ) → a ≤ i → i < 1024 → t i ≡ 0

-- so far: m is 0 exactly where the bytes from a up to b are
pub record Largest (t : Bytes) (a b m : ℕ) : Type 0 where
  pub low : m ≡ 0 → (i : ℕ) → a ≤ i → i < b → t i ≡ 0
  pub high : ((i : ℕ) → a ≤ i → i < b → t i ≡ 0) → m ≡ 0

-- an entry is 0 exactly where its four bytes are
module _ (t : Bytes) where
  entry_zero : (a : ℕ) → t (a + 0) ≡ 0 → t (a + 1) ≡ 0 → t (a + 2) ≡ 0 → t (a + 3) ≡ 0 → get t a 4 ≡ 0
  entry_zero a x y z w = omega (arith, get_four t a)

  byte_zero : (a c : ℕ) → get t a 4 ≡ 0 → c < 4 → t (a + c) ≡ 0
  byte_zero a c e h = elim (ℕ_discrete c 0) [
    | yes u ↦ ap (λ (k : ℕ). t (a + k)) u ∙ omega (arith, get_four t a)
    | no u ↦ elim (ℕ_discrete c 1) [
      | yes v ↦ ap (λ (k : ℕ). t (a + k)) v ∙ omega (arith, get_four t a)
      | no v ↦ elim (ℕ_discrete c 2) [
        | yes w ↦ ap (λ (k : ℕ). t (a + k)) w ∙ omega (arith, get_four t a)
        | no w ↦ let q : c ≡ 3 = omega arith in ap (λ (k : ℕ). t (a + k)) q ∙ omega (arith, get_four t a)
      ]
    ]
  ]

-- the entries before k are good, and k is past the count, or past the last entry
module _ (s : Super) (m t : Bytes) (n k : ℕ) (past : k < 256 → n ≤ 12 + k) (few : k ≤ 256) (first : (j : ℕ) → j < k → SlotGood s m n (12 + j) (get t (4 * j) 4)) where
  all_good : BlankFrom t (4 * k) → (j : ℕ) → j < 256 → SlotGood s m n (12 + j) (get t (4 * j) 4)
  all_good z j h = elim (dec_lt j k) [
    | yes l ↦ first j l
    | no l ↦ record {
      first = λ q. absurd (omega arith);
      rest = λ _. entry_zero t (4 * j) (z.zero (4 * j + 0) (omega arith) (omega arith)) (z.zero (4 * j + 1) (omega arith) (omega arith)) (z.zero (4 * j + 2) (omega arith) (omega arith)) (z.zero (4 * j + 3) (omega arith) (omega arith));
    }
  ]

  all-blank : ((j : ℕ) → j < 256 → SlotGood s m n (12 + j) (get t (4 * j) 4)) → BlankFrom t (4 * k)
  all-blank g = record { zero = λ i l h. let e : i ≡ 4 * (i / 4) + i % 4 = omega arith in ap t e ∙ byte_zero t (4 * (i / 4)) (i % 4) ((g (i / 4) (omega arith)).rest (omega arith)) (omega arith) }

  pub tail_good : {r : Bool} → Decides r (BlankFrom t (4 * k)) → Decides r ((j : ℕ) → j < 256 → SlotGood s m n (12 + j) (get t (4 * j) 4))
  tail_good = alike all_good all-blank

-- an entry in use
pub used_good : (s : Super) (m : Bytes) (n p b : ℕ) → p < n → TakenBy s m b → SlotGood s m n p b
used_good s m n p b h t = record { first = λ _. t; rest = λ q. absurd (omega arith) }
