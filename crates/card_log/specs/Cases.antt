-- The marked case 10, at the level of blocks: committing the list 32, 35, 34, 36 on case 1's card takes 10 writes; 4 leave the old,
-- 5 leave the new after recovery (proved in proofs/Cases.antt). Assumes nothing.
use Rattle.std.specs.Prelude.{◌≡◌, refl, List, ℕ, zero, suc, ◌≤◌, ◌<◌}
use Rattle.std.proofs.Common.{arith}
use Rattle.base.specs.Bytes.{Bytes}
use Rattle.superblock.specs.declared.Super.{Super}
use Rattle.superblock.specs.Geometry.{Laid}
use Rattle.card_log.specs.Journal.{Tx, GoodLog, Outside, commit_due, committed, after_crash}

-- case 1's card: size 64, ninodes 16, nlog 30
abbrev pub card1 : Super
card1 = record { size = 64; nblocks = 29; ninodes = 16; nlog = 30; inodestart = 32; bmapstart = 34 }

pub card1_laid : Laid card1
card1_laid = record { inodestart = refl; bmapstart = refl; nblocks = refl; some = omega arith }

-- the recorded list 32, 35, 34, 36, with any contents
unfoldable pub home10 : ℕ → ℕ
home10 zero = 32
home10 (suc zero) = 35
home10 (suc (suc zero)) = 34
home10 (suc (suc (suc i))) = 36

abbrev pub saved10 : (ℕ → Bytes) → Tx
saved10 content = record { count = 4; home = home10; content = content }

data At (i : ℕ) : Type 0 where
  at0 : i ≡ 0 → home10 i ≡ 32 → At i
  at1 : i ≡ 1 → home10 i ≡ 35 → At i
  at2 : i ≡ 2 → home10 i ≡ 34 → At i
  at3 : i ≡ 3 → home10 i ≡ 36 → At i

at : (i : ℕ) → i < 4 → At i
unfolding home10
at zero l = at0 refl refl
at (suc zero) l = at1 refl refl
at (suc (suc zero)) l = at2 refl refl
at (suc (suc (suc zero))) l = at3 refl refl
at (suc (suc (suc (suc i)))) l = absurd (omega arith)

bounds : (i : ℕ) → At i → (32 ≤ home10 i) × (home10 i < 64)
bounds i (at0 e h) = omega arith
bounds i (at1 e h) = omega arith
bounds i (at2 e h) = omega arith
bounds i (at3 e h) = omega arith

apart : (i j : ℕ) → At i → At j → home10 i ≡ home10 j → i ≡ j
apart i j (at0 e h) (at0 f k) q = omega arith
apart i j (at0 e h) (at1 f k) q = absurd (omega arith)
apart i j (at0 e h) (at2 f k) q = absurd (omega arith)
apart i j (at0 e h) (at3 f k) q = absurd (omega arith)
apart i j (at1 e h) (at0 f k) q = absurd (omega arith)
apart i j (at1 e h) (at1 f k) q = omega arith
apart i j (at1 e h) (at2 f k) q = absurd (omega arith)
apart i j (at1 e h) (at3 f k) q = absurd (omega arith)
apart i j (at2 e h) (at0 f k) q = absurd (omega arith)
apart i j (at2 e h) (at1 f k) q = absurd (omega arith)
apart i j (at2 e h) (at2 f k) q = omega arith
apart i j (at2 e h) (at3 f k) q = absurd (omega arith)
apart i j (at3 e h) (at0 f k) q = absurd (omega arith)
apart i j (at3 e h) (at1 f k) q = absurd (omega arith)
apart i j (at3 e h) (at2 f k) q = absurd (omega arith)
apart i j (at3 e h) (at3 f k) q = omega arith

pub saved10_good : (content : ℕ → Bytes) → GoodLog card1 (saved10 content)
saved10_good content =
    record {
      few = omega arith;
      room = omega arith;
      high = λ i l. (bounds i (at i l)).0;
      low = λ i l. (bounds i (at i l)).1;
      distinct = λ i j l m e. apart i j (at i l) (at j m) e;
    }

pub record Case10 (content : ℕ → Bytes) (d : Bytes) (ks : List ℕ) : Type 0 where
  pub writes : commit_due 4 ≡ 10
  pub four : (x : ℕ) → Outside card1 x → after_crash (saved10 content) 4 ks d x ≡ d x
  pub five : (x : ℕ) → Outside card1 x → after_crash (saved10 content) 5 ks d x ≡ committed (saved10 content) d x
