-- What a recovery leaves alone, cut or not: the blocks before the log, so a card's superblock (a commit: proofs/Kept.antt). Assumes nothing.
use Rattle.std.specs.Prelude.{◌≡◌}
use Rattle.std.proofs.Math.Path.{refl, ap}
use Rattle.std.proofs.Common.{◌∙◌, arith}
use Prim.Native.Nat.{ℕ, zero, suc, ◌≤◌, ◌<◌}
use Rattle.std.proofs.Math.Decide.{dec_lt}
use Rattle.base.specs.Bytes.{Bytes, put_out}
use Rattle.base.specs.Number.{digit}
use Rattle.base.specs.Run.{run}
use Rattle.card_log.specs.Words.{block_off}
use Rattle.card_log.specs.Journal.{Tx, header, home_write, emptied, install_write, recover, logged}
use Rattle.card_log.specs.Installing.{install_home, install_last}

-- a run of steps that each leave x alone
pub run_keeps : (w : ℕ → Bytes → Bytes) (n : ℕ) (d : Bytes) (x : ℕ) → ((k : ℕ) (e : Bytes) → w k e x ≡ e x) → run w n d x ≡ d x
unfolding run
run_keeps w zero d x h = refl
run_keeps w (suc n) d x h = h n (run w n d) ∙ run_keeps w n d x h

module _ (t : Tx) (high : (i : ℕ) → i < t.count → 2 ≤ t.home i) (x : ℕ) (l : x < 2048) where
  pub install_keeps : (k : ℕ) (e : Bytes) → install_write t k e x ≡ e x
  unfolding home_write emptied
  install_keeps k e = elim (dec_lt k t.count) [
    | yes h ↦ ap (λ (f : Bytes). f x) (install_home t k e h) ∙ block_off e (t.home k) (t.content k) x (λ q. omega (arith, high k h))
    | no h ↦ ap (λ (f : Bytes). f x) (install_last t k e (omega arith)) ∙ put_out e header 4 (digit 0) x (λ p q. omega arith)
  ]

-- and so does a recovery
pub recover-below : (d : Bytes) → ((i : ℕ) → i < (logged d).count → 2 ≤ (logged d).home i) → (k x : ℕ) → x < 2048 → recover k d x ≡ d x
unfolding recover
recover-below d high k x l = run_keeps (install_write (logged d)) _ d x (install_keeps (logged d) high x l)
