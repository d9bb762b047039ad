-- What a commit leaves alone, cut or not: the blocks before the log, so a card's superblock; and that only a transaction's own blocks matter.
-- It stands here, and not in specs/, so that an edit of `commit_write` is refused by these theorems. Assumes nothing.
use Rattle.std.specs.Prelude.{◌≡◌, ◌⊎◌}
use Rattle.std.proofs.Math.Path.{refl, ap}
use Rattle.std.proofs.Common.{sym, ◌∙◌, inl, inr, arith}
use Prim.Native.Nat.{ℕ, zero, suc, ◌+◌, ◌-◌, ◌≤◌, ◌<◌}
use Rattle.std.proofs.Math.Decide.{ℕ_discrete, dec_lt}
use Rattle.base.specs.Bytes.{Bytes, block, put_block}
use Rattle.base.specs.Decide.{lt_or_le}
use Rattle.base.specs.Run.{run}
use Rattle.card_log.specs.Words.{words_out, block_off}
use Rattle.card_log.specs.Journal.{Tx, held, header, log_block, words, home_write, install_write, commit_write, commit}
use Rattle.card_log.specs.Installing.{install_home, install_last}
use Rattle.card_log.specs.Kept.{run_keeps, install_keeps}
use Rattle.card_log.proofs.Crash.{commit_log, commit-header, commit_install}

module _ (t : Tx) (high : (i : ℕ) → i < t.count → 2 ≤ t.home i) (x : ℕ) (l : x < 2048) where
  commit_step_keeps : (k : ℕ) (e : Bytes) → commit_write t k e x ≡ e x
  commit_step_keeps k e = elim (dec_lt k t.count) [
    | yes h ↦ ap (λ (f : Bytes). f x) (commit_log t k e h) ∙ block_off e (log_block k) (t.content k) x (λ q. omega arith)
    | no h ↦ elim (ℕ_discrete k t.count) [
      | yes z ↦ ap (λ (f : Bytes). f x) (commit-header t k e z) ∙ words_out e header (t.count + 1) (words t.count t.home) x (λ p q. omega arith)
      | no z ↦ ap (λ (f : Bytes). f x) (commit_install t k e (k - (t.count + 1)) (omega arith)) ∙ install_keeps t high x l (k - (t.count + 1)) e
    ]
  ]

  -- a commit leaves the blocks before the log alone
  pub commit-below : (k : ℕ) (d : Bytes) → commit t k d x ≡ d x
  unfolding commit
  commit-below k d = run_keeps (commit_write t) _ d x commit_step_keeps

-- only the buffers of the n blocks matter
module _ (n : ℕ) (h b b' : ℕ → ℕ) (m : Bytes) (same : (i : ℕ) → i < n → b i ≡ b' i) where
  step_same : (k : ℕ) (d : Bytes) → commit_write (held n h b m) k d ≡ commit_write (held n h b' m) k d
  unfolding held home_write
  step_same k d = go (lt_or_le k n)
    where
      t : Tx
      t = held n h b m

      u : Tx
      u = held n h b' m

      last : (j : ℕ) → (j < n) ⊎ (n ≤ j) → install_write t j d ≡ install_write u j d
      last j (inl w) = install_home t j d w ∙ ap (λ (i : ℕ). put_block d (h j) (block m i)) (same j w) ∙ sym (install_home u j d w)
      last j (inr w) = install_last t j d w ∙ sym (install_last u j d w)

      go : (k < n) ⊎ (n ≤ k) → commit_write t k d ≡ commit_write u k d
      go (inl w) = commit_log t k d w ∙ ap (λ (i : ℕ). put_block d (log_block k) (block m i)) (same k w) ∙ sym (commit_log u k d w)
      go (inr w) = elim (ℕ_discrete k n) [
        | yes z ↦ commit-header t k d z ∙ sym (commit-header u k d z)
        | no z ↦ commit_install t k d (k - (n + 1)) (omega arith) ∙ last (k - (n + 1)) (lt_or_le (k - (n + 1)) n) ∙ sym (commit_install u k d (k - (n + 1)) (omega arith))
      ]

  run_same : (k : ℕ) (d : Bytes) → run (commit_write (held n h b m)) k d ≡ run (commit_write (held n h b' m)) k d
  unfolding run
  run_same zero d = refl
  run_same (suc k) d = step_same k _ ∙ ap (commit_write (held n h b' m) k) (run_same k d)

  pub commit-same : (k : ℕ) (d : Bytes) → commit (held n h b m) k d ≡ commit (held n h b' m) k d
  unfolding commit held
  commit-same k d = run_same _ d
