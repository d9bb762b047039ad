-- Installing a log: its home writes may be done again, in part and over, without a difference, and none reaches below the homes.
-- Assumes nothing.
use Rattle.std.specs.Prelude.{◌≡◌, refl, ◌⊎◌, ℕ, zero, suc, ◌+◌, ◌*◌, ◌/◌, ◌%◌, ◌≤◌, ◌<◌}
use Rattle.std.proofs.Common.{sym, ◌∙◌, ap, inl, inr, ⊎_elim, arith, add-one, lt-ltb, le-ltb}
use Rattle.std.proofs.Math.Path.{fun_ext}
use Rattle.std.proofs.Math.Decide.{ℕ_discrete}
use Rattle.base.specs.Bytes.{Bytes, put_block}
use Rattle.base.specs.Decide.{le_or_lt}
use Rattle.base.specs.Run.{run}
use Rattle.card_log.specs.Words.{block_in, block_off}
use Rattle.card_log.specs.Journal.{Tx, home_write, emptied, install_write, replaced}

-- x lies in the home of a block of t below n
abbrev Hit : Tx → ℕ → ℕ → Type 0
Hit t n x = (j : ℕ) × (j < n) × (t.home j ≡ x / 1024)

-- a block's write, at x: the old bytes matter only outside the block, and of the new ones one
put_cong : (d e : Bytes) (b : ℕ) (f g : Bytes) (x : ℕ) → ((b ≡ x / 1024 → ⊥) → d x ≡ e x) → f (x % 1024) ≡ g (x % 1024)
    → put_block d b f x ≡ put_block e b g x
put_cong d e b f g x h m = go (ℕ_discrete b (x / 1024))
  where
    go : Dec (b ≡ x / 1024) → put_block d b f x ≡ put_block e b g x
    go (yes p) = block_in d b f x p ∙ m ∙ sym (block_in e b g x p)
    go (no p) = block_off d b f x p ∙ h p ∙ sym (block_off e b g x p)

-- what the homes held makes no difference to installing
pub homes_forget : (t : Tx) (n : ℕ) (d e : Bytes) (x : ℕ) → (d x ≡ e x) ⊎ Hit t n x → run (home_write t) n d x ≡ run (home_write t) n e x
unfolding run home_write
homes_forget t zero d e x (inl h) = h
homes_forget t zero d e x (inr h) = absurd (omega arith)
homes_forget t (suc n) d e x w =
    put_cong (run (home_write t) n d) (run (home_write t) n e) (t.home n) (t.content n) (t.content n) x
    (λ p. homes_forget t n d e x (⊎_elim (λ h. inl h) (λ h. inr (narrow p h)) w)) refl
  where
    narrow : (t.home n ≡ x / 1024 → ⊥) → Hit t (suc n) x → Hit t n x
    narrow p h =
        let q : h.0 ≡ n → ⊥ = λ e. p (ap t.home (sym e) ∙ h.2) in
        (h.0, omega arith, h.2)

-- a byte in no home stays
pub homes_off : (t : Tx) (n : ℕ) (d : Bytes) (x : ℕ) → ((i : ℕ) → i < n → t.home i ≡ x / 1024 → ⊥) → run (home_write t) n d x ≡ d x
unfolding run home_write
homes_off t zero d x u = refl
homes_off t (suc n) d x u =
    block_off (run (home_write t) n d) (t.home n) (t.content n) x (u n (omega arith)) ∙ homes_off t n d x (λ i h. u i (omega arith))

-- so no home write reaches below the homes
pub homes_below : (is : ℕ) (t : Tx) (k : ℕ) (d : Bytes) (x : ℕ) → ((i : ℕ) → i < k → is ≤ t.home i) → x < is * 1024 → run (home_write t) k d x ≡ d x
homes_below is t k d x h l = homes_off t k d x (λ i m e. omega (arith, h i m))

-- two transactions that agree in their first k blocks
pub record Same (t u : Tx) (k : ℕ) : Type 0 where
  pub home : (i : ℕ) → i < k → t.home i ≡ u.home i
  pub content : (i j : ℕ) → i < k → j < 1024 → t.content i j ≡ u.content i j

pub homes_same : (t u : Tx) (k : ℕ) (d : Bytes) (x : ℕ) → Same t u k → run (home_write t) k d x ≡ run (home_write u) k d x
unfolding run home_write
homes_same t u zero d x s = refl
homes_same t u (suc k) d x s =
    let ih : run (home_write t) k d x ≡ run (home_write u) k d x = homes_same t u k d x (shorter s) in
    rw (s.home k (omega arith))
    (put_cong (run (home_write t) k d) (run (home_write u) k d) (u.home k) (t.content k) (u.content k) x (λ p. ih) (s.content k (x % 1024) (omega arith) (omega arith)))
  where
    shorter : Same t u (suc k) → Same t u k
    shorter s = record { home = λ i h. s.home i (omega arith); content = λ i j h l. s.content i j (omega arith) l }

pub same_part : (t u : Tx) (n k : ℕ) → k ≤ n → Same t u n → Same t u k
same_part t u n k h s = record { home = λ i l. s.home i (omega arith); content = λ i j l m. s.content i j (omega arith) m }

-- installing again after a part of the installing is installing
pub homes_again : (t : Tx) (n k : ℕ) (d : Bytes) (x : ℕ) → k ≤ n → run (home_write t) n (run (home_write t) k d) x ≡ run (home_write t) n d x
unfolding run home_write
homes_again t n zero d x h = refl
homes_again t n (suc k) d x h = homes_forget t n _ _ x (go (ℕ_discrete (t.home k) (x / 1024))) ∙ homes_again t n k d x (omega arith)
  where
    go : Dec (t.home k ≡ x / 1024) → (home_write t k (run (home_write t) k d) x ≡ run (home_write t) k d x) ⊎ Hit t n x
    go (yes p) = inr (k, h, p)
    go (no p) = inl (block_off (run (home_write t) k d) (t.home k) (t.content k) x p)

-- the writes of an installing
module _ (t : Tx) (k : ℕ) (d : Bytes) where
  pub install_home : k < t.count → install_write t k d ≡ home_write t k d
  unfolding install_write
  install_home h = rw (lt-ltb k t.count h)

  pub install_last : t.count ≤ k → install_write t k d ≡ emptied d
  unfolding install_write
  install_last h = rw (le-ltb k t.count h)

pub install_part : (t : Tx) (k : ℕ) (d : Bytes) → k ≤ t.count → run (install_write t) k d ≡ run (home_write t) k d
unfolding run
install_part t zero d h = refl
install_part t (suc k) d h = rw (install_part t k d (omega arith)) (install_home t k _ h)

pub install_all : (t : Tx) (d : Bytes) → run (install_write t) (t.count + 1) d ≡ emptied (replaced t d)
unfolding run replaced
install_all t d = rw (add-one, install_part t t.count d (omega arith)) (install_last t _ _ (omega arith))

-- installing two transactions that agree
pub install_same : (t u : Tx) (j : ℕ) (d : Bytes) → u.count ≡ t.count → Same u t t.count → j ≤ t.count + 1
    → run (install_write t) j d ≡ run (install_write u) j d
unfolding replaced
install_same t u j d c s b = go (le_or_lt j t.count)
  where
    part : (k : ℕ) → k ≤ t.count → run (home_write t) k d ≡ run (home_write u) k d
    part k h = fun_ext (λ x. sym (homes_same u t k d x (same_part u t t.count k h s)))

    go : (j ≤ t.count) ⊎ (t.count < j) → run (install_write t) j d ≡ run (install_write u) j d
    go (inl h) = install_part t j d h ∙ part j h ∙ sym (install_part u j d (omega arith))
    go (inr h) =
        ap (λ m. run (install_write t) m d) (omega arith) ∙ install_all t d
        ∙ ap emptied (part t.count (omega arith) ∙ ap (λ m. run (home_write u) m d) (sym c))
        ∙ sym (install_all u d) ∙ ap (λ m. run (install_write u) m d) (omega arith)

-- what replacing the homes is, byte by byte
homes_in : (t : Tx) (n : ℕ) (d : Bytes) (i j : ℕ) → ((k : ℕ) → k < n → t.home k ≡ t.home i → k ≡ i) → i < n → j < 1024
    → run (home_write t) n d (t.home i * 1024 + j) ≡ t.content i j
unfolding run home_write
homes_in t zero d i j u h m = absurd (omega arith)
homes_in t (suc n) d i j u h m = go (homes_in t n d i j (λ k l. u k (omega arith))) (ℕ_discrete i n)
  where
    go : (i < n → j < 1024 → run (home_write t) n d (t.home i * 1024 + j) ≡ t.content i j) → Dec (i ≡ n)
        → home_write t n (run (home_write t) n d) (t.home i * 1024 + j) ≡ t.content i j
    go ih (yes e) =
        let q : (t.home i * 1024 + j) % 1024 ≡ j = omega arith in
        block_in (run (home_write t) n d) (t.home n) (t.content n) (t.home i * 1024 + j) (ap t.home (sym e) ∙ omega arith) ∙ rw (q, e)
    go ih (no e) =
        block_off (run (home_write t) n d) (t.home n) (t.content n) (t.home i * 1024 + j) (λ q. e (sym (u n (omega arith) (omega arith)))) ∙ ih (omega arith) m

pub replaced_in : (t : Tx) → ((i j : ℕ) → i < t.count → j < t.count → t.home i ≡ t.home j → i ≡ j) → (d : Bytes) (i j : ℕ) → i < t.count → j < 1024
    → replaced t d (t.home i * 1024 + j) ≡ t.content i j
unfolding replaced
replaced_in t u d i j h m = homes_in t t.count d i j (λ k l e. u k i l h e) h m

pub replaced_off : (t : Tx) (d : Bytes) (x : ℕ) → ((i : ℕ) → i < t.count → t.home i ≡ x / 1024 → ⊥) → replaced t d x ≡ d x
unfolding replaced
replaced_off t d x u = homes_off t t.count d x u
