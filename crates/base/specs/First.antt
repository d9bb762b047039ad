-- Searches and tables over the indices below n. `first` is the least index that passes a test, `all` says that every index does, `tabulate`
-- is the list that a filling loop leaves, `sum_to` adds up. Each comes with the laws that a loop (one turn) and a caller (what was found) use.
-- Assumes nothing.
use Rattle.std.specs.Prelude.{ℕ, zero, suc, ◌+◌, ◌-◌, ◌≤◌, ◌<◌, ◌≡◌, refl, Bool, true, false, cond, List, [], ◌∷◌, length, get_or, set, eqb}
use Rattle.std.proofs.Common.{ap, sym, ◌∙◌, arith, add-one, ext_get_or, get_or-set_same, get_or-set_other, eqb-true}
use Rattle.std.proofs.lemmas.Bool.{eqb-false}

-- the least index below n that passes the test, n where none does
unfoldable pub first : (ℕ → Bool) → ℕ → ℕ
first p zero = zero
first p (suc n) = cond (p zero) zero (suc (first (λ k. p (suc k)) n))

-- what a search's loop has shown when it finds i
pub first-at : (p : ℕ → Bool) (n i : ℕ) → i < n → ((k : ℕ) → k < i → p k ≡ false) → p i ≡ true → first p n ≡ i
unfolding first
first-at p zero i h b t = absurd (omega arith)
first-at p (suc n) zero h b t = rw t
first-at p (suc n) (suc i) h b t =
    rw (b zero (omega arith)) (ap suc (first-at (λ k. p (suc k)) n i (omega arith) (λ k l. b (suc k) (omega arith)) t))

-- and when it finds none
pub first-none : (p : ℕ → Bool) (n : ℕ) → ((k : ℕ) → k < n → p k ≡ false) → first p n ≡ n
unfolding first
first-none p zero b = refl
first-none p (suc n) b =
    rw (b zero (omega arith)) (ap suc (first-none (λ k. p (suc k)) n (λ k l. b (suc k) (omega arith))))

-- the list f 0, f 1, .., f (n - 1): what a loop that fills an array leaves
unfoldable pub tabulate : (ℕ → ℕ) → ℕ → List ℕ
tabulate f zero = []
tabulate f (suc n) = f zero ∷ tabulate (λ k. f (suc k)) n

pub length-tabulate : (f : ℕ → ℕ) (n : ℕ) → length (tabulate f n) ≡ n
unfolding tabulate
length-tabulate f zero = refl
length-tabulate f (suc n) = ap suc (length-tabulate (λ k. f (suc k)) n)

pub get_d_tabulate : (f : ℕ → ℕ) (n k : ℕ) → k < n → get_or (tabulate f n) k 0 ≡ f k
unfolding tabulate
get_d_tabulate f zero k h = absurd (omega arith)
get_d_tabulate f (suc n) zero h = refl
get_d_tabulate f (suc n) (suc k) h = get_d_tabulate (λ j. f (suc j)) n k (omega arith)

pub tabulate_is : (f : ℕ → ℕ) (n : ℕ) (l : List ℕ) → length l ≡ n → ((k : ℕ) → k < n → get_or l k 0 ≡ f k) → l ≡ tabulate f n
tabulate_is f n l e h =
    ext_get_or 0 l (tabulate f n) (e ∙ sym (length-tabulate f n)) (λ k m. h k (omega arith) ∙ sym (get_d_tabulate f n k (omega arith)))

pub tabulate-same : (f g : ℕ → ℕ) (n : ℕ) → ((k : ℕ) → k < n → f k ≡ g k) → tabulate f n ≡ tabulate g n
tabulate-same f g n h = tabulate_is g n (tabulate f n) (length-tabulate f n) (λ k m. get_d_tabulate f n k m ∙ h k m)

-- one turn of a loop that stores f i at i
pub filled_more : (f : ℕ → ℕ) (l : List ℕ) (i v : ℕ) → i < length l → v ≡ f i → ((k : ℕ) → k < i → get_or l k 0 ≡ f k) → (k : ℕ) → k < i + 1 → get_or (set l i v) k 0 ≡ f k
filled_more f l i v m e h k q = go (eqb k i) refl
  where
    go : (t : Bool) → eqb k i ≡ t → get_or (set l i v) k 0 ≡ f k
    go true x = let y : k ≡ i = eqb-true k i x in rw y (get_or-set_same l i v 0 m ∙ e)
    go false x = let y : k ≡ i → ⊥ = eqb-false k i x in get_or-set_other l i k v 0 y ∙ h k (omega arith)

-- the same from s on
abbrev pub first_from : (ℕ → Bool) → ℕ → ℕ → ℕ
first_from p s n = s + first (λ k. p (s + k)) (n - s)

pub from_at : (p : ℕ → Bool) (s n i : ℕ) → s ≤ i → i < n → ((k : ℕ) → k < i → s ≤ k → p k ≡ false) → p i ≡ true → first_from p s n ≡ i
from_at p s n i a l b t =
    let e : s + (i - s) ≡ i = omega arith in
    ap (λ (k : ℕ). s + k) (first-at (λ k. p (s + k)) (n - s) (i - s) (omega arith) (λ k m. b (s + k) (omega arith) (omega arith)) (rw e t)) ∙ e

pub from_none : (p : ℕ → Bool) (s n : ℕ) → s ≤ n → ((k : ℕ) → k < n → s ≤ k → p k ≡ false) → first_from p s n ≡ n
from_none p s n a b =
    ap (λ (k : ℕ). s + k) (first-none (λ k. p (s + k)) (n - s) (λ k m. b (s + k) (omega arith) (omega arith))) ∙ omega arith

pub first-le : (p : ℕ → Bool) (n : ℕ) → first p n ≤ n
unfolding first
first-le p zero = omega arith
first-le p (suc n) = go (p zero) (first-le (λ k. p (suc k)) n)
  where
    go : (t : Bool) → first (λ k. p (suc k)) n ≤ n → cond t zero (suc (first (λ k. p (suc k)) n)) ≤ suc n
    go true h = omega arith
    go false h = omega arith

pub from_le : (p : ℕ → Bool) (s n : ℕ) → s ≤ n → first_from p s n ≤ n
from_le p s n h = omega (arith, first-le (λ k. p (s + k)) (n - s))

-- what a caller learns of the index found
pub first_before : (p : ℕ → Bool) (n k : ℕ) → k < first p n → p k ≡ false
unfolding first
first_before p zero k h = absurd (omega arith)
first_before p (suc n) zero h = go (p zero) refl
  where
    go : (t : Bool) → p zero ≡ t → p zero ≡ false
    go true e = let h' : 0 < 0 = (rw e at h) in absurd (omega arith)
    go false e = e
first_before p (suc n) (suc k) h = go (p zero) refl (first_before (λ j. p (suc j)) n k)
  where
    go : (t : Bool) → p zero ≡ t → (k < first (λ j. p (suc j)) n → p (suc k) ≡ false) → p (suc k) ≡ false
    go true e f = let h' : suc k < 0 = (rw e at h) in absurd (omega arith)
    go false e f = let h' : suc k < suc (first (λ j. p (suc j)) n) = (rw e at h) in f (omega arith)

pub first_holds : (p : ℕ → Bool) (n : ℕ) → first p n < n → p (first p n) ≡ true
unfolding first
first_holds p zero h = absurd (omega arith)
first_holds p (suc n) h = go (p zero) refl (first_holds (λ j. p (suc j)) n)
  where
    go : (t : Bool) → p zero ≡ t → (first (λ j. p (suc j)) n < n → p (suc (first (λ j. p (suc j)) n)) ≡ true) → p (cond (p zero) zero (suc (first (λ j. p (suc j)) n))) ≡ true
    go true e f = rw e e
    go false e f = let h' : suc (first (λ j. p (suc j)) n) < suc n = (rw e at h) in rw e (f (omega arith))

pub first-same : (p q : ℕ → Bool) (n : ℕ) → ((k : ℕ) → k < n → p k ≡ q k) → first p n ≡ first q n
unfolding first
first-same p q zero h = refl
first-same p q (suc n) h = rw (h zero (omega arith), first-same (λ k. p (suc k)) (λ k. q (suc k)) n (λ k l. h (suc k) (omega arith)))

-- every index below n passes the test
unfoldable pub all : (ℕ → Bool) → ℕ → Bool
all p zero = true
all p (suc n) = cond (p zero) (all (λ k. p (suc k)) n) false

pub all_yes : (p : ℕ → Bool) (n : ℕ) → ((k : ℕ) → k < n → p k ≡ true) → all p n ≡ true
unfolding all
all_yes p zero h = refl
all_yes p (suc n) h = rw (h zero (omega arith)) (all_yes (λ k. p (suc k)) n (λ k l. h (suc k) (omega arith)))

pub all_no : (p : ℕ → Bool) (n k : ℕ) → k < n → p k ≡ false → all p n ≡ false
unfolding all
all_no p zero k h e = absurd (omega arith)
all_no p (suc n) zero h e = rw e
all_no p (suc n) (suc k) h e = go (p zero) (all_no (λ j. p (suc j)) n k (omega arith) e)
  where
    go : (t : Bool) → all (λ j. p (suc j)) n ≡ false → cond t (all (λ j. p (suc j)) n) false ≡ false
    go true f = f
    go false f = refl

pub all_same : (p q : ℕ → Bool) (n : ℕ) → ((k : ℕ) → k < n → p k ≡ q k) → all p n ≡ all q n
unfolding all
all_same p q zero h = refl
all_same p q (suc n) h = rw (h zero (omega arith), all_same (λ k. p (suc k)) (λ k. q (suc k)) n (λ k l. h (suc k) (omega arith)))

pub first_pos : (p : ℕ → Bool) (n : ℕ) → 0 < n → p 0 ≡ false → 0 < first p n
unfolding first
first_pos p zero h e = absurd (omega arith)
first_pos p (suc n) h e = rw e (omega arith)

-- f 0 + f 1 + .. + f (n - 1)
unfoldable pub sum_to : ℕ → (ℕ → ℕ) → ℕ
sum_to zero f = 0
sum_to (suc n) f = sum_to n f + f n

pub sum_none : (f : ℕ → ℕ) → sum_to 0 f ≡ 0
unfolding sum_to
sum_none f = refl

pub sum_more : (n : ℕ) (f : ℕ → ℕ) → sum_to (n + 1) f ≡ sum_to n f + f n
unfolding sum_to
sum_more n f = rw add-one

pub sum_same : (n : ℕ) (f g : ℕ → ℕ) → ((k : ℕ) → k < n → f k ≡ g k) → sum_to n f ≡ sum_to n g
unfolding sum_to
sum_same zero f g h = refl
sum_same (suc n) f g h = rw (sum_same n f g (λ k l. h k (omega arith)), h n (omega arith))
