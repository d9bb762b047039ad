-- A memory is a total function from addresses to numbers, and `put` is its one updater: a word, a block, zeros and a copy are all `put`.
-- A slice's list is read as a memory by `bytes`, 0 past its end, so that no statement carries a range. Assumes nothing.
use Rattle.std.specs.Prelude.{◌≡◌, refl, Bool, true, false, cond, List, [], ◌++◌, ℕ, ◌+◌, ◌-◌, ◌*◌, ◌≤◌, ◌<◌, length, get_or, set, take, drop, leb, ltb}
use Rattle.std.proofs.Common.{sym, ap, ◌∙◌, arith, lt-ltb, le-ltb, le-leb, leb-true, leb-false, length-take, get_or-set_same, get_or-set_other, get_or-take, get_or-drop, get_or-append-add, length-take-le}
use Rattle.std.proofs.Math.Path.{fun_ext}
use Rattle.std.proofs.Math.Decide.{ℕ_discrete, dec_le, dec_lt}
use Rattle.std.proofs.lemmas.Bool.{lt-leb}
use borrow.Rule.Slice.PartMut.{put_mid}
use Rattle.std.proofs.Math.ListN.{get_or-append, get_or-eq_default}

-- addresses to numbers
abbrev pub Bytes : Type 0
Bytes = ℕ → ℕ

-- a slice's list as a memory: 0 past its end
abbrev pub bytes : List ℕ → Bytes
bytes l = λ i. get_or l i 0

-- n bytes from address a become f
unfoldable pub put : Bytes → ℕ → ℕ → Bytes → Bytes
put d a n f = λ x. cond (leb a x) (cond (ltb x (a + n)) (f (x - a)) (d x)) (d x)

pub put_in : (d : Bytes) (a n : ℕ) (f : Bytes) (x : ℕ) → a ≤ x → x < a + n → put d a n f x ≡ f (x - a)
unfolding put
put_in d a n f x h k = rw (le-leb a x h, lt-ltb x (a + n) k)

pub put_out : (d : Bytes) (a n : ℕ) (f : Bytes) (x : ℕ) → (a ≤ x → x < a + n → ⊥) → put d a n f x ≡ d x
unfolding put
put_out d a n f x h = elim (dec_le a x) [ yes k ↦ rw (le-leb a x k, le-ltb x (a + n) (omega (arith, h k))) | no k ↦ rw (lt-leb a x (omega arith)) ]

pub put-at : (d : Bytes) (a n : ℕ) (f : Bytes) (k : ℕ) → k < n → put d a n f (a + k) ≡ f k
put-at d a n f k h = put_in d a n f (a + k) (omega arith) (omega arith) ∙ ap f (omega arith)

-- x is among the n bytes at a, or it is not
pub data Lies (a n x : ℕ) : Type 0 where
  inside : (k : ℕ) → k < n → x ≡ a + k → Lies a n x
  outside : (a ≤ x → x < a + n → ⊥) → Lies a n x

pub lies : (a n x : ℕ) → Lies a n x
lies a n x = elim (dec_le a x) [
  | yes h ↦ elim (dec_lt x (a + n)) [ yes k ↦ inside (x - a) (omega arith) (omega arith) | no k ↦ outside (λ p q. k q) ]
  | no h ↦ outside (λ p q. h p)
]

-- what a memory that has f at a, and is d elsewhere, is
pub is_put : (e d : Bytes) (a n : ℕ) (f : Bytes) → ((k : ℕ) → k < n → e (a + k) ≡ f k) → ((x : ℕ) → (a ≤ x → x < a + n → ⊥) → e x ≡ d x) → e ≡ put d a n f
is_put e d a n f h o = fun_ext (λ x. go x (lies a n x))
  where
    go : (x : ℕ) → Lies a n x → e x ≡ put d a n f x
    go x (inside k l z) = rw z (h k l ∙ sym (put-at d a n f k l))
    go x (outside q) = o x q ∙ sym (put_out d a n f x q)

pub put-none : (d : Bytes) (a : ℕ) (f : Bytes) → put d a 0 f ≡ d
put-none d a f = sym (is_put d d a 0 f (λ k l. absurd (omega arith)) (λ x o. refl))

pub put_same : (d : Bytes) (a n : ℕ) (f g : Bytes) → ((k : ℕ) → k < n → f k ≡ g k) → put d a n f ≡ put d a n g
put_same d a n f g h = is_put (put d a n f) d a n g (λ k l. put-at d a n f k l ∙ h k l) (λ x o. put_out d a n f x o)

-- a store to a slice
pub bytes-set : (l : List ℕ) (i v : ℕ) → i < length l → bytes (set l i v) ≡ put (bytes l) i 1 (λ j. v)
bytes-set l i v h =
    is_put (bytes (set l i v)) (bytes l) i 1 (λ j. v)
    (λ j k. let e : i + j ≡ i = omega arith in rw e (get_or-set_same l i v 0 h))
    (λ x o. get_or-set_other l i x v 0 (λ e. o (omega arith) (omega arith)))

-- a store that goes on with a filling: a loop's turn
pub store_more : (l : List ℕ) (d : Bytes) (a n : ℕ) (f : Bytes) (i v : ℕ) → bytes l ≡ put d a n f → i ≡ a + n → i < length l → v ≡ f n → bytes (set l i v) ≡ put d a (n + 1) f
store_more l d a n f i v h e k m = is_put (bytes (set l i v)) d a (n + 1) f within outer
  where
    was : (x : ℕ) → get_or l x 0 ≡ put d a n f x
    was x = ap (λ (b : Bytes). b x) h

    within : (j : ℕ) → j < n + 1 → get_or (set l i v) (a + j) 0 ≡ f j
    within j q = elim (ℕ_discrete j n) [
      | yes z ↦ let y : a + j ≡ i = omega arith in rw (y, z) (get_or-set_same l i v 0 k ∙ m)
      | no z ↦ get_or-set_other l i (a + j) v 0 (omega arith) ∙ was (a + j) ∙ put-at d a n f j (omega arith)
    ]

    outer : (x : ℕ) → (a ≤ x → x < a + (n + 1) → ⊥) → get_or (set l i v) x 0 ≡ d x
    outer x o = get_or-set_other l i x v 0 (λ z. o (omega arith) (omega arith)) ∙ was x ∙ put_out d a n f x (λ p q. o p (omega arith))

-- a part of a slice that was lent and comes back with p in it
pub bytes_mid : (l p : List ℕ) (a k : ℕ) → length p ≡ k → a + k ≤ length l → bytes (put_mid a k l p) ≡ put (bytes l) a k (bytes p)
bytes_mid l p a k h r = is_put (bytes (put_mid a k l p)) (bytes l) a k (bytes p) within outer
  where
    rest : List ℕ
    rest = p ++ drop k (drop a l)

    la : length (take a l) ≡ a
    la = length-take-le a l (omega arith)

    past : (j : ℕ) → get_or (take a l ++ rest) (a + j) 0 ≡ get_or rest j 0
    past j = rw la at (get_or-append-add (take a l) rest j 0)

    within : (j : ℕ) → j < k → get_or (take a l ++ rest) (a + j) 0 ≡ get_or p j 0
    within j m = past j ∙ get_or-append p (drop k (drop a l)) 0 j (omega arith)

    outer : (x : ℕ) → (a ≤ x → x < a + k → ⊥) → get_or (take a l ++ rest) x 0 ≡ get_or l x 0
    outer x o = elim (dec_lt x a) [
      | yes m ↦ get_or-append (take a l) rest 0 x (omega (arith, la)) ∙ get_or-take a l x 0 m
      | no n ↦
          let m : a + k ≤ x = elim (dec_le (a + k) x) [ yes q ↦ q | no q ↦ absurd (o (omega arith) (omega arith)) ] in
          let q : x ≡ a + (length p + (x - (a + k))) = omega arith in
          let q2 : a + (k + (x - (a + k))) ≡ x = omega arith in
          ap (λ y. get_or (take a l ++ rest) y 0) q ∙ past (length p + (x - (a + k)))
          ∙ get_or-append-add p (drop k (drop a l)) (x - (a + k)) 0
          ∙ get_or-drop k (drop a l) (x - (a + k)) 0 ∙ get_or-drop a l (k + (x - (a + k))) 0 ∙ ap (λ y. get_or l y 0) q2
    ]

-- the n bytes of f put into a part of a slice that was lent
pub put_part : (l p : List ℕ) (a n k : ℕ) (f : Bytes) → k ≡ n → length p ≡ k → a + n ≤ length l → ((i : ℕ) → i < n → bytes p i ≡ f i) → bytes (put_mid a k l p) ≡ put (bytes l) a n f
put_part l p a n k f e q h m = rw e (bytes_mid l p a n (q ∙ e) h ∙ put_same (bytes l) a n (bytes p) f m)

-- block b of a memory
abbrev pub block : Bytes → ℕ → Bytes
block d b = λ j. d (b * 1024 + j)

-- block b becomes f
abbrev pub put_block : Bytes → ℕ → Bytes → Bytes
put_block d b f = put d (b * 1024) 1024 f

-- a put over a put that ends where it starts goes on with it
pub put_more : (d : Bytes) (a n b m : ℕ) (f g : Bytes) → b ≡ a + n → ((j : ℕ) → j < m → g j ≡ f (n + j))
    → put (put d a n f) b m g ≡ put d a (n + m) f
put_more d a n b m f g e h = is_put (put (put d a n f) b m g) d a (n + m) f within outer
  where
    within : (j : ℕ) → j < n + m → put (put d a n f) b m g (a + j) ≡ f j
    within j l = elim (dec_lt j n) [
      | yes k ↦ put_out (put d a n f) b m g (a + j) (λ p q. omega arith) ∙ put-at d a n f j k
      | no k ↦
          let q : a + j ≡ b + (j - n) = omega arith in
          let r : n + (j - n) ≡ j = omega arith in
          ap (put (put d a n f) b m g) q ∙ put-at (put d a n f) b m g (j - n) (omega arith) ∙ h (j - n) (omega arith) ∙ ap f r
    ]

    outer : (x : ℕ) → (a ≤ x → x < a + (n + m) → ⊥) → put (put d a n f) b m g x ≡ d x
    outer x o = put_out (put d a n f) b m g x (λ p q. o (omega arith) (omega arith)) ∙ put_out d a n f x (λ p q. o p (omega arith))

-- a put over one that it covers
pub put_over : (d : Bytes) (a n : ℕ) (f g : Bytes) → put (put d a n f) a n g ≡ put d a n g
put_over d a n f g = is_put (put (put d a n f) a n g) d a n g (λ k l. put-at (put d a n f) a n g k l) (λ x o. put_out (put d a n f) a n g x o ∙ put_out d a n f x o)

-- two puts that do not touch change places
pub put_swap : (d : Bytes) (a n : ℕ) (f : Bytes) (b m : ℕ) (g : Bytes) → (a < b + m → b < a + n → ⊥)
    → put (put d a n f) b m g ≡ put (put d b m g) a n f
put_swap d a n f b m g apart = is_put (put (put d a n f) b m g) (put d b m g) a n f within outer
  where
    within : (k : ℕ) → k < n → put (put d a n f) b m g (a + k) ≡ f k
    within k l = put_out (put d a n f) b m g (a + k) (λ p q. apart (omega arith) (omega arith)) ∙ put-at d a n f k l

    outer : (x : ℕ) → (a ≤ x → x < a + n → ⊥) → put (put d a n f) b m g x ≡ put d b m g x
    outer x o = go (lies b m x)
      where
        go : Lies b m x → put (put d a n f) b m g x ≡ put d b m g x
        go (inside k l z) = rw z (put-at (put d a n f) b m g k l ∙ sym (put-at d b m g k l))
        go (outside q) = put_out (put d a n f) b m g x q ∙ put_out d a n f x o ∙ sym (put_out d b m g x q)

-- a list and its memory
pub bytes_in : (l : List ℕ) (i : ℕ) → get_or l i 0 ≡ bytes l i
bytes_in l i = refl

pub bytes_past : (l : List ℕ) (i : ℕ) → length l ≤ i → 0 ≡ bytes l i
bytes_past l i h = sym (get_or-eq_default l 0 h)

-- a part of a list that runs from i to the end
pub bytes_from : (l : List ℕ) (i k n : ℕ) → length l ≤ n + i → bytes (take n (drop i l)) k ≡ bytes l (i + k)
bytes_from l i k n h = go (leb n k) refl
  where
    go : (t : Bool) → leb n k ≡ t → get_or (take n (drop i l)) k 0 ≡ get_or l (i + k) 0
    go true e =
        let m : n ≤ k = leb-true n k e in
        get_or-eq_default (take n (drop i l)) 0 (omega (arith, length-take n (drop i l))) ∙ sym (get_or-eq_default l 0 (omega arith))
    go false e =
        let m : k < n = leb-false n k e in
        get_or-take n (drop i l) k 0 m ∙ get_or-drop i l k 0

pub bytes-none : (l : List ℕ) (i k : ℕ) → length l < i → bytes [] k ≡ bytes l (i + k)
bytes-none l i k h = sym (get_or-eq_default l 0 (omega arith))

-- a part of a list from i on, n long, byte by byte
pub bytes_part : (l : List ℕ) (i n k : ℕ) → k < n → bytes (take n (drop i l)) k ≡ bytes l (i + k)
bytes_part l i n k h = get_or-take n (drop i l) k 0 h ∙ get_or-drop i l k 0
