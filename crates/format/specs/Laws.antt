-- How the code's stores make up a fresh card. Assumes nothing.
use Rattle.std.specs.Prelude.{◌≡◌, refl, List, [], ◌∷◌, ℕ, ◌+◌, ◌-◌, ◌*◌, ◌/◌, ◌%◌, ◌^◌, ◌≤◌, ◌<◌, min, get_or, length, set, replicate}
use Rattle.std.proofs.Common.{sym, ap, ◌∙◌, arith, take, drop, length-drop, length-take-le}
use Rattle.std.proofs.lemmas.List.{length-replicate, get_or-replicate}
use borrow.Rule.Slice.PartMut.{put_mid}
use Rattle.std.proofs.Math.Path.{fun_ext}
use Rattle.std.proofs.Math.Decide.{dec_lt}
use Rattle.std.proofs.Math.ListN.{get_or-eq_default}
use Rattle.base.specs.First.{tabulate, get_d_tabulate, length-tabulate}
use Rattle.base.specs.Bytes.{Bytes, bytes, put, put_out, put-at, put-none, put_more, put_same, is_put, store_more, bytes_mid}
use Rattle.base.specs.Number.{digit}
use Rattle.base.specs.Update.{upd, upd_set}
use Rattle.superblock.specs.declared.Super.{Super}
use Rattle.superblock.specs.Geometry.{GoodNumbers, bitmap_blocks, data_start}
use Rattle.superblock.specs.Node.{Node, encoded}
use Rattle.superblock.specs.declared.Entry.{Entry}
use Rattle.superblock.specs.Entry.{entry_bytes}
use Rattle.format.specs.Formatted.{numbers_of, dot, dotdot, words, super_words, ones, root_node, root_block, zeros, fresh}

-- an image that was zeroed from end to end
pub all_zero : (l : List ℕ) → put (bytes l) 0 (length l) (λ k. 0) ≡ zeros
all_zero l = sym (is_put zeros (bytes l) 0 (length l) (λ k. 0) (λ k h. refl) (λ x o. sym (get_or-eq_default l 0 (past x o))))
  where
    past : (x : ℕ) → (0 ≤ x → x < 0 + length l → ⊥) → length l ≤ x
    past x o = elim (dec_lt x (length l)) [ yes h ↦ absurd (o (omega arith) (omega arith)) | no h ↦ omega arith ]

-- one that was filled with zeros
pub filled_zero : (l : List ℕ) (n : ℕ) → l ≡ replicate n 0 → bytes l ≡ zeros
filled_zero l n e = fun_ext (λ x. rw e (elim (dec_lt x n) [
  | yes h ↦ get_or-replicate {A = ℕ} n x 0 0 h
  | no h ↦ get_or-eq_default {A = ℕ} (replicate n 0) 0 {n = x} (omega (arith, length-replicate {A = ℕ} n 0))
]))

-- a part that was lent and filled
pub part_filled : (l p : List ℕ) (a e n v : ℕ) → p ≡ replicate (length (take (e - a) (drop a l))) v → e ≡ a + n → a + n ≤ length l
    → bytes (put_mid a (e - a) l p) ≡ put (bytes l) a n (λ k. v)
part_filled l p a e n v f g h =
    let m : e - a ≡ n = omega arith in
    let k : length (take (e - a) (drop a l)) ≡ n = rw m (length-take-le n (drop a l) (omega (arith, length-drop a l))) in
    let q : p ≡ replicate n v = f ∙ ap (λ (x : ℕ). replicate {A = ℕ} x v) k in
    rw m (bytes_mid l p a n (ap (λ (x : List ℕ). length x) q ∙ length-replicate {A = ℕ} n v) h
    ∙ put_same (bytes l) a n (bytes p) (λ k. v) (λ j i. ap (λ (x : List ℕ). get_or x j 0) q ∙ get_or-replicate {A = ℕ} n j v 0 i))

-- number i of a list of words
pub word_byte : (l : List ℕ) (i k : ℕ) → k < 4 → words l (4 * i + k) ≡ digit (get_or l i 0) k
unfolding words
word_byte l i k h =
    let q : (4 * i + k) / 4 ≡ i = omega arith in
    let m : (4 * i + k) % 4 ≡ k = omega arith in
    rw (q, m)

-- one word more
pub word_more : {b : Bytes} (d : Bytes) (a i x : ℕ) (l : List ℕ) → b ≡ put d a (4 * i) (words l) → x ≡ get_or l i 0 → put b (a + 4 * i) 4 (digit x) ≡ put d a (4 * (i + 1)) (words l)
word_more {b} d a i x l was e =
    let n : 4 * i + 4 ≡ 4 * (i + 1) = omega arith in
    ap (λ (m : Bytes). put m (a + 4 * i) 4 (digit x)) was
    ∙ put_more d a (4 * i) (a + 4 * i) 4 (words l) (digit x) refl (λ k h. sym (word_byte l i k h ∙ ap (λ (y : ℕ). digit y k) (sym e)))
    ∙ ap (λ (m : ℕ). put d a m (words l)) n

-- the superblock's eight stores
pub super_written : (d : Bytes) (s : Super)
    → put (put (put (put (put (put (put (put d 1024 4 (digit 0x10203040)) 1028 4 (digit s.size)) 1032 4 (digit s.nblocks)) 1036 4 (digit s.ninodes)) 1040 4 (digit s.nlog)) 1044 4 (digit 2)) 1048 4 (digit s.inodestart)) 1052 4 (digit s.bmapstart)
    ≡ put d 1024 32 (words (super_words s))
super_written d s =
    let l = super_words s in
    let e0 = word_more d 1024 0 0x10203040 l (sym (put-none d 1024 (words l))) refl in
    let e1 = word_more d 1024 1 s.size l e0 refl in
    let e2 = word_more d 1024 2 s.nblocks l e1 refl in
    let e3 = word_more d 1024 3 s.ninodes l e2 refl in
    let e4 = word_more d 1024 4 s.nlog l e3 refl in
    let e5 = word_more d 1024 5 2 l e4 refl in
    let e6 = word_more d 1024 6 s.inodestart l e5 refl in
    word_more d 1024 7 s.bmapstart l e6 refl

-- the bitmap's whole bytes, its last one, and the rest
pub ones-full : (n k : ℕ) → k < n / 8 → ones n k ≡ 255
unfolding ones
ones-full n k h = let e : min 8 (n - 8 * k) ≡ 8 = omega arith in rw e

pub ones_last : (n : ℕ) → ones n (n / 8) ≡ 2 ^ (n % 8) - 1
unfolding ones
ones_last n = let e : min 8 (n - 8 * (n / 8)) ≡ n % 8 = omega arith in rw e

pub ones_none : (n k : ℕ) → n / 8 < k → ones n k ≡ 0
unfolding ones
ones_none n k h = let e : min 8 (n - 8 * k) ≡ 0 = omega arith in rw e

-- the last byte stored after the whole ones
pub ones-written : (l : List ℕ) (d : Bytes) (a n v : ℕ) → bytes l ≡ put d a (n / 8) (λ k. 255) → a + n / 8 < length l → v ≡ 2 ^ (n % 8) - 1
    → bytes (set l (a + n / 8) v) ≡ put d a (n / 8 + 1) (ones n)
ones-written l d a n v h k e =
    store_more l d a (n / 8) (ones n) (a + n / 8) v
    (h ∙ put_same d a (n / 8) (λ k. 255) (ones n) (λ k m. sym (ones-full n k m))) refl k (e ∙ sym (ones_last n))

-- where there are zeros, the rest of the bitmap is written by leaving it
pub ones_whole : (d : Bytes) (a m n : ℕ) → n / 8 + 1 ≤ m → ((k : ℕ) → k < m → d (a + k) ≡ 0) → put d a (n / 8 + 1) (ones n) ≡ put d a m (ones n)
ones_whole d a m n h z = is_put (put d a (n / 8 + 1) (ones n)) d a m (ones n) within (λ x o. put_out d a (n / 8 + 1) (ones n) x (λ p q. o p (omega arith)))
  where
    within : (k : ℕ) → k < m → put d a (n / 8 + 1) (ones n) (a + k) ≡ ones n k
    within k l = elim (dec_lt k (n / 8 + 1)) [
      | yes g ↦ put-at d a (n / 8 + 1) (ones n) k g
      | no g ↦ put_out d a (n / 8 + 1) (ones n) (a + k) (λ p q. omega arith) ∙ z k l ∙ sym (ones_none n k (omega arith))
    ]

-- the parts in the order in which the code writes them
pub fresh-written : (s : Super) → GoodNumbers s → (r : Node) → r ≡ root_node (data_start s)
    → put (put (put (put zeros 1024 32 (words (super_words s))) (s.inodestart * 1024 + 64) 64 (encoded r)) (s.bmapstart * 1024) ((data_start s + 1) / 8 + 1) (ones (data_start s + 1))) (data_start s * 1024) 1024 root_block
    ≡ fresh s
unfolding fresh
fresh-written s g r e =
    rw e
    (ap (λ (d : Bytes). put d (data_start s * 1024) 1024 root_block)
    (ones_whole d₂ (s.bmapstart * 1024) (bitmap_blocks s * 1024) (data_start s + 1) (omega arith) clear))
  where
    d₁ : Bytes
    d₁ = put zeros 1024 32 (words (super_words s))

    d₂ : Bytes
    d₂ = put d₁ (s.inodestart * 1024 + 64) 64 (encoded (root_node (data_start s)))

    clear : (k : ℕ) → k < bitmap_blocks s * 1024 → d₂ (s.bmapstart * 1024 + k) ≡ 0
    clear k h =
        put_out d₁ (s.inodestart * 1024 + 64) 64 (encoded (root_node (data_start s))) (s.bmapstart * 1024 + k) (λ p q. omega arith)
        ∙ put_out zeros 1024 32 (words (super_words s)) (s.bmapstart * 1024 + k) (λ p q. omega arith)

-- the root's addresses: the first is b, the others 0
pub first_alone : (l : List ℕ) (b : ℕ) → ((k : ℕ) → get_or l k 0 ≡ 0) → 0 < length l → bytes (set l 0 b) ≡ upd (λ p. 0) 0 b
first_alone l b z h = upd_set l 0 b h ∙ ap (λ (f : ℕ → ℕ). upd f 0 b) (fun_ext z)

none-set : (n k : ℕ) → get_or (tabulate (λ p. 0) n) k 0 ≡ 0
none-set n k = elim (dec_lt k n) [
  | yes h ↦ get_d_tabulate (λ p. 0) n k h
  | no h ↦ get_or-eq_default (tabulate (λ p. 0) n) 0 (omega (arith, length-tabulate (λ p. 0) n))
]

pub root_addrs : (b : ℕ) → bytes (b ∷ 0 ∷ 0 ∷ 0 ∷ 0 ∷ 0 ∷ 0 ∷ 0 ∷ 0 ∷ 0 ∷ 0 ∷ 0 ∷ 0 ∷ []) ≡ upd (λ p. 0) 0 b
unfolding tabulate
root_addrs b = first_alone (tabulate (λ p. 0) 13) b (none-set 13) (omega (arith, length-tabulate (λ p. 0) 13))

-- the root's block, made by value and copied
pub root-written : (b : List ℕ) (o w : Entry) → o ≡ dot → w ≡ dotdot → bytes b ≡ (λ k. 0) → put (put (bytes b) 0 16 (entry_bytes o)) 16 16 (entry_bytes w) ≡ root_block
unfolding root_block
root-written b o w p q z = rw (p, q, z)

pub root_copied : (d : Bytes) (a : ℕ) (f : Bytes) → f ≡ root_block → put d a 1024 (λ k. f (0 + k)) ≡ put d a 1024 root_block
root_copied d a f e = put_same d a 1024 (λ k. f (0 + k)) root_block (λ k h. ap f (omega arith) ∙ ap (λ (g : Bytes). g k) e)

-- ---- the numbers

-- when the numbers that format makes are good: the limits hold, and a data block is left
pub numbers_good : (size ninodes nlog : ℕ) → 12 ≤ nlog → nlog ≤ 30 → 2 ≤ ninodes → ninodes ≤ 65535 → size ≤ 8191 → data_start (numbers_of size ninodes nlog) < size
    → GoodNumbers (numbers_of size ninodes nlog)
numbers_good size ninodes nlog a b c d e f = record {
  laid = record { inodestart = refl; bmapstart = refl; nblocks = omega arith; some = omega arith };
  log_least = a;
  log_most = b;
  inodes_least = c;
  inodes_most = d;
  size_most = e;
}

-- good numbers are those that format makes of three of them
pub numbers_of_good : (s : Super) → GoodNumbers s → s ≡ numbers_of s.size s.ninodes s.nlog
numbers_of_good s g =
    let b : s.bmapstart ≡ 2 + s.nlog + s.ninodes / 16 + 1 = omega (arith, g.laid.inodestart, g.laid.bmapstart) in
    let n : s.nblocks ≡ s.size - (2 + s.nlog + s.ninodes / 16 + 1 + s.size / 8192 + 1) = omega (arith, g.laid.nblocks) in
    λ i. record { size = s.size; nblocks = n i; ninodes = s.ninodes; nlog = s.nlog; inodestart = g.laid.inodestart i; bmapstart = b i }
