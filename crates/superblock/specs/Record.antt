-- The inode record on the card and in the code: reading gives back what was written, writing gives back what was read, and a change of one field
-- alone is the record encoded with that field changed. Assumes nothing.
use Rattle.std.specs.Prelude.{◌≡◌, refl, cond, ℕ, zero, suc, ◌+◌, ◌-◌, ◌*◌, ◌/◌, ◌%◌, ◌≤◌, ◌<◌, get_or, length, set, ltb}
use Rattle.std.proofs.Math.Path.{sym, ap, fun_ext}
use Rattle.std.proofs.Common.{◌∙◌, ext_get_or, lt-ltb, le-ltb}
use native.Mathlib.Omega.{arith}
use Rattle.std.proofs.Math.Decide.{dec_lt}
use Rattle.std.proofs.Math.ListN.{get_or-eq_default}
use Rattle.base.specs.First.{tabulate, tabulate-same, get_d_tabulate, length-tabulate}
use Rattle.base.specs.Bytes.{Bytes, put, put_out, put-at, put_more, put_same, is_put, Lies, lies, inside, outside}
use Rattle.base.specs.Number.{le, le_cong, digit, digit_lt, get}
use Rattle.base.specs.Update.{upd, upd_same, upd_other, upd_set}
use Rattle.superblock.specs.declared.Inode.{Inode}
use Rattle.superblock.specs.Node.{Node, node_in, node_in_cong, node_in-encoded, node_in_fits, Fits, encoded, addr_bytes, node, inode_at}

-- one field changed, the others kept
abbrev pub with_kind : Node → ℕ → Node
with_kind r x = record { kind = x; major = r.major; minor = r.minor; nlink = r.nlink; size = r.size; addr = r.addr }

abbrev pub with_nlink : Node → ℕ → Node
with_nlink r x = record { kind = r.kind; major = r.major; minor = r.minor; nlink = x; size = r.size; addr = r.addr }

abbrev pub with_size : Node → ℕ → Node
with_size r x = record { kind = r.kind; major = r.major; minor = r.minor; nlink = r.nlink; size = x; addr = r.addr }

abbrev pub with_addr : Node → ℕ → ℕ → Node
with_addr r p x = record { kind = r.kind; major = r.major; minor = r.minor; nlink = r.nlink; size = r.size; addr = upd r.addr p x }

-- the same of the code's struct
abbrev pub sized : Inode → ℕ → Inode
sized r x = record { kind = r.kind; major = r.major; minor = r.minor; nlink = r.nlink; size = x; addrs = r.addrs }

abbrev pub linked : Inode → ℕ → Inode
linked r x = record { kind = r.kind; major = r.major; minor = r.minor; nlink = x; size = r.size; addrs = r.addrs }

abbrev pub addressed : Inode → ℕ → ℕ → Inode
addressed r p x = record { kind = r.kind; major = r.major; minor = r.minor; nlink = r.nlink; size = r.size; addrs = set r.addrs p x }

pub node-sized : (r : Inode) (x : ℕ) → node (sized r x) ≡ with_size (node r) x
node-sized r x = refl

pub node-linked : (r : Inode) (x : ℕ) → node (linked r x) ≡ with_nlink (node r) x
node-linked r x = refl

pub node-addressed : (r : Inode) (p x : ℕ) → p < length r.addrs → node (addressed r p x) ≡ with_addr (node r) p x
node-addressed r p x h = λ i. record { kind = r.kind; major = r.major; minor = r.minor; nlink = r.nlink; size = r.size; addr = upd_set r.addrs p x h i }

-- ---- the bytes of each field

module _ (r : Node) where
  d₅ : Bytes
  d₅ = addr_bytes r.addr

  d₄ : Bytes
  d₄ = put d₅ 8 4 (digit r.size)

  d₃ : Bytes
  d₃ = put d₄ 6 2 (digit r.nlink)

  d₂ : Bytes
  d₂ = put d₃ 4 2 (digit r.minor)

  d₁ : Bytes
  d₁ = put d₂ 2 2 (digit r.major)

  past : (k : ℕ) → 8 ≤ k → encoded r k ≡ d₄ k
  unfolding encoded d₁ d₂ d₃ d₄ d₅
  past k h =
      put_out d₁ 0 2 (digit r.kind) k (omega arith) ∙ put_out d₂ 2 2 (digit r.major) k (omega arith)
      ∙ put_out d₃ 4 2 (digit r.minor) k (omega arith) ∙ put_out d₄ 6 2 (digit r.nlink) k (omega arith)

  pub encoded_kind : (k : ℕ) → k < 2 → encoded r (0 + k) ≡ digit r.kind k
  unfolding encoded d₁ d₂ d₃ d₄ d₅
  encoded_kind k h = put-at d₁ 0 2 (digit r.kind) k h

  pub encoded_major : (k : ℕ) → k < 2 → encoded r (2 + k) ≡ digit r.major k
  unfolding encoded d₁ d₂ d₃ d₄ d₅
  encoded_major k h = put_out d₁ 0 2 (digit r.kind) (2 + k) (omega arith) ∙ put-at d₂ 2 2 (digit r.major) k h

  pub encoded_minor : (k : ℕ) → k < 2 → encoded r (4 + k) ≡ digit r.minor k
  unfolding encoded d₁ d₂ d₃ d₄ d₅
  encoded_minor k h =
      put_out d₁ 0 2 (digit r.kind) (4 + k) (omega arith) ∙ put_out d₂ 2 2 (digit r.major) (4 + k) (omega arith)
      ∙ put-at d₃ 4 2 (digit r.minor) k h

  pub encoded_nlink : (k : ℕ) → k < 2 → encoded r (6 + k) ≡ digit r.nlink k
  unfolding encoded d₁ d₂ d₃ d₄ d₅
  encoded_nlink k h =
      put_out d₁ 0 2 (digit r.kind) (6 + k) (omega arith) ∙ put_out d₂ 2 2 (digit r.major) (6 + k) (omega arith)
      ∙ put_out d₃ 4 2 (digit r.minor) (6 + k) (omega arith) ∙ put-at d₄ 6 2 (digit r.nlink) k h

  pub encoded_size : (k : ℕ) → k < 4 → encoded r (8 + k) ≡ digit r.size k
  unfolding d₄
  encoded_size k h = past (8 + k) (omega arith) ∙ put-at d₅ 8 4 (digit r.size) k h

  pub encoded_addrs : (k : ℕ) → encoded r (12 + k) ≡ addr_bytes r.addr (12 + k)
  unfolding d₄ d₅
  encoded_addrs k = past (12 + k) (omega arith) ∙ put_out d₅ 8 4 (digit r.size) (12 + k) (omega arith)

pub addr_byte : (f : ℕ → ℕ) (p k : ℕ) → k < 4 → addr_bytes f (12 + 4 * p + k) ≡ digit (f p) k
unfolding addr_bytes
addr_byte f p k h =
    let q : (12 + 4 * p + k - 12) / 4 ≡ p = omega arith in
    let m : (12 + 4 * p + k - 12) % 4 ≡ k = omega arith in
    rw (q, m)

-- what holds of the bytes of each field holds of every byte
by_field : (P : ℕ → Type 0) → ((k : ℕ) → k < 2 → P (0 + k)) → ((k : ℕ) → k < 2 → P (2 + k)) → ((k : ℕ) → k < 2 → P (4 + k)) → ((k : ℕ) → k < 2 → P (6 + k))
    → ((k : ℕ) → k < 4 → P (8 + k)) → ((k : ℕ) → P (12 + k)) → (k : ℕ) → P k
by_field P kind major minor nlink size addrs k = elim (dec_lt k 2) [
  | yes l ↦ at 0 (omega arith) (kind (k - 0) (omega arith))
  | no g ↦ elim (dec_lt k 4) [
    | yes l ↦ at 2 (omega arith) (major (k - 2) (omega arith))
    | no g ↦ elim (dec_lt k 6) [
      | yes l ↦ at 4 (omega arith) (minor (k - 4) (omega arith))
      | no g ↦ elim (dec_lt k 8) [
        | yes l ↦ at 6 (omega arith) (nlink (k - 6) (omega arith))
        | no g ↦ elim (dec_lt k 12) [
          | yes l ↦ at 8 (omega arith) (size (k - 8) (omega arith))
          | no g ↦ at 12 (omega arith) (addrs (k - 12))
        ]
      ]
    ]
  ]
]
  where
    at : (o : ℕ) → o ≤ k → P (o + (k - o)) → P k
    at o h p = let e : o + (k - o) ≡ k = omega arith in rw e at p

-- a record written field by field: the code's stores, one after the other
pub written : (d : Bytes) (a : ℕ) (r : Node)
    → put (put (put (put (put (put d a 2 (digit r.kind)) (a + 2) 2 (digit r.major)) (a + 4) 2 (digit r.minor)) (a + 6) 2 (digit r.nlink)) (a + 8) 4 (digit r.size)) (a + 12) 52 (λ k. addr_bytes r.addr (12 + k))
    ≡ put d a 64 (encoded r)
written d a r =
    let e₁ : put d a 2 (digit r.kind) ≡ put d a 2 (encoded r) = put_same d a 2 (digit r.kind) (encoded r) (λ k h. sym (encoded_kind r k h) ∙ ap (encoded r) (omega arith)) in
    rw (
      e₁,
      put_more d a 2 (a + 2) 2 (encoded r) (digit r.major) refl (λ k h. sym (encoded_major r k h)),
      put_more d a 4 (a + 4) 2 (encoded r) (digit r.minor) refl (λ k h. sym (encoded_minor r k h)),
      put_more d a 6 (a + 6) 2 (encoded r) (digit r.nlink) refl (λ k h. sym (encoded_nlink r k h)),
      put_more d a 8 (a + 8) 4 (encoded r) (digit r.size) refl (λ k h. sym (encoded_size r k h)),
    )
    (put_more d a 12 (a + 12) 52 (encoded r) (λ k. addr_bytes r.addr (12 + k)) refl (λ k h. sym (encoded_addrs r k)))

-- ---- reading

-- the struct stands for the inode in its 64 bytes
pub node-inode_at : (d : Bytes) (a : ℕ) → node (inode_at d a) ≡ node_in (λ k. d (a + k))
unfolding inode_at node_in
node-inode_at d a = λ i. record {
  kind = moved 0 2 i;
  major = moved 2 2 i;
  minor = moved 4 2 i;
  nlink = moved 6 2 i;
  size = moved 8 4 i;
  addr = fun_ext addr i;
}
  where
    moved : (o n : ℕ) → get d (a + o) n ≡ get (λ k. d (a + k)) o n
    moved o n = le_cong n (λ k. d (a + o + k)) (λ k. d (a + (o + k))) (λ k h. ap d (omega arith))

    addr : (p : ℕ) → get_or (tabulate (λ p. get d (a + 12 + 4 * p) 4) 13) p 0 ≡ cond (ltb p 13) (get (λ k. d (a + k)) (12 + 4 * p) 4) 0
    addr p = elim (dec_lt p 13) [
      | yes l ↦ rw (lt-ltb p 13 l) (get_d_tabulate (λ p. get d (a + 12 + 4 * p) 4) 13 p l ∙ le_cong 4 (λ k. d (a + 12 + 4 * p + k)) (λ k. d (a + (12 + 4 * p + k))) (λ k h. ap d (omega arith)))
      | no l ↦ rw (le-ltb p 13 (omega arith)) (get_or-eq_default (tabulate (λ p. get d (a + 12 + 4 * p) 4) 13) 0 (omega (arith, length-tabulate (λ p. get d (a + 12 + 4 * p) 4) 13)))
    ]

pub inode_at-length : (d : Bytes) (a : ℕ) → length (inode_at d a).addrs ≡ 13
unfolding inode_at
inode_at-length d a = length-tabulate (λ p. get d (a + 12 + 4 * p) 4) 13

pub inode_at_fits : (d : Bytes) (a : ℕ) → ((x : ℕ) → d x < 256) → Fits (node (inode_at d a))
inode_at_fits d a h = rw (node-inode_at d a) (node_in_fits (λ k. d (a + k)) (λ k. h (a + k)))

-- memories that agree, one moved by o
pub inode_moved : (d e : Bytes) (o m : ℕ) → ((i : ℕ) → i < m → d i ≡ e (o + i)) → (a : ℕ) → a + 64 ≤ m → inode_at d a ≡ inode_at e (o + a)
unfolding inode_at
inode_moved d e o m same a l = λ i. record {
  kind = moved 0 2 (omega arith) i;
  major = moved 2 2 (omega arith) i;
  minor = moved 4 2 (omega arith) i;
  nlink = moved 6 2 (omega arith) i;
  size = moved 8 4 (omega arith) i;
  addrs = tabulate-same (λ p. get d (a + 12 + 4 * p) 4) (λ p. get e (o + a + 12 + 4 * p) 4) 13
      (λ p h. le_cong 4 (λ k. d (a + 12 + 4 * p + k)) (λ k. e (o + a + 12 + 4 * p + k)) (λ k q. same (a + 12 + 4 * p + k) (omega arith) ∙ ap e (omega arith))) i;
}
  where
    moved : (k n : ℕ) → k + n ≤ 64 → get d (a + k) n ≡ get e (o + a + k) n
    moved k n h = le_cong n (λ j. d (a + k + j)) (λ j. e (o + a + k + j)) (λ j q. same (a + k + j) (omega arith) ∙ ap e (omega arith))

-- ---- inverse both ways

-- a struct is what it stands for and as many addresses
same-node : (r q : Inode) → length r.addrs ≡ 13 → length q.addrs ≡ 13 → node r ≡ node q → r ≡ q
same-node r q lr lq e = λ i. record {
  kind = (e i).kind;
  major = (e i).major;
  minor = (e i).minor;
  nlink = (e i).nlink;
  size = (e i).size;
  addrs = ext_get_or 0 r.addrs q.addrs (lr ∙ sym lq) (λ k h. ap (λ (n : Node). n.addr k) e) i;
}

-- decoding gives back what was encoded
pub inode_at-put : (d : Bytes) (a : ℕ) (r : Inode) → length r.addrs ≡ 13 → Fits (node r) → inode_at (put d a 64 (encoded (node r))) a ≡ r
inode_at-put d a r l f =
    same-node (inode_at (put d a 64 (encoded (node r))) a) r (inode_at-length (put d a 64 (encoded (node r))) a) l
    (node-inode_at (put d a 64 (encoded (node r))) a
    ∙ node_in_cong (λ k. put d a 64 (encoded (node r)) (a + k)) (encoded (node r)) (put-at d a 64 (encoded (node r)))
    ∙ node_in-encoded (node r) f)

-- the bytes of a number made of bytes
pub digit-le : (n : ℕ) (f : Bytes) (k : ℕ) → k < n → ((j : ℕ) → f j < 256) → digit (le n f) k ≡ f k
unfolding le digit
digit-le zero f k h b = absurd (omega arith)
digit-le (suc n) f zero h b = omega (arith, b 0)
digit-le (suc n) f (suc k) h b =
    let e : (f 0 + 256 * le n (λ j. f (suc j))) / 256 ≡ le n (λ j. f (suc j)) = omega (arith, b 0) in
    rw e (digit-le n (λ j. f (suc j)) k (omega arith) (λ j. b (suc j)))

-- encoding gives back the bytes that were decoded
pub encoded-node_in : (f : Bytes) → ((k : ℕ) → f k < 256) → (k : ℕ) → k < 64 → encoded (node_in f) k ≡ f k
unfolding node_in
encoded-node_in f b k h = by_field (λ k. k < 64 → encoded (node_in f) k ≡ f k)
    (λ j l _. encoded_kind (node_in f) j l ∙ back 0 2 j l)
    (λ j l _. encoded_major (node_in f) j l ∙ back 2 2 j l)
    (λ j l _. encoded_minor (node_in f) j l ∙ back 4 2 j l)
    (λ j l _. encoded_nlink (node_in f) j l ∙ back 6 2 j l)
    (λ j l _. encoded_size (node_in f) j l ∙ back 8 4 j l)
    (λ j l. encoded_addrs (node_in f) j ∙ addr j (omega arith))
    k h
  where
    back : (a n j : ℕ) → j < n → digit (get f a n) j ≡ f (a + j)
    back a n j l = digit-le n (λ i. f (a + i)) j l (λ i. b (a + i))

    addr : (j : ℕ) → j < 52 → addr_bytes (node_in f).addr (12 + j) ≡ f (12 + j)
    addr j l =
        let e : 12 + 4 * (j / 4) + j % 4 ≡ 12 + j = omega arith in
        ap (addr_bytes (node_in f).addr) (sym e)
        ∙ addr_byte (node_in f).addr (j / 4) (j % 4) (omega arith)
        ∙ ap (λ (x : ℕ). digit x (j % 4)) (rw (lt-ltb (j / 4) 13 (omega arith)))
        ∙ back (12 + 4 * (j / 4)) 4 (j % 4) (omega arith) ∙ ap f e

-- ---- one field put

-- the bytes at a are r's
abbrev pub Holds : Bytes → ℕ → Node → Type 0
Holds d a r = (k : ℕ) → k < 64 → d (a + k) ≡ encoded r k

-- a part of the 64 bytes put alone, or with all the others
putting : (d : Bytes) (a o n : ℕ) (f g h : Bytes) → o + n ≤ 64 → ((k : ℕ) → k < 64 → d (a + k) ≡ f k) → ((k : ℕ) → k < 64 → g k ≡ put f o n h k)
    → put d (a + o) n h ≡ put d a 64 g
putting d a o n f g h l same new = is_put (put d (a + o) n h) d a 64 g within outer
  where
    within : (k : ℕ) → k < 64 → put d (a + o) n h (a + k) ≡ g k
    within k m = go (lies o n k)
      where
        go : Lies o n k → put d (a + o) n h (a + k) ≡ g k
        go (inside j q z) =
            let e : a + k ≡ a + o + j = omega arith in
            ap (put d (a + o) n h) e ∙ put-at d (a + o) n h j q ∙ sym (new k m ∙ ap (put f o n h) z ∙ put-at f o n h j q)
        go (outside q) = put_out d (a + o) n h (a + k) (λ p r. q (omega arith) (omega arith)) ∙ same k m ∙ sym (new k m ∙ put_out f o n h k q)

    outer : (x : ℕ) → (a ≤ x → x < a + 64 → ⊥) → put d (a + o) n h x ≡ d x
    outer x q = put_out d (a + o) n h x (λ p r. q (omega arith) (omega arith))

-- how a change of one field shows in the bytes
module _ (r : Node) (x : ℕ) where
  new_kind : encoded (with_kind r x) ≡ put (encoded r) 0 2 (digit x)
  new_kind = is_put (encoded q) (encoded r) 0 2 (digit x) (λ k h. encoded_kind q k h)
      (by_field (λ k. (0 ≤ k → k < 2 → ⊥) → encoded q k ≡ encoded r k)
      (λ k h o. absurd (o (omega arith) (omega arith)))
      (λ k h o. encoded_major q k h ∙ sym (encoded_major r k h))
      (λ k h o. encoded_minor q k h ∙ sym (encoded_minor r k h))
      (λ k h o. encoded_nlink q k h ∙ sym (encoded_nlink r k h))
      (λ k h o. encoded_size q k h ∙ sym (encoded_size r k h))
      (λ k o. encoded_addrs q k ∙ sym (encoded_addrs r k)))
    where
      q : Node
      q = with_kind r x

  new_nlink : encoded (with_nlink r x) ≡ put (encoded r) 6 2 (digit x)
  new_nlink = is_put (encoded q) (encoded r) 6 2 (digit x) (λ k h. encoded_nlink q k h)
      (by_field (λ k. (6 ≤ k → k < 8 → ⊥) → encoded q k ≡ encoded r k)
      (λ k h o. encoded_kind q k h ∙ sym (encoded_kind r k h))
      (λ k h o. encoded_major q k h ∙ sym (encoded_major r k h))
      (λ k h o. encoded_minor q k h ∙ sym (encoded_minor r k h))
      (λ k h o. absurd (o (omega arith) (omega arith)))
      (λ k h o. encoded_size q k h ∙ sym (encoded_size r k h))
      (λ k o. encoded_addrs q k ∙ sym (encoded_addrs r k)))
    where
      q : Node
      q = with_nlink r x

  new_size : encoded (with_size r x) ≡ put (encoded r) 8 4 (digit x)
  new_size = is_put (encoded q) (encoded r) 8 4 (digit x) (λ k h. encoded_size q k h)
      (by_field (λ k. (8 ≤ k → k < 12 → ⊥) → encoded q k ≡ encoded r k)
      (λ k h o. encoded_kind q k h ∙ sym (encoded_kind r k h))
      (λ k h o. encoded_major q k h ∙ sym (encoded_major r k h))
      (λ k h o. encoded_minor q k h ∙ sym (encoded_minor r k h))
      (λ k h o. encoded_nlink q k h ∙ sym (encoded_nlink r k h))
      (λ k h o. absurd (o (omega arith) (omega arith)))
      (λ k o. encoded_addrs q k ∙ sym (encoded_addrs r k)))
    where
      q : Node
      q = with_size r x

  new_addr : (p : ℕ) → encoded (with_addr r p x) ≡ put (encoded r) (12 + 4 * p) 4 (digit x)
  unfolding addr_bytes
  new_addr p = is_put (encoded q) (encoded r) (12 + 4 * p) 4 (digit x)
      (λ k h. let e : 12 + 4 * p + k ≡ 12 + (4 * p + k) = omega arith in
      ap (encoded q) e ∙ encoded_addrs q (4 * p + k) ∙ ap (addr_bytes q.addr) (sym e) ∙ addr_byte q.addr p k h ∙ ap (λ (y : ℕ). digit y k) (upd_same r.addr p x))
      (by_field (λ k. (12 + 4 * p ≤ k → k < 12 + 4 * p + 4 → ⊥) → encoded q k ≡ encoded r k)
      (λ k h o. encoded_kind q k h ∙ sym (encoded_kind r k h))
      (λ k h o. encoded_major q k h ∙ sym (encoded_major r k h))
      (λ k h o. encoded_minor q k h ∙ sym (encoded_minor r k h))
      (λ k h o. encoded_nlink q k h ∙ sym (encoded_nlink r k h))
      (λ k h o. encoded_size q k h ∙ sym (encoded_size r k h))
      (λ k o. encoded_addrs q k
      ∙ ap (λ (y : ℕ). digit y ((12 + k - 12) % 4)) (upd_other r.addr p x ((12 + k - 12) / 4) (λ z. o (omega arith) (omega arith)))
      ∙ sym (encoded_addrs r k)))
    where
      q : Node
      q = with_addr r p x

-- where the 64 bytes at a are r's, putting a field's bytes alone is putting the record with that field changed
module _ (d : Bytes) (a : ℕ) (r : Node) (is : Holds d a r) (x : ℕ) where
  pub put_kind : put d a 2 (digit x) ≡ put d a 64 (encoded (with_kind r x))
  put_kind = let e : a ≡ a + 0 = omega arith in ap (λ (b : ℕ). put d b 2 (digit x)) e
      ∙ putting d a 0 2 (encoded r) (encoded (with_kind r x)) (digit x) (omega arith) is (λ k h. ap (λ (f : Bytes). f k) (new_kind r x))

  pub put_nlink : put d (a + 6) 2 (digit x) ≡ put d a 64 (encoded (with_nlink r x))
  put_nlink = putting d a 6 2 (encoded r) (encoded (with_nlink r x)) (digit x) (omega arith) is (λ k h. ap (λ (f : Bytes). f k) (new_nlink r x))

  pub put_size : put d (a + 8) 4 (digit x) ≡ put d a 64 (encoded (with_size r x))
  put_size = putting d a 8 4 (encoded r) (encoded (with_size r x)) (digit x) (omega arith) is (λ k h. ap (λ (f : Bytes). f k) (new_size r x))

  pub put_addr : (p : ℕ) → p < 13 → put d (a + (12 + 4 * p)) 4 (digit x) ≡ put d a 64 (encoded (with_addr r p x))
  put_addr p l = putting d a (12 + 4 * p) 4 (encoded r) (encoded (with_addr r p x)) (digit x) (omega arith) is (λ k h. ap (λ (f : Bytes). f k) (new_addr r x p))

-- on a card of bytes every record holds what it decodes to
pub holds : (d : Bytes) (a : ℕ) → ((x : ℕ) → d x < 256) → Holds d a (node (inode_at d a))
holds d a b k h = sym (ap (λ (n : Node). encoded n k) (node-inode_at d a) ∙ encoded-node_in (λ j. d (a + j)) (λ j. b (a + j)) k h)

pub put-inode_at : (d : Bytes) (a : ℕ) → ((x : ℕ) → d x < 256) → put d a 64 (encoded (node (inode_at d a))) ≡ d
put-inode_at d a b = sym (is_put d d a 64 (encoded (node (inode_at d a))) (holds d a b) (λ x o. refl))

-- one turn of the loop that writes the addresses
pub addrs_more : {e b : Bytes} (d : Bytes) (a p : ℕ) (f : ℕ → ℕ) → b ≡ put d (a + 12) (4 * p) (λ k. addr_bytes f (12 + k)) → e ≡ put b (a + 12 + 4 * p) 4 (digit (f p))
    → e ≡ put d (a + 12) (4 * (p + 1)) (λ k. addr_bytes f (12 + k))
addrs_more {e} {b} d a p f was now =
    let n : 4 * p + 4 ≡ 4 * (p + 1) = omega arith in
    now ∙ ap (λ (m : Bytes). put m (a + 12 + 4 * p) 4 (digit (f p))) was
    ∙ put_more d (a + 12) (4 * p) (a + 12 + 4 * p) 4 (λ k. addr_bytes f (12 + k)) (digit (f p)) refl
    (λ k h. sym (ap (addr_bytes f) (omega arith) ∙ addr_byte f p k h))
    ∙ ap (λ (m : ℕ). put d (a + 12) m (λ k. addr_bytes f (12 + k))) n

-- a record read field by field from the part t of a card that starts at a
module _ (t d : Bytes) (a : ℕ) (part : (k : ℕ) → t k ≡ d (a + k)) where
  number_at : (o n : ℕ) → get t o n ≡ get d (a + o) n
  number_at o n = le_cong n (λ k. t (o + k)) (λ k. d (a + o + k)) (λ k h. part (o + k) ∙ ap d (omega arith))

  pub read_at : (r : Inode) → r.kind ≡ get t 0 2 → r.major ≡ get t 2 2 → r.minor ≡ get t 4 2 → r.nlink ≡ get t 6 2 → r.size ≡ get t 8 4
      → r.addrs ≡ tabulate (λ p. get t (12 + 4 * p) 4) 13 → r ≡ inode_at d a
  unfolding inode_at
  read_at r k ma mi n s l = λ i. record {
    kind = (k ∙ number_at 0 2) i;
    major = (ma ∙ number_at 2 2) i;
    minor = (mi ∙ number_at 4 2) i;
    nlink = (n ∙ number_at 6 2) i;
    size = (s ∙ number_at 8 4) i;
    addrs = (l ∙ tabulate-same (λ p. get t (12 + 4 * p) 4) (λ p. get d (a + 12 + 4 * p) 4) 13
        (λ p h. number_at (12 + 4 * p) 4 ∙ le_cong 4 (λ k. d (a + (12 + 4 * p) + k)) (λ k. d (a + 12 + 4 * p + k)) (λ k q. ap d (omega arith)))) i;
  }

-- ---- bytes stay bytes

-- numbers that a byte holds
abbrev pub Small : Bytes → Type 0
Small d = (x : ℕ) → d x < 256

pub put_small : (d : Bytes) (a n : ℕ) (f : Bytes) → Small d → Small f → Small (put d a n f)
put_small d a n f p q x = go (lies a n x)
  where
    go : Lies a n x → put d a n f x < 256
    go (inside k l z) = rw (z, put-at d a n f k l) (q k)
    go (outside o) = rw (put_out d a n f x o) (p x)

pub encoded-small : (r : Node) → Small (encoded r)
encoded-small r = by_field (λ k. encoded r k < 256)
    (λ k h. rw (encoded_kind r k h) (digit_lt r.kind k))
    (λ k h. rw (encoded_major r k h) (digit_lt r.major k))
    (λ k h. rw (encoded_minor r k h) (digit_lt r.minor k))
    (λ k h. rw (encoded_nlink r k h) (digit_lt r.nlink k))
    (λ k h. rw (encoded_size r k h) (digit_lt r.size k))
    (λ k. rw (encoded_addrs r k) (addr_small k))
  where
    addr_small : (k : ℕ) → addr_bytes r.addr (12 + k) < 256
    addr_small k =
        let e : 12 + k ≡ 12 + 4 * (k / 4) + k % 4 = omega arith in
        rw (e, addr_byte r.addr (k / 4) (k % 4) (omega arith)) (digit_lt (r.addr (k / 4)) (k % 4))
