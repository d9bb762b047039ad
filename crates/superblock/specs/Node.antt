-- The inode record: 64 bytes and what they say. `Node` is an inode as the theorems see it, its addresses a function; `Inode` is the struct that
-- the code carries, and `node` the one it stands for. Decoding and encoding are inverse to each other. Assumes nothing.
use Rattle.std.specs.Prelude.{◌≡◌, cond, ℕ, ◌+◌, ◌-◌, ◌*◌, ◌/◌, ◌%◌, ◌≤◌, ◌<◌, ltb}
use Rattle.std.proofs.Common.{sym, ap, ◌∙◌, arith, lt-ltb, le-ltb}
use Rattle.std.proofs.Math.Decide.{dec_lt}
use Rattle.base.specs.First.{tabulate}
use Rattle.base.specs.Bytes.{Bytes, bytes, put}
use Rattle.base.specs.Number.{le_cong, le_lt, digit, le-digit, get, get-same, get_other}
use Rattle.superblock.specs.declared.Inode.{Inode}

-- an inode: kind, device numbers, link count and size, and 13 addresses
pub record Node : Type 0 where
  pub kind : ℕ
  pub major : ℕ
  pub minor : ℕ
  pub nlink : ℕ
  pub size : ℕ
  pub addr : ℕ → ℕ

-- an inode in 64 bytes
unfoldable pub node_in : Bytes → Node
node_in f = record {
  kind = get f 0 2;
  major = get f 2 2;
  minor = get f 4 2;
  nlink = get f 6 2;
  size = get f 8 4;
  addr = λ p. cond (ltb p 13) (get f (12 + 4 * p) 4) 0;
}

-- byte k of a record of which only the addresses are written, from byte 12 on
unfoldable pub addr_bytes : (ℕ → ℕ) → Bytes
addr_bytes f k = digit (f ((k - 12) / 4)) ((k - 12) % 4)

-- the 64 bytes of an inode
unfoldable pub encoded : Node → Bytes
encoded r =
    put (put (put (put (put (addr_bytes r.addr) 8 4 (digit r.size)) 6 2 (digit r.nlink)) 4 2 (digit r.minor)) 2 2 (digit r.major)) 0 2 (digit r.kind)

-- a free inode, all zero
unfoldable pub no_node : Node
no_node = record { kind = 0; major = 0; minor = 0; nlink = 0; size = 0; addr = λ p. 0 }

-- what the code's struct stands for
abbrev pub node : Inode → Node
node r = record { kind = r.kind; major = r.major; minor = r.minor; nlink = r.nlink; size = r.size; addr = bytes r.addrs }

-- the struct that the code decodes at address a
unfoldable pub inode_at : Bytes → ℕ → Inode
inode_at d a = record {
  kind = get d (a + 0) 2;
  major = get d (a + 2) 2;
  minor = get d (a + 4) 2;
  nlink = get d (a + 6) 2;
  size = get d (a + 8) 4;
  addrs = tabulate (λ p. get d (a + 12 + 4 * p) 4) 13;
}

-- ---- laws

get_cong : (f h : Bytes) (a n : ℕ) → ((k : ℕ) → k < 64 → f k ≡ h k) → a + n ≤ 64 → get f a n ≡ get h a n
get_cong f h a n e l = le_cong n (λ k. f (a + k)) (λ k. h (a + k)) λ k m. e (a + k) (omega arith)

-- by the same number
pub if_cong : (p n : ℕ) (x y : ℕ) → (p < n → x ≡ y) → cond (ltb p n) x 0 ≡ cond (ltb p n) y 0
if_cong p n x y h = elim (dec_lt p n) [ yes l ↦ ap (λ (t : ℕ). cond (ltb p n) t 0) (h l) | no l ↦ rw (le-ltb p n (omega arith)) ]

pub node_in_cong : (f h : Bytes) → ((k : ℕ) → k < 64 → f k ≡ h k) → node_in f ≡ node_in h
unfolding node_in
node_in_cong f h e = λ t. record {
  kind = get_cong f h 0 2 e (omega arith) t;
  major = get_cong f h 2 2 e (omega arith) t;
  minor = get_cong f h 4 2 e (omega arith) t;
  nlink = get_cong f h 6 2 e (omega arith) t;
  size = get_cong f h 8 4 e (omega arith) t;
  addr = λ p. if_cong p 13 (get f (12 + 4 * p) 4) (get h (12 + 4 * p) 4) (λ l. get_cong f h (12 + 4 * p) 4 e (omega arith)) t;
}

-- each number of the inode fits its place
pub record Fits (r : Node) : Type 0 where
  pub kind : r.kind < 65536
  pub major : r.major < 65536
  pub minor : r.minor < 65536
  pub nlink : r.nlink < 65536
  pub size : r.size < 4294967296
  pub addr : (p : ℕ) → p < 13 → r.addr p < 4294967296
  pub none : (p : ℕ) → 13 ≤ p → r.addr p ≡ 0

addr_get : (f : ℕ → ℕ) (p : ℕ) → f p < 4294967296 → get (addr_bytes f) (12 + 4 * p) 4 ≡ f p
unfolding addr_bytes
addr_get f p h = le_cong 4 (λ k. addr_bytes f (12 + 4 * p + k)) (digit (f p)) byte ∙ le-digit 4 (f p) h
  where
    byte : (k : ℕ) → k < 4 → addr_bytes f (12 + 4 * p + k) ≡ digit (f p) k
    byte k l =
        let q : (12 + 4 * p + k - 12) / 4 ≡ p = omega arith in
        let m : (12 + 4 * p + k - 12) % 4 ≡ k = omega arith in
        rw (q, m)

pub node_in-encoded : (r : Node) → Fits r → node_in (encoded r) ≡ r
unfolding node_in encoded
node_in-encoded r e = λ t. record {
  kind = (get-same d₁ 0 2 (digit r.kind) ∙ le-digit 2 r.kind e.kind) t;
  major = (get_other d₁ 0 2 (digit r.kind) 2 2 (omega arith) ∙ get-same d₂ 2 2 (digit r.major) ∙ le-digit 2 r.major e.major) t;
  minor = (get_other d₁ 0 2 (digit r.kind) 4 2 (omega arith) ∙ get_other d₂ 2 2 (digit r.major) 4 2 (omega arith) ∙ get-same d₃ 4 2 (digit r.minor) ∙ le-digit 2 r.minor e.minor) t;
  nlink = (get_other d₁ 0 2 (digit r.kind) 6 2 (omega arith) ∙ get_other d₂ 2 2 (digit r.major) 6 2 (omega arith) ∙ get_other d₃ 4 2 (digit r.minor) 6 2 (omega arith)
      ∙ get-same d₄ 6 2 (digit r.nlink) ∙ le-digit 2 r.nlink e.nlink) t;
  size = (past 8 4 (omega arith) ∙ get-same d₅ 8 4 (digit r.size) ∙ le-digit 4 r.size e.size) t;
  addr = λ p. address p t;
}
  where
    d₅ : Bytes
    d₅ = addr_bytes r.addr

    d₄ : Bytes
    d₄ = put d₅ 8 4 (digit r.size)

    d₃ : Bytes
    d₃ = put d₄ 6 2 (digit r.nlink)

    d₂ : Bytes
    d₂ = put d₃ 4 2 (digit r.minor)

    d₁ : Bytes
    d₁ = put d₂ 2 2 (digit r.major)

    past : (a n : ℕ) → 8 ≤ a → get (put d₁ 0 2 (digit r.kind)) a n ≡ get d₄ a n
    past a n h =
        get_other d₁ 0 2 (digit r.kind) a n (omega arith) ∙ get_other d₂ 2 2 (digit r.major) a n (omega arith)
        ∙ get_other d₃ 4 2 (digit r.minor) a n (omega arith) ∙ get_other d₄ 6 2 (digit r.nlink) a n (omega arith)

    address : (p : ℕ) → cond (ltb p 13) (get (put d₁ 0 2 (digit r.kind)) (12 + 4 * p) 4) 0 ≡ r.addr p
    address p = elim (dec_lt p 13) [
      | yes l ↦ rw (lt-ltb p 13 l) (past (12 + 4 * p) 4 (omega arith) ∙ get_other d₅ 8 4 (digit r.size) (12 + 4 * p) 4 (omega arith) ∙ addr_get r.addr p (e.addr p l))
      | no l ↦ rw (le-ltb p 13 (omega arith)) (sym (e.none p (omega arith)))
    ]

pub if_lt : (p n x m : ℕ) → x < m → cond (ltb p n) x 0 < m
if_lt p n x m h = elim (dec_lt p n) [ yes l ↦ rw (lt-ltb p n l) h | no l ↦ rw (le-ltb p n (omega arith)) (omega arith) ]

pub node_in_fits : (f : Bytes) → ((k : ℕ) → f k < 256) → Fits (node_in f)
unfolding node_in
node_in_fits f h = record {
  kind = le_lt 2 (λ k. f (0 + k)) (λ k. h (0 + k));
  major = le_lt 2 (λ k. f (2 + k)) (λ k. h (2 + k));
  minor = le_lt 2 (λ k. f (4 + k)) (λ k. h (4 + k));
  nlink = le_lt 2 (λ k. f (6 + k)) (λ k. h (6 + k));
  size = le_lt 4 (λ k. f (8 + k)) (λ k. h (8 + k));
  addr = λ p _. if_lt p 13 (get f (12 + 4 * p) 4) 4294967296 (le_lt 4 (λ k. f (12 + 4 * p + k)) (λ k. h (12 + 4 * p + k)));
  none = λ p l. rw (le-ltb p 13 l);
}
