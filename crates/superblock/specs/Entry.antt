-- The directory entry: 16 bytes, an inode number and 14 name bytes. Reading gives back what was written, and writing what was read.
-- A name is padded with zeros to its 14 bytes, and one of 14 bytes or more is cut there with no NUL. Assumes nothing.
use Rattle.std.specs.Prelude.{◌≡◌, refl, List, ℕ, ◌+◌, ◌-◌, ◌≤◌, ◌<◌, length}
use Rattle.std.proofs.Common.{sym, ap, ◌∙◌, arith}
use Rattle.std.proofs.Math.Decide.{dec_lt}
use Rattle.std.proofs.Math.ListN.{get_or-eq_default}
use Rattle.base.specs.First.{tabulate, tabulate-same, tabulate_is, get_d_tabulate, length-tabulate}
use Rattle.base.specs.Bytes.{Bytes, bytes, put, put_out, put-at, put_more, put_same, is_put}
use Rattle.base.specs.Number.{le_cong, le-digit, digit, digit_lt, get}
use Rattle.superblock.specs.Record.{digit-le, Small, put_small}
pub use Rattle.superblock.specs.declared.Entry.{Entry}

-- the entry at address a
unfoldable pub entry_at : Bytes → ℕ → Entry
entry_at d a = record { inum = get d (a + 0) 2; name = tabulate (λ k. d (a + 2 + k)) 14 }

-- the 16 bytes of an entry
unfoldable pub entry_bytes : Entry → Bytes
entry_bytes e = put (λ k. bytes e.name (k - 2)) 0 2 (digit e.inum)

-- a name's 14 bytes: cut at 14, and zeros past its end
unfoldable pub padded : List ℕ → List ℕ
padded part = tabulate (bytes part) 14

-- ---- laws

pub entry_bytes_inum : (e : Entry) (k : ℕ) → k < 2 → entry_bytes e k ≡ digit e.inum k
unfolding entry_bytes
entry_bytes_inum e k h = let z : k ≡ 0 + k = omega arith in ap (put (λ k. bytes e.name (k - 2)) 0 2 (digit e.inum)) z ∙ put-at (λ k. bytes e.name (k - 2)) 0 2 (digit e.inum) k h

pub entry_bytes_name : (e : Entry) (k : ℕ) → entry_bytes e (2 + k) ≡ bytes e.name k
unfolding entry_bytes
entry_bytes_name e k = put_out (λ k. bytes e.name (k - 2)) 0 2 (digit e.inum) (2 + k) (omega arith) ∙ ap (bytes e.name) (omega arith)

-- an entry written field by field: the code's stores
pub entry-written : (d : Bytes) (a : ℕ) (e : Entry) → put (put d a 2 (digit e.inum)) (a + 2) 14 (λ k. bytes e.name (0 + k)) ≡ put d a 16 (entry_bytes e)
entry-written d a e =
    let q : put d a 2 (digit e.inum) ≡ put d a 2 (entry_bytes e) = put_same d a 2 (digit e.inum) (entry_bytes e) (λ k h. sym (entry_bytes_inum e k h)) in
    rw q (put_more d a 2 (a + 2) 14 (entry_bytes e) (λ k. bytes e.name (0 + k)) refl (λ k h. sym (entry_bytes_name e k ∙ ap (bytes e.name) (omega arith))))

-- decoding gives back what was encoded
pub entry_at_put : (d : Bytes) (a : ℕ) (e : Entry) → e.inum < 65536 → length e.name ≡ 14 → entry_at (put d a 16 (entry_bytes e)) a ≡ e
unfolding entry_at
entry_at_put d a e f l = λ i. record {
  inum = (le_cong 2 (λ k. put d a 16 (entry_bytes e) (a + 0 + k)) (digit e.inum)
      (λ k h. let z : a + 0 + k ≡ a + k = omega arith in ap (put d a 16 (entry_bytes e)) z ∙ put-at d a 16 (entry_bytes e) k (omega arith) ∙ entry_bytes_inum e k h)
      ∙ le-digit 2 e.inum f) i;
  name = sym (tabulate_is (λ k. put d a 16 (entry_bytes e) (a + 2 + k)) 14 e.name l
      (λ k h. let z : a + 2 + k ≡ a + (2 + k) = omega arith in
      sym (ap (put d a 16 (entry_bytes e)) z ∙ put-at d a 16 (entry_bytes e) (2 + k) (omega arith) ∙ entry_bytes_name e k))) i;
}

-- encoding gives back the bytes that were decoded
pub put_entry_at : (d : Bytes) (a : ℕ) → ((x : ℕ) → d x < 256) → put d a 16 (entry_bytes (entry_at d a)) ≡ d
unfolding entry_at
put_entry_at d a b = sym (is_put d d a 16 (entry_bytes (entry_at d a)) within (λ x o. refl))
  where
    within : (k : ℕ) → k < 16 → d (a + k) ≡ entry_bytes (entry_at d a) k
    within k h = elim (dec_lt k 2) [
      | yes l ↦
          let z : a + 0 + k ≡ a + k = omega arith in
          sym (entry_bytes_inum (entry_at d a) k l ∙ digit-le 2 (λ j. d (a + 0 + j)) k l (λ j. b (a + 0 + j)) ∙ ap d z)
      | no g ↦
          let y : 2 + (k - 2) ≡ k = omega arith in
          let z : a + 2 + (k - 2) ≡ a + k = omega arith in
          sym (ap (entry_bytes (entry_at d a)) (sym y) ∙ entry_bytes_name (entry_at d a) (k - 2) ∙ get_d_tabulate (λ j. d (a + 2 + j)) 14 (k - 2) (omega arith) ∙ ap d z)
    ]

-- memories that agree, one moved by o
pub entry_moved : (d e : Bytes) (o m : ℕ) → ((i : ℕ) → i < m → d i ≡ e (o + i)) → (a : ℕ) → a + 16 ≤ m → entry_at d a ≡ entry_at e (o + a)
unfolding entry_at
entry_moved d e o m same a l = λ i. record {
  inum = le_cong 2 (λ k. d (a + 0 + k)) (λ k. e (o + a + 0 + k)) (λ k h. same (a + 0 + k) (omega arith) ∙ ap e (omega arith)) i;
  name = tabulate-same (λ k. d (a + 2 + k)) (λ k. e (o + a + 2 + k)) 14 (λ k h. same (a + 2 + k) (omega arith) ∙ ap e (omega arith)) i;
}

pub padded-length : (part : List ℕ) → length (padded part) ≡ 14
unfolding padded
padded-length part = length-tabulate (bytes part) 14

-- a name's byte, where it has one, and 0 past its end
pub padded_byte : (part : List ℕ) (k : ℕ) → k < 14 → bytes (padded part) k ≡ bytes part k
unfolding padded
padded_byte part k h = get_d_tabulate (bytes part) 14 k h

pub padded_zero : (part : List ℕ) (k : ℕ) → length part ≤ k → bytes (padded part) k ≡ 0
unfolding padded
padded_zero part k h = elim (dec_lt k 14) [
  | yes l ↦ padded_byte part k l ∙ get_or-eq_default part 0 h
  | no g ↦ get_or-eq_default (padded part) 0 (omega (arith, padded-length part))
]

-- a name of 14 bytes is its own: no NUL is added
pub padded-full : (part : List ℕ) → length part ≡ 14 → padded part ≡ part
unfolding padded
padded-full part h = sym (tabulate_is (bytes part) 14 part h (λ k l. refl))

-- an entry read field by field from the part t of a card that starts at a, its name from the part u of t
pub entry_read_at : (t u : List ℕ) (d : Bytes) (a : ℕ) → ((k : ℕ) → bytes t k ≡ d (a + k)) → ((k : ℕ) → bytes u k ≡ bytes t (2 + k))
    → (e : Entry) → e.inum ≡ get (bytes t) 0 2 → e.name ≡ padded u → e ≡ entry_at d a
unfolding entry_at padded
entry_read_at t u d a part rest e n m = λ i. record {
  inum = (n ∙ le_cong 2 (λ k. bytes t (0 + k)) (λ k. d (a + 0 + k)) (λ k h. part (0 + k) ∙ ap d (omega arith))) i;
  name = (m ∙ tabulate-same (bytes u) (λ k. d (a + 2 + k)) 14 (λ k h. rest k ∙ part (2 + k) ∙ ap d (omega arith))) i;
}

-- a name of bytes makes an entry of bytes
pub entry_bytes-small : (e : Entry) → Small (bytes e.name) → Small (entry_bytes e)
unfolding entry_bytes
entry_bytes-small e h = put_small (λ k. bytes e.name (k - 2)) 0 2 (digit e.inum) (λ k. h (k - 2)) (digit_lt e.inum)

pub padded-small : (part : List ℕ) → Small (bytes part) → Small (bytes (padded part))
padded-small part h k = elim (dec_lt k 14) [
  | yes l ↦ rw (padded_byte part k l) (h k)
  | no l ↦ rw (get_or-eq_default (padded part) 0 (past l)) (omega arith)
]
  where
    past : ¬ (k < 14) → length (padded part) ≤ k
    past l = omega (arith, padded-length part)
