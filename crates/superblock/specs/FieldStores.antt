-- What a store of one field of an inode does to a card's Disk: that inode has the field changed, and nothing else is. And where an inode is:
-- its block and byte are its address. Assumes nothing.
use Rattle.std.specs.Prelude.{◌≡◌, ℕ, ◌+◌, ◌*◌, ◌<◌}
use Rattle.std.proofs.Common.{sym, ◌∙◌, arith}
use Rattle.std.proofs.Math.Path.{ap}
use Rattle.std.proofs.Math.Decide.{ℕ_discrete}
use borrow.Author.Tests.{lt-ltb}
use Rattle.base.specs.Bytes.{Bytes, put}
use Rattle.base.specs.Number.{digit}
use Rattle.base.specs.Update.{upd, upd_same, upd_other}
use Rattle.superblock.specs.Geometry.{Super, Laid, inode_block, inode_byte, inode_addr}
use Rattle.superblock.specs.Node.{Node, Fits}
use Rattle.superblock.specs.Record.{with_kind, with_nlink, with_size, with_addr, Holds, encoded-node_in, put_kind, put_nlink, put_size, put_addr}
use Rattle.superblock.specs.Disk.{ino_of, disk, set_ino}
use Rattle.superblock.specs.Stores.{disk_ino, ino_of_fits}

-- inode i is at its byte of its block
pub inode_place : (s : Super) (i : ℕ) → inode_block s i * 1024 + inode_byte i ≡ inode_addr s i
inode_place s i = omega arith

module _ (s : Super) (ok : Laid s) (d : Bytes) (small : (x : ℕ) → d x < 256) (i : ℕ) (low : 0 < i) (high : i < s.ninodes) where
  r : Node
  r = ino_of s d i

  is : Holds d (inode_addr s i) r
  unfolding ino_of r
  is k h = rw (lt-ltb 0 i low, lt-ltb i s.ninodes high) (sym (encoded-node_in (λ j. d (inode_addr s i + j)) (λ j. small (inode_addr s i + j)) k h))

  fits : Fits r
  unfolding r
  fits = ino_of_fits s d i small

  pub disk_kind : (x : ℕ) → x < 65536 → disk s (put d (inode_addr s i) 2 (digit x)) ≡ set_ino (disk s d) i (with_kind (ino_of s d i) x)
  unfolding r
  disk_kind x h =
      ap (disk s) (put_kind d (inode_addr s i) r is x)
      ∙ disk_ino s ok d i (with_kind r x) low high (record { kind = h; major = fits.major; minor = fits.minor; nlink = fits.nlink; size = fits.size; addr = fits.addr; none = fits.none })

  pub disk_nlink : (x : ℕ) → x < 65536 → disk s (put d (inode_addr s i + 6) 2 (digit x)) ≡ set_ino (disk s d) i (with_nlink (ino_of s d i) x)
  unfolding r
  disk_nlink x h =
      ap (disk s) (put_nlink d (inode_addr s i) r is x)
      ∙ disk_ino s ok d i (with_nlink r x) low high (record { kind = fits.kind; major = fits.major; minor = fits.minor; nlink = h; size = fits.size; addr = fits.addr; none = fits.none })

  pub disk_size : (x : ℕ) → x < 4294967296 → disk s (put d (inode_addr s i + 8) 4 (digit x)) ≡ set_ino (disk s d) i (with_size (ino_of s d i) x)
  unfolding r
  disk_size x h =
      ap (disk s) (put_size d (inode_addr s i) r is x)
      ∙ disk_ino s ok d i (with_size r x) low high (record { kind = fits.kind; major = fits.major; minor = fits.minor; nlink = fits.nlink; size = h; addr = fits.addr; none = fits.none })

  pub disk_addr : (p x : ℕ) → p < 13 → x < 4294967296 → disk s (put d (inode_addr s i + (12 + 4 * p)) 4 (digit x)) ≡ set_ino (disk s d) i (with_addr (ino_of s d i) p x)
  unfolding r
  disk_addr p x l h =
      ap (disk s) (put_addr d (inode_addr s i) r is x p l)
      ∙ disk_ino s ok d i (with_addr r p x) low high (record {
        kind = fits.kind;
        major = fits.major;
        minor = fits.minor;
        nlink = fits.nlink;
        size = fits.size;
        addr = λ q m. within q (ℕ_discrete q p) m;
        none = λ q m. upd_other r.addr p x q (omega arith) ∙ fits.none q m;
      })
    where
      within : (q : ℕ) → Dec (q ≡ p) → q < 13 → upd r.addr p x q < 4294967296
      within q (yes e) m = rw (e, upd_same r.addr p x) h
      within q (no e) m = rw (upd_other r.addr p x q e) (fits.addr q m)
