-- A commit and a recovery, cut or not, leave a card its superblock. Assumes nothing.
use Rattle.std.specs.Prelude.{◌≡◌, List, ℕ, ◌+◌, ◌*◌, ◌≤◌, ◌<◌, length}
use Rattle.std.proofs.Common.{sym, ap, ◌∙◌, arith}
use Rattle.base.specs.Bytes.{bytes}
use Rattle.base.specs.Number.{get, get_same_bytes}
use Rattle.superblock.specs.Geometry.{Good, super_of}

-- the same bytes before the log: the same superblock
module _ (image image' : List ℕ) (long : length image' ≡ length image) (same : (x : ℕ) → x < 2048 → bytes image' x ≡ bytes image x) where
  number_same : (a : ℕ) → a + 4 ≤ 2048 → get (bytes image') a 4 ≡ get (bytes image) a 4
  number_same a l = get_same_bytes (bytes image') (bytes image) a 4 (λ k m. same (a + k) (omega arith))

  pub super_same : super_of (bytes image') ≡ super_of (bytes image)
  super_same = λ i. record {
    size = number_same 1028 (omega arith) i;
    nblocks = number_same 1032 (omega arith) i;
    ninodes = number_same 1036 (omega arith) i;
    nlog = number_same 1040 (omega arith) i;
    inodestart = number_same 1048 (omega arith) i;
    bmapstart = number_same 1052 (omega arith) i;
  }

  pub good_kept : Good image → Good image'
  good_kept g =
      record {
        magic = number_same 1024 (omega arith) ∙ g.magic;
        logstart = number_same 1044 (omega arith) ∙ g.logstart;
        numbers = rw super_same g.numbers;
        whole = long ∙ g.whole ∙ ap (λ (z : ℕ). z * 1024) (sym (number_same 1028 (omega arith)));
      }
