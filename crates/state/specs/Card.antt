-- How the tests of a superblock's numbers against a card come together. Assumes nothing.
use Rattle.std.specs.Prelude.{◌≡◌, List, ℕ, ◌*◌, length}
use Rattle.base.specs.Bytes.{Bytes}
use Rattle.base.specs.Number.{get}
use Rattle.superblock.specs.declared.Super.{Super}
use Rattle.superblock.specs.Geometry.{GoodNumbers}
use Rattle.state.specs.Whole.{Card}

-- the eight numbers of block 1
pub record Written (s : Super) (d : Bytes) : Type 0 where
  pub magic : get d 1024 4 ≡ 0x10203040
  pub size : get d 1028 4 ≡ s.size
  pub nblocks : get d 1032 4 ≡ s.nblocks
  pub ninodes : get d 1036 4 ≡ s.ninodes
  pub nlog : get d 1040 4 ≡ s.nlog
  pub logstart : get d 1044 4 ≡ 2
  pub inodestart : get d 1048 4 ≡ s.inodestart
  pub bmapstart : get d 1052 4 ≡ s.bmapstart

module _ (s : Super) (image : List ℕ) where
  pub card-numbers : Card s image → GoodNumbers s
  card-numbers c = rw c.same c.good.numbers

  pub card-length : Card s image → length image ≡ s.size * 1024
  card-length c = rw c.same c.good.whole
