-- Tables of the cache: which are well-formed, and the tables that the calls leave. Assumes nothing.
use Rattle.std.specs.Prelude.{◌≡◌, cond, List, ℕ, ◌+◌, ◌-◌, ◌*◌, ◌≤◌, ◌<◌, get_or, length, set, eqb, ltb}
use Rattle.std.proofs.Common.{lt-ltb, le-ltb, ne_eqb}
use Rattle.base.specs.First.{first}
use Rattle.base.specs.Bytes.{Bytes, put, block}
use Rattle.bio.specs.Among.{Distinct}
use Rattle.bio.specs.Fresh.{none}
use Rattle.bio.specs.Order.{Named, front, least_recent}
use Rattle.bio.specs.declared.Table.{Table}

-- no count is over 1,000
pub record Bounded (counts : List ℕ) : Type 0 where
  pub each : (j : ℕ) → j < 30 → get_or counts j 0 ≤ 1000

-- 30 of each, as the type of the code's tables says
pub record Sized (t : Table) : Type 0 where
  pub blocks : length t.blocks ≡ 30
  pub counts : length t.counts ≡ 30
  pub order : length t.order ≡ 30

-- the order misses no buffer, no block is in two buffers, no count is over 1,000
pub record WellFormed (t : Table) : Type 0 where
  pub order : Named t.order
  pub once : Distinct t.blocks 30 none
  pub counts : Bounded t.counts
  pub sized : Sized t

-- the buffer that has block b, with references or without; 30 where none has it
abbrev pub buffer_with : Table → ℕ → ℕ
buffer_with t b = first (λ j. eqb (get_or t.blocks j 0) b) 30

-- the buffer that a get of block b takes: the one that has it, else the least recently released without references
unfoldable pub chosen : Table → ℕ → ℕ
chosen t b = cond (ltb (buffer_with t b) 30) (buffer_with t b) (least_recent t.order t.counts)

-- buffer j has n references
abbrev pub with_count : Table → ℕ → ℕ → Table
with_count t j n = record { blocks = t.blocks; counts = set t.counts j n; order = t.order }

-- a reference more, a reference less
abbrev pub one_more : Table → ℕ → Table
one_more t j = with_count t j (get_or t.counts j 0 + 1)

abbrev pub one_less : Table → ℕ → Table
one_less t j = with_count t j (get_or t.counts j 0 - 1)

-- buffer j has block b, with a reference more
abbrev pub holding : Table → ℕ → ℕ → Table
holding t j b = record { blocks = set t.blocks j b; counts = set t.counts j (get_or t.counts j 0 + 1); order = t.order }

-- after a get of block b
abbrev pub gotten : Table → ℕ → Table
gotten t b = holding t (chosen t b) b

-- and the memory: a block that a buffer has stays as it is there, any other is read from the image, whole
unfoldable pub fetched : Table → ℕ → Bytes → Bytes → Bytes
fetched t b image memory = cond (ltb (buffer_with t b) 30) memory (put memory (chosen t b * 1024) 1024 (block image b))

-- after a release of buffer j: a reference less, and the last one moves the buffer to the front
unfoldable pub released : Table → ℕ → Table
released t j = record {
  blocks = t.blocks;
  counts = set t.counts j (get_or t.counts j 0 - 1);
  order = cond (eqb (get_or t.counts j 0) 1) (front j t.order) t.order;
}

-- ---- by cases

module _ (t : Table) (b : ℕ) where
  pub chosen_own : buffer_with t b < 30 → chosen t b ≡ buffer_with t b
  unfolding chosen
  chosen_own h = rw (lt-ltb _ _ h)

  pub chosen_new : 30 ≤ buffer_with t b → chosen t b ≡ least_recent t.order t.counts
  unfolding chosen
  chosen_new h = rw (le-ltb _ _ h)

  module _ (image memory : Bytes) where
    pub fetched_own : buffer_with t b < 30 → fetched t b image memory ≡ memory
    unfolding fetched
    fetched_own h = rw (lt-ltb _ _ h)

    pub fetched_new : 30 ≤ buffer_with t b → fetched t b image memory ≡ put memory (chosen t b * 1024) 1024 (block image b)
    unfolding fetched
    fetched_new h = rw (le-ltb _ _ h)

module _ (t : Table) (j : ℕ) where
  pub released_last : get_or t.counts j 0 ≡ 1 → released t j ≡ record { blocks = t.blocks; counts = set t.counts j 0; order = front j t.order }
  unfolding released
  released_last e = rw e

  pub released_more : (get_or t.counts j 0 ≡ 1 → ⊥) → released t j ≡ one_less t j
  unfolding released
  released_more h = rw (ne_eqb _ _ h)
