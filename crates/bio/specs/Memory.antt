-- What a Seen shows: the memory of a volume, as one. Assumes nothing.
use Rattle.base.specs.Bytes.{Bytes, bytes}
use Rattle.bio.specs.Seen.{seen}
use Rattle.bio.specs.declared.Seen.{Seen}

-- the memory that is seen
abbrev pub memory : Seen → Bytes
memory s = seen s.table.now.blocks s.table.now.counts (bytes s.cache.now) (bytes s.image.now)
