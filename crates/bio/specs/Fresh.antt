-- The table of boot. Assumes nothing.
use Rattle.std.specs.Prelude.{ℕ}
use Rattle.base.specs.First.{tabulate}
use Rattle.bio.specs.declared.Table.{Table}

-- the number in a buffer that has no block
abbrev pub none : ℕ
none = 4294967295

-- no blocks, no references, and buffer 29 the least recently released
unfoldable pub fresh_table : Table
fresh_table = record { blocks = tabulate (λ k. none) 30; counts = tabulate (λ k. 0) 30; order = tabulate (λ k. k) 30 }
