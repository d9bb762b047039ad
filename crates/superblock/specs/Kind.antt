-- What an inode in use is, and its number on the card: 0 is a free inode, and over 3 there is no kind. Assumes nothing.
use Rattle.std.specs.Prelude.{◌≡◌, ◌≢◌, ℕ, Result, Ok, Err}
use Rattle.base.specs.declared.Refusal.{Refusal}
use Rattle.base.specs.declared.Refusal.TheVariants.{BadCall}
use Rattle.superblock.specs.declared.Kind.{Kind}
use Rattle.superblock.specs.declared.Kind.TheVariants.{Directory, File, Device}

-- the number on the card
abbrev pub code : Kind → ℕ
code Directory = 1
code File = 2
code Device = 3

-- a number's kind, or that it has none
abbrev pub KindOf : ℕ → Result Kind Refusal → Type 0
KindOf n (Ok k) = n ≡ code k
KindOf n (Err r) = (r ≡ BadCall) × ((k : Kind) → n ≢ code k)
