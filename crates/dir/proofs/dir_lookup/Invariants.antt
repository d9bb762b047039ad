-- dir_lookup: no entry of the blocks passed has the name; one block is answered for by Entries.block-found and block_passed.
use Rattle.std.proofs.Common.{◌≡◌, ℕ, ◌*◌, ◌/◌, ◌<◌, false}
use Rattle.bio.specs.Memory.{memory}
use Rattle.path.specs.Names.{name_of}
use Rattle.dir.specs.Entries.{entry_is, entry_addr}
use Rattle.dir.proofs.dir_lookup.Given as goal

abbrev pub invariant-loop-b : goal.invariant-loop-b
invariant-loop-b l = (j : ℕ) → j < l.b * 64 → j < l.f.size / 16 → entry_is (memory l.card) (name_of l.part) (entry_addr (memory l.card) l.f j) ≡ false
