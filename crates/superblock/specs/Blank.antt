-- A block of zeros, as it is written for each newly taken block. Assumes nothing.
use Rattle.std.specs.Prelude.{◌≡◌, refl, List, ℕ, length, get_or, replicate}
use Rattle.std.proofs.Common.{◌∙◌, arith}
use Rattle.std.proofs.Math.Path.{fun_ext}
use Rattle.std.proofs.Math.Decide.{dec_lt}
use Rattle.std.proofs.lemmas.List.{length-replicate, get_or-replicate}
use Rattle.std.proofs.Math.ListN.{get_or-eq_default}
use Rattle.base.specs.Bytes.{bytes}

-- 1,024 bytes, and every one 0
pub record Blank (block : List ℕ) : Type 0 where
  pub whole : length block ≡ 1024
  pub zero : bytes block ≡ (λ k. 0)

none : (n k z : ℕ) → z ≡ 0 → get_or (replicate n z) k 0 ≡ 0
none n k z e = elim (dec_lt k n) [
  | yes h ↦ get_or-replicate n k z 0 h ∙ e
  | no h ↦ get_or-eq_default (replicate n z) 0 (omega (arith, length-replicate n z))
]

pub blank : Blank (replicate 1024 0)
blank = let z : ℕ = 0 in record { whole = length-replicate 1024 z; zero = fun_ext (λ k. none 1024 k z refl) }
