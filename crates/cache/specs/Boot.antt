-- The table of boot: it is well-formed, its buffers are clean, and the first that is taken is 29. Assumes nothing.
use Rattle.std.specs.Prelude.{◌≡◌, refl, ℕ, ◌<◌, get_or, eqb}
use Rattle.std.proofs.Common.{◌∙◌, arith, ne_eqb}
use Rattle.base.specs.Bytes.{Bytes}
use Rattle.base.specs.First.{first, first-none, tabulate, get_d_tabulate}
use Rattle.bio.specs.Among.{among, among_yes}
use Rattle.bio.specs.Fresh.{none, fresh_table}
use Rattle.bio.specs.Order.{free_at, least_recent}
use Rattle.cache.specs.Tables.{WellFormed, buffer_with, chosen, chosen_new}
use Rattle.cache.specs.Stays.{Clean}

pub fresh_well : WellFormed fresh_table
unfolding fresh_table among tabulate first
fresh_well = record {
  order = record { each = λ j l. among_yes fresh_table.order 30 j j l (get_d_tabulate (λ k. k) 30 j l) };
  once = record { same = λ i j l m x e. absurd (omega (arith, get_d_tabulate (λ k. none) 30 i l)) };
  counts = record { each = λ j l. omega (arith, get_d_tabulate (λ k. 0) 30 j l) };
  sized = record { blocks = refl; counts = refl; order = refl };
}

fresh-blocks : (j : ℕ) → j < 30 → get_or fresh_table.blocks j 0 ≡ none
unfolding fresh_table
fresh-blocks j l = get_d_tabulate (λ k. none) 30 j l

fresh_least : least_recent fresh_table.order fresh_table.counts ≡ 29
unfolding fresh_table least_recent free_at tabulate first
fresh_least = refl

-- the first buffer taken is 29
pub fresh-first : (b : ℕ) → b < none → chosen fresh_table b ≡ 29
fresh-first b h = chosen_new fresh_table b (omega (arith, empty)) ∙ fresh_least
  where
    empty : buffer_with fresh_table b ≡ 30
    empty = first-none (λ j. eqb (get_or fresh_table.blocks j 0) b) 30 (λ j l. ne_eqb (get_or fresh_table.blocks j 0) b (λ e. omega (arith, fresh-blocks j l)))

pub fresh_clean : (memory image : Bytes) → Clean fresh_table memory image
fresh_clean memory image = record { each = λ j l z y. absurd (omega (arith, fresh-blocks j l)) }
