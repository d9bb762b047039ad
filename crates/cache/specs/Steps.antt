-- The ways in which a get ends past its tests, each as the row that it meets. Assumes nothing.
use Rattle.std.specs.Prelude.{◌≡◌, ◌≢◌, List, ℕ, ◌*◌, ◌≤◌, ◌<◌, get_or, length, Ok}
use Rattle.std.proofs.Common.{sym, ap, ◌∙◌, inl, inr, arith}
use Rattle.base.specs.Bytes.{bytes, put, block}
use Rattle.base.specs.declared.Refusal.TheVariants.{NoBuffer}
use Rattle.bio.specs.Order.{least_recent, least_free, least_some}
use Rattle.bio.specs.declared.Table.{Table}
use Rattle.cache.specs.Tables.{WellFormed, buffer_with, chosen, chosen_own, chosen_new, holding, fetched_own, fetched_new}
use Rattle.cache.specs.Calls.{Left, Inside, GetGives, refused}
use Rattle.cache.specs.declared.After.{After}

pub gave : {r s : After ℕ} (memory : List ℕ) → r ≡ s → ◌≡◌ {A = Left} (r, memory) (s, memory)
gave memory e = ap {B = Left} (λ (x : After ℕ). (x, memory)) e

-- the buffer that is taken has room for a reference
pub free_room : (t : Table) (k : ℕ) → k ≡ least_recent t.order t.counts → k < 30 → get_or t.counts k 0 < 1000
free_room t k e h = rw e (omega (arith, least_free t.order t.counts (omega arith)))

module _ (t : Table) (memory image : List ℕ) (b : ℕ) where
  module _ (w : WellFormed t) (l : length memory ≡ 30720) (i : Inside b image) (j : ℕ) (o : j ≡ buffer_with t b) where
    count_there : get_or t.counts j 0 ≡ get_or t.counts (buffer_with t b) 0
    count_there = ap (λ (x : ℕ). get_or t.counts x 0) o

    pub get_hit : {a : After ℕ} {u : Table} → j < 30 → get_or t.counts j 0 ≢ 1000 → u ≡ holding t j b → a ≡ record { table = u; answer = Ok j }
        → GetGives t memory image b (a, memory)
    get_hit h e r x =
        let own : buffer_with t b < 30 = omega arith in
        let same : j ≡ chosen t b = o ∙ sym (chosen_own t b own) in
        inr (
          λ f. f w,
          inr (
            λ f. f l,
            inr (
              λ f. f i,
              inr (
                λ f. e (count_there ∙ f.1),
                inr (
                  λ f. omega (arith, f.0),
                  record {
                    answer = ap (λ (y : After ℕ). y.answer) x ∙ ap (λ (y : ℕ). Ok y) same;
                    table = ap (λ (y : After ℕ). y.table) x ∙ r ∙ ap (λ (x : ℕ). holding t x b) same;
                    memory_is = sym (fetched_own t b (bytes image) (bytes memory) own);
                  },
                ),
              ),
            ),
          ),
        )

    module _ (k : ℕ) (c : k ≡ least_recent t.order t.counts) (miss : 30 ≤ j) where
      pub get_none : {a : After ℕ} → 30 ≤ k → a ≡ refused t NoBuffer → GetGives t memory image b (a, memory)
      get_none h e =
          inr (
            λ f. f w,
            inr (
              λ f. f l,
              inr (
                λ f. f i,
                inr (
                  λ f. omega (arith, f.0),
                  inl (
                    (omega arith, λ y m z. let q = least_some t.order t.counts w.order y m z in omega arith),
                    gave memory e,
                  ),
                ),
              ),
            ),
          )

      pub get_miss : {a : After ℕ} {u : Table} {m : List ℕ} → k < 30 → u ≡ holding t k b → a ≡ record { table = u; answer = Ok k } → bytes m ≡ put (bytes memory) (k * 1024) 1024 (block (bytes image) b)
          → GetGives t memory image b (a, m)
      get_miss h r x p =
          let new : 30 ≤ buffer_with t b = omega arith in
          let same : k ≡ chosen t b = c ∙ sym (chosen_new t b new) in
          let low : least_recent t.order t.counts < 30 = omega arith in
          inr (
            λ f. f w,
            inr (
              λ f. f l,
              inr (
                λ f. f i,
                inr (
                  λ f. omega (arith, f.0),
                  inr (
                    λ f. f.1 (least_recent t.order t.counts) low (least_free t.order t.counts low),
                    record {
                      answer = ap (λ (y : After ℕ). y.answer) x ∙ ap (λ (y : ℕ). Ok y) same;
                      table = ap (λ (y : After ℕ). y.table) x ∙ r ∙ ap (λ (x : ℕ). holding t x b) same;
                      memory_is = p ∙ ap (λ (x : ℕ). put (bytes memory) (x * 1024) 1024 (block (bytes image) b)) same ∙ sym (fetched_new t b (bytes image) (bytes memory) new);
                    },
                  ),
                ),
              ),
            ),
          )
