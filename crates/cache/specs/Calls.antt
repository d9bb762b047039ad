-- The four calls: the refusals of each, in their order, and what a call that meets none of them leaves. A refusal leaves the table and every
-- byte of the memory as they were. Assumes nothing.
use Rattle.std.specs.Prelude.{◌≡◌, ◌≢◌, List, [], ◌∷◌, ℕ, ◌+◌, ◌*◌, ◌≤◌, ◌<◌, get_or, length, Result, Ok, Err}
use Rattle.std.proofs.Common.{sym, ap, ◌∙◌}
use Rattle.base.specs.Bytes.{bytes}
use Rattle.base.specs.Refusals as refusals
use Rattle.base.specs.Rows.{Row, row, Gives, gives_one}
use Rattle.base.specs.declared.Refusal.{Refusal}
use Rattle.base.specs.declared.Refusal.TheVariants.{NotWhole, BadCall, NoBuffer}
use Rattle.bio.specs.Fresh.{none}
use Rattle.bio.specs.declared.Table.{Table}
use Rattle.cache.specs.Tables.{WellFormed, buffer_with, chosen, one_more, one_less, gotten, fetched, released}
use Rattle.cache.specs.declared.After.{After}

-- the number of an answer, 0 for none
abbrev pub number : {A : Type 0} → Result A Refusal → ℕ
number (Ok x) = 0
number (Err r) = refusals.number r

-- the buffer that a get's answer names, 30 for none
abbrev pub index : Result ℕ Refusal → ℕ
index (Ok j) = j
index (Err r) = 30

-- the table as it was, with a refusal
abbrev pub refused : {A : Type 0} → Table → Refusal → After A
refused t n = record { table = t; answer = Err n }

-- ---- get

-- b is the number of a block that lies in the image; the number of a buffer without a block is none's, whatever the image
pub record Inside (b : ℕ) (image : List ℕ) : Type 0 where
  pub real : b < none
  pub whole : b * 1024 + 1024 ≤ length image

-- what get leaves: its answer with the table, and the memory
abbrev pub Left : Type 0
Left = After ℕ × List ℕ

-- the table not whole; memory of another length; a block outside the image; a count already 1,000; no buffer without references
abbrev pub get_rows : Table → List ℕ → List ℕ → ℕ → List (Row Refusal)
get_rows t memory image b =
    row NotWhole (WellFormed t → ⊥)
    ∷ row BadCall (length memory ≢ 30720)
    ∷ row BadCall (Inside b image → ⊥)
    ∷ row BadCall ((buffer_with t b < 30) × (get_or t.counts (buffer_with t b) 0 ≡ 1000))
    ∷ row NoBuffer ((30 ≤ buffer_with t b) × ((j : ℕ) → j < 30 → get_or t.counts j 0 ≢ 0))
    ∷ []

-- the buffer has the block with a reference more
pub record Got (t : Table) (memory image : List ℕ) (b : ℕ) (l : Left) : Type 0 where
  pub answer : l.0.answer ≡ Ok (chosen t b)
  pub table : l.0.table ≡ gotten t b
  pub memory_is : bytes l.1 ≡ fetched t b (bytes image) (bytes memory)

-- get: the first row that holds, with all as it was, else the block
abbrev pub GetGives : Table → List ℕ → List ℕ → ℕ → Left → Type 0
GetGives t memory image b l = Gives (λ n. (refused t n, memory)) (get_rows t memory image b) (Got t memory image b) l

-- ---- release, pin, unpin

-- the table not whole; an index over 29; no reference to give back
abbrev pub release_rows : Table → ℕ → List (Row Refusal)
release_rows t j =
    row NotWhole (WellFormed t → ⊥)
    ∷ row BadCall (29 < j)
    ∷ row BadCall (get_or t.counts j 0 ≡ 0)
    ∷ []

-- the same, and a count already 1,000
abbrev pub pin_rows : Table → ℕ → List (Row Refusal)
pin_rows t j =
    row NotWhole (WellFormed t → ⊥)
    ∷ row BadCall (29 < j)
    ∷ row BadCall (get_or t.counts j 0 ≡ 0)
    ∷ row BadCall (get_or t.counts j 0 ≡ 1000)
    ∷ []

-- the last reference is not for unpin
abbrev pub unpin_rows : Table → ℕ → List (Row Refusal)
unpin_rows t j =
    row NotWhole (WellFormed t → ⊥)
    ∷ row BadCall (29 < j)
    ∷ row BadCall (get_or t.counts j 0 ≤ 1)
    ∷ []

-- the table t', and no more to say
pub record Went (t' : Table) (a : After Unit) : Type 0 where
  pub is : a ≡ record { table = t'; answer = Ok tt }

-- release, pin, unpin: the first row that holds, with the table as it was, else the next table
abbrev pub ReleaseGives : Table → ℕ → After Unit → Type 0
ReleaseGives t j = Gives (refused t) (release_rows t j) (Went (released t j))

abbrev pub PinGives : Table → ℕ → After Unit → Type 0
PinGives t j = Gives (refused t) (pin_rows t j) (Went (one_more t j))

abbrev pub UnpinGives : Table → ℕ → After Unit → Type 0
UnpinGives t j = Gives (refused t) (unpin_rows t j) (Went (one_less t j))

-- ---- the answer is unique

went_one : (t : Table) (rows : List (Row Refusal)) (t' : Table) (a b : After Unit) → Gives (refused t) rows (Went t') a → Gives (refused t) rows (Went t') b → a ≡ b
went_one t rows t' a b p q = gives_one (refused t) rows (Went t') (λ x y. x ≡ y) (λ n x y e f. e ∙ sym f) (λ x y e f. e.is ∙ sym f.is) a b p q

pub release_one : (t : Table) (j : ℕ) (a b : After Unit) → ReleaseGives t j a → ReleaseGives t j b → a ≡ b
release_one t j a b p q = went_one t (release_rows t j) (released t j) a b p q

pub pin_one : (t : Table) (j : ℕ) (a b : After Unit) → PinGives t j a → PinGives t j b → a ≡ b
pin_one t j a b p q = went_one t (pin_rows t j) (one_more t j) a b p q

pub unpin_one : (t : Table) (j : ℕ) (a b : After Unit) → UnpinGives t j a → UnpinGives t j b → a ≡ b
unpin_one t j a b p q = went_one t (unpin_rows t j) (one_less t j) a b p q

-- of a get: the answer, the table, and every byte of the memory
pub record Same (a b : Left) : Type 0 where
  pub after : a.0 ≡ b.0
  pub memory : bytes a.1 ≡ bytes b.1

pub get_one : (t : Table) (memory image : List ℕ) (b : ℕ) (x y : Left) → GetGives t memory image b x → GetGives t memory image b y → Same x y
get_one t memory image b x y p q =
    gives_one (λ n. (refused t n, memory)) (get_rows t memory image b) (Got t memory image b) Same
    (λ n u v e f. record { after = ap (λ (l : Left). l.0) (e ∙ sym f); memory = ap (λ (l : Left). bytes l.1) (e ∙ sym f) })
    (λ u v e f. record {
      after = λ i. record { table = (e.table ∙ sym f.table) i; answer = (e.answer ∙ sym f.answer) i };
      memory = e.memory_is ∙ sym f.memory_is;
    })
    x y p q
