-- What a call answers, and when a call's rows and its next state fix it. A row is a reason to refuse, with its number. Assumes nothing.
use Rattle.std.specs.Prelude.{◌≡◌, List, [], ◌∷◌, ℕ, Result, Ok, Err}
use Rattle.std.proofs.Common.{sym, ap, ◌∙◌, inl, inr}
use Rattle.base.specs.Refusals.{number}
use Rattle.base.specs.declared.Refusal.{Refusal}
use Rattle.base.specs.Rows.{Row, Gives, gives_one}
use Rattle.superblock.specs.Disk.{Disk}
use Rattle.inode.specs.Lent.{disk_seen}
use Rattle.state.specs.declared.Volume.{Volume}
use Rattle.state.specs.declared.After.{After}

-- an answer: done, with its values, or a refusal's number instead
pub data Said (T : Type 0) : Type 0 where
  done : T → Said T
  instead : ℕ → Said T

-- the number of an answer's refusal, or done, with its value
abbrev pub told : {T : Type 0} → Result T Refusal → Said T
told (Ok x) = done x
told (Err r) = instead (number r)

-- what a call that writes no memory leaves: the state, and what it says
abbrev pub Left : Type 0 → Type 0
Left T = Volume × Said T

-- what a call left
abbrev pub left : {T : Type 0} → After T → Left T
left a = (a.volume, told a.answer)

-- a call that was refused, and left the volume as it was
abbrev pub declined : {T : Type 0} → Volume → Refusal → After T
declined v r = record { volume = v; answer = Err r }

-- number n instead, and the state as it was
abbrev pub refused : {T : Type 0} → Volume → ℕ → Left T
refused v n = (v, instead n)

-- what a call gives: the number of the first row that holds, with all as it was, and `next` where none does
abbrev pub Answers : {A : Type 0} → (ℕ → A) → List (Row ℕ) → A → A → Type 0
Answers refuse rows next a = Gives refuse rows (λ b. b ≡ next) a

-- the Disk that a volume sees
abbrev pub disk_of : Volume → List ℕ → List ℕ → Disk
disk_of v cache image = disk_seen v.sb v.table.blocks v.table.counts cache image

-- ---- the answer is unique

pub answers_one : {A : Type 0} (refuse : ℕ → A) (rows : List (Row ℕ)) (next a b : A) → Answers refuse rows next a → Answers refuse rows next b → a ≡ b
answers_one refuse rows next a b p q = gives_one refuse rows (λ x. x ≡ next) (λ x y. x ≡ y) (λ n x y e f. e ∙ sym f) (λ x y e f. e ∙ sym f) a b p q

-- what every refusal leaves as it was, and `next` too, is as it was
pub answers_keep : {A B : Type 0} (part : A → B) (refuse : ℕ → A) (rows : List (Row ℕ)) (next a : A) (b : B) → ((n : ℕ) → part (refuse n) ≡ b) → part next ≡ b
    → Answers refuse rows next a → part a ≡ b
answers_keep part refuse [] next a b r d g = ap part g ∙ d
answers_keep part refuse (x ∷ rows) next a b r d (inl g) = ap part g.1 ∙ r x.no
answers_keep part refuse (x ∷ rows) next a b r d (inr g) = answers_keep part refuse rows next a b r d g.1
