-- What format gives: its table of refusals. Numbers that are not good, or an image of another length, get 2 and the image is untouched.
-- Assumes nothing.
use Rattle.std.specs.Prelude.{◌≡◌, List, [], ◌∷◌, ℕ, ◌*◌, length, Result, Ok, Err}
use Rattle.std.proofs.Common.{sym, ap, ◌∙◌, inl, inr, ext_get_or}
use Rattle.base.specs.Bytes.{Bytes, bytes}
use Rattle.base.specs.Rows.{Row, row, Gives, gives_one}
use Rattle.base.specs.Refusals.{number}
use Rattle.base.specs.declared.Refusal.{Refusal}
use Rattle.base.specs.declared.Refusal.TheVariants.{BadCall}
use Rattle.superblock.specs.Geometry.{GoodNumbers}
use Rattle.format.specs.Formatted.{numbers_of, formatted}

-- the number of an answer, 0 where the call is done
abbrev pub answer_number : Result Unit Refusal → ℕ
answer_number (Ok d) = 0
answer_number (Err r) = number r

-- the answer, and what the image holds next
abbrev pub Left : Type 0
Left = Result Unit Refusal × List ℕ

-- a refusal leaves the image as it was
abbrev pub refused : List ℕ → Refusal → Left
refused image n = (Err n, image)

abbrev pub rows : List ℕ → ℕ → ℕ → ℕ → List (Row Refusal)
rows image size ninodes nlog =
    row BadCall (GoodNumbers (numbers_of size ninodes nlog) → ⊥)
    ∷ row BadCall (length image ≡ size * 1024 → ⊥)
    ∷ []

-- the image is the formatted one, and as long as it was
pub record Written (size ninodes nlog : ℕ) (l : Left) : Type 0 where
  pub answer : l.0 ≡ Ok tt
  pub image : bytes l.1 ≡ formatted size ninodes nlog
  pub whole : length l.1 ≡ size * 1024

-- all that format may leave
abbrev pub FormatGives : List ℕ → ℕ → ℕ → ℕ → Left → Type 0
FormatGives image size ninodes nlog = Gives (refused image) (rows image size ninodes nlog) (Written size ninodes nlog)

pair : (a b : Left) → a.0 ≡ b.0 → a.1 ≡ b.1 → a ≡ b
pair a b e f = λ i. (e i, f i)

-- the answer and the image are fixed
pub format_one : (image : List ℕ) (size ninodes nlog : ℕ) (a b : Left) → FormatGives image size ninodes nlog a → FormatGives image size ninodes nlog b → a ≡ b
format_one image size ninodes nlog =
    gives_one (refused image) (rows image size ninodes nlog) (Written size ninodes nlog) ◌≡◌
    (λ n a b e f. e ∙ sym f)
    (λ a b p q.
    pair a b (p.answer ∙ sym q.answer)
    (ext_get_or 0 a.1 b.1 (p.whole ∙ sym q.whole) (λ k _. ap (λ (d : Bytes). d k) (p.image ∙ sym q.image))))

-- the refusal, by its number: 2 and the image untouched where the numbers are not good or the length is another, and a fresh card else
pub bad_gets_two : (image : List ℕ) (size ninodes nlog : ℕ) (l : Left) → FormatGives image size ninodes nlog l
    → (GoodNumbers (numbers_of size ninodes nlog) → length image ≡ size * 1024 → ⊥) → (answer_number l.0 ≡ 2) × (l.1 ≡ image)
bad_gets_two image size ninodes nlog l (inl g) bad = (ap (λ (x : Left). answer_number x.0) g.1, ap (λ (x : Left). x.1) g.1)
bad_gets_two image size ninodes nlog l (inr (n, inl g)) bad = (ap (λ (x : Left). answer_number x.0) g.1, ap (λ (x : Left). x.1) g.1)
bad_gets_two image size ninodes nlog l (inr (n, inr (m, w))) bad = absurd (n (λ g. m (λ e. bad g e)))

pub good_is_written : (image : List ℕ) (size ninodes nlog : ℕ) (l : Left) → FormatGives image size ninodes nlog l
    → GoodNumbers (numbers_of size ninodes nlog) → length image ≡ size * 1024 → Written size ninodes nlog l
good_is_written image size ninodes nlog l (inl g) ok e = absurd (g.0 ok)
good_is_written image size ninodes nlog l (inr (n, inl g)) ok e = absurd (g.0 e)
good_is_written image size ninodes nlog l (inr (n, inr (m, w))) ok e = w
