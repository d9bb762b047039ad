-- The 14 bytes of a name: a component is cut at 14 bytes, or padded with zeros, and all 14 are compared. Assumes nothing.
use Rattle.std.specs.Prelude.{◌≡◌, refl, Bool, true, false, List, ℕ, ◌<◌, ◌≤◌, eqb}
use Rattle.std.proofs.Common.{sym, ap, ◌∙◌, arith, eq-eqb, eqb-true}
use Rattle.base.specs.First.{all, all_yes, all_no, all_same}
use Rattle.base.specs.Bytes.{Bytes, bytes, bytes_past}
use Rattle.base.specs.Decide.{Decides, never}
use Rattle.superblock.specs.Entry.{padded, padded_byte, padded-length}

-- the bytes of the name that a component gives: its first 14, and zeros past its end
abbrev pub name_of : List ℕ → Bytes
name_of part = bytes (padded part)

-- two names are the same in all 14 bytes
unfoldable pub same_name : Bytes → Bytes → Bool
same_name f h = all (λ t. eqb (f t) (h t)) 14

-- ---- laws

pub name_past : (part : List ℕ) (t : ℕ) → 14 ≤ t → name_of part t ≡ 0
name_past part t l = sym (bytes_past (padded part) t (omega (arith, padded-length part)))

pub same_yes : (f h : Bytes) → ((t : ℕ) → t < 14 → f t ≡ h t) → same_name f h ≡ true
unfolding same_name
same_yes f h e = all_yes (λ t. eqb (f t) (h t)) 14 (λ t l. eq-eqb (f t) (h t) (e t l))

pub same_cong : (f g h : Bytes) → ((t : ℕ) → t < 14 → f t ≡ g t) → same_name f h ≡ same_name g h
unfolding same_name
same_cong f g h e = all_same (λ t. eqb (f t) (h t)) (λ t. eqb (g t) (h t)) 14 (λ t l. ap (λ (x : ℕ). eqb x (h t)) (e t l))

-- what the test decides
pub same_decides : (f h : Bytes) → Decides (same_name f h) ((t : ℕ) → t < 14 → f t ≡ h t)
unfolding same_name
same_decides f h = record { true_is = λ e t l. go e t l (eqb (f t) (h t)) refl; false_is = λ e p. never (sym e ∙ same_yes f h p) }
  where
    go : same_name f h ≡ true → (t : ℕ) → t < 14 → (b : Bool) → eqb (f t) (h t) ≡ b → f t ≡ h t
    go e t l true q = eqb-true (f t) (h t) q
    go e t l false q = never (sym (all_no (λ t. eqb (f t) (h t)) 14 t l q) ∙ e)

-- a component's own bytes decide it: past its end it reads as 0, as its name does
pub same-padded : (f : Bytes) (part : List ℕ) → all (λ t. eqb (f t) (bytes part t)) 14 ≡ same_name f (name_of part)
unfolding same_name
same-padded f part = all_same (λ t. eqb (f t) (bytes part t)) (λ t. eqb (f t) (name_of part t)) 14 (λ t l. ap (eqb (f t)) (sym (padded_byte part t l)))
