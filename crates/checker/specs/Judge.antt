-- What the checker's steps say of an image, and that a verdict which fits an image is the only one:
-- `Sound` exactly for the sound images. Assumes nothing.
use Rattle.std.specs.Prelude.{◌≡◌, refl, List, ℕ, zero, suc, ◌≤◌, length}
use Rattle.std.proofs.Common.{sym, ap, ◌∙◌, subst, arith}
use Rattle.std.proofs.Math.Decide.{dec_lt}
use borrow.Rule.Slice.PartMut.{put_mid}
use Rattle.base.specs.Bytes.{Bytes, bytes, bytes_mid, put, put_over}
use Rattle.superblock.specs.declared.Super.{Super}
use Rattle.superblock.specs.Geometry.{GoodNumbers, super_of}
use Rattle.superblock.specs.Disk.{disk}
use Rattle.rules.specs.declared.Rule.{Rule}
use Rattle.rules.specs.declared.Rule.TheVariants.{S1, S2, S3, S4, S5, S6, S7}
use Rattle.rules.specs.declared.Verdict.{Verdict}
use Rattle.rules.specs.declared.Verdict.TheVariants.{Sound, Unsound, Refused}
use Rattle.rules.specs.Rules as rules
use Rattle.rules.specs.Sound as sound
use Rattle.rules.specs.Verdicts.{Keeps, number, FirstBroken, Says}

-- a verdict of an image, of whatever memory
abbrev pub Judged : List ℕ → Verdict → Type 0
Judged image Sound = sound.Sound image
Judged image (Unsound r) = FirstBroken image r
Judged image (Refused n) = ⊥

-- s has the image's numbers, and S1 to S4 hold
pub record Lower (image : List ℕ) (s : Super) : Type 0 where
  pub same : s ≡ super_of (bytes image)
  pub s1 : rules.S1 image
  pub s2 : rules.S2 (bytes image)
  pub s3 : rules.S3 s (disk s (bytes image))
  pub s4 : rules.S4 s (disk s (bytes image))

-- its numbers are good, as a card of them asks
pub good_numbers : (l : List ℕ) (s : Super) (w : Lower l s) → GoodNumbers s
good_numbers l s w = subst (λ (x : Super). GoodNumbers x) (sym w.same) w.s1.good.numbers

-- ---- the call

-- the part that was lent comes back as p, and is cleared
pub says_of : (l work p next : List ℕ) (v : Verdict) → Judged l v → 65536 ≤ length work → length p ≡ 65536
    → bytes next ≡ put (bytes (put_mid 0 65536 work p)) 0 65536 (λ k. 0) → Says l work next v
says_of l work p next v j k e c = go v j
  where
    zero_again : bytes next ≡ put (bytes work) 0 65536 (λ k. 0)
    zero_again = c ∙ ap (λ (x : Bytes). put x 0 65536 (λ k. 0)) (bytes_mid work p 0 65536 e (omega arith)) ∙ put_over (bytes work) 0 65536 (bytes p) (λ k. 0)

    go : (v : Verdict) → Judged l v → Says l work next v
    go Sound j = (k, j, zero_again)
    go (Unsound r) j = (k, j, zero_again)
    go (Refused n) j = absurd j

-- ---- the verdict is fixed

-- a sound image keeps each rule, and an image that keeps each is sound
pub keeps : (l : List ℕ) → sound.Sound l → (r : Rule) → Keeps l r
keeps l h S1 = h.s1
keeps l h S2 = h.s2
keeps l h S3 = h.s3
keeps l h S4 = h.s4
keeps l h S5 = h.s5
keeps l h S6 = h.s6
keeps l h S7 = h.s7

rule_at : ℕ → Rule
rule_at zero = S1
rule_at (suc zero) = S1
rule_at (suc (suc zero)) = S2
rule_at (suc (suc (suc zero))) = S3
rule_at (suc (suc (suc (suc zero)))) = S4
rule_at (suc (suc (suc (suc (suc zero))))) = S5
rule_at (suc (suc (suc (suc (suc (suc zero)))))) = S6
rule_at (suc (suc (suc (suc (suc (suc (suc n))))))) = S7

rule_back : (r : Rule) → rule_at (number r) ≡ r
unfolding rule_at
rule_back S1 = refl
rule_back S2 = refl
rule_back S3 = refl
rule_back S4 = refl
rule_back S5 = refl
rule_back S6 = refl
rule_back S7 = refl

pub first_unique : (l : List ℕ) (p q : Rule) → FirstBroken l p → FirstBroken l q → p ≡ q
first_unique l p q a b = elim (dec_lt (number p) (number q)) [
  | yes h ↦ absurd (a.broken (b.before p h))
  | no h ↦ elim (dec_lt (number q) (number p)) [
    | yes k ↦ absurd (b.broken (a.before q k))
    | no k ↦ let e : number p ≡ number q = omega arith in sym (rule_back p) ∙ ap rule_at e ∙ rule_back q
  ]
]

-- two verdicts that fit one image and one length of lent memory are the same
pub says_unique : (l work next after : List ℕ) (v w : Verdict) → Says l work next v → Says l work after w → v ≡ w
says_unique l m n o Sound Sound a b = refl
says_unique l m n o Sound (Unsound r) a b = absurd (b.1.broken (keeps l a.1 r))
says_unique l m n o Sound (Refused r) a b = absurd (omega (arith, a.0, b.0))
says_unique l m n o (Unsound r) Sound a b = absurd (a.1.broken (keeps l b.1 r))
says_unique l m n o (Unsound r) (Unsound q) a b = ap Unsound (first_unique l r q a.1 b.1)
says_unique l m n o (Unsound r) (Refused q) a b = absurd (omega (arith, a.0, b.0))
says_unique l m n o (Refused r) Sound a b = absurd (omega (arith, a.0, b.0))
says_unique l m n o (Refused r) (Unsound q) a b = absurd (omega (arith, a.0, b.0))
says_unique l m n o (Refused r) (Refused q) a b = ap Refused (a.1 ∙ sym b.1)

-- a sound image is accepted, and only a sound one is
pub sound_accepted : (l work next : List ℕ) (v : Verdict) → 65536 ≤ length work → sound.Sound l → Says l work next v → v ≡ Sound
sound_accepted l m n Sound k a h = refl
sound_accepted l m n (Unsound r) k a h = absurd (h.1.broken (keeps l a r))
sound_accepted l m n (Refused r) k a h = absurd (omega (arith, h.0))

pub accepted_sound : (l work next : List ℕ) → Says l work next Sound → sound.Sound l
accepted_sound l m n h = h.1
