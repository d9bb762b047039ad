-- S5, byte by byte and entry by entry, as the code tests it. Assumes nothing.
use Rattle.std.specs.Prelude.{◌≡◌, refl, ◌⊎◌, ◌≢◌, Bool, true, ℕ, zero, suc, ◌+◌, ◌-◌, ◌*◌, ◌/◌, ◌≤◌, ◌<◌}
use Rattle.std.proofs.Common.{sym, ◌∙◌, inl, inr, arith}
use Rattle.std.proofs.Math.Path.{ap}
use Rattle.std.proofs.Math.Decide.{dec_lt, ℕ_discrete}
use Rattle.superblock.specs.declared.Super.{Super}
use Rattle.base.specs.Bytes.{Bytes}
use Rattle.base.specs.Number.{get, le_cong}
use Rattle.superblock.specs.Disk.{Disk, disk}
use Rattle.rules.specs.Fit.{Fit}
use Rattle.rules.specs.Tree.{Tree, tree, num_of, name_of, dots, SameName, GoodName}
use Rattle.rules.specs.Rules.{Dir, S3, S5}
use Rattle.base.specs.Decide.{Decides, so, alike}
use Rattle.reads.specs.Read.{Is, Ends, Spot, ends-here, kind_in}

-- the name of the entry at address a
abbrev pub name_at : Bytes → ℕ → Bytes
name_at d a = λ t. d (a + 2 + t)

-- ---- names

-- byte t of a good name
pub record LetterOk (f : ℕ → ℕ) (t : ℕ) : Type 0 where
  pub no_slash : f t ≢ 47
  pub some : t ≡ 0 → f t ≢ 0
  pub after : 1 ≤ t → f (t - 1) ≡ 0 → f t ≡ 0

module _ (f : ℕ → ℕ) where
  pub name_to : ((t : ℕ) → t < 14 → LetterOk f t) → GoodName f
  name_to h = record {
    some = (h 0 (omega arith)).some refl;
    no_slash = λ t l. (h t l).no_slash;
    padded = λ s t l m z. down t s l m z;
  }
    where
      down : (t s : ℕ) → s < t → t < 14 → f s ≡ 0 → f t ≡ 0
      down zero s l m z = absurd (omega arith)
      down (suc t) s l m z =
          let e : suc t - 1 ≡ t = omega arith in
          let p : f t ≡ 0 = elim (ℕ_discrete s t) [ yes q ↦ rw (← q) z | no q ↦ down t s (omega arith) (omega arith) z ] in
          (h (suc t) m).after (omega arith) (rw e p)

  pub name_from : GoodName f → (t : ℕ) → t < 14 → LetterOk f t
  name_from n t l = record {
    no_slash = n.no_slash t l;
    some = λ e. rw e n.some;
    after = λ k z. n.padded (t - 1) t (omega arith) l z;
  }

-- ---- entries

-- directory i has n entries, "." and ".." with them
pub record Listing (v : Disk) (i n : ℕ) : Type 0 where
  pub dir : (v.ino i).kind ≡ 1
  pub ends : Ends v i n
  pub room : 16 * n ≤ (v.ino i).size
  pub two : 2 ≤ n

-- no live entry before k has its name
abbrev pub FreshName : Tree → ℕ → ℕ → Type 0
FreshName t i k = (l : ℕ) → l < k → t.num i l ≢ 0 → SameName (t.name i k) (t.name i l) → ⊥

pub record EntryOk (t : Tree) (i k : ℕ) : Type 0 where
  pub live : 2 ≤ k → t.num i k ≢ 0 → 1 ≤ t.kind (t.num i k)
  pub named : 2 ≤ k → t.num i k ≢ 0 → GoodName (t.name i k)
  pub fresh : t.num i k ≢ 0 → FreshName t i k

-- entry l, at b, is free or has another name than the one at a
abbrev pub Differs : Bytes → ℕ → ℕ → Type 0
Differs d a b = get d b 2 ≢ 0 → SameName (name_at d a) (name_at d b) → ⊥

-- same names have the same number in the four bytes at o
pub words_differ : (d : Bytes) (a b o p q : ℕ) → o + 4 ≤ 14 → p ≡ a + 2 + o → q ≡ b + 2 + o → (get d p 4 ≡ get d q 4 → ⊥) → Decides true (Differs d a b)
words_differ d a b o p q l e h n = so (λ _ s. n (rw (e, h) (le_cong 4 (λ k. d (a + 2 + o + k)) (λ k. d (b + 2 + o + k)) (λ k m. ap d (omega arith) ∙ s (o + k) (omega arith) ∙ ap d (omega arith)))))

-- two entries at their addresses
pub differs_at : {d : Bytes} {v : Disk} {i k l a b : ℕ} {r : Bool} → Spot d v i k a → Spot d v i l b → Decides r (Differs d a b) → Decides r (num_of v i l ≢ 0 → SameName (name_of v i k) (name_of v i l) → ⊥)
differs_at p q x = alike
    (λ h z s. h (λ e. z (sym q.num ∙ e)) (λ t m. p.name t m ∙ s t m ∙ sym (q.name t m)))
    (λ h z s. h (λ e. z (q.num ∙ e)) (λ t m. sym (p.name t m) ∙ s t m ∙ q.name t m))
    x

-- a test of the name at a is one of entry k's
module _ (d : Bytes) (v : Disk) (i k a : ℕ) (p : Spot d v i k a) (r : Bool) where
  pub dots-at : (n : ℕ) → Decides r (SameName (name_at d a) (dots n)) → Decides r (SameName (name_of v i k) (dots n))
  dots-at n x = alike (λ h t m. sym (p.name t m) ∙ h t m) (λ h t m. p.name t m ∙ h t m) x

  pub good_at : Decides r ((t : ℕ) → t < 14 → LetterOk (name_at d a) t) → Decides r (GoodName (name_of v i k))
  good_at x = alike (λ h. moved (name_at d a) (name_of v i k) p.name (name_to (name_at d a) h)) (λ h. name_from (name_at d a) (moved (name_of v i k) (name_at d a) (λ t m. sym (p.name t m)) h)) x
    where
      moved : (f h : Bytes) → SameName f h → GoodName f → GoodName h
      moved f h e n = record {
        some = λ z. n.some (e 0 (omega arith) ∙ z);
        no_slash = λ t m z. n.no_slash t m (e t m ∙ z);
        padded = λ s t l m z. sym (e t m) ∙ n.padded s t l m (e s (omega arith) ∙ z);
      }

module _ (v : Disk) (i k x d : ℕ) (a : Is x (num_of v i k) 65536) (n : x ≡ 0 → ⊥) (f : FreshName (tree v) i k) (l : 2 ≤ k) (b : Is d (v.ino x).kind 65536) where
  used : num_of v i k ≢ 0
  used e = n (a.eq ∙ e)

  same_kind : d ≡ (v.ino (num_of v i k)).kind
  same_kind = b.eq ∙ ap (λ (y : ℕ). (v.ino y).kind) a.eq

  pub entry_name : (r : Bool) → (d ≡ 0 → ⊥) → Decides r (GoodName (name_of v i k)) → Decides r (EntryOk (tree v) i k)
  entry_name r e x₂ = alike
      (λ h. record { live = λ _ _. omega (arith, same_kind); named = λ _ _. h; fresh = λ _. f })
      (λ o. o.named l used) x₂

-- ---- directories

module _ (v : Disk) (i n x : ℕ) (ends : Ends v i n) (a : Is x (num_of v i 0) 65536) (s : x ≡ i) where
  pub dir_entries : (r : Bool) → SameName (name_of v i 0) (dots 1) → SameName (name_of v i 1) (dots 2) → Decides r ((k : ℕ) → k < n → EntryOk (tree v) i k) → Decides r (Dir (tree v) i)
  dir_entries r p q d = alike to from d
    where
      inside : (k : ℕ) → num_of v i k ≢ 0 → k < n
      inside k h = elim (dec_lt k n) [ yes l ↦ l | no l ↦ absurd (h (ends.gone k (omega arith))) ]

      flip : (f g : ℕ → ℕ) → SameName f g → SameName g f
      flip f g h t l = sym (h t l)

      to : ((k : ℕ) → k < n → EntryOk (tree v) i k) → Dir (tree v) i
      to f = record {
        self = sym a.eq ∙ s;
        self_name = p;
        up_name = q;
        live = λ k l h. (f k (inside k h)).live l h;
        named = λ k l h. (f k (inside k h)).named l h;
        once = λ k l hk hl e. elim (dec_lt l k) [
          | yes m ↦ absurd ((f k (inside k hk)).fresh hk l m hl e)
          | no m ↦ elim (dec_lt k l) [ yes m₂ ↦ absurd ((f l (inside l hl)).fresh hl k m₂ hk (flip (name_of v i k) (name_of v i l) e)) | no m₂ ↦ omega arith ]
        ];
      }

      from : Dir (tree v) i → (k : ℕ) → k < n → EntryOk (tree v) i k
      from e k l = record {
        live = e.live k;
        named = e.named k;
        fresh = λ h j m hj same. let z = e.once k j h hj same in omega arith;
      }

module _ (g : Super) (d : Bytes) where
  pub s5_to : ((i : ℕ) → i < g.ninodes → ((disk g d).ino i).kind ≡ 1 → Dir (tree (disk g d)) i) → S5 (tree (disk g d))
  s5_to f = record { each = λ i h. f i (kind_in g d i (omega arith)).1 h }

-- the directory i, of s bytes
pub listing : (g : Super) (v : Disk) (i d s : ℕ) → S3 g v → Is d (v.ino i).kind 65536 → d ≡ 1 → Is s (v.ino i).size 4294967296 → Listing v i (s / 16)
listing g v i d s s3 a e b = record { dir = sym a.eq ∙ e; ends = ends-here v i d a g s s3 e b; room = omega (arith, b.eq); two = least (s3.each i) }
  where
    least : ((v.ino i).kind ≡ 0) ⊎ Fit g v (v.ino i) → 2 ≤ s / 16
    least (inl z) = absurd (omega (arith, a.eq))
    least (inr f) = let q = (f.shape.dir (sym a.eq ∙ e)).0 in omega (arith, b.eq)
