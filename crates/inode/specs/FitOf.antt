-- Fitness as an answer: `fit_of` is true exactly for a fit inode (`fit_of_decides`), so that a definition can go by it. Assumes nothing.
use Rattle.std.specs.Prelude.{◌≡◌, refl, Bool, true, false, cond, ◌&&◌, ℕ, ◌%◌, ◌≤◌, ◌<◌, ltb, leb, eqb}
use Rattle.std.proofs.Common.{sym, ◌∙◌, arith, lt-ltb, le-ltb}
use Rattle.std.proofs.Math.Decide.{dec_lt}
use Rattle.base.specs.First.{all, all_yes, all_no}
use Rattle.base.specs.Decide.{Decides, so, not_so, alike, never, eq_decides, lt_decides, le_decides}
use Rattle.superblock.specs.declared.Super.{Super}
use Rattle.superblock.specs.Geometry.{data_start}
use Rattle.superblock.specs.Node.{Node}
use Rattle.superblock.specs.Disk.{Disk}
use Rattle.rules.specs.Fit.{Shape, Taken, Fit, slots, slot}

-- kind and size go together
unfoldable pub shape_of : ℕ → ℕ → Bool
shape_of k s = leb 1 k && leb k 3 && leb s 274432 && cond (eqb k 1) (leb 32 s && eqb (s % 16) 0) true && cond (eqb k 3) (eqb s 0) true

-- b is a data block whose bit is set
unfoldable pub taken_of : Super → Disk → ℕ → Bool
taken_of g v b = leb (data_start g) b && ltb b g.size && eqb (v.bit b) 1

-- of n slots in use: slot p holds such a block where it is in use, and 0 where it is not
unfoldable pub slot_fit : Super → Disk → Node → ℕ → ℕ → Bool
slot_fit g v r n p = cond (ltb p n) (taken_of g v (slot v.mem r p)) (eqb (slot v.mem r p) 0)

-- the inode r is fit
unfoldable pub fit_of : Super → Disk → Node → Bool
fit_of g v r = shape_of r.kind r.size && all (slot_fit g v r (slots r.size)) 269

-- ---- what they decide

both : {a b : Bool} {P Q : Type 0} → Decides a P → Decides b Q → Decides (a && b) (P × Q)
both {a = a} {b = b} {P = P} {Q = Q} p q = go a b p q
  where
    go : (a b : Bool) → Decides a P → Decides b Q → Decides (a && b) (P × Q)
    go true true p q = so (p.true_is refl, q.true_is refl)
    go true false p q = not_so λ o. q.false_is refl o.1
    go false b p q = not_so λ o. p.false_is refl o.0

if_so : {a b : Bool} {P Q : Type 0} → Decides a P → Decides b Q → Decides (cond a b true) (P → Q)
if_so {a = a} {b = b} {P = P} {Q = Q} p q = go a p
  where
    go : (a : Bool) → Decides a P → Decides (cond a b true) (P → Q)
    go true p = alike (λ o _. o) (λ f. f (p.true_is refl)) q
    go false p = so (λ o. absurd (p.false_is refl o))

every : (p : ℕ → Bool) (P : ℕ → Type 0) (n : ℕ) → ((k : ℕ) → Decides (p k) (P k)) → Decides (all p n) ((k : ℕ) → k < n → P k)
every p P n d = record { true_is = λ e k l. go e k l (p k) refl; false_is = λ e f. never (sym e ∙ all_yes p n (λ k l. yes_it k (f k l) (p k) refl)) }
  where
    go : all p n ≡ true → (k : ℕ) → k < n → (b : Bool) → p k ≡ b → P k
    go e k l true q = (d k).true_is q
    go e k l false q = never (sym (all_no p n k l q) ∙ e)

    yes_it : (k : ℕ) → P k → (b : Bool) → p k ≡ b → p k ≡ true
    yes_it k o true q = q
    yes_it k o false q = absurd ((d k).false_is q o)

pub shape_of_decides : (k s : ℕ) → Decides (shape_of k s) (Shape k s)
unfolding shape_of
shape_of_decides k s = alike
    (λ o. record { used = o.0.0.0.0; known = o.0.0.0.1; small = o.0.0.1; dir = o.0.1; dev = o.1 })
    (λ o. ((((o.used, o.known), o.small), o.dir), o.dev))
    (both (both (both (both (le_decides 1 k) (le_decides k 3)) (le_decides s 274432)) (if_so (eq_decides k 1) (both (le_decides 32 s) (eq_decides (s % 16) 0)))) (if_so (eq_decides k 3) (eq_decides s 0)))

pub taken_of_decides : (g : Super) (v : Disk) (b : ℕ) → Decides (taken_of g v b) (Taken g v b)
unfolding taken_of
taken_of_decides g v b = alike
    (λ o. record { low = o.0.0; high = o.0.1; is_set = o.1 })
    (λ o. ((o.low, o.high), o.is_set))
    (both (both (le_decides (data_start g) b) (lt_decides b g.size)) (eq_decides (v.bit b) 1))

-- slot p of n in use is as it should be
record Slot (g : Super) (v : Disk) (r : Node) (n p : ℕ) : Type 0 where
  pub first : p < n → Taken g v (slot v.mem r p)
  pub rest : n ≤ p → slot v.mem r p ≡ 0

slot_decides : (g : Super) (v : Disk) (r : Node) (n p : ℕ) → Decides (slot_fit g v r n p) (Slot g v r n p)
unfolding slot_fit
slot_decides g v r n p = elim (dec_lt p n) [
  | yes l ↦ rw (lt-ltb p n l) (alike (λ t. record { first = λ _. t; rest = λ m. absurd (omega arith) }) (λ o. o.first l) (taken_of_decides g v (slot v.mem r p)))
  | no l ↦ rw (le-ltb p n (omega arith)) (alike (λ e. record { first = λ m. absurd (l m); rest = λ _. e }) (λ o. o.rest (omega arith)) (eq_decides (slot v.mem r p) 0))
]

pub fit_of_decides : (g : Super) (v : Disk) (r : Node) → Decides (fit_of g v r) (Fit g v r)
unfolding fit_of
fit_of_decides g v r = alike
    (λ o. record { shape = o.0; first = λ p l. (o.1 p (omega (arith, o.0.small))).first l; rest = λ p l h. (o.1 p h).rest l })
    (λ f. (f.shape, λ p l. record { first = λ h. f.first p h; rest = λ h. f.rest p h l }))
    (both (shape_of_decides r.kind r.size) (every (slot_fit g v r (slots r.size)) (Slot g v r (slots r.size)) 269 (slot_decides g v r (slots r.size))))

-- two answers to one question
pub decides_same : {P : Type 0} (a b : Bool) → Decides a P → Decides b P → a ≡ b
decides_same true true p q = refl
decides_same true false p q = absurd (q.false_is refl (p.true_is refl))
decides_same false true p q = absurd (p.false_is refl (q.true_is refl))
decides_same false false p q = refl
