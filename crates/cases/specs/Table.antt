-- A table of cases: what a definition gives, and what is expected. One computed test passes over the whole table, and one law turns it
-- into the equation of each row. Assumes nothing.
use Rattle.std.specs.Prelude.{◌≡◌, refl, Bool, true, false, ◌&&◌, List, [], ◌∷◌, ℕ, zero, suc, eqb}
use Rattle.std.proofs.Common.{arith, eqb-true}

-- a case by its number: the numbers that the definitions give, and those that are expected
pub record Case : Type 0 where
  pub no : ℕ
  pub gives : List ℕ
  pub says : List ℕ

abbrev pub case : ℕ → List ℕ → List ℕ → Case
case n a b = record { no = n; gives = a; says = b }

-- a fact as a number: 1 where it holds, 0 where it does not
abbrev pub told : {P : Type 0} → Dec P → ℕ
told (yes p) = 1
told (no n) = 0

-- two lists are the same
abbrev pub same : List ℕ → List ℕ → Bool
same [] [] = true
same [] (y ∷ ys) = false
same (x ∷ xs) [] = false
same (x ∷ xs) (y ∷ ys) = eqb x y && same xs ys

-- the test of a whole table
abbrev pub right : List Case → Bool
right [] = true
right (c ∷ cs) = same c.gives c.says && right cs

-- row k of a table; past its end a row that says nothing
abbrev pub row : List Case → ℕ → Case
row [] k = case 0 [] []
row (c ∷ cs) zero = c
row (c ∷ cs) (suc k) = row cs k

no_way : {A : Type 0} → ◌≡◌ {A = Bool} false true → A
no_way e = let z : ◌≡◌ {A = ℕ} 0 1 = cc in absurd (omega arith)

left : (a b : Bool) → a && b ≡ true → a ≡ true
left true b e = refl
left false b e = e

rest : (a b : Bool) → a && b ≡ true → b ≡ true
rest true b e = e
rest false b e = no_way e

same_is : (xs ys : List ℕ) → same xs ys ≡ true → xs ≡ ys
same_is [] [] e = refl
same_is [] (y ∷ ys) e = no_way e
same_is (x ∷ xs) [] e = no_way e
same_is (x ∷ xs) (y ∷ ys) e =
    let h : x ≡ y = eqb-true x y (left (eqb x y) (same xs ys) e) in
    let t : xs ≡ ys = same_is xs ys (rest (eqb x y) (same xs ys) e) in
    λ i. h i ∷ t i

-- every row of a table that passes the test says what is so
pub at : (cs : List Case) → right cs ≡ true → (k : ℕ) → (row cs k).gives ≡ (row cs k).says
at [] e k = refl
at (c ∷ cs) e zero = same_is c.gives c.says (left (same c.gives c.says) (right cs) e)
at (c ∷ cs) e (suc k) = at cs (rest (same c.gives c.says) (right cs) e) k

-- what the number of a fact says
pub told-holds : {P : Type 0} (d : Dec P) → told d ≡ 1 → P
told-holds (yes p) e = p
told-holds (no n) e = absurd (omega arith)

pub told_fails : {P : Type 0} (d : Dec P) → told d ≡ 0 → P → ⊥
told_fails (yes p) e q = omega arith
told_fails (no n) e q = n q
