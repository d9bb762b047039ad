-- `judge::fit_file` meets its contract: each answer is a row of the inode that was fetched (`file_refused`, `file_given`). Assumes nothing.
use mathlib.Core.Logic.{inl, inr}
use mathlib.Core.Path.{refl}
use Rattle.base.specs.Decide.{no_by, yes_by}
use Rattle.apart.specs.Apart.{fit_held, apart-disk}
use Rattle.judge.specs.Rows.{file_refused, file_given}
use Rattle.judge.proofs.fit_file.Goals as goal
use Rattle.judge.proofs.fit_file.Goals.{then-not-fit-via-then-not-fit, then-not-fit-via-else-not-fit+then-not-distinct}

pub distinct-requires : goal.distinct-requires
distinct-requires c = fit_held _ c.requires.0.numbers _ _ (yes_by c.fit.ensures c.if-not-fit.false)

pub returns-then-not-fit : goal.returns-then-not-fit
returns-then-not-fit c = file_refused c.args.s _ _ _ c.requires.1 c.requires.2 c.read_inode-f.ensures _ (elim c.then-not-fit.branch [
  | then-not-fit-via-then-not-fit w ↦ inl (no_by c.fit.ensures w.if-not-fit.true, refl)
  | then-not-fit-via-else-not-fit+then-not-distinct w ↦
      let k = yes_by c.fit.ensures w.if-not-fit.false in
      inr (λ f. f k, inl (no_by (apart-disk _ c.requires.0.numbers _ _ k w.distinct.ensures) w.if-not-distinct.true, refl))
])

pub returns-then-not-is : goal.returns-then-not-is
returns-then-not-is c =
    let k = yes_by c.fit.ensures c.if-not-fit.false in
    file_refused c.args.s _ _ _ c.requires.1 c.requires.2 c.read_inode-f.ensures _ (inr (λ f. f k, inr (λ f. f (yes_by (apart-disk _ c.requires.0.numbers _ _ k c.distinct.ensures) c.if-not-distinct.false), inl ((no_by c.is.ensures c.if-not-is.true), refl))))

pub returns : goal.returns
returns c =
    let k = yes_by c.fit.ensures c.if-not-fit.false in
    file_given c.args.s _ _ _ c.requires.1 c.requires.2 c.read_inode-f.ensures (inr (λ f. f k, inr (λ f. f (yes_by (apart-disk _ c.requires.0.numbers _ _ k c.distinct.ensures) c.if-not-distinct.false), inr (λ f. f (yes_by c.is.ensures c.if-not-is.false), refl)))) k
