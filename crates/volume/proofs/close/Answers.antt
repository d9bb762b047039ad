-- `volume::close` meets its contract: row 1, row 4, or `close_done`. Assumes nothing.
use mathlib.Core.Path.{ap, refl, ◌∙◌}
use mathlib.Core.Logic.{inl, inr}
use Rattle.base.specs.Decide.{no_by, yes_by}
use Rattle.volume.specs.Answers.{left}
use Rattle.volume.specs.Inside.{handle_count, close_done}
use Rattle.volume.proofs.close.Goals as goal

pub returns-then-not-whole : goal.returns-then-not-whole
returns-then-not-whole c = inl (no_by c.whole.ensures c.if-not-whole.true, ap left c.refused.ensures)

pub returns-then-not-good_handle : goal.returns-then-not-good_handle
returns-then-not-good_handle c = inr (λ f. f (yes_by c.whole.ensures c.if-not-whole.false), inl (no_by c.good_handle.ensures c.if-not-good_handle.true, ap left c.refused-then-not-good_handle.ensures))

pub overflow_sub-w : goal.overflow_sub-w
overflow_sub-w c = handle_count _ _ _ _ _ (yes_by c.good_handle.ensures c.if-not-good_handle.false) refl refl

pub returns : goal.returns
returns c = inr (λ f. f (yes_by c.whole.ensures c.if-not-whole.false), inr (λ f. f (yes_by c.good_handle.ensures c.if-not-good_handle.false), ap left c.done.ensures ∙ close_done c.args.v c.args.h _ _ _ refl refl refl))
