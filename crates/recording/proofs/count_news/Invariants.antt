-- `recording::count_news` meets its contract: the count of those passed. Assumes nothing.
use Rattle.recording.specs.Record.{Counted}
use Rattle.recording.proofs.count_news.Given as goal

abbrev pub invariant-loop-i : goal.invariant-loop-i
invariant-loop-i l = Counted l.news l.homes l.recorded l.touched l.i
