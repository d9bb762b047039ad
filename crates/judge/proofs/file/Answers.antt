-- `judge::file` meets its contract: the file's rows, then the place's (`file_stops`, `past_end`, `too_large`, `writable`). Assumes nothing.
use Rattle.judge.specs.Rows.{past_end, too_large, writable}
use Rattle.judge.proofs.file.Goals as goal

pub returns-then-f-offset : goal.returns-then-f-offset
returns-then-f-offset c = past_end c.args.s _ _ c.args.offset c.args.count _ c.fit_file.ensures _ c.in_ok-f.was c.requires.1 c.requires.2 c.if-f-offset.true

pub returns-then-offset-count-gt274432 : goal.returns-then-offset-count-gt274432
returns-then-offset-count-gt274432 c = too_large c.args.s _ _ c.args.offset c.args.count _ c.fit_file.ensures _ c.in_ok-f.was c.requires.1 c.requires.2 c.if-f-offset.false c.if-offset-count-gt274432.true

pub returns : goal.returns
returns c = writable c.args.s _ _ c.args.offset c.args.count _ c.fit_file.ensures _ c.in_ok-f.was c.requires.1 c.requires.2 c.if-f-offset.false c.if-offset-count-gt274432.false
