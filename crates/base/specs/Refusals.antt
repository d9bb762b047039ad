-- The number of each refusal. 19, cut, is an answer of its own and no refusal: it leaves writes on the card.
use Rattle.std.specs.Prelude.{ℕ}
use Rattle.base.specs.declared.Refusal.{Refusal}
use Rattle.base.specs.declared.Refusal.TheVariants.{NotWhole, BadCall, NoTransaction, BadHandle, Unfit, NotDirectory, NoName, WrongKind, PastEnd, TooLarge, NoSlot, NoInode, NoBlock, NoLogRoom, Busy, NoBuffer, BadSuper, BadLog}

-- a refusal's number
abbrev pub number : Refusal → ℕ
number NotWhole = 1
number BadCall = 2
number NoTransaction = 3
number BadHandle = 4
number Unfit = 5
number NotDirectory = 6
number NoName = 7
number WrongKind = 8
number PastEnd = 9
number TooLarge = 10
number NoSlot = 11
number NoInode = 12
number NoBlock = 13
number NoLogRoom = 14
number Busy = 15
number NoBuffer = 16
number BadSuper = 17
number BadLog = 18
