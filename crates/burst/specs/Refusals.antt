-- The refusals of bursts.
use Rattle.std.specs.Prelude.{Bool, true, false, ℕ}
use Rattle.burst.specs.declared.outcome.Refusal.{Refusal}
use Rattle.burst.specs.declared.outcome.Refusal.TheVariants.{Frame, NoRoom, NotABurst, WrongWords, WrongLength, NotZero, OtherMode}

-- the number that is told of one: of the frame's own, that of the frame's
abbrev pub number : Refusal → ℕ
number NotABurst = 30
number WrongWords = 31
number (Frame n) = n
number WrongLength = 32
number NotZero = 33
number OtherMode = 34
number NoRoom = 28

-- given before the frame was looked at, so that no row was written
abbrev pub unread : Refusal → Bool
unread NotABurst = true
unread WrongWords = true
unread (Frame n) = false
unread WrongLength = false
unread NotZero = false
unread OtherMode = false
unread NoRoom = false
