-- "Coordinates sent" of the six blocks of a frame, by computation: a channel that joins late, one that comes back, coupling that pauses.
-- Assumes nothing.
use mathlib.Core.Bool.{Bool, true, false}
use mathlib.Core.List.{List, [], ◌∷◌}
use mathlib.Core.Path.{◌≡◌, refl}
use lib.ListN.{replicate}
use Rattle.ac3.specs.Sent.{Sending, every, some, coordinates_sent}

-- a block with these coupled channels, and with cplcoe 1 of these
abbrev of : (chincpl cplcoe : List Bool) → Sending
of chincpl cplcoe = record { chincpl = chincpl; cplcoe = cplcoe }

-- no channel; 0 and 1; 3 as well; 3 alone
abbrev none : List Bool
none = replicate 5 false

abbrev two : List Bool
two = true ∷ true ∷ false ∷ false ∷ false ∷ []

abbrev three : List Bool
three = true ∷ true ∷ false ∷ true ∷ false ∷ []

abbrev third : List Bool
third = false ∷ false ∷ false ∷ true ∷ false ∷ []

-- channel 3 joins in block 2, with cplcoe 0: no, although the first coupled block has all its channels' coordinates
joins_late : coordinates_sent (of two two ∷ of two none ∷ replicate 4 (of three none)) ≡ false
unfolding coordinates_sent every some
joins_late = refl

-- with cplcoe 1 it has them there; in the block after that is too late
joins_late_with_them : coordinates_sent (of two two ∷ of two none ∷ of three third ∷ replicate 3 (of three none)) ≡ true
unfolding coordinates_sent every some
joins_late_with_them = refl

one_block_too_late : coordinates_sent (of two two ∷ of two none ∷ of three none ∷ of three third ∷ replicate 2 (of three none)) ≡ false
unfolding coordinates_sent every some
one_block_too_late = refl

-- it leaves coupling and comes back with cplcoe 0: it had them while it was coupled
comes_back : coordinates_sent (of three three ∷ of two none ∷ of two two ∷ replicate 3 (of three none)) ≡ true
unfolding coordinates_sent every some
comes_back = refl

-- cplcoe of a channel that is not coupled counts for nothing
not_while_coupled : coordinates_sent (of two three ∷ replicate 5 (of three none)) ≡ false
unfolding coordinates_sent every some
not_while_coupled = refl

-- coupling goes off and on again; the second time with a channel more
pauses : coordinates_sent (of two two ∷ of two none ∷ of none none ∷ of none none ∷ replicate 2 (of two none)) ≡ true
unfolding coordinates_sent every some
pauses = refl

pauses_and_grows : coordinates_sent (of two two ∷ of two none ∷ of none none ∷ of none none ∷ replicate 2 (of three none)) ≡ false
unfolding coordinates_sent every some
pauses_and_grows = refl

-- cplcoe 0 in the first coupled block and 1 in the next; and the same where blocks without coupling come first
first_without : coordinates_sent (of two none ∷ of two two ∷ replicate 4 (of two none)) ≡ false
unfolding coordinates_sent every some
first_without = refl

starts_later : coordinates_sent (of none none ∷ of none none ∷ of two two ∷ replicate 3 (of two none)) ≡ true
unfolding coordinates_sent every some
starts_later = refl

-- no coupling at all
uncoupled : coordinates_sent (replicate 6 (of none none)) ≡ true
unfolding coordinates_sent every some
uncoupled = refl

-- acmod 0: its two channels are coupled like any others, and the second programme's has none
two_programmes : coordinates_sent (of two two ∷ replicate 5 (of two none)) ≡ true
unfolding coordinates_sent every some
two_programmes = refl

second_programme_without : coordinates_sent (replicate 6 (of two (true ∷ replicate 4 false))) ≡ false
unfolding coordinates_sent every some
second_programme_without = refl
