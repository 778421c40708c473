-- What is told of a header and of a frame that were read from their start: the answers to a call. Assumes nothing.
use mathlib.Core.List.{List, []}
use mathlib.Core.Path.{◌≡◌, refl, ap, ◌∙◌}
use Prim.Native.Nat.{ℕ}
use lib.IntN.{ℤ}
use Rattle.std.specs.Prelude.{Result}
use Rattle.syntax.specs.declared.Reader.{Reader}
use Rattle.syntax.specs.declared.Refusal.{Refusal}
use Rattle.syntax.specs.Grammar.{Grammar, ◌>>=◌}
use Rattle.syntax.specs.Reads.{place, outcome, Reads}
use Rattle.syntax.specs.Place.{except, exec, fresh}
use Rattle.header.specs.Header.{syncinfo, header}
use Rattle.ac3.specs.Apart.{no_header, headed}
use Rattle.ac3.specs.Frame.{syncframe, no_summary, answered}

-- what was read from the start of a frame is what its grammar gives there
pub read_from_start : {A : Type 0} {g : Grammar A} {s : List ℕ} {room : List ℤ} {c d : Reader} {r : Result A Refusal}
    → place c ≡ fresh room → c.bytes.now ≡ s → Reads g c r d → outcome r (place d) ≡ exec g s (fresh room)
read_from_start {g = g} {room = room} {c = c} start bytes h = h.same ∙ ap (exec g c.bytes.now) start ∙ ap (λ b. exec g b (fresh room)) bytes

-- nothing is too short
pub told_nothing : (room : List ℤ)
    → (record { refusal = 1; rows = 0; bit = 0; name = 0; block = 255; summary = no_summary }, room) ≡ answered (exec syncframe [] (fresh room))
unfolding answered exec except syncframe header syncinfo ◌>>=◌
told_nothing room = refl

pub headed_nothing : (room : List ℤ)
    → (record { refusal = 1; rows = 0; bit = 0; name = 0; block = 255; header = no_header }, room) ≡ headed (exec header [] (fresh room))
unfolding headed exec except header syncinfo ◌>>=◌
headed_nothing room = refl
