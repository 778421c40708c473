-- Reading without limits: what a grammar makes of an input whose end, room and frame never stop it. Past the input's end all bits are 0.
use Rattle.std.specs.Prelude.{List, [], ◌∷◌, ℕ, ◌+◌}
use Rattle.bits.specs.Bits.{value}
use Rattle.syntax.specs.Grammar.{Grammar, done, refuse, field, free, span, walk, frame, here}
use Rattle.syntax.specs.Run.{Row, steering, unsteering, spanning, row, End, reached, refused, sum}

pub record Reading (A : Type 0) : Type 0 where
  pub rows : List Row
  pub bit : ℕ
  pub end : End A

abbrev pub ◌first◌ : {A : Type 0} → Row → Reading A → Reading A
x first r = record { rows = x ∷ r.rows; bit = r.bit; end = r.end }

infixr 30 ◌first◌
unfoldable pub read : {A : Type 0} → Grammar A → List ℕ → ℕ → Reading A
read (done a) s at = record { rows = []; bit = at; end = reached a }
read (refuse n) s at = record { rows = []; bit = at; end = refused n }
read (field i w k) s at = row steering i at w (value s at w) first read (k (value s at w)) s (at + w)
read (free i w k) s at = row unsteering i at w (value s at w) first read k s (at + w)
read (span i w k) s at = row spanning i at w 0 first read k s (at + w)
read (walk i ws k) s at = row spanning i at (sum ws) 0 first read k s (at + sum ws)
read (frame x n k) s at = read k s at
read (here k) s at = read (k at) s at
