-- The ways in which a row is written, or is not: each is the outcome that `recorded` or `entered` says. Assumes nothing.
use Prim.Native.Nat.{ℕ, ◌+◌, ◌-◌, ◌*◌, ◌/◌, ◌<◌}
use mathlib.Core.Bool.{true, false}
use mathlib.Core.Path.{◌≡◌, sym, ◌∙◌}
use lib.Dec.{ltb}
use lib.ListN.{length}
use lib.Seq.{sets}
use Rattle.std.specs.Prelude.{Result, Ok, Err}
use Rattle.syntax.specs.declared.Reader.{Reader}
use Rattle.syntax.specs.declared.Item.{Item}
use Rattle.syntax.specs.declared.Refusal.{Refusal}
use Rattle.syntax.specs.Refusals.{past, full}
use Rattle.syntax.specs.Numbers.{row_width, numbers}
use Rattle.syntax.specs.Run.{spanning, row, check}
use Rattle.syntax.specs.Place.{except}
use Rattle.syntax.specs.Reads.{place, recorded, entered, Same, Writes}
use Rattle.syntax.proofs.Checks.{room_none, room_some, except_stop, except_clear}
use Rattle.syntax.proofs.Sequence.{unchanged}

module _ (i : Item) (w v : ℕ) {c : Reader} where
  -- the element would end past the frame; or its row is left to write
  pub recorded_past : ltb c.limit (c.at + w) ≡ true → Writes (recorded i w v) c (Err (past i)) c
  unfolding check except
  recorded_past e = record { same = simp e; on = unchanged }

  pub recorded_fits : {r : Result (Unit {0}) Refusal} {d : Reader} → ltb c.limit (c.at + w) ≡ false → Writes (entered i c.at w v) c r d → Writes (recorded i w v) c r d
  unfolding check
  recorded_fits e r = record { same = r.same ∙ simp e; on = r.on }

  -- no row is left; or there is one
  module _ (start : ℕ) where
    pub entered_full : length c.rows.now / row_width - c.count ≡ 0 → Writes (entered i start w v) c (Err full) c
    entered_full e = record { same = sym (except_stop _ _ (room_none _ _ e)); on = unchanged }

    pub entered_row : {d : Reader} → 0 < length c.rows.now / row_width - c.count
        → place d ≡ record { at = start + w; limit = c.limit; count = c.count + 1; room = sets c.rows.now (c.count * row_width) (numbers (row spanning i start w v)) }
        → Same c d → Writes (entered i start w v) c (Ok tt) d
    entered_row some e on = record { same = rw e (sym (except_clear _ _ (room_some _ _ some))); on = on }
