-- Every row is of its name's kind, so rows of editable names are those whose values steer nothing, and demand 3 of the grammar says what
-- new bits in them do. Assumes nothing.
use mathlib.Core.Bool.{Bool, true, false, not, ◌||◌}
use mathlib.Core.List.{List, [], ◌∷◌}
use mathlib.Core.Path.{◌≡◌, refl, ap, sym, ◌∙◌}
use Prim.Native.Nat.{ℕ, ◌/◌}
use lib.Dec.{T}
use lib.ListN.{length, length-map}
use Rattle.syntax.specs.Names.{editable, spans}
use Rattle.syntax.specs.Numbers.{row_width}
use Rattle.syntax.specs.Place.{finish}
use Rattle.syntax.specs.Rows.{is_quiet, Outside, reread, reread_all}
use Rattle.syntax.specs.Run.{Kind, steering, unsteering, spanning, Row, parse}
use Rattle.ac3.specs.Editing.{OutsideEditable, Edited, EditFreely}
use Rattle.ac3.specs.Frame.{syncframe, answered}
use Rattle.ac3.specs.Marked.{among, kind_fits, KindsFit}
use Rattle.ac3.specs.Promise.{Call, input, room_for, listed, answer_to, Accepted}
use Rattle.ac3.proofs.Demand3.{ac3_demand3}
use Rattle.ac3.proofs.Marked.{rows_marked}
use Rattle.ac3.proofs.Promise.{result, landed, answer_is, reaches}
use Rattle.ac3.proofs.Rooms.{same_answer_lem}

never : (b : Bool) → T (not b) → T b → ⊥
never true t u = t
never false t u = u

quiet : (k : Kind) (name : ℕ) → T (kind_fits k name) → T (among name editable || among name spans) → is_quiet k ≡ true
quiet steering name t u = absurd (never (among name editable || among name spans) t u)
quiet unsteering name t u = refl
quiet spanning name t u = refl

outside : (rows : List Row) (p : ℕ) → KindsFit rows → Outside is_quiet rows p → OutsideEditable rows p
outside [] p fit out = tt
outside (r ∷ rs) p fit out = (λ u. out.0 (quiet r.kind r.item.name fit.0 u), outside rs p fit.2 out.1)

module _ (c d : Call) (ok : Accepted c) (e : Edited c d) where
  again : parse syncframe (input d) (room_for d) ≡ reread_all (input d) (parse syncframe (input c) (room_for c))
  again =
      ap (λ room. parse syncframe (input d) (length room / row_width)) (sym e.room)
      ∙ ac3_demand3.only_steering (input c) (input d) (room_for c) (reaches c ok) e.long (λ p lt out. e.bits p lt (outside (listed c) p (rows_marked (input c) (room_for c)) out))

  same : (answer_to d).0 ≡ (answer_to c).0
  same =
      ap (λ x. x.0) (answer_is d)
      ∙ same_answer_lem (result d).end (landed (result d) d.room) (landed (result c) c.room)
      (ap (λ r. length r.rows) again ∙ length-map (result c).rows (reread (input d))) (ap (λ r. r.spot.at) again)
      ∙ ap (λ end. (answered (finish end (landed (result c) c.room))).0) (ap (λ r. r.end) again)
      ∙ ap (λ x. x.0) (sym (answer_is c))

pub edit_freely : EditFreely
edit_freely = record { rows = again; answer = same }
