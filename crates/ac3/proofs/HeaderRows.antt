-- The header has few rows. Room for so many is never full, and more room changes nothing but that; so the answer owes to the room only how
-- many of these fit. Assumes nothing.
use mathlib.Core.List.{List}
use mathlib.Core.Path.{◌≡◌, refl, ap, sym, ◌∙◌}
use Prim.Native.Nat.{ℕ, ◌+◌, ◌-◌, ◌≤◌, min}
use native.Mathlib.Decide.{dec_le}
use native.Mathlib.Omega.{arith}
use lib.IntN.{ℤ}
use lib.ListN.{length}
use Rattle.syntax.specs.Place.{Place, finish}
use Rattle.syntax.specs.Refusals.{full, number, name, block}
use Rattle.syntax.specs.Run.{End, reached, refused, start, parse, rows_of}
use Rattle.syntax.proofs.Agreement.{landed, exec_parse}
use Rattle.header.specs.Header.{header}
use Rattle.header.specs.declared.Header.{Header}
use Rattle.ac3.specs.Apart.{most_header_rows, no_header, headed, header_to}
use Rattle.ac3.specs.Promise.{Call, input, room_for, with_room}
use Rattle.ac3.specs.declared.HeaderAnswer.{HeaderAnswer}
use Rattle.ac3.proofs.AtMost.{few_rows, never_seven}
use Rattle.ac3.proofs.MoreRoom.{more, run_more}
use Rattle.ac3.proofs.RowBound.{a_header}

-- the answer and the room, by the list of rows and how it ended
pub headed_is : (c : Call) → header_to c ≡ headed (landed (parse header (input c) (room_for c)) c.room)
headed_is c = ap headed (exec_parse header (input c) c.room)

-- the room is not in it
elsewhere : (e : End Header) (q p : Place) → q.at ≡ p.at → q.count ≡ p.count → (headed (finish e q)).0 ≡ (headed (finish e p)).0
unfolding headed finish
elsewhere (reached h) q p at count = λ i. record { refusal = 0; rows = count i; bit = at i; name = 0; block = 255; header = h }
elsewhere (refused x) q p at count = λ i. record { refusal = number x; rows = count i; bit = at i; name = name x; block = block x; header = no_header }

module _ (s : List ℕ) (room own : List ℤ) where
  abbrev answer : ℕ → List ℤ → HeaderAnswer
  answer n room = (headed (landed (parse header s n) room)).0

  -- more room than the most changes nothing
  enough : (n : ℕ) → most_header_rows ≤ n → answer n room ≡ answer most_header_rows own
  enough n le =
      let grown : most_header_rows + (n - most_header_rows) ≡ n = omega arith in
      let room_left : ¬ ((parse header s most_header_rows).end ≡ refused full) = λ is. never_seven a_header s _ (omega arith) full is refl in
      let same : parse header s n ≡ more (n - most_header_rows) (parse header s most_header_rows) =
      ap (parse header s) (sym grown) ∙ run_more (n - most_header_rows) s header (start (length s) most_header_rows) room_left in
      ap (λ r. (headed (landed r room)).0) same ∙ elsewhere _ _ _ refl refl

  least : (n : ℕ) → answer n room ≡ answer (min n most_header_rows) own
  least n = go (dec_le most_header_rows n)
    where
      go : Dec (most_header_rows ≤ n) → answer n room ≡ answer (min n most_header_rows) own
      go (Dec.yes le) = enough n le ∙ ap (λ m. answer m own) (omega arith)
      go (Dec.no more) = elsewhere _ _ _ refl refl ∙ ap (λ m. answer m own) (omega arith)

pub as_good : (c : Call) (own : List ℤ) → min (room_for c) most_header_rows ≡ min (room_for (with_room own c)) most_header_rows → (header_to c).0 ≡ (header_to (with_room own c)).0
as_good c own same =
    let s = input c in
    ap (λ x. x.0) (headed_is c) ∙ least s c.room own (room_for c) ∙ ap (λ n. answer s own own n own) same
    ∙ sym (least s own own (room_for (with_room own c))) ∙ ap (λ x. x.0) (sym (headed_is (with_room own c)))

rows_told : (e : End Header) (q : Place) → (headed (finish e q)).0.rows ≡ q.count
unfolding headed finish
rows_told (reached h) q = refl
rows_told (refused x) q = refl

pub rows_counted : (c : Call) → (header_to c).0.rows ≡ length (rows_of header (input c) (room_for c))
rows_counted c = ap (λ x. x.0.rows) (headed_is c) ∙ rows_told _ _

pub few_header_rows : (c : Call) → (header_to c).0.rows ≤ most_header_rows
few_header_rows c = omega (arith, rows_counted c, few_rows a_header (input c) (start (length (input c)) (room_for c)))
