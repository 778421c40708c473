-- What is left where a parse has this answer and this room: the checks are the definition's, and what is written into the part from the
-- place on is written into the capture. Assumes nothing.
use mathlib.Core.List.{List, ◌++◌, append-nil}
use mathlib.Core.Path.{◌≡◌, sym, ap, ◌∙◌}
use Prim.Native.Nat.{ℕ, ◌-◌, ◌/◌, ◌≤◌}
use native.Mathlib.Omega.{arith}
use borrow.Rule.Slice.PartMut.{put_mid}
use lib.IntN.{ℤ}
use lib.ListN.{length, take, drop, length-drop, drop_of_length-le}
use lib.Seq.{sets, take_all}
use Rattle.ac3.specs.Promise.{Call, call, answer_to}
use Rattle.ac3.specs.declared.Answer as parse
use Rattle.mend.specs.Mend.{after_mend}
use Rattle.mend.specs.Changes as mend
use Rattle.level.specs.Level.{words_of, check, dialnorm_of, dialnorm_width, position_in, levelled, left_by, correct}
use Rattle.level.specs.declared.outcome.Refusal.{Refusal}
use Rattle.std.specs.Prelude.{Ok, Err}

-- all from the place on was lent
all_lent : (capture : List ℕ) (place : ℕ) → take (length capture - place) (drop place capture) ≡ drop place capture
all_lent capture place = let short : length (drop place capture) ≤ length capture - place = omega (arith, length-drop place capture) in take_all _ _ short

back : (capture : List ℕ) (place : ℕ) (part : List ℕ) → put_mid place (length capture - place) capture part ≡ take place capture ++ part
back capture place part =
    let short : length (drop place capture) ≤ length capture - place = omega (arith, length-drop place capture) in
    ap (λ r. take place capture ++ (part ++ r)) (drop_of_length-le (drop place capture) short)
    ∙ ap (λ r. take place capture ++ r) (append-nil part)

module _ (capture : List ℕ) (place programme level : ℕ) (rows changes : List ℤ) {a : parse.Answer} {after : List ℤ} (is : (a, after) ≡ answer_to (call capture place rows)) where
  abbrev here : Call
  here = call capture place rows

  as_told : left_by here (a, after) programme level changes (check a programme level) ≡ correct capture place programme level rows changes
  unfolding correct
  as_told = ap (λ x. left_by here x programme level changes (check x.0 programme level)) is

  pub refused : {r : Refusal} → check a programme level ≡ Err r
      → (Err (record { refusal = r; rows = a.rows }), (changes, (after, capture))) ≡ correct capture place programme level rows changes
  refused e = sym (ap (left_by here (a, after) programme level changes) e) ∙ as_told

  not_refused : check a programme level ≡ Ok tt → levelled here (a, after) programme level changes ≡ left_by here (a, after) programme level changes (check a programme level)
  not_refused e = sym (ap (left_by here (a, after) programme level changes) e)

  pub corrected : {name at n : ℕ} {list : List ℤ} {part : List ℕ} → check a programme level ≡ Ok tt
      → name ≡ dialnorm_of programme → at ≡ position_in a.rows name after
      → part ≡ after_mend (words_of a) (take (length capture - place) (drop place capture)) at dialnorm_width level
      → list ≡ sets changes 0 (mend.changes name (words_of a) (take (length capture - place) (drop place capture)) at dialnorm_width level)
      → n ≡ length (mend.changes name (words_of a) (take (length capture - place) (drop place capture)) at dialnorm_width level) / 3
      → (Ok (record { rows = a.rows; changes = n }), (list, (after, put_mid place (length capture - place) capture part)))
      ≡ correct capture place programme level rows changes
  corrected {name} {at} {n} {list} {part} e named placed written noted counted =
      let all = all_lent capture place in
      let there : at ≡ position_in a.rows (dialnorm_of programme) after = placed ∙ ap (λ m. position_in a.rows m after) named in
      let left = back capture place part ∙ ap (λ q. take place capture ++ q) (written ∙ (λ j. after_mend (words_of a) (all j) (there j) dialnorm_width level)) in
      let new : mend.changes name (words_of a) (take (length capture - place) (drop place capture)) at dialnorm_width level
      ≡ mend.changes (dialnorm_of programme) (words_of a) (drop place capture) (position_in a.rows (dialnorm_of programme) after) dialnorm_width level
      = λ j. mend.changes (named j) (words_of a) (all j) (there j) dialnorm_width level in
      let count = counted ∙ ap (λ l. length l / 3) new in
      let listed = noted ∙ ap (sets changes 0) new in
      (λ j. (Ok (record { rows = a.rows; changes = count j }), (listed j, (after, left j)))) ∙ not_refused e ∙ as_told
