-- Where the walk of a call begins: the definition's cases, each from what the code has found there. Assumes nothing.
use mathlib.Core.Bool.{Bool, true, false, cond, ◌&&◌}
use mathlib.Core.List.{List}
use mathlib.Core.Path.{◌≡◌, sym, ap, ◌∙◌}
use Prim.Native.Nat.{ℕ, suc, ◌+◌, ◌-◌, ◌≤◌, ◌<◌}
use native.Mathlib.Omega.{arith}
use borrow.Author.Tests.{lt-ltb, le-ltb, eq-eqb, ne_eqb}
use lib.Dec.{eqb}
use lib.IntN.{ℤ}
use lib.ListN.{length, length-drop}
use Rattle.ac3.specs.Promise.{Call, call, answer_to}
use Rattle.ac3.specs.declared.Answer as parse
use Rattle.rows.proofs.Framed.{accepted_framed}
use Rattle.index.specs.Index.{entry_of, Start, entry_in, room_in, not_there, same_entry, ends_at, start, after, begin}
use Rattle.index.specs.declared.outcome.Entry.{Entry}
use Rattle.index.proofs.Entries.{same_as_itself, same_numbers}

-- two entries of one place that are compared
module _ (e f : Entry) (place : e.place ≡ f.place) {same : Bool} (told : same ≡ eqb e.place f.place && same_entry e f) where
  by_the_rest : same ≡ same_entry e f
  by_the_rest = told ∙ ap (λ b. b && same_entry e f) (eq-eqb e.place f.place place)

  pub unlike : same ≡ false → same_entry e f ≡ false
  unlike d = sym by_the_rest ∙ d

  pub alike : same ≡ true → e ≡ f
  alike d = same_numbers e f place (sym by_the_rest ∙ d)

module _ (capture : List ℕ) (rows : List ℤ) (index : List ℕ) where
  pub afresh : (entries : ℕ) → entries ≡ 0 → start 0 0 rows ≡ begin capture rows index entries
  unfolding begin
  afresh entries none = ap (begin capture rows index) (sym none)

  module _ (entries : ℕ) (some : ¬ (entries ≡ 0)) where
    abbrev there : Entry
    there = entry_in index (entries - 1)

    abbrev after_there : Start
    after_there = after (call capture there.place rows) there

    one_more : suc (entries - 1) ≡ entries
    one_more = omega arith

    pub no_such : room_in index < entries → start not_there 0 rows ≡ begin capture rows index entries
    unfolding begin
    no_such few = sym (ap (λ b. cond b after_there (start not_there 0 rows)) (le-ltb (entries - 1) (room_in index) (omega arith))) ∙ ap (begin capture rows index) one_more

    module _ (old : entries ≤ room_in index) {last : Entry} (is_last : last ≡ there) {a : parse.Answer} {rows' : List ℤ}
        (parsed : (a, rows') ≡ answer_to (call capture last.place rows)) where
      abbrev c : Call
      c = call capture last.place rows

      at_last : after c last ≡ begin capture rows index entries
      unfolding begin
      at_last =
          (λ i. after (call capture (is_last i).place rows) (is_last i)) ∙ sym (ap (λ b. cond b after_there (start not_there 0 rows)) (lt-ltb (entries - 1) (room_in index) (omega arith))) ∙ ap (begin capture rows index) one_more

      refusal_is : (answer_to c).0.refusal ≡ a.refusal
      refusal_is = ap (λ x. x.0.refusal) (sym parsed)

      rows_are : rows' ≡ (answer_to c).1
      rows_are = ap (λ x. x.1) parsed

      pub refused_there : ¬ (a.refusal ≡ 0) → start not_there 0 rows' ≡ begin capture rows index entries
      refused_there not-zero =
          let refused : eqb (answer_to c).0.refusal 0 ≡ false = ne_eqb (answer_to c).0.refusal 0 (λ z. not-zero (sym refusal_is ∙ z)) in
          ap (start not_there 0) rows_are
          ∙ sym (ap (λ b. cond (b && same_entry (entry_of c) last) (start 0 (ends_at c) (answer_to c).1) (start not_there 0 (answer_to c).1)) refused)
          ∙ at_last

      module _ (ok : a.refusal ≡ 0) {e : Entry} (is : e ≡ entry_of c) where
        pub other_there : same_entry e last ≡ false → start not_there 0 rows' ≡ begin capture rows index entries
        other_there other =
            let unlike : same_entry (entry_of c) last ≡ false = ap (λ e. same_entry e last) (sym is) ∙ other in
            ap (start not_there 0) rows_are ∙ sym (λ i. cond (eqb ((refusal_is ∙ ok) i) 0 && unlike i) (start 0 (ends_at c) (answer_to c).1) (start not_there 0 (answer_to c).1)) ∙ at_last

        module _ (same : e ≡ last) where
          ends : last.size ≡ (entry_of c).size
          ends = ap (λ e. e.size) (sym same ∙ is)

          pub behind : start 0 (last.place + last.size) rows' ≡ begin capture rows index entries
          behind =
              let alike : same_entry (entry_of c) last ≡ true = same_as_itself (entry_of c) last (sym is ∙ same) in
              (λ i. start 0 (last.place + ends i) (rows_are i))
              ∙ sym (λ i. cond (eqb ((refusal_is ∙ ok) i) 0 && alike i) (start 0 (ends_at c) (answer_to c).1) (start not_there 0 (answer_to c).1)) ∙ at_last

          pub inside : last.place + last.size ≤ length capture
          inside =
              let framed = accepted_framed c (refusal_is ∙ ok) in
              omega (arith, framed.some, framed.inside, ends, length-drop last.place capture)
