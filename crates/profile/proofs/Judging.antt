-- Rule by rule: the first one that a row breaks is told, any other is passed; and what is found in the room is what is found in the
-- definition's rows. Assumes nothing.
use mathlib.Core.Bool.{cond}
use mathlib.Core.List.{List, ◌++◌}
use mathlib.Core.Path.{◌≡◌, refl, sym, ap, ◌∙◌}
use Prim.Native.Nat.{ℕ, ◌+◌, ◌*◌, ◌≤◌, ◌<◌}
use native.Mathlib.Numerals.{add-one}
use borrow.Author.Tests.{eq-eqb, ne_eqb, lt-ltb, le-ltb}
use lib.Dec.{eqb, ltb}
use lib.IntN.{ℤ}
use lib.ListN.{length, drop}
use lib.Seq.{drop-cons}
use Rattle.header.specs.declared.Header.{Header}
use Rattle.syntax.specs.Numbers.{row_width}
use Rattle.syntax.specs.Place.{flatten}
use Rattle.syntax.specs.Run.{Row}
use Rattle.ac3.specs.Promise.{Call, call, listed, answer_to}
use Rattle.ac3.specs.declared.Answer as parse
use Rattle.ac3.proofs.Promise.{promised}
use Rattle.rows.proofs.Found.{place}
use Rattle.profile.specs.Rules.{Rule, rules, no_rule, rule, judged_by, broken, judged, broken_in, judged_in}
use Rattle.profile.specs.Answers.{answered, profile}
use Rattle.profile.specs.declared.Judgement.{Judgement}
use Rattle.profile.specs.declared.Refused.{Refused}
use Rattle.std.specs.Prelude.{Result, Ok, Err}
use Rattle.profile.specs.declared.Verdict.{Verdict}
use Rattle.profile.specs.declared.Verdict.TheVariants.{Within, Broken}

-- ---- the rules in turn

module _ (found : Rule → ℕ) (count : ℕ) where
  -- the rules from this one on
  abbrev pub from : ℕ → Verdict
  from n = judged_by found count (n + 1) (drop n rules)

  next : (n : ℕ) → n < 7 → from n ≡ cond (ltb (found (rule n)) count) (Broken (n + 1) (found (rule n))) (from (n + 1))
  unfolding judged_by
  next n h =
      ap (judged_by found count (n + 1)) (drop-cons rules n no_rule h)
      ∙ (λ j. cond (ltb (found (rule n)) count) (Broken (n + 1) (found (rule n))) (judged_by found count (sym (add-one (n + 1)) j) (drop (sym (add-one n) j) rules)))

  module _ (n : ℕ) (h : n < 7) where
    pub stops : found (rule n) < count → Broken (n + 1) (found (rule n)) ≡ from n
    stops there = sym (next n h ∙ ap (λ b. cond b (Broken (n + 1) (found (rule n))) (from (n + 1))) (lt-ltb (found (rule n)) count there))

    pub passes : count ≤ found (rule n) → from n ≡ from (n + 1)
    passes none = next n h ∙ ap (λ b. cond b (Broken (n + 1) (found (rule n))) (from (n + 1))) (le-ltb (found (rule n)) count none)

  pub all_passed : (n : ℕ) → n ≡ 7 → Within ≡ from n
  unfolding judged_by
  all_passed n e = sym (ap from e)

-- ---- of a call

module _ (h : Header) (rs : List Row) (more : List ℤ) where
  pub in_room : judged_in h (length rs) (flatten rs ++ more) ≡ judged h rs
  in_room = λ j. judged_by (λ rule. place (broken_in h rule) (broken h rule) (λ r rest. refl) rs more j) (length rs) 1 rules

module _ (rs : List Row) where
  -- what is answered of a parse's answer and the rows
  abbrev answers : parse.Answer × List ℤ → Result Judgement Refused × List ℤ
  answers x = (answered x.0.rows (cond (eqb x.0.refusal 0) (Ok (judged x.0.summary.header rs)) (Err x.0.refusal)), x.1)

  module _ (a : parse.Answer) (after : List ℤ) where
    of_refused : ¬ (a.refusal ≡ 0) → (Err (record { refusal = a.refusal; rows = a.rows }), after) ≡ answers (a, after)
    of_refused h = rw (ne_eqb a.refusal 0 h)

    of_accepted : a.refusal ≡ 0 → (Ok (record { rows = a.rows; verdict = judged a.summary.header rs }), after) ≡ answers (a, after)
    of_accepted h = rw (eq-eqb a.refusal 0 h)

module _ (capture : List ℕ) (at : ℕ) (rows : List ℤ) {a : parse.Answer} {after : List ℤ} (is : (a, after) ≡ answer_to (call capture at rows)) where
  abbrev here : Call
  here = call capture at rows

  as_answered : answers (listed here) (a, after) ≡ profile capture at rows
  unfolding profile
  as_answered = ap (answers (listed here)) is

  pub refused_frame : ¬ (a.refusal ≡ 0) → (Err (record { refusal = a.refusal; rows = a.rows }), after) ≡ profile capture at rows
  refused_frame h = of_refused (listed here) a after h ∙ as_answered

  pub judged_frame : a.refusal ≡ 0 → {v : Verdict} → v ≡ judged_in a.summary.header a.rows after → (Ok (record { rows = a.rows; verdict = v }), after) ≡ profile capture at rows
  judged_frame h e =
      let kept = promised here {a = a} {after = after} is in
      let same = e ∙ (λ j. judged_in a.summary.header (kept.counted j) (kept.written j)) ∙ in_room a.summary.header (listed here) (drop (length (listed here) * row_width) rows) in
      ap (λ v. (Ok (record { rows = a.rows; verdict = v }), after)) same ∙ of_accepted (listed here) a after h ∙ as_answered
