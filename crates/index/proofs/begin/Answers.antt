-- `index::begin` meets its contract: its checks are the definition's, in the same order. Assumes nothing.
use Rattle.std.proofs.Common.{refl, ap, ◌≡◌, ◌+◌, ◌≤◌, length, arith}
use Rattle.ac3.specs.Promise.{call}
use Rattle.index.specs.Index.{entry_of}
use Rattle.index.proofs.Begins.{afresh, no_such, unlike, alike, refused_there, other_there, behind, inside}
use Rattle.index.proofs.begin.Goals as goal
use Rattle.index.proofs.begin.Goals.{else-parsed-eq0-via-then-parsed-eq0+else-eq, else-parsed-eq0-via-else-parsed-eq0}

pub returns-then-entries-eq0-clause-rows_after : goal.returns-then-entries-eq0-clause-rows_after
returns-then-entries-eq0-clause-rows_after c = afresh _ _ _ _ c.if-entries-eq0.true

pub returns-then-index-entries-clause-rows_after : goal.returns-then-index-entries-clause-rows_after
returns-then-index-entries-clause-rows_after c = no_such _ _ _ _ c.if-entries-eq0.false c.if-index-entries.true

-- the entry is the last one, whose frame ends inside
module _ (c : goal.Then-eq) where
  is : c.entry_of.result ≡ entry_of (call c.args.capture.now c.entry_at-last.result.place c.args.rows.now)
  is = c.entry_of.ensures _ refl c.parse-parsed.ensures.rows_after

  same : c.entry_of.result ≡ c.entry_at-last.result
  same = alike c.entry_of.result c.entry_at-last.result (ap (λ e. e.place) is) c.eq.ensures c.if-eq.true

  ends : c.entry_at-last.result.place + c.entry_at-last.result.size ≤ length c.args.capture.now
  ends =
      let a = c.args in
      inside a.capture.now a.rows.now a.index.now a.entries c.if-entries-eq0.false c.if-index-entries.false c.entry_at-last.ensures
      c.parse-parsed.ensures.rows_after c.if-parsed-eq0.true is same

pub overflow_add-result : goal.overflow_add-result
overflow_add-result c = omega (arith, ends c, c.well_formed.0.0)

pub returns-then-eq-clause-rows_after : goal.returns-then-eq-clause-rows_after
returns-then-eq-clause-rows_after c =
    let a = c.args in
    behind a.capture.now a.rows.now a.index.now a.entries c.if-entries-eq0.false c.if-index-entries.false c.entry_at-last.ensures
    c.parse-parsed.ensures.rows_after c.if-parsed-eq0.true (is c) (same c)

pub returns-then-eq-clause-place_in_bounds : goal.returns-then-eq-clause-place_in_bounds
returns-then-eq-clause-place_in_bounds c = (ends c, c.if-index-entries.false)

pub returns-clause-rows_after : goal.returns-clause-rows_after
returns-clause-rows_after c =
    let a = c.args in
    elim c.else-parsed-eq0.branch [
      | else-parsed-eq0-via-then-parsed-eq0+else-eq w ↦
          let is = w.entry_of.ensures _ refl c.parse-parsed.ensures.rows_after in
          other_there a.capture.now a.rows.now a.index.now a.entries c.if-entries-eq0.false c.if-index-entries.false c.entry_at-last.ensures
          c.parse-parsed.ensures.rows_after w.if-parsed-eq0.true is (unlike w.entry_of.result c.entry_at-last.result (ap (λ e. e.place) is) w.eq.ensures w.if-eq.false)
      | else-parsed-eq0-via-else-parsed-eq0 w ↦
          refused_there a.capture.now a.rows.now a.index.now a.entries c.if-entries-eq0.false c.if-index-entries.false c.entry_at-last.ensures
          c.parse-parsed.ensures.rows_after w.if-parsed-eq0.false
    ]
