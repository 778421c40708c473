-- `mend::mend` meets its contract: its tests are the definition's, what is no frame is not touched and has no changes, and what is left of a
-- frame is read and listed. Assumes nothing.
use Rattle.std.proofs.Common.{◌≡◌, ◌∙◌, ◌/◌, ap, sym, min, length, arith}
use mathlib.Core.Path.{ap₂}
use Rattle.std.proofs.lemmas.List.Edits.{sets}
use Rattle.mend.specs.Mend.{after_mend}
use Rattle.mend.specs.Changes.{fields_of, changes_of, changes}
use Rattle.mend.proofs.Frames.{too_few, too_short, in_frame}
use Rattle.mend.proofs.Listing.{unchanged}
use Rattle.mend.proofs.mend.Goals as goal
use Rattle.mend.proofs.mend.Goals.{then-words-lt4-via-then-words-lt4, then-words-lt4-via-else-words-lt4+then-s-words}

stays : (c : goal.Joined-then-words-lt4) → let a = c.args in after_mend (a.bytes / 2) a.s.now a.at (min a.n 16) a.v ≡ a.s.now
stays c =
    let a = c.args in
    let n = min a.n 16 in
    elim c.then-words-lt4.branch [
      | then-words-lt4-via-then-words-lt4 w ↦ too_few (a.bytes / 2) a.s.now a.at n a.v (omega (arith, c.from-words.ensures, w.if-words-lt4.true))
      | then-words-lt4-via-else-words-lt4+then-s-words w ↦
          too_short (a.bytes / 2) a.s.now a.at n a.v (omega (arith, c.from-words.ensures, w.if-words-lt4.false)) (omega (arith, c.from-words.ensures, w.if-s-words.true))
    ]

pub returns-then-words-lt4-clause-s : goal.returns-then-words-lt4-clause-s
returns-then-words-lt4-clause-s c = sym (stays c)

pub returns-then-words-lt4-clause-list : goal.returns-then-words-lt4-clause-list
returns-then-words-lt4-clause-list c =
    let a = c.args in
    let none = unchanged a.name (a.bytes / 2) a.s.now a.at (min a.n 16) a.v (stays c) in
    (ap (sets a.list.now 0) (sym none), ap (λ l. length l / 3) (sym none))

pub returns-clause-s : goal.returns-clause-s
returns-clause-s c =
    let a = c.args in
    rw c.from-words.ensures at c.mend_frame.ensures ∙ sym (in_frame (a.bytes / 2) a.s.now a.at (min a.n 16) a.v (omega (arith, c.from-words.ensures)) (omega (arith, c.from-words.ensures)))

pub returns-clause-list : goal.returns-clause-list
unfolding changes
returns-clause-list c =
    let a = c.args in
    let n = min a.n 16 in
    let words = a.bytes / 2 in
    let frame = in_frame words a.s.now a.at n a.v (omega (arith, c.from-words.ensures)) (omega (arith, c.from-words.ensures)) in
    let mended_so = rw c.from-words.ensures at c.mend_frame.ensures ∙ sym frame in
    let before = rw c.from-words.ensures at c.read-old.ensures in
    let after = rw c.from-words.ensures at c.read-new.ensures in
    let same = ap₂ (changes_of a.name) before (after ∙ ap (λ t. fields_of words t a.at n) mended_so) in
    (c.note_all.ensures.0 ∙ ap (sets a.list.now 0) same, ap (λ k. k / 3) (c.note_all.ensures.1 ∙ ap length same))
