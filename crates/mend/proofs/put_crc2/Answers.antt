-- `mend::put_crc2` meets its contract: the test decides whether the definition flips crcrsv, and the word that is written is the register over
-- what then stands there. Assumes nothing.
use Rattle.std.proofs.Common.{ℕ, List, true, ◌∙◌, ◌-◌, ◌*◌, ap, sym, subst, rules}
use mathlib.Core.Path.{ap₂}
use borrow.Author.Tests.{eq-eqb, ne_eqb}
use Rattle.bits.specs.Put.{put}
use Rattle.mend.specs.Mend.{FirstIsZero, crc2_of, flip_if, with_crcrsv, with_crc2}
use Rattle.mend.proofs.Stages.{flip_first}
use Rattle.mend.proofs.put_crc2.Goals as goal
use Rattle.mend.proofs.put_crc2.Goals.{then-word-eq2935, else-word-eq2935}

-- crcrsv stands after the first five eighths
pub crc2-word-requires-then-word-eq2935 : goal.crc2-word-requires-then-word-eq2935
crc2-word-requires-then-word-eq2935 c =
    let words = c.args.words in
    (search rules, search rules, subst (FirstIsZero words) (sym c.flip.ensures) (flip_first words c.args.s.now true c.requires.0 c.requires.2))

pub returns : goal.returns
unfolding with_crc2 with_crcrsv
returns c =
    let list = c.args.s.now in
    let words = c.args.words in
    let place = (words - 1) * 16 in
    c.put.ensures ∙ ap (put c.if-word-eq2935.s place 16) c.from.ensures
    ∙ elim c.if-word-eq2935.branch [
      | then-word-eq2935 w ↦
          let sync = eq-eqb (crc2_of words list) 0x0B77 (sym c.crc2-word.ensures ∙ w.if-word-eq2935.true) in
          ap₂ (λ (t : List ℕ) (x : ℕ). put t place 16 x) w.s-is (w.word-is ∙ w.crc2-word-then-word-eq2935.ensures)
          ∙ ap (with_crc2 words) (w.flip.ensures ∙ ap (λ t. flip_if t (words * 16 - 17) list) (sym sync))
      | else-word-eq2935 w ↦
          let other = ne_eqb (crc2_of words list) 0x0B77 (λ e. w.if-word-eq2935.false (c.crc2-word.ensures ∙ e)) in
          ap₂ (λ (t : List ℕ) (x : ℕ). put t place 16 x) w.s-is (w.word-is ∙ c.crc2-word.ensures)
          ∙ ap (λ t. with_crc2 words (flip_if t (words * 16 - 17) list)) (sym other)
    ]
