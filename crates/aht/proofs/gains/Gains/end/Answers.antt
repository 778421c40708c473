-- By the mode.
use Rattle.std.proofs.Common.{◌≡◌, ◌+◌, ◌/◌, ◌%◌, min, sym, ◌∙◌, arith}
use Rattle.aht.specs.Aht.{gains}
use Rattle.aht.specs.Walk.{run}
use Rattle.aht.proofs.Walking.{skipped}
use Rattle.aht.proofs.GainWords.{single_mode, composite_mode}
use Rattle.aht.proofs.gains.Gains.end.Goals as goal

pub returns-in-0 : goal.returns-in-0
unfolding gains run
returns-in-0 c = rw c.in-0.is

pub returns-in-1 : goal.returns-in-1
returns-in-1 c =
    skipped c.args.section.now.bytes.now _ c.args.active c.args.self.at c.skip.result c.skip.ensures
    ∙ sym (single_mode _ _ c.args.self.gaqmod c.args.active c.args.self.at (λ e. omega arith) (omega arith) c.requires)

pub returns-in_default : goal.returns-in_default
returns-in_default c =
    let words : (c.args.active + 2) / 3 ≡ c.args.active / 3 + min 1 (c.args.active % 3) = omega arith in
    rw (composite_mode c.args.self.gaqmod c.args.active (omega arith), words, ← c.div_ceil.ensures) c.composites_end.ensures
