-- `mantissas::parameters::parameters_of` meets its contract: each table is looked up as the definition does, and what it gives is in range. Assumes
-- nothing.
use mathlib.Core.Path.{◌∙◌}
use Rattle.signed.proofs.Bounds.{below_is, back_32}
use Rattle.alloc.proofs.Offset.{snr_below}
use Rattle.mantissas.proofs.parameters.parameters_of.Goals as goal

pub returns : goal.returns
returns c =
    let sound = c.requires.1.offsets in
    let snr = back_32 c.snr_offset.result c.snr_offset.type_inv ∙ c.snr_offset.ensures in
    let floor = back_32 c.floor.result c.floor.type_inv in
    let fast = back_32 c.leak_of.result c.leak_of.type_inv in
    let slow = back_32 c.leak_of-2.result c.leak_of-2.type_inv in (
      rw (snr, floor ∙ c.floor.ensures.0, fast ∙ c.leak_of.ensures.0, slow ∙ c.leak_of-2.ensures.0, c.db_knee.ensures, c.deltas_of-deltas.ensures.0, c.gains_of.ensures),
      record {
        end = c.requires.2.end;
        fscod = c.requires.0;
        count = c.deltas_of-deltas.ensures.1.count;
        fastleak = rw fast c.leak_of.ensures.1;
        slowleak = rw slow c.leak_of-2.ensures.1;
        snroffset = below_is snr (snr_below _ _ sound.csnroffst (sound.fsnroffst c.args.p.slot));
        floor = rw floor c.floor.ensures.1;
      },
    )
