-- `ac3::apart::afresh_if` meets its contract: header and blocks, from the header's first row on, are the whole parse. Assumes nothing.
use Rattle.ac3.specs.Promise.{call}
use Rattle.ac3.proofs.HeaderAndBlocks.{afresh_is}
use Rattle.ac3.proofs.apart.afresh_if.Goals as goal

pub returns-then-fits : goal.returns-then-fits
returns-then-fits c = rw (afresh_is c.args.fits (call c.args.capture.now c.args.place c.args.rows.now), c.if-fits.true) c.parse.ensures.rows_after

pub returns : goal.returns
returns c = rw (afresh_is c.args.fits (call c.args.capture.now c.args.place c.args.rows.now), c.if-fits.false, c.refused.ensures)
