-- `profile::profile` meets its contract: what is found in the room is what is found in the definition's rows. Assumes nothing.
use Rattle.profile.proofs.Judging.{refused_frame, judged_frame}
use Rattle.profile.proofs.profile.Goals as goal

pub returns-then-parsed-ne0 : goal.returns-then-parsed-ne0
returns-then-parsed-ne0 c = refused_frame c.args.capture.now c.args.place c.args.rows.now c.parse-parsed.ensures.rows_after c.if-parsed-ne0.true

pub returns : goal.returns
returns c = judged_frame c.args.capture.now c.args.place c.args.rows.now c.parse-parsed.ensures.rows_after c.if-parsed-ne0.false c.judged.ensures
