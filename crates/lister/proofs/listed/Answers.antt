-- No call has more rows than are lent here, so that its listing fits where a longest one does.
use Rattle.lister.proofs.Written.{printed}
use Rattle.lister.proofs.listed.Goals as goal

pub returns : goal.returns
returns c = printed c.args.frame.now c.args.out.now c.requires c.text.ensures.written
