-- `ferrysprig::flag` meets its contract: the flag says which of the two it is. Assumes nothing.
use Rattle.ferrysprig.proofs.flag.Statement.{statement}
use Rattle.ferrysprig.proofs.flag.Tie as tie

pub flag_spec : {M : Type 1} → statement M
flag_spec =
    tie.close
    (tie.spec
    (λ c. rw c.if-b.true)  -- returns
    (λ c. rw c.if-b.false))  -- returns-2
