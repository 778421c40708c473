-- `ferrysprig::apart::header_in_order` meets its contract: each entry of the array is a number of the answer, and none is too large.
-- Assumes nothing.
use borrow.Author.Rules.{rules}
use Rattle.ferrysprig.specs.Apart.{header_in_order}
use Rattle.ferrysprig.proofs.apart.header_in_order.Statement.{statement}
use Rattle.ferrysprig.proofs.apart.header_in_order.Tie as tie

entries : tie.Need-returns
unfolding header_in_order
entries c = rw c.before.flag.ensures

pub header_in_order_spec : {M : Type 1} → statement M
header_in_order_spec =
    tie.close
    (tie.spec
    (λ c. search rules)  -- cast-refusal
    (λ c. search rules)  -- cast-rows
    (λ c. search rules)  -- cast-name
    (λ c. search rules)  -- cast-bsid
    (λ c. search rules)  -- cast-acmod
    (λ c κs. search rules)  -- flag-requires
    (λ c. search rules)  -- cast-fscod
    entries)
