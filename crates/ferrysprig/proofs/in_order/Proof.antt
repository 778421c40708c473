-- `ferrysprig::in_order` meets its contract: each entry of the array is a number of the answer, and none is too large. Assumes nothing.
use borrow.Author.Rules.{rules}
use Rattle.ferrysprig.specs.Numbers.{in_order}
use Rattle.ferrysprig.proofs.in_order.Statement.{statement}
use Rattle.ferrysprig.proofs.in_order.Tie as tie

entries : tie.Need-returns
unfolding in_order
entries c = rw (c.before.flag-2.ensures, c.before.before.before.before.flag.ensures)

pub in_order_spec : {M : Type 1} → statement M
in_order_spec =
    tie.close
    (tie.spec
    (λ c. search rules)  -- cast-refusal
    (λ c. search rules)  -- cast-rows
    (λ c. search rules)  -- cast-summary-rows
    (λ c. search rules)  -- cast-bsid
    (λ c. search rules)  -- cast-acmod
    (λ c κs. search rules)  -- flag-requires
    (λ c. search rules)  -- cast-fscod
    (λ c. search rules)  -- cast-coupled
    (λ c. search rules)  -- array-read-starts
    (λ c. search rules)  -- array-read-starts-2
    (λ c. search rules)  -- array-read-starts-3
    (λ c. search rules)  -- array-read-starts-4
    (λ c. search rules)  -- array-read-starts-5
    (λ c. search rules)  -- array-read-starts-6
    (λ c. search rules)  -- array-read-mantissas
    (λ c. search rules)  -- array-read-mantissas-2
    (λ c. search rules)  -- array-read-mantissas-3
    (λ c. search rules)  -- array-read-mantissas-4
    (λ c. search rules)  -- array-read-mantissas-5
    (λ c. search rules)  -- array-read-mantissas-6
    (λ c κs. search rules)  -- flag-requires-2
    (λ c. search rules)  -- cast-name
    entries)
