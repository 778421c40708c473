-- `mantissas::memos::count_slot` meets its contract: the allocation is asked for what the definition says, and the pointers at its addresses are
-- counted. Assumes nothing.
use mathlib.Core.List.{[]}
use mathlib.Core.Path.{◌∙◌, ap}
use Prim.Native.Nat.{ℕ}
use lib.ListN.{get_or}
use Rattle.tables.specs.Tables.{bap}
use Rattle.alloc.specs.Allocation.{bap_of}
use Rattle.alloc.specs.Stages.{bap_at}
use Rattle.alloc.proofs.Clamped.{address_below}
use Rattle.alloc.proofs.Filled.{fills_in}
use Rattle.alloc.proofs.Stages.{pointers_are}
use Rattle.mantissas.specs.Counts.{no_counts, counted_all}
use Rattle.mantissas.specs.Mantissas.{parameters_of, pointers}
use Rattle.mantissas.proofs.Counted.{bins_counted}
use Rattle.mantissas.proofs.memos.count_slot.Goals as goal

pub count_bins-requires : goal.count_bins-requires
count_bins-requires c =
    (c.requires.2.end, λ bin from to. rw (fills_in (rw c.parameters_of.ensures.0 at c.addresses_of.ensures) bin from to) (address_below _ _))

pub returns-clause-value : goal.returns-clause-value
unfolding pointers bap_of
returns-clause-value c =
    let a = c.args in
    let is = fills_in (rw c.parameters_of.ensures.0 at c.addresses_of.ensures) in
    c.count_bins.ensures
    ∙ ap (counted_all no_counts)
    (pointers_are bap (get_or a.exps.now a.p.slot []) (parameters_of a.by.now.fscod a.by.now.st a.p) (bap_at bap c.addresses_of.new.out) (λ bin from to. ap (λ (k : ℕ). get_or bap k 0) (is bin from to)))

pub returns-clause-at_most : goal.returns-clause-at_most
returns-clause-at_most c = rw c.count_bins.ensures (bins_counted _ c.args.p.start c.args.p.end c.requires.2.end)
