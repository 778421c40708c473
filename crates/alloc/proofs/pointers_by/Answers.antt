-- `alloc::pointers_by` meets its contract: each bin has the table's entry at its address; of the table nothing is asked. Assumes nothing.
use Rattle.std.proofs.Common.{◌∙◌, ap, ℕ, get_or, arith}
use Rattle.std.proofs.lemmas.List.Edits.{sets}
use Rattle.alloc.specs.Allocation.{bap_of}
use Rattle.alloc.specs.Stages.{bap_at}
use Rattle.alloc.proofs.Clamped.{address_below}
use Rattle.alloc.proofs.Laws.{allocation_none}
use Rattle.alloc.proofs.Filled.{fills_in}
use Rattle.alloc.proofs.Stages.{pointers_are}
use Rattle.alloc.proofs.Written.{fills_sets}
use Rattle.alloc.proofs.pointers_by.Goals as goal

pub returns-then-p : goal.returns-then-p
returns-then-p c = rw (allocation_none c.args.baps.now c.args.exponents.now c.args.p (omega (arith, c.if-p.true)))

pub pointers-requires : goal.pointers-requires
pointers-requires c =
    (c.requires.0, omega (arith, c.if-p.false), omega (arith, c.requires.1.end), λ bin from to. rw (fills_in c.addresses_of.ensures bin from to) (address_below _ _))

pub returns : goal.returns
unfolding bap_of
returns c =
    let a = c.args in
    let pointer = bap_at a.baps.now c.addresses_of.new.out in
    fills_sets 0 pointer a.p.start a.p.end (omega (arith, c.requires.0, c.requires.1.end)) c.pointers.ensures
    ∙ ap (sets a.out.now a.p.start)
    (pointers_are a.baps.now a.exponents.now a.p pointer (λ bin from to. ap (λ (address : ℕ). get_or a.baps.now address 0) (fills_in c.addresses_of.ensures bin from to)))
