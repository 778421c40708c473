-- `alloc::excitation::start_leak` meets its contract. Assumes nothing.
use native.Mathlib.Omega.{arith}
use borrow.Author.Rules.{rules}
use Rattle.signed.proofs.Bounds.{bounds, levels, cast_32, below_u16}
use Rattle.alloc.specs.Allocation.{start_leak}
use Rattle.alloc.proofs.excitation.start_leak.Statement.{statement}
use Rattle.alloc.proofs.excitation.start_leak.Tie as tie

cast_fast : tie.Need-overflow_cast-fast
cast_fast c = search rules

sub_fast : tie.Need-overflow_sub-fast
sub_fast c = let fgain = below_u16 c.before.args.g.fgain (omega arith) in search bounds depth 12

cast_slow : tie.Need-overflow_cast-slow
cast_slow c = search rules

sub_slow : tie.Need-overflow_sub-slow
sub_slow c = let sgain = below_u16 c.before.before.args.g.sgain (omega arith) in search bounds depth 12

sub_excite : tie.Need-overflow_sub-excite
sub_excite c = let fgain = below_u16 c.before.before.args.g.fgain (omega arith) in search bounds depth 12

returns : tie.Need-returns
unfolding start_leak
returns c =
    let s = c.before.before in
    let fgain = below_u16 s.args.g.fgain (omega arith) in
    let sgain = below_u16 s.args.g.sgain (omega arith) in
    rw (cast_32 s.args.g.fgain (omega arith), cast_32 s.args.g.sgain (omega arith)) (search levels depth 12)

pub start_leak_spec : {M : Type 1} → statement M
start_leak_spec = tie.close (tie.spec cast_fast sub_fast cast_slow sub_slow sub_excite returns)
