-- A turn writes the next number with what stands after it, at most eleven bytes.
use Rattle.std.proofs.Common.{rules, arith, map, ◌≡◌, ◌∙◌, ap, ◌+◌, ◌-◌, pos, length, drop, get_or, w32, to_z-of_z}
use Rattle.listing.specs.Listing.{line}
use Rattle.lister.specs.Listed.{stored}
use Rattle.lister.proofs.Begun.{long, onward}
use Rattle.lister.proofs.Lines.{line_from, fit_from}
use Rattle.lister.proofs.Short.{ended, ended_short}
use Rattle.lister.proofs.put_line.Goals as goal

pub put_ended-to-requires : goal.put_ended-to-requires
put_ended-to-requires c =
    let l = c.loop-i in
    omega (arith, c.requires, long l.invariant.begun, l.invariant.near, ended_short c.stored.result (length c.args.numbers.now - l.i - 1) c.stored.ensures.1)

pub loop-i-preserved : goal.loop-i-preserved
loop-i-preserved c =
    let l = c.loop-i in
    let v = c.stored in
    let numbers = c.args.numbers.now in
    let left = length numbers - l.i - 1 in
    let is : v.result ≡ stored (get_or numbers l.i (pos 0)) = v.ensures.0 ∙ ap stored (to_z-of_z {w = w32} {z = get_or numbers l.i (pos 0)} (search rules)) in
    record {
      begun = onward (ended v.result left) (line (map stored (drop (l.i + 1) numbers))) (rw is (rw (line_from numbers l.i c.loop-i-test.true) at l.invariant.begun)) c.put_ended-to.ensures;
      near = omega (arith, l.invariant.near, c.put_ended-to.ensures.0, ended_short v.result left v.ensures.1);
      fit = λ later. l.invariant.fit (fit_from numbers l.i c.loop-i-test.true is v.ensures.1 later);
    }
