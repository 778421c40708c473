-- `alloc_probe::exponents_fit`: what was found so far and the exponents from `bin` on decide together. Assumes nothing.
use Rattle.std.proofs.Common.{◌≡◌, ◌&&◌, ◌≤◌, drop}
use Rattle.alloc_probe.specs.Accepted.{exponents_fit}
use Rattle.alloc_probe.proofs.exponents_fit.Given as goal

abbrev pub invariant-loop-bin : goal.invariant-loop-bin
invariant-loop-bin l = (l.bin ≤ 256) × (exponents_fit l.exponents ≡ (l.fit && exponents_fit (drop l.bin l.exponents)))
