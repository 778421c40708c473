-- The loop of `mantissas::in_use::parts_in_use`: what is in the list, and then what the channels that are left put there, is the whole. Each channel
-- puts one slot there, and coupling comes once.
use mathlib.Core.Bool.{cond}
use mathlib.Core.List.{List, ◌++◌}
use mathlib.Core.Path.{◌≡◌}
use Prim.Native.Nat.{ℕ, ◌+◌, ◌-◌, ◌≤◌}
use Rattle.slots.specs.declared.Coupling.{Coupling}
use Rattle.mantissas.specs.Parts.{channel_parts}
use Rattle.mantissas.specs.Sound.{listed, SoundParts}
use Rattle.mantissas.specs.declared.in_use.Order.{Order}
use Rattle.mantissas.proofs.in_use.parts_in_use.Given as goal

pub record Channels (nfchans : ℕ) (coupling : Coupling) (ends : List ℕ) (order : Order) (ch : ℕ) : Type 0 where
  pub left : listed order.parts ++ channel_parts coupling ends ch (nfchans - ch) order.waiting ≡ channel_parts coupling ends 0 nfchans coupling.cplinu
  pub sound : SoundParts order.parts
  pub few : order.parts.count + cond order.waiting 1 0 ≤ ch + 1
  pub in_range : ch ≤ nfchans

abbrev pub invariant-loop-ch : goal.invariant-loop-ch
invariant-loop-ch l = Channels l.nfchans l.coupling l.ends l.order l.ch
