-- The pointers of a block's slots: where every one is 0, and those that a loop has left. Assumes nothing.
use mathlib.Core.Bool.{Bool}
use mathlib.Core.List.{List, ◌++◌}
use mathlib.Core.Path.{◌≡◌, ◌∙◌}
use Prim.Native.Nat.{ℕ, ◌+◌, ◌-◌, ◌<◌, ◌≤◌}
use lib.Dec.{lit<}
use lib.IntN.{ℤ}
use lib.ListN.{length, get_or, drop, replicate}
use native.Mathlib.Omega.{arith}
use Rattle.std.proofs.Math.Nat.{min-le_left}
use Rattle.std.proofs.lemmas.List.{drop_more, length-take}
use Rattle.alloc.proofs.Filled.{cleared}
use Rattle.alloc.proofs.Noted.{from_same}
use Rattle.slots.specs.Sound.{Entries}
use Rattle.slots.specs.declared.AllocState.{AllocState}
use Rattle.slots.proofs.Entries.{every_replicate}
use Rattle.mantissas.specs.Mantissas.{part_pointers, all_pointers}
use Rattle.mantissas.specs.Sound.{between, no_part, listed, SoundParts}
use Rattle.mantissas.specs.declared.Part.{Part}
use Rattle.mantissas.specs.declared.Parts.{Parts}
use Rattle.mantissas.proofs.Between.{from_constant}

-- an array of nothing but 0
pub none_below : (n : ℕ) → Entries (replicate n 0) 16
none_below n = every_replicate (λ x. x < 16) 0 n 0 (lit< tt) (lit< tt)

pub silent_lists : (n first last : ℕ) → between {A = ℕ} 0 (replicate n 0) first last ≡ replicate (last - first) 0
silent_lists n first last = from_same _ (λ _. 0) (last - first) first (λ k p q. cleared n k) ∙ from_constant 0 (last - first) first

-- the slots that are left, and then those after the first of them
pub first_part : (fscod : ℕ) (st : AllocState) (exps : List (List ℤ)) (is_silent : Bool) (list : List Part) (i : ℕ) → i < length list
    → all_pointers fscod st exps is_silent (drop i list)
    ≡ part_pointers fscod st exps is_silent (get_or list i no_part) ++ all_pointers fscod st exps is_silent (drop (i + 1) list)
unfolding all_pointers
first_part fscod st exps is_silent list i h = rw (drop_more list i no_part h)

-- a block has at most seven
pub few_slots : {items : List Part} (ps : Parts) → items ≡ listed ps → SoundParts ps → length items ≤ 7
few_slots ps e h = rw e (omega (arith, length-take ps.count ps.list, min-le_left ps.count (length ps.list), h.count))
