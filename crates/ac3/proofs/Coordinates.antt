-- No section of a block is handed the flag, so blocks from what is carried with another flag are the same grammar, but for the flag in the
-- answer. Assumes nothing.
use mathlib.Core.Bool.{false}
use mathlib.Core.List.{List}
use mathlib.Core.Path.{◌≡◌, refl, ap, sym, ◌∙◌}
use Prim.Native.Nat.{ℕ, zero, suc, ◌+◌}
use Rattle.syntax.specs.Grammar.{Grammar, done, ◌>>=◌, turns}
use Rattle.syntax.specs.Place.{Place, Outcome, got, no, and_then, exec, fresh}
use Rattle.syntax.proofs.Bind.{exec_bind}
use Rattle.header.specs.declared.Header.{Header}
use Rattle.ac3.specs.AudioBlock.{Carry, audio_block}
use Rattle.ac3.specs.Coordinates.{flagged, flagged_carry, flagged_answer, Rule, block_by, audio_by, frame_by, CoordinatesIdle}
use Rattle.ac3.specs.Frame.{Audio, audio, syncframe, answered}
use Rattle.ac3.specs.Promise.{input}
use Rattle.ac3.proofs.AtMost.{regroup}

-- ---- grammars whose answers are looked at through a function

abbrev through : {A B : Type 0} → (A → B) → Grammar A → Grammar B
through f g = g >>= λ a. done (f a)

-- what comes next sees the answer through f
past : {A B C : Type 0} (f : A → B) (g : Grammar A) (m : B → Grammar C) → (through f g >>= m) ≡ (g >>= λ a. m (f a))
unfolding ◌>>=◌
past f g m = regroup (λ a. done (f a)) m g

finished : {A B : Type 0} (f : A → B) {x y : A} → f x ≡ f y → through f (done x) ≡ through f (done y)
unfolding ◌>>=◌
finished f e = ap done e

module _ {A B C : Type 0} (q : B → C) where
  -- the same, and then what is alike
  under : (g : Grammar A) (k j : A → Grammar B) → ((a : A) → through q (k a) ≡ through q (j a)) → through q (g >>= k) ≡ through q (g >>= j)
  under g k j h = regroup k _ g ∙ (λ t. g >>= λ a. h a t) ∙ sym (regroup j _ g)

  -- what is alike through f, and then what does not look past f
  alike : (f : A → A) (g g' : Grammar A) (k : A → Grammar B) → through f g ≡ through f g' → ((a : A) → through q (k a) ≡ through q (k (f a)))
      → through q (g >>= k) ≡ through q (g' >>= k)
  alike f g g' k e h =
      let seen : (x : Grammar A) → through q (x >>= k) ≡ (through f x >>= λ a. through q (k a)) =
      λ x. regroup k _ x ∙ (λ t. x >>= λ a. h a t) ∙ sym (past f x (λ a. through q (k a))) in
      seen g ∙ ap (λ x. x >>= λ a. through q (k a)) e ∙ sym (seen g')

-- ---- a block, and six

abbrev unflagged : Carry → Carry
unflagged = flagged_carry false

one_block : (h : Header) (blk : ℕ) (c : Carry) → through unflagged (audio_block h blk c) ≡ through unflagged (audio_block h blk (unflagged c))
unfolding audio_block
one_block h blk c =
    under _ _ _ _ λ start. under _ _ _ _ λ _. under _ _ _ _ λ coupled. under _ _ _ _ λ exponented. under _ _ _ _ λ alloc. under _ _ _ _ λ _.
    under _ _ _ _ λ mantissas. finished _ refl

module _ (h : Header) where
  blocks_unflagged : (n i : ℕ) (c : Carry) → through unflagged (turns i n c (audio_block h)) ≡ through unflagged (turns i n (unflagged c) (audio_block h))
  unfolding turns
  blocks_unflagged zero i c = finished _ refl
  blocks_unflagged (suc n) i c = alike unflagged unflagged _ _ _ (one_block h i c) (blocks_unflagged n (i + 1))

  module _ (rule : Rule) where
    block_by_lem : (blk : ℕ) (c : Carry) → through unflagged (block_by rule h blk c) ≡ through unflagged (audio_block h blk c)
    unfolding block_by ◌>>=◌
    block_by_lem blk c = regroup _ _ (audio_block h blk c)

    blocks_by : (n i : ℕ) (c : Carry) → through unflagged (turns i n c (block_by rule h)) ≡ through unflagged (turns i n c (audio_block h))
    unfolding turns
    blocks_by zero i c = refl
    blocks_by (suc n) i c =
        under unflagged _ _ _ (blocks_by n (i + 1)) ∙ alike unflagged unflagged _ _ _ (block_by_lem i c) (blocks_unflagged n (i + 1))

-- ---- the frame, and its answer

abbrev unmarked : Audio → Audio
unmarked a = record { header = a.header; tally = flagged false a.tally; end = a.end }

same_frame : (rule : Rule) → through unmarked (frame_by rule) ≡ through unmarked syncframe
unfolding frame_by audio_by syncframe audio
same_frame rule = under unmarked _ _ _ λ h. alike unmarked unflagged _ _ _ (blocks_by h rule 6 0 _) λ last. under unmarked _ _ _ λ end. finished unmarked refl

-- an answer but for its flag, by the outcome but for its flag
seen : (o : Outcome Audio) → let t = answered (and_then o (λ a p. got (unmarked a) p)) in (flagged_answer false (answered o).0 ≡ flagged_answer false t.0) × ((answered o).1 ≡ t.1)
unfolding answered and_then
seen (got a p) = (refl, refl)
seen (no x p) = (refl, refl)

module _ (s : List ℕ) (p : Place) where
  outcome : (g : Grammar Audio) → exec (through unmarked g) s p ≡ and_then (exec g s p) (λ a q. got (unmarked a) q)
  unfolding exec
  outcome g = exec_bind (λ a. done (unmarked a)) s g p

pub coordinates_idle : CoordinatesIdle
coordinates_idle rule c =
    let s = input c in
    let p = fresh c.room in
    let one : and_then (exec (frame_by rule) s p) (λ a q. got (unmarked a) q) ≡ and_then (exec syncframe s p) (λ a q. got (unmarked a) q) =
    sym (outcome s p (frame_by rule)) ∙ ap (λ g. exec g s p) (same_frame rule) ∙ outcome s p syncframe in
    let left = seen (exec (frame_by rule) s p) in
    let right = seen (exec syncframe s p) in
    (left.0 ∙ ap (λ o. flagged_answer false (answered o).0) one ∙ sym right.0, left.1 ∙ ap (λ o. (answered o).1) one ∙ sym right.1)
