-- Writing that was begun: what was written so far, and what is still to come. Assumes nothing.
use mathlib.Core.List.{List, [], ◌++◌, append-nil, append_assoc}
use mathlib.Core.Path.{◌≡◌, sym, ap, ◌∙◌}
use Prim.Native.Nat.{ℕ, ◌+◌}
use lib.ListN.{length}
use lib.Seq.{sets, length-sets}
use Rattle.listing.proofs.Left.{both}

-- of `whole`, which goes into `out₀` from `at` on, `rest` is left; so far `out` and the place `to` were reached
pub record Begun (out₀ : List ℕ) (at : ℕ) (whole rest out : List ℕ) (to : ℕ) : Type 0 where
  pub done : List ℕ
  pub place : to ≡ at + length done
  pub bytes : out ≡ sets out₀ at done
  pub left : done ++ rest ≡ whole

module _ {out₀ : List ℕ} {at : ℕ} {whole out : List ℕ} {to : ℕ} where
  pub long : {rest : List ℕ} → Begun out₀ at whole rest out to → length out ≡ length out₀
  long b = ap length b.bytes ∙ length-sets out₀ at b.done

  -- one more piece is written
  pub onward :
      (e rest : List ℕ) {out' : List ℕ} {to' : ℕ}
      → Begun out₀ at whole (e ++ rest) out to
      → (to' ≡ to + length e) × (out' ≡ sets out to e)
      → Begun out₀ at whole rest out' to'
  onward e rest b s =
      let p = both out₀ at b.done e (b.place, b.bytes) s in
      record { done = b.done ++ e; place = p.0; bytes = p.1; left = append_assoc b.done e rest ∙ b.left }

  -- nothing is left
  pub finished : Begun out₀ at whole [] out to → (to ≡ at + length whole) × (out ≡ sets out₀ at whole)
  finished b =
      let all : b.done ≡ whole = sym (append-nil b.done) ∙ b.left in
      (b.place ∙ ap (λ l. at + length l) all, b.bytes ∙ ap (sets out₀ at) all)
