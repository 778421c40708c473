-- What is said of a rule is said of its number. Assumes nothing.
use mathlib.Core.Bool.{Bool}
use mathlib.Core.Path.{◌≡◌, sym, ap, ◌∙◌}
use Prim.Native.Nat.{ℕ}
use Rattle.header.specs.declared.Header.{Header}
use Rattle.profile.specs.Rules.{rule}

pub by_number : (k : ℕ) {number : ℕ} (h : Header) (v : ℕ) {b : Bool} → number ≡ k → b ≡ (rule k).breaks h v → b ≡ (rule number).breaks h v
by_number k h v e is = is ∙ ap (λ n. (rule n).breaks h v) (sym e)
