-- What is made of a group's number once it was read. No part of the definition.
use Rattle.std.specs.Prelude.{cond, ℕ, ltb, Result, Ok, Err}
use Rattle.std.proofs.lemmas.List.Edits.{sets}
use Rattle.syntax.specs.declared.Refusal.{Refusal}
use Rattle.syntax.specs.Grammar.{Grammar, done, refuse, ◌>>=◌}
use Rattle.syntax.specs.Refusals.{bad_group, bad_exponent}
use Rattle.exponents.specs.Exponents.{Unpacked, unpack, spread}

-- why it is refused, where it is
abbrev pub fault : ℕ → Refusal
fault group = cond (ltb 124 group) bad_group bad_exponent

-- what is left of a group then, whose exponents begin at bin `at`
abbrev pub of_number : (bins at : ℕ) → Unpacked → (grouped : ℕ) → Grammar Unpacked
of_number bins at u grouped = unpack u.last grouped >>= λ three. let (a, b, c) = three in done (record { last = c; row = sets u.row at (spread bins a b c) })

-- a grammar that reads nothing, by the result that it comes to
abbrev pub answered : {A : Type 0} → Result A Refusal → Grammar A
answered (Ok a) = done a
answered (Err x) = refuse x
