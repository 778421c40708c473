-- What the code does on the way (no part of the definition): entries are written as they are met, where there is room for them.
use Rattle.std.specs.Prelude.{cond, List, [], ◌∷◌, ℕ, ◌+◌, ◌*◌, eqb, ltb, ℤ, length, Result, Ok, Err}
use Rattle.std.proofs.lemmas.List.Edits.{sets}
use Rattle.index.specs.Index.{entry_width, numbers, room_in, Start, start, Walk}
use Rattle.index.specs.Refusals.{number}
use Rattle.index.specs.declared.outcome.Entry.{Entry}
use Rattle.index.specs.declared.outcome.Refusal.{Refusal}
use Rattle.index.specs.declared.outcome.Refusal.TheVariants.{NoFields}

-- behind so many others
unfoldable pub put : (index : List ℕ) (entries : ℕ) → Entry → List ℕ
put index entries e = cond (ltb entries (room_in index)) (sets index (entries * entry_width) (numbers e)) index

unfoldable pub puts : (index : List ℕ) (entries : ℕ) → List Entry → List ℕ
puts index entries [] = index
puts index entries (e ∷ es) = puts (put index entries e) (entries + 1) es

-- what is answered of a walk: all that was met is counted, unless the field room stopped it
abbrev pub counts : (entries : ℕ) → Walk → Result ℕ Refusal
counts entries w = cond (eqb w.refusal 0) (Ok (entries + length w.entries)) (Err NoFields)

unfoldable pub filled : (index : List ℕ) (entries : ℕ) → Walk → (Result ℕ Refusal × List ℕ) × List ℤ
filled index entries w = ((counts entries w, puts index entries w.entries), w.room)

-- where a walk begins, or why it does not, with the field room then
abbrev pub started : Result ℕ Refusal → (room : List ℤ) → Start
started (Ok place) room = start 0 place room
started (Err refusal) room = start (number refusal) 0 room
