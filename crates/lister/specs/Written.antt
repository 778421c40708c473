-- What is promised where a call's listing is written as text. Whatever is lent, it is a listing that is written, so that its text is read,
-- packs to its packed form and comes back (crate packed).
use Rattle.std.specs.Prelude.{cond, List, [], ◌++◌, ◌≡◌, ℕ, ◌+◌, ◌*◌, ◌≤◌, ltb, length, take, drop}
use Rattle.ac3.specs.Promise.{Call, answer_to}
use Rattle.listing.specs.Listing.{Valid, text}
use Rattle.lister.specs.Listed.{listing, frame_call}

-- no text of so many rows is longer: eleven bytes for each number, ten digits and what stands after them, and 63 for the last line
abbrev pub most_text : ℕ → ℕ
most_text rows = rows * 99 + 63

abbrev pub room_needed : Call → ℕ
room_needed c = most_text (answer_to c).0.rows

-- the text; nothing where a longest one of so many rows would not fit
abbrev pub written : Call → (out : List ℕ) → List ℕ
written c out = cond (ltb (length out) (room_needed c)) [] (text (listing c))

-- a call, the output before, how many bytes were written, and the output after
pub record Written (c : Call) (out : List ℕ) (size : ℕ) (left : List ℕ) : Type 0 where
  pub counted : size ≡ length (written c out)
  pub bytes : left ≡ written c out ++ drop size out
  pub within : size ≤ length out
  pub valid : room_needed c ≤ length out → Valid (listing c)

-- the frame at the start of some bytes, with the room that the programs lend: all that was written is the listing's text
pub record Printed (frame : List ℕ) (size : ℕ) (left : List ℕ) : Type 0 where
  pub bytes : take size left ≡ text (listing (frame_call frame))
  pub valid : Valid (listing (frame_call frame))
  pub within : size ≤ length left
