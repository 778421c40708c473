-- Three exponents in one number, a byte for each: what the code looks up and tests. No part of the definition.
use Rattle.std.specs.Prelude.{List, ◌≡◌, ℕ, ◌+◌, ◌*◌, ◌/◌, ◌%◌, ◌<◌, ◌≤◌, get_or}

-- what each group adds to the exponent before it: its differences, each 2 too high, added up, and 64; a byte for each of three exponents
pub record Steps (table : List ℕ) : Type 0 where
  pub each : (group : ℕ) → group < 125 → let x = group / 25 in let y = x + group % 25 / 5 in let z = y + group % 5 in
      get_or table group 0 ≡ 62 + x + 256 * (60 + y) + 65536 * (58 + z)
  -- a number that is no group has the bit of 32 in each byte, and keeps it where an exponent below 32 is added
  pub none : (group : ℕ) → 124 < group → group < 128 → get_or table group 0 ≡ 2105376

-- no byte of three has the bit of 32
pub record Unmarked (three : ℕ) : Type 0 where
  pub first : three / 32 % 2 ≡ 0
  pub second : three / 8192 % 2 ≡ 0
  pub third : three / 2097152 % 2 ≡ 0

-- an exponent with 64 added: from 0 to 24; not so far outside that the bit of 32 would not tell it
abbrev pub Inside : ℕ → Type 0
Inside byte = (64 ≤ byte) × (byte ≤ 88)

abbrev pub Near : ℕ → Type 0
Near byte = (32 ≤ byte) × (byte < 121)

abbrev pub Each : (ℕ → Type 0) → ℕ → Type 0
Each P three = P (three % 256) × P (three / 256 % 256) × P (three / 65536)

pub record ThreeInside (three : ℕ) : Type 0 where
  pub each : Each Inside three

pub record NearThree (three : ℕ) : Type 0 where
  pub each : Each Near three
