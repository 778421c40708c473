-- The three steps of a group, refused as one; and three exponents in one number, a byte for each with 64 added. Assumes nothing.
use mathlib.Core.Bool.{Bool, true, false, ◌||◌, true≢false}
use mathlib.Core.List.{List}
use mathlib.Core.Path.{◌≡◌, refl, sym, ◌∙◌}
use Prim.Native.Nat.{ℕ, ◌+◌, ◌-◌, ◌*◌, ◌/◌, ◌%◌, ◌<◌, ◌≤◌}
use native.Mathlib.Omega.{arith}
use lib.Dec.{ltb}
use lib.ListN.{get_or}
use borrow.Author.Tests.{le-ltb, ltb-true, ltb-false}
use Rattle.syntax.specs.Refusals.{bad_exponent}
use Rattle.syntax.specs.Grammar.{Grammar, done, refuse, ◌>>=◌, ◌>>◌, refuse_if}
use Rattle.exponents.specs.Bytes.{Steps, Inside, Near, NearThree, ThreeInside}
use Rattle.exponents.specs.Exponents.{step, unpack}
use Rattle.exponents.specs.Made.{fault}
use Rattle.exponents.proofs.Bins.{inside}

-- ---- the bytes of a number

module _ (a b c : ℕ) (a-fits : a < 256) (b-fits : b < 256) where
  first_byte : (a + 256 * b + 65536 * c) % 256 ≡ a
  first_byte = omega arith

  second_byte : (a + 256 * b + 65536 * c) / 256 % 256 ≡ b
  second_byte = let past : (a + 256 * b + 65536 * c) / 256 ≡ b + 256 * c = omega arith in rw past (omega arith)

  third_byte : (a + 256 * b + 65536 * c) / 65536 ≡ c
  third_byte = omega arith

-- ---- the exponents of a group: `last` is the one before it, and d, e and f are the differences

-- an exponent that is 2 too high is inside 0 to 24
abbrev Fits : ℕ → Type 0
Fits raised = (2 ≤ raised) × (raised ≤ 26)

abbrev out : ℕ → Bool
out raised = ltb raised 2 || ltb 26 raised

not_out : (raised : ℕ) → Fits raised → out raised ≡ false
not_out raised h = rw (le-ltb raised 2 h.0, le-ltb 26 raised h.1) (λ i. false)

module _ (last d e f : ℕ) where
  abbrev x : ℕ
  x = last + d

  abbrev y : ℕ
  y = x - 2 + e

  abbrev z : ℕ
  z = y - 2 + f

  -- none of the three is outside
  abbrev NoneOut : Type 0
  NoneOut = (out x ≡ false) × (out y ≡ false) × (out z ≡ false)

  abbrev steps : Grammar (ℕ × ℕ × ℕ)
  steps = step last d >>= λ a. step a e >>= λ b. step b f >>= λ c. done (a, b, c)

  -- a test that fails where none of the three is outside refuses what the steps refuse
  pub as_one : (bad : Bool) → (bad ≡ false → NoneOut) → (NoneOut → bad ≡ false) → steps ≡ (refuse_if bad bad_exponent >> done (x - 2, y - 2, z - 2))
  unfolding step ◌>>=◌
  as_one bad none all = go (out x) (out y) (out z) refl refl refl bad refl
    where
      go : (p q r : Bool) → out x ≡ p → out y ≡ q → out z ≡ r → (b : Bool) → bad ≡ b → steps ≡ (refuse_if b bad_exponent >> done (x - 2, y - 2, z - 2))
      go true q r i j k true h = rw i
      go false true r i j k true h = rw (i, j)
      go false false true i j k true h = rw (i, j, k)
      go false false false i j k true h = absurd (true≢false (sym h ∙ all (i, j, k)))
      go false false false i j k false h = rw (i, j, k)
      go true q r i j k false h = absurd (true≢false (sym i ∙ (none h).0))
      go false true r i j k false h = absurd (true≢false (sym j ∙ (none h).1))
      go false false true i j k false h = absurd (true≢false (sym k ∙ (none h).2))

  -- the three as the bytes have them
  abbrev Sums : (ℕ → Type 0) → Type 0
  Sums P = P (62 + (last + d)) × P (60 + (last + d + e)) × P (58 + (last + d + e + f))

  fit : Sums Inside → Fits x × Fits y × Fits z
  fit h = omega (arith, h)

  sums : Fits x × Fits y × Fits z → Sums Inside
  sums h = omega (arith, h)

  -- what a number that holds the three tells
  pub record Held (three : ℕ) : Type 0 where
    pub word : three < 4294967296
    pub near : NearThree three
    pub good : NoneOut → ThreeInside three
    pub each : ThreeInside three → NoneOut
    pub enough : ThreeInside three → 64 * 65793 ≤ three
    pub are : ThreeInside three → ((three - 64 * 65793) % 256 ≡ x - 2) × ((three - 64 * 65793) / 256 % 256 ≡ y - 2) × ((three - 64 * 65793) / 65536 ≡ z - 2)
    pub low : ThreeInside three → (x - 2 < 25) × ((y - 2 < 25) × (z - 2 < 25))

  module _ (l : last < 32) (ds : d < 5) (es : e < 5) (fs : f < 5) where
    abbrev three : ℕ
    three = 62 + (last + d) + 256 * (60 + (last + d + e)) + 65536 * (58 + (last + d + e + f))

    byte_1 : three % 256 ≡ 62 + (last + d)
    byte_1 = first_byte (62 + (last + d)) (60 + (last + d + e)) (58 + (last + d + e + f)) (omega arith) (omega arith)

    byte_2 : three / 256 % 256 ≡ 60 + (last + d + e)
    byte_2 = second_byte (62 + (last + d)) (60 + (last + d + e)) (58 + (last + d + e + f)) (omega arith) (omega arith)

    byte_3 : three / 65536 ≡ 58 + (last + d + e + f)
    byte_3 = third_byte (62 + (last + d)) (60 + (last + d + e)) (58 + (last + d + e + f)) (omega arith) (omega arith)

    near_sums : Sums Near
    near_sums = omega arith

    small : three < 4294967296
    small = omega arith

    module _ (h : ThreeInside three) where
      fits : Fits x × Fits y × Fits z
      fits = fit (rw (byte_1, byte_2, byte_3) at h.each)

      plain : three - 64 * 65793 ≡ x - 2 + 256 * (y - 2) + 65536 * (z - 2)
      plain = omega (arith, fits)

      at_least : 64 * 65793 ≤ three
      at_least = omega (arith, fits)

      bytes : ((three - 64 * 65793) % 256 ≡ x - 2) × ((three - 64 * 65793) / 256 % 256 ≡ y - 2) × ((three - 64 * 65793) / 65536 ≡ z - 2)
      bytes =
          let a : x - 2 < 256 = omega (arith, fits) in
          let b : y - 2 < 256 = omega (arith, fits) in
          rw plain (first_byte (x - 2) (y - 2) (z - 2) a b, second_byte (x - 2) (y - 2) (z - 2) a b, third_byte (x - 2) (y - 2) (z - 2) a b)

    held : Held three
    held = record {
      word = small;
      near = record { each = rw (byte_1, byte_2, byte_3) near_sums };
      good = λ h. record { each = rw (byte_1, byte_2, byte_3) (sums (inside x h.0, inside y h.1, inside z h.2)) };
      each = λ h. (not_out x (fits h).0, not_out y (fits h).1, not_out z (fits h).2);
      enough = at_least;
      are = bytes;
      low = λ h. omega (arith, fits h);
    }

    -- the number that the code makes
    sum_is : last * 65793 + (62 + d + 256 * (60 + (d + e)) + 65536 * (58 + (d + e + f))) ≡ three
    sum_is = omega arith

    pub sum_held : Held (last * 65793 + (62 + d + 256 * (60 + (d + e)) + 65536 * (58 + (d + e + f))))
    sum_held = rw sum_is held

-- ---- a group's number below 128, and the number that the code makes of its step

-- the three exponents without their 64
abbrev pub three_of : ℕ → ℕ × ℕ × ℕ
three_of three = ((three - 64 * 65793) % 256, (three - 64 * 65793) / 256 % 256, (three - 64 * 65793) / 65536)

pub record Told (last group three : ℕ) : Type 0 where
  pub word : three < 4294967296
  pub near : NearThree three
  pub refused : (ThreeInside three → ⊥) → unpack last group ≡ refuse (fault group)
  pub made : ThreeInside three → unpack last group ≡ done (three_of three)
  pub enough : ThreeInside three → 64 * 65793 ≤ three
  pub low : ThreeInside three → ((three_of three).0 < 25) × (((three_of three).1 < 25) × ((three_of three).2 < 25))

module _ (last group : ℕ) where
  three_steps : ltb 124 group ≡ false → unpack last group ≡ steps last (group / 25) (group % 25 / 5) (group % 5)
  unfolding unpack ◌>>=◌
  three_steps e = rw e

  no_group : ltb 124 group ≡ true → unpack last group ≡ refuse (fault group)
  unfolding unpack ◌>>=◌
  no_group e = rw e

  -- a group
  module _ {three : ℕ} (e : ltb 124 group ≡ false) (h : Held last (group / 25) (group % 25 / 5) (group % 5) three) where
    outside : (ThreeInside three → ⊥) → unpack last group ≡ refuse (fault group)
    unfolding ◌>>=◌
    outside out = three_steps e ∙ as_one last (group / 25) (group % 25 / 5) (group % 5) true (λ z. absurd (true≢false z)) (λ none. absurd (out (h.good none))) ∙ rw e

    inside_all : ThreeInside three → unpack last group ≡ done (three_of three)
    unfolding ◌>>=◌
    inside_all i = three_steps e ∙ as_one last (group / 25) (group % 25 / 5) (group % 5) false (λ _. h.each i) (λ _. refl) ∙ rw ((h.are i).0, (h.are i).1, (h.are i).2)

    of_group : Told last group three
    of_group = record {
      word = h.word;
      near = h.near;
      refused = outside;
      made = inside_all;
      enough = h.enough;
      low = λ i. rw ((h.are i).0, (h.are i).1, (h.are i).2) (h.low i);
    }

-- no group: the bit of 32 stays in each byte
module _ (last group : ℕ) (l : last < 32) (e : ltb 124 group ≡ true) where
  abbrev unfit : ℕ
  unfit = last * 65793 + 2105376

  unfit_is : unfit ≡ 32 + last + 256 * (32 + last) + 65536 * (32 + last)
  unfit_is = omega arith

  each_byte : (unfit % 256 ≡ 32 + last) × (unfit / 256 % 256 ≡ 32 + last) × (unfit / 65536 ≡ 32 + last)
  each_byte =
      let b : 32 + last < 256 = omega arith in
      rw unfit_is (first_byte (32 + last) (32 + last) (32 + last) b b, second_byte (32 + last) (32 + last) (32 + last) b b, third_byte (32 + last) (32 + last) (32 + last) b b)

  never : ThreeInside unfit → ⊥
  never h = omega (arith, h.each.0, each_byte.0)

  of_none : Told last group unfit
  of_none = record {
    word = omega arith;
    near = record { each = rw (each_byte.0, each_byte.1, each_byte.2) (omega arith) };
    refused = λ _. no_group last group e;
    made = λ h. absurd (never h);
    enough = λ h. absurd (never h);
    low = λ h. absurd (never h);
  }

pub told : {table : List ℕ} → Steps table → (last group : ℕ) → last < 32 → group < 128 → Told last group (last * 65793 + get_or table group 0)
told {table} steps last group l g = go (ltb 124 group) refl
  where
    go : (b : Bool) → ltb 124 group ≡ b → Told last group (last * 65793 + get_or table group 0)
    go true e = rw (steps.none group (ltb-true 124 group e) g) (of_none last group l e)
    go false e =
        let known : group ≤ 124 = ltb-false 124 group e in
        rw (steps.each group (omega arith))
        (of_group last group e (sum_held last (group / 25) (group % 25 / 5) (group % 5) l (omega arith) (omega arith) (omega arith)))
