-- "Coordinates sent": in every block of a frame, each coupled channel has cplcoe 1 there, or had it in an earlier block while it was
-- coupled.
use Rattle.std.specs.Prelude.{Bool, true, false, ◌&&◌, ◌||◌, not, List, [], ◌≡◌, ℕ, zero, suc, ◌+◌, ◌<◌, ◌≤◌, length, get_or}

-- what a block tells of it: which channels are coupled, and which have cplcoe 1
pub record Sending : Type 0 where
  pub chincpl : List Bool
  pub cplcoe : List Bool

-- a test holds of every number below n, or of some of them
unfoldable pub every : ℕ → (ℕ → Bool) → Bool
every zero p = true
every (suc n) p = every n p && p n

unfoldable pub some : ℕ → (ℕ → Bool) → Bool
some zero p = false
some (suc n) p = some n p || p n

-- it holds of each coupled channel
abbrev pub each_coupled : (chincpl : List Bool) → (ℕ → Bool) → Bool
each_coupled chincpl p = every 5 (λ ch. not (get_or chincpl ch false) || p ch)

-- the blocks in order, those of a whole frame or its first ones
module _ (blocks : List Sending) where
  abbrev pub block : ℕ → Sending
  block b = get_or blocks b (record { chincpl = []; cplcoe = [] })

  abbrev pub is_coupled : (b ch : ℕ) → Bool
  is_coupled b ch = get_or (block b).chincpl ch false

  abbrev pub sends : (b ch : ℕ) → Bool
  sends b ch = get_or (block b).cplcoe ch false

  -- in some of the first n blocks the channel has cplcoe 1 while it is coupled
  abbrev pub had : (n ch : ℕ) → Bool
  had n ch = some n (λ e. is_coupled e ch && sends e ch)

  -- each channel that is coupled in block b has it there, or had it in an earlier block
  abbrev pub all_had : ℕ → Bool
  all_had b = each_coupled (block b).chincpl (had (b + 1))

  unfoldable pub coordinates_sent : Bool
  coordinates_sent = every (length blocks) all_had

  -- ---- the same, said of any block and any channel

  abbrev pub EachHad : Type 0
  EachHad = (b ch : ℕ) → b < length blocks → ch < 5 → is_coupled b ch ≡ true
      → (e : ℕ) × (e ≤ b) × (is_coupled e ch ≡ true) × (sends e ch ≡ true)

abbrev pub SentIsEachHad : Type 0
SentIsEachHad = (blocks : List Sending)
    → (coordinates_sent blocks ≡ true → EachHad blocks) × (EachHad blocks → coordinates_sent blocks ≡ true)
