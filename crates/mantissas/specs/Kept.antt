-- What was counted of a slot is kept with what it was counted from, besides its exponents: those in force. So it need not be counted again while
-- all that is the same; where a block has new exponents it is forgotten. No part of the definition: `Kept` only says that what is kept is true.
use Rattle.std.specs.Prelude.{List, [], ◌∷◌, ◌≡◌, ℕ, ◌<◌, ℤ, length, get_or, replicate}
use Rattle.tables.specs.Tables.{slow_decay, fast_decay, slow_gain, fast_gain, knee, floor}
use Rattle.alloc.specs.Allocation.{snr_offset, allocation}
use Rattle.alloc.specs.declared.Parameters.{Parameters}
use Rattle.slots.specs.declared.AllocState.{AllocState}
use Rattle.slots.specs.declared.Strategies.{Strategies}
use Rattle.mantissas.specs.Counts.{no_counts, counted_all}
use Rattle.mantissas.specs.Mantissas.{leak_of}
use Rattle.slots.specs.Reused.{ReusedBy}
use Rattle.mantissas.specs.declared.Counts.{Counts}
use Rattle.mantissas.specs.declared.Part.{Part}

-- what a slot without delta segments goes by, besides its exponents, and what was counted
abbrev pub memo_of : AllocState → Part → Counts → List ℕ
memo_of st p n =
    p.start ∷ p.end
    ∷ st.curve.sdcycod ∷ st.curve.fdcycod ∷ st.curve.sgaincod ∷ st.curve.dbpbcod ∷ st.curve.floorcod
    ∷ st.offsets.csnroffst ∷ get_or st.offsets.fsnroffst p.slot 0 ∷ get_or st.offsets.fgaincod p.slot 0
    ∷ st.leak.cplfleak ∷ st.leak.cplsleak
    ∷ n.bits ∷ n.ones ∷ n.twos ∷ n.fours ∷ []

-- the pointers that go by it
abbrev pub parameters_by : (fscod slot : ℕ) → (ℕ → ℕ) → Parameters
parameters_by fscod slot k =
    record {
      start = k 0;
      end = k 1;
      gains = record { fdecay = fast_decay (k 3); sdecay = slow_decay (k 2); fgain = fast_gain (k 9); sgain = slow_gain (k 4) };
      fastleak = leak_of slot (k 10);
      slowleak = leak_of slot (k 11);
      dbknee = knee (k 5);
      fscod = fscod;
      segments = [];
      count = 0;
      snroffset = snr_offset (k 7) (k 8);
      floor = floor (k 6);
    }

abbrev pub pointers_by : (fscod slot : ℕ) → (ℕ → ℕ) → List ℤ → List ℕ
pointers_by fscod slot k row = allocation row (parameters_by fscod slot k)

abbrev pub counts_in : List ℕ → Counts
counts_in kept = record { bits = get_or kept 12 0; ones = get_or kept 13 0; twos = get_or kept 14 0; fours = get_or kept 15 0 }

-- two were counted from the same, besides the exponents
abbrev pub SameBasis : List ℕ → List ℕ → Type 0
SameBasis kept memo = (i : ℕ) → i < 12 → get_or kept i 0 ≡ get_or memo i 0

abbrev pub KeptOf : (fscod slot : ℕ) → List ℕ → List ℤ → Type 0
KeptOf fscod slot kept row = counts_in kept ≡ counted_all no_counts (pointers_by fscod slot (λ i. get_or kept i 0) row)

-- seven memos, each of them true
pub record Kept (fscod : ℕ) (memos : List (List ℕ)) (exps : List (List ℤ)) : Type 0 where
  pub seven : length memos ≡ 7
  pub each : (slot : ℕ) → slot < 7 → KeptOf fscod slot (get_or memos slot []) (get_or exps slot [])

-- ---- a block

abbrev pub nothing : List ℕ
nothing = replicate 16 0

-- seven memos, each of them true where the block has no new exponents
pub record KeptUnlessNew (fscod : ℕ) (s : Strategies) (memos : List (List ℕ)) (exps : List (List ℤ)) : Type 0 where
  pub seven : length memos ≡ 7
  pub each : (slot : ℕ) → slot < 7 → ReusedBy s slot → KeptOf fscod slot (get_or memos slot []) (get_or exps slot [])
