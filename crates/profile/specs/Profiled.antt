-- What the answer means, over the fields of the frame: within exactly when no rule is broken; else the first rule that is, and the first row
-- that breaks it; and a frame that parsing refuses gets that refusal.
use Rattle.std.specs.Prelude.{true, List, [], ◌∷◌, ◌⊎◌, ◌≡◌, ℕ, zero, suc, ◌*◌, ◌≤◌, ◌<◌, Ok, Err}
use Rattle.header.specs.declared.Header.{Header}
use Rattle.syntax.specs.Names as Name
use Rattle.syntax.specs.Run.{Row}
use Rattle.ac3.specs.Promise.{Call, listed, answer_to, Accepted}
use Rattle.profile.specs.Rules.{rule}
use Rattle.profile.specs.Answers.{verdict_of}
use Rattle.profile.specs.declared.Verdict.TheVariants.{Within, Broken}

-- row i of a list
abbrev pub Stands : List Row → ℕ → Row → Type 0
Stands [] i r = ⊥
Stands (x ∷ xs) zero r = x ≡ r
Stands (x ∷ xs) (suc i) r = Stands xs i r

-- row i of the frame is a field of this name with this value
abbrev pub HasAt : Call → (i name value : ℕ) → Type 0
HasAt c i name value = (r : Row) × Stands (listed c) i r × (r.item.name ≡ name) × (r.value ≡ value)

abbrev pub header_of : Call → Header
header_of c = (answer_to c).0.summary.header

-- row i breaks rule n, counted from 0
abbrev pub BreaksAt : Call → (n i : ℕ) → Type 0
BreaksAt c n i = (v : ℕ) × HasAt c i (rule n).field v × ((rule n).breaks (header_of c) v ≡ true)

-- the seven rules in words
pub record Kept (c : Call) : Type 0 where
  pub fscod : (i v : ℕ) → HasAt c i Name.fscod v → v ≡ 0
  pub acmod : (i v : ℕ) → HasAt c i Name.acmod v → (v ≡ 2) ⊎ (v ≡ 7)
  pub bsid : (i v : ℕ) → HasAt c i Name.bsid v → (v ≡ 6) ⊎ (v ≡ 8)
  -- two bytes to a word
  pub words : 2 * 384 ≤ (header_of c).bytes
  pub lfeon : (i : ℕ) → HasAt c i Name.lfeon 1 → (header_of c).acmod ≡ 7
  pub deltbaie : (i : ℕ) → ¬ HasAt c i Name.deltbaie 1
  pub dialnorm : (i : ℕ) → ¬ HasAt c i Name.dialnorm 0

-- rule n, counted from 1, and row i are told
pub record Told (c : Call) (n i : ℕ) : Type 0 where
  pub number : ℕ
  pub counted : n ≡ suc number
  pub one_of : number < 7
  -- the row breaks the rule, and is the first that does
  pub breaks : BreaksAt c number i
  pub first_row : (j : ℕ) → j < i → ¬ BreaksAt c number j
  -- no earlier rule is broken by any row
  pub first_rule : (m j : ℕ) → m < number → ¬ BreaksAt c m j

pub record Profiled (c : Call) : Type 0 where
  pub refused : ¬ Accepted c → verdict_of c ≡ Err (answer_to c).0.refusal
  -- within exactly when no row breaks a rule
  pub within : Accepted c → verdict_of c ≡ Ok Within → (n i : ℕ) → n < 7 → ¬ BreaksAt c n i
  pub whole : Accepted c → ((n i : ℕ) → n < 7 → ¬ BreaksAt c n i) → verdict_of c ≡ Ok Within
  -- the same in words
  pub within_kept : Accepted c → verdict_of c ≡ Ok Within → Kept c
  pub kept_within : Accepted c → Kept c → verdict_of c ≡ Ok Within
  -- else the first rule that is broken, and the first row that breaks it
  pub told : Accepted c → (n i : ℕ) → verdict_of c ≡ Ok (Broken n i) → Told c n i

abbrev pub ProfileIsRight : Type 0
ProfileIsRight = (c : Call) → Profiled c
