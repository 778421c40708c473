-- When each refusal is given, in both directions and over bytes alone: which listings they begin, and what stands at the byte that is
-- refused. A refusal is the first in reading order because what stands before that byte begins a listing.
use Rattle.std.specs.Prelude.{List, [], ◌∷◌, ◌++◌, ◌↔◌, ◌⊎◌, ◌≡◌, ℕ, ◌+◌, ◌*◌, ◌%◌, ◌≤◌, ◌<◌, length}
use Rattle.listing.specs.Number.{decimal, groups}
use Rattle.listing.specs.Listing.{Listing, Valid, Each, Line, line, joined, text, grouped, packed}
use Rattle.packed.specs.Converted.{packing, unpacking}

-- the refusal's number, 0 for none
abbrev pub packing_refusal : List ℕ → List ℕ → ℕ
packing_refusal listing out = (packing listing out).0.refusal

abbrev pub unpacking_refusal : List ℕ → List ℕ → ℕ
unpacking_refusal packed out = (unpacking packed out).0.refusal

-- bytes that are one of a sort and not all of it
abbrev pub Begins : (List ℕ → Type 0) → List ℕ → Type 0
Begins Is bytes = (b : ℕ) × (rest : List ℕ) × Is (bytes ++ (b ∷ rest))

-- good bytes, then one of which P holds, then any
pub record First (P : List ℕ → ℕ → Type 0) (bytes : List ℕ) : Type 0 where
  pub good : List ℕ
  pub next : ℕ
  pub rest : List ℕ
  pub whole : bytes ≡ good ++ (next ∷ rest)
  pub holds : P good next

-- ---- text

abbrev pub IsText : List ℕ → Type 0
IsText bytes = (l : Listing) × Valid l × (text l ≡ bytes)

-- 2,147,483,648 rows: one more than a listing may have
abbrev pub RowsTooMany : List ℕ → Type 0
RowsTooMany bytes = (rows : List (List ℕ)) × Each (Line 9) rows × (length rows ≡ 2147483648) × (joined line rows ≡ bytes)

-- the beginning of a listing. The row that is one too many is refused at its end, so a text that ends within it counts as one.
abbrev pub Unfinished : List ℕ → Type 0
Unfinished bytes = Begins IsText bytes ⊎ Begins RowsTooMany bytes

-- where a number begins: nothing, or a space or a line feed is the last byte
abbrev pub NumberBegins : List ℕ → Type 0
NumberBegins bytes = (bytes ≡ []) ⊎ ((front : List ℕ) × (b : ℕ) × ((b ≡ 32) ⊎ (b ≡ 10)) × (bytes ≡ front ++ (b ∷ [])))

-- a number that fits, and a digit with which it does not
pub record DigitTooMany (good : List ℕ) (b : ℕ) : Type 0 where
  pub before : List ℕ
  pub n : ℕ
  pub digit : ℕ
  pub begins : NumberBegins before
  pub good_is : good ≡ before ++ decimal n
  pub b_is : b ≡ 48 + digit
  pub one : digit < 10
  pub fits : n ≤ 2147483647
  pub large : 2147483647 < n * 10 + digit

abbrev pub TooLarge : List ℕ → ℕ → Type 0
TooLarge good b = DigitTooMany good b ⊎ RowsTooMany (good ++ (b ∷ []))

-- no listing goes on with this byte, and it is not its size that forbids it
pub record Malformed (good : List ℕ) (b : ℕ) : Type 0 where
  pub not_begun : ¬ Unfinished (good ++ (b ∷ []))
  pub not_whole : ¬ IsText (good ++ (b ∷ []))
  pub not_large : ¬ TooLarge good b

pub record PackRefusals (bytes out : List ℕ) : Type 0 where
  pub none : (packing_refusal bytes out ≡ 0) ↔ ((l : Listing) × Valid l × (text l ≡ bytes) × (length (packed l) ≤ length out))
  pub malformed : (packing_refusal bytes out ≡ 40) ↔ First (λ good b. Unfinished good × Malformed good b) bytes
  pub large : (packing_refusal bytes out ≡ 42) ↔ First (λ good b. Unfinished good × TooLarge good b) bytes
  pub ends : (packing_refusal bytes out ≡ 43) ↔ Unfinished bytes
  pub more : (packing_refusal bytes out ≡ 44) ↔ First (λ good _. IsText good) bytes
  pub room : (packing_refusal bytes out ≡ 45) ↔ ((l : Listing) × Valid l × (text l ≡ bytes) × (length out < length (packed l)))

-- ---- packed

abbrev pub IsPacked : List ℕ → Type 0
IsPacked bytes = (l : Listing) × Valid l × (packed l ≡ bytes)

-- what groups are worth, lowest first
abbrev pub value : List ℕ → ℕ
value [] = 0
value (b ∷ bs) = b % 128 + 128 * value bs

-- groups that others are to follow, and a value that fits so far
abbrev pub Going : List ℕ → Type 0
Going gs = Each (λ b. 128 ≤ b) gs × (value gs ≤ 2147483648)

-- whole numbers: nothing, or the last byte is a last group
abbrev pub NumberEnds : List ℕ → Type 0
NumberEnds bytes = (bytes ≡ []) ⊎ ((front : List ℕ) × (b : ℕ) × (b < 128) × (bytes ≡ front ++ (b ∷ [])))

-- whole numbers that begin a packed listing, then the groups of one that is not whole
pub record Reached (done gs bytes : List ℕ) : Type 0 where
  pub begins : Begins IsPacked done
  pub ends : NumberEnds done
  pub going : Going gs
  pub bytes_are : bytes ≡ done ++ gs

abbrev pub Within : (List ℕ → ℕ → Type 0) → List ℕ → Type 0
Within P bytes = First (λ good b. (done gs : List ℕ) × Reached done gs good × P gs b) bytes

-- where the kind of the last line stands
abbrev pub AtKind : List ℕ → Type 0
AtKind done =
    (rows : List (List ℕ)) × Each (Line 9) rows × (length rows < 2147483648) × (done ≡ groups (length rows + 1) ++ joined grouped rows)

-- the row count -1, or a kind that is neither `audio` nor `refused`
abbrev pub CountWrong : List ℕ → Type 0
CountWrong bytes = (rest : List ℕ) × (bytes ≡ 0 ∷ rest)

pub record KindWrong (bytes : List ℕ) : Type 0 where
  pub done : List ℕ
  pub at : AtKind done
  pub kind : ℕ
  pub fits : kind ≤ 2147483648
  pub not_audio : ¬ (kind ≡ 1)
  pub not_refused : ¬ (kind ≡ 2)
  pub rest : List ℕ
  pub bytes_are : bytes ≡ done ++ (groups kind ++ rest)

pub record UnpackRefusals (bytes out : List ℕ) : Type 0 where
  pub none : (unpacking_refusal bytes out ≡ 0) ↔ ((l : Listing) × Valid l × (packed l ≡ bytes) × (length (text l) ≤ length out))
  pub needless : (unpacking_refusal bytes out ≡ 41) ↔ Within (λ gs b. ¬ (gs ≡ []) × (b ≡ 0)) bytes
  pub large : (unpacking_refusal bytes out ≡ 42) ↔ Within (λ gs b. 2147483648 < value (gs ++ (b ∷ []))) bytes
  pub ends : (unpacking_refusal bytes out ≡ 43) ↔ ((done gs : List ℕ) × Reached done gs bytes)
  pub more : (unpacking_refusal bytes out ≡ 44) ↔ First (λ good _. IsPacked good) bytes
  pub room : (unpacking_refusal bytes out ≡ 45) ↔ ((l : Listing) × Valid l × (packed l ≡ bytes) × (length out < length (text l)))
  pub wrong : (unpacking_refusal bytes out ≡ 46) ↔ (CountWrong bytes ⊎ KindWrong bytes)
  -- so the beginning of a packed listing is refused with 43; and what is refused with 43 begins one, unless it ends within a number that
  -- none has, of five groups and more to come or for the kind of two (what such a number is, is told at its end: 41, 42 or 46)
  pub begun : Begins IsPacked bytes → unpacking_refusal bytes out ≡ 43
  pub begins : (done gs : List ℕ) → Reached done gs bytes → length gs < 5 → (AtKind done → gs ≡ []) → Begins IsPacked bytes

-- ---- for every input (a list of numbers is one of bytes if each is below 256) and every output

abbrev pub PackingRefused : Type 0
PackingRefused = (bytes out : List ℕ) → PackRefusals bytes out

abbrev pub UnpackingRefused : Type 0
UnpackingRefused = (bytes out : List ℕ) → Each (λ b. b < 256) bytes → UnpackRefusals bytes out
