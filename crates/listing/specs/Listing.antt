-- A listing, its text and its packed form. Every number here is the stored one.
use Rattle.std.specs.Prelude.{◌≡◌, Bool, true, false, List, [], ◌∷◌, ◌++◌, ℕ, ◌+◌, ◌≤◌, ◌<◌, length, take, drop}
use Rattle.listing.specs.Number.{groups, signed, letters}

pub record Listing : Type 0 where
  pub rows : List (List ℕ)
  pub refused : Bool
  pub last : List ℕ

-- each of a list holds
abbrev pub Each : {A : Type 0} → (A → Type 0) → List A → Type 0
Each P [] = Unit
Each P (x ∷ xs) = P x × Each P xs

-- a line of n numbers that fit 32 signed bits
abbrev pub Line : ℕ → List ℕ → Type 0
Line n line = (length line ≡ n) × Each (λ v. v ≤ 2147483648) line

-- three numbers follow `audio`, five `refused`
abbrev pub last_count : Bool → ℕ
last_count false = 3
last_count true = 5

-- nine numbers to a row, and a row count that fits 32 signed bits
pub record Valid (l : Listing) : Type 0 where
  pub rows : Each (Line 9) l.rows
  pub count : length l.rows < 2147483648
  pub last : Line (last_count l.refused) l.last

-- ---- the text

-- one space between the numbers, and a line feed
abbrev pub line : List ℕ → List ℕ
line [] = []
line (v ∷ []) = signed v ++ (10 ∷ [])
line (v ∷ w ∷ ws) = signed v ++ (32 ∷ line (w ∷ ws))

abbrev pub joined : (List ℕ → List ℕ) → List (List ℕ) → List ℕ
joined f [] = []
joined f (r ∷ rs) = f r ++ joined f rs

abbrev pub word : Bool → List ℕ
word false = take 6 letters
word true = drop 6 letters

abbrev pub text : Listing → List ℕ
text l = joined line l.rows ++ (word l.refused ++ line l.last)

-- ---- the packed form

abbrev pub grouped : List ℕ → List ℕ
grouped [] = []
grouped (v ∷ vs) = groups v ++ grouped vs

-- 0 for `audio`, 1 for `refused`, stored
abbrev pub kind : Bool → ℕ
kind false = 1
kind true = 2

abbrev pub packed : Listing → List ℕ
packed l = groups (length l.rows + 1) ++ (joined grouped l.rows ++ (groups (kind l.refused) ++ grouped l.last))
