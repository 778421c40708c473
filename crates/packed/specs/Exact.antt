-- What holds of both forms. Every listing's text is read, and packs to its packed form; every packed form is read, and unpacks to the
-- text; nothing else is read. So each way back returns the exact start, and every listing has one packed form.
use Rattle.std.specs.Prelude.{◌≡◌, List, ℕ, ◌<◌}
use Rattle.listing.specs.Listing.{Listing, Valid, Each, text, packed}
use Rattle.packed.specs.Text.{text_verdict, text_packed}
use Rattle.packed.specs.Packed.{packed_verdict, packed_text}

-- ---- reading what was printed gives the listing

abbrev pub TextRead : Type 0
TextRead = (l : Listing) → Valid l → (text_verdict (text l) ≡ 0) × (text_packed (text l) ≡ packed l)

abbrev pub PackedRead : Type 0
PackedRead = (l : Listing) → Valid l → (packed_verdict (packed l) ≡ 0) × (packed_text (packed l) ≡ text l)

-- ---- what is read was printed

abbrev pub TextOnly : Type 0
TextOnly = (bytes : List ℕ) → text_verdict bytes ≡ 0 → (l : Listing) × Valid l × (text l ≡ bytes)

abbrev pub PackedOnly : Type 0
PackedOnly = (bytes : List ℕ) → Each (λ b. b < 256) bytes → packed_verdict bytes ≡ 0 → (l : Listing) × Valid l × (packed l ≡ bytes)

-- ---- going back returns the exact start

abbrev pub TextBack : Type 0
TextBack = (bytes : List ℕ) → text_verdict bytes ≡ 0 → (packed_verdict (text_packed bytes) ≡ 0) × (packed_text (text_packed bytes) ≡ bytes)

abbrev pub PackedBack : Type 0
PackedBack =
    (bytes : List ℕ)
    → Each (λ b. b < 256) bytes
    → packed_verdict bytes ≡ 0
    → (text_verdict (packed_text bytes) ≡ 0) × (text_packed (packed_text bytes) ≡ bytes)

-- ---- every listing has one packed form, and every packed form one listing's text

abbrev pub OnePacked : Type 0
OnePacked = (l m : Listing) → Valid l → Valid m → (text l ≡ text m → packed l ≡ packed m) × (packed l ≡ packed m → text l ≡ text m)
