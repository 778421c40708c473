-- The seven rules of the contribution profile, in their order, and the first one that is broken.
use Rattle.std.specs.Prelude.{Bool, false, ◌&&◌, not, cond, List, [], ◌∷◌, ℕ, suc, ◌*◌, eqb, ltb, ℤ, pos, length, get_or}
use Rattle.syntax.specs.Names as Name
use Rattle.syntax.specs.Run.{Row}
use Rattle.header.specs.declared.Header.{Header}
use Rattle.ac3.specs.Rooms.{natural}
use Rattle.rows.specs.Look.{value_column, named, first_where}
use Rattle.rows.specs.Found.{index_where}
use Rattle.profile.specs.declared.Verdict.{Verdict}
use Rattle.profile.specs.declared.Verdict.TheVariants.{Within, Broken}

-- A rule is broken by a field of this name whose value breaks it; some rules look at the frame's bytes or at acmod, too.
pub record Rule : Type 0 where
  pub field : ℕ
  pub breaks : Header → (value : ℕ) → Bool

-- 384 words, which at 48 kHz are 192 kbit/s
abbrev pub least_bytes : ℕ
least_bytes = 2 * 384

abbrev pub rules : List Rule
rules =
    record { field = Name.fscod; breaks = λ h v. not (eqb v 0) }
    ∷ record { field = Name.acmod; breaks = λ h v. not (eqb v 2) && not (eqb v 7) }
    ∷ record { field = Name.bsid; breaks = λ h v. not (eqb v 6) && not (eqb v 8) }
    ∷ record { field = Name.frmsizecod; breaks = λ h v. ltb h.bytes least_bytes }
    ∷ record { field = Name.lfeon; breaks = λ h v. eqb v 1 && not (eqb h.acmod 7) }
    ∷ record { field = Name.deltbaie; breaks = λ h v. eqb v 1 }
    ∷ record { field = Name.dialnorm; breaks = λ h v. eqb v 0 }
    ∷ []

-- a rule by its number, from 0; past the last one is no rule, and nothing breaks it
abbrev pub no_rule : Rule
no_rule = record { field = 0; breaks = λ h v. false }

abbrev pub rule : ℕ → Rule
rule number = get_or rules number no_rule

-- ---- the first that is broken

-- the rules that are left, the first of them of this number: told are the number and the row
unfoldable pub judged_by : (found : Rule → ℕ) (count number : ℕ) → List Rule → Verdict
judged_by found count number [] = Within
judged_by found count number (r ∷ rs) = cond (ltb (found r) count) (Broken number (found r)) (judged_by found count (suc number) rs)

-- of a frame's rows
abbrev pub broken : Header → Rule → Row → Bool
broken h rule r = eqb r.item.name rule.field && rule.breaks h r.value

abbrev pub found_at : Header → List Row → Rule → ℕ
found_at h rows rule = index_where (broken h rule) rows

abbrev pub judged : Header → List Row → Verdict
judged h rows = judged_by (found_at h rows) (length rows) 1 rules

-- ---- the same of numbers as a caller holds them

abbrev pub broken_in : Header → Rule → List ℤ → Bool
broken_in h rule row = named rule.field row && rule.breaks h (natural (get_or row value_column (pos 0)))

abbrev pub found_in : Header → (count : ℕ) → List ℤ → Rule → ℕ
found_in h count rows rule = first_where (broken_in h rule) count rows

abbrev pub judged_in : Header → (count : ℕ) → List ℤ → Verdict
judged_in h count rows = judged_by (found_in h count rows) count 1 rules
