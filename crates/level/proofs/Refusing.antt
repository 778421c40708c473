-- What is known where nothing is refused. Assumes nothing.
use mathlib.Core.Bool.{Bool, true, false, ◌&&◌, cond}
use mathlib.Core.Path.{◌≡◌, refl, ap}
use Prim.Native.Nat.{ℕ, ◌+◌, ◌*◌, ◌≤◌, ◌<◌}
use native.Mathlib.Omega.{arith}
use borrow.Author.Tests.{eqb-true, eqb-false, leb-true, ltb-true}
use lib.Dec.{eqb, leb, ltb}
use Rattle.header.specs.Header.{programmes}
use Rattle.ac3.specs.declared.Answer as parse
use Rattle.level.specs.Level.{from_zero, is_present, is_level, words_of, ends_in_time, check, refusal_for}
use Rattle.level.specs.Refusals.{number_of}
use Rattle.level.specs.declared.outcome.Refusal.{Refusal}
use Rattle.level.specs.declared.outcome.Refusal.TheVariants.{Frame, NoProgramme, NoLevel, EndsLate}
use Rattle.std.specs.Prelude.{Result, Ok, Err}

-- what is not refused
pub record Fits (a : parse.Answer) (programme level : ℕ) : Type 0 where
  pub accepted : a.refusal ≡ 0
  pub counted : 1 ≤ programme
  pub present : from_zero programme < programmes a.summary.header.acmod
  pub few : programme ≤ 2
  pub some : 1 ≤ level
  pub most : level ≤ 31
  pub in_time : a.summary.end + 18 ≤ words_of a * 16

abbrev is_fine : Result (Unit {0}) Refusal → ℕ
is_fine (Ok fine) = 0
is_fine (Err refusal) = 1

refuses : {refusal : Refusal} → ◌≡◌ {A = Result (Unit {0}) Refusal} (Err refusal) (Ok tt) → ⊥
refuses z = let differ : ◌≡◌ {A = ℕ} 1 0 = ap is_fine z in omega (arith, differ)

two : (b : Bool) → cond b 2 1 ≤ 2
two true = omega arith
two false = omega arith

both : (x y : Bool) → (x && y) ≡ true → (x ≡ true) × (y ≡ true)
both true y e = (refl, e)
both false y e = let z : ◌≡◌ {A = ℕ} 0 1 = cc in absurd (omega arith)

-- a check that tells no number refuses nothing
pub passes : (a : parse.Answer) (programme level : ℕ) → refusal_for a programme level ≡ 0 → check a programme level ≡ Ok tt
passes a programme level e = go (eqb a.refusal 0) (is_present a.summary.header.acmod programme) (is_level level) (ends_in_time a) refl e
  where
    go : (b c d f : Bool) → eqb a.refusal 0 ≡ b
        → number_of (cond b (cond c (cond d (cond f (Ok (tt {0})) (Err EndsLate)) (Err NoLevel)) (Err NoProgramme)) (Err (Frame a.refusal))) ≡ 0
        → cond b (cond c (cond d (cond f (Ok (tt {0})) (Err EndsLate)) (Err NoLevel)) (Err NoProgramme)) (Err (Frame a.refusal)) ≡ Ok (tt {0})
    go true true true true ok z = refl
    go true true true false ok z = absurd (omega (arith, z))
    go true true false f ok z = absurd (omega (arith, z))
    go true false d f ok z = absurd (omega (arith, z))
    go false c d f ok z = absurd (eqb-false a.refusal 0 ok z)

pub fits : (a : parse.Answer) (programme level : ℕ) → check a programme level ≡ Ok tt → Fits a programme level
fits a programme level e = go (eqb a.refusal 0) (is_present a.summary.header.acmod programme) (is_level level) (ends_in_time a) refl refl refl refl e
  where
    go : (b c d f : Bool) → eqb a.refusal 0 ≡ b → is_present a.summary.header.acmod programme ≡ c → is_level level ≡ d → ends_in_time a ≡ f
        → cond b (cond c (cond d (cond f (Ok (tt {0})) (Err EndsLate)) (Err NoLevel)) (Err NoProgramme)) (Err (Frame a.refusal)) ≡ Ok (tt {0}) → Fits a programme level
    go true true true true ok there fair time z =
        let p = both (leb 1 programme) (ltb (from_zero programme) (programmes a.summary.header.acmod)) there in
        let l = both (leb 1 level) (leb level 31) fair in
        let here = ltb-true (from_zero programme) (programmes a.summary.header.acmod) p.1 in
        record {
          accepted = eqb-true a.refusal 0 ok;
          counted = leb-true 1 programme p.0;
          present = here;
          few = omega (arith, here, two (eqb a.summary.header.acmod 0));
          some = leb-true 1 level l.0;
          most = leb-true level 31 l.1;
          in_time = leb-true (a.summary.end + 18) (words_of a * 16) time;
        }
    go true true true false ok there fair time z = absurd (refuses z)
    go true true false f ok there fair time z = absurd (refuses z)
    go true false d f ok there fair time z = absurd (refuses z)
    go false c d f ok there fair time z = absurd (refuses z)
