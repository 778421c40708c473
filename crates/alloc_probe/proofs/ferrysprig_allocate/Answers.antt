-- `alloc_probe::ferrysprig_allocate` meets its contract: what the tests tell is what `alloc::allocate` asks for. Assumes nothing.
use Rattle.std.proofs.Common.{◌≡◌, ◌∙◌, refl, sym, Bool, true, false, ◌&&◌, List, [], ◌∷◌, ℕ, zero, suc, ◌≤◌, leb, T, ℤ, pos, arith}
use mathlib.Core.Path.{subst}
use borrow.Author.Tests.{leb-true}
use lib.Signed.{le_z}
use Rattle.signed.proofs.Bounds.{back_32, cast_32, below_more, below_u16, below_cast, below_is, below_read}
use Rattle.alloc.specs.Sound.{Exponents}
use Rattle.alloc.proofs.Offset.{snr_below}
use Rattle.alloc_probe.specs.Accepted.{start_fits, range_fits, codes_fit, is_exponent, exponents_fit, answer}
use Rattle.alloc_probe.proofs.ferrysprig_allocate.Goals as goal

-- ---- what the tests tell

true_is : {t : Bool} → t ≡ true → T t
true_is e = subst T (sym e) tt

both_is : (a b : Bool) → (a && b) ≡ true → (a ≡ true) × (b ≡ true)
both_is true b e = (refl, e)
both_is false b e = absurd (true_is e)

range_end : (start end : ℕ) → range_fits start end ≡ true → end ≤ 253
range_end start end e = leb-true end 253 (both_is (start_fits start) (leb end 253) e).1

pub record Codes (fscod csnroffst fsnroffst count : ℕ) : Type 0 where
  pub rate : fscod ≤ 2
  pub coarse : csnroffst ≤ 63
  pub fine : fsnroffst ≤ 15
  pub segments : count ≤ 8

codes : (fscod csnroffst fsnroffst count which : ℕ) → codes_fit fscod csnroffst fsnroffst count which ≡ true → Codes fscod csnroffst fsnroffst count
codes fscod csnroffst fsnroffst count which e =
    let first = both_is (leb fscod 2) (leb csnroffst 63 && (leb fsnroffst 15 && (leb count 8 && leb which 1))) e in
    let second = both_is (leb csnroffst 63) (leb fsnroffst 15 && (leb count 8 && leb which 1)) first.1 in
    let third = both_is (leb fsnroffst 15) (leb count 8 && leb which 1) second.1 in
    let fourth = both_is (leb count 8) (leb which 1) third.1 in
    record {
      rate = leb-true fscod 2 first.0;
      coarse = leb-true csnroffst 63 second.0;
      fine = leb-true fsnroffst 15 third.0;
      segments = leb-true count 8 fourth.0;
    }

fitting : (exponents : List ℤ) → exponents_fit exponents ≡ true → Exponents exponents
unfolding exponents_fit
fitting [] e bin = (record { le = tt }, record { le = tt })
fitting (z ∷ zs) e zero =
    let both-tests = both_is (le_z (pos 0) z) (le_z z (pos 24)) (both_is (is_exponent z) (exponents_fit zs) e).0 in
    (record { le = true_is both-tests.0 }, record { le = true_is both-tests.1 })
fitting (z ∷ zs) e (suc bin) = fitting zs (both_is (is_exponent z) (exponents_fit zs) e).1 bin

pub returns-then-not-range_fits : goal.returns-then-not-range_fits
returns-then-not-range_fits c = let no = sym c.range_fits.ensures ∙ c.if-not-range_fits.true in rw no (refl, refl)

pub returns-then-not-codes_fit : goal.returns-then-not-codes_fit
returns-then-not-codes_fit c =
    let range = sym c.range_fits.ensures ∙ c.if-not-range_fits.false in
    let no = sym c.codes_fit.ensures ∙ c.if-not-codes_fit.true in
    rw (range, no) (refl, refl)

pub returns-then-not-exponents_fit : goal.returns-then-not-exponents_fit
returns-then-not-exponents_fit c =
    let range = sym c.range_fits.ensures ∙ c.if-not-range_fits.false in
    let numbers = sym c.codes_fit.ensures ∙ c.if-not-codes_fit.false in
    let no = sym c.exponents_fit.ensures ∙ c.if-not-exponents_fit.true in
    rw (range, numbers, no) (refl, refl)

pub snr_offset-requires : goal.snr_offset-requires
snr_offset-requires c =
    let a = c.args in
    let small = codes a.fscod a.csnroffst a.fsnroffst a.count a.which (sym c.codes_fit.ensures ∙ c.if-not-codes_fit.false) in
    (omega (arith, small.coarse), omega (arith, small.fine))

pub allocate-requires : goal.allocate-requires
allocate-requires c =
    let a = c.args in
    let small = codes a.fscod a.csnroffst a.fsnroffst a.count a.which (sym c.codes_fit.ensures ∙ c.if-not-codes_fit.false) in (
      record {
        end = range_end a.start a.end (sym c.range_fits.ensures ∙ c.if-not-range_fits.false);
        fscod = omega (arith, small.rate);
        count = small.segments;
        fastleak = below_cast (below_more (below_u16 a.fastleak (omega arith)) tt);
        slowleak = below_cast (below_more (below_u16 a.slowleak (omega arith)) tt);
        snroffset = below_read (below_is c.snr_offset.ensures (snr_below a.csnroffst a.fsnroffst (omega (arith, small.coarse)) (omega (arith, small.fine))));
        floor = below_read c.floor.ensures.1;
      },
      fitting a.exponents.now (sym c.exponents_fit.ensures ∙ c.if-not-exponents_fit.false),
    )

pub returns : goal.returns
unfolding answer
returns c =
    let a = c.args in
    let range = sym c.range_fits.ensures ∙ c.if-not-range_fits.false in
    let numbers = sym c.codes_fit.ensures ∙ c.if-not-codes_fit.false in
    let all = sym c.exponents_fit.ensures ∙ c.if-not-exponents_fit.false in
    rw (range, numbers, all) (
      refl,
      rw (
        sym c.fast_decay.ensures,
        sym c.slow_decay.ensures,
        sym c.fast_gain.ensures,
        sym c.slow_gain.ensures,
        sym c.db_knee.ensures,
        sym (back_32 _ c.snr_offset.type_inv ∙ c.snr_offset.ensures),
        sym (back_32 _ c.floor.type_inv ∙ c.floor.ensures.0),
        sym (cast_32 a.fastleak (omega arith)),
        sym (cast_32 a.slowleak (omega arith)),
        sym c.table_of.ensures,
      ) c.allocate.ensures,
    )
