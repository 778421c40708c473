-- The laws by which a function that calls readers one after the other is proved equal to its grammar: a chain with a `then` for each call that
-- went well, ended by `finished`, or by `stops` where a call was refused. Assumes nothing.
use Prim.Native.Nat.{ℕ, suc, ◌+◌, ◌-◌, ◌*◌, ◌<◌, ◌≤◌}
use native.Mathlib.Omega.{arith}
use mathlib.Core.Path.{◌≡◌, refl, sym, ap, ◌∙◌}
use mathlib.Core.Bool.{Bool, true, false, cond}
use lib.ListN.{length}
use borrow.Author.Tests.{lt-ltb, le-ltb}
use Rattle.std.specs.Prelude.{Result, Ok, Err, IsErrAnd}
use Rattle.std.proofs.lemmas.Result.{err_from_is_err_and}
use Rattle.bits.specs.Bits.{value}
use Rattle.syntax.specs.declared.Reader.{Reader}
use Rattle.syntax.specs.declared.Item.{Item}
use Rattle.syntax.specs.declared.Refusal.{Refusal}
use Rattle.syntax.specs.Grammar.{Grammar, done, field, free, span, ◌>>=◌, note, pass, framed, position, refuse_if, turns, for}
use Rattle.syntax.specs.Run.{Check, clear, stop}
use Rattle.syntax.specs.Place.{Place, got, and_then, except, exec}
use Rattle.syntax.specs.Reads.{place, outcome, recorded, Same, Writes, Reads}
use Rattle.syntax.proofs.Bind.{exec_bind}

-- ---- the same bytes and rows

pub unchanged : {c : Reader} → Same c c
unchanged = record { bytes = refl; lent = refl; long = refl }

pub onward : {c d e : Reader} → Same c d → Same d e → Same c e
onward p q = record { bytes = q.bytes ∙ p.bytes; lent = q.lent ∙ p.lent; long = q.long ∙ p.long }

-- ---- one reader, and then another

module _ {A B : Type 0} {g : Grammar A} (f : A → Grammar B) {c d : Reader} where
  -- a reader of g, and then a reader of what is left
  pub then : {a : A} {r : Result B Refusal} {e : Reader} → Reads g c (Ok a) d → Reads (f a) d r e → Reads (g >>= f) c r e
  unfolding and_then
  then {a = a} h r =
      record {
        same = r.same ∙ ap (λ b. exec (f a) b.now (place d)) h.on.bytes ∙ ap (λ o. and_then o (λ v q. exec (f v) c.bytes.now q)) h.same ∙ sym (exec_bind f c.bytes.now g (place c));
        on = onward h.on r.on;
      }

  -- a reader of g that was refused: what is left is not read
  pub stops : {x : Refusal} → Reads g c (Err x) d → Reads (g >>= f) c (Err x) d
  unfolding and_then
  stops h = record { same = ap (λ o. and_then o (λ v q. exec (f v) c.bytes.now q)) h.same ∙ sym (exec_bind f c.bytes.now g (place c)); on = h.on }

-- nothing is left
pub finished : {A : Type 0} {a : A} {c : Reader} → Reads (done a) c (Ok a) c
unfolding exec
finished = record { same = refl; on = unchanged }

-- an element that a constructor made is the grammar's
module _ {A : Type 0} {i j : Item} {w : ℕ} {c d : Reader} (e : i ≡ j) where
  pub took : {k : ℕ → Grammar A} {r : Result A Refusal} → Reads (field i w k) c r d → Reads (field j w k) c r d
  took r = rw (← e) r

  pub noticed : {k : Grammar A} {r : Result A Refusal} → Reads (free i w k) c r d → Reads (free j w k) c r d
  noticed r = rw (← e) r

  pub spanned : {k : Grammar A} {r : Result A Refusal} → Reads (span i w k) c r d → Reads (span j w k) c r d
  spanned r = rw (← e) r

-- what `?` hands on is the refusal that it was given
pub refused : {A : Type 0} {g : Grammar A} {c d : Reader} {r : Result A Refusal} {x : Refusal} → IsErrAnd r (λ y. y ≡ x) → Reads g c (Err x) d → Reads g c r d
refused {r = r} h q = let p = err_from_is_err_and r h in rw (p.1, p.2) q

-- ---- a loop: its invariant, and the law of each of its needs

-- at number i, what is left to run is the loop from i on
pub record Turns {A : Type 0} (body : ℕ → A → Grammar A) (first last : ℕ) (a₀ : A) (c₀ : Reader) (i : ℕ) (a : A) (c : Reader) : Type 0 where
  pub left : exec (for i last a body) c₀.bytes.now (place c) ≡ exec (for first last a₀ body) c₀.bytes.now (place c₀)
  pub on : Same c₀ c

one_more : {A : Type 0} (body : ℕ → A → Grammar A) (i m : ℕ) (a : A) → turns i (suc m) a body ≡ (body i a >>= λ next. turns (i + 1) m next body)
unfolding turns
one_more body i m a = refl

none_left : {A : Type 0} (body : ℕ → A → Grammar A) (i : ℕ) (a : A) → turns i 0 a body ≡ done a
unfolding turns
none_left body i a = refl

module _ {A : Type 0} {body : ℕ → A → Grammar A} {first last : ℕ} {a : A} {c : Reader} where
  pub begins : Turns body first last a c first a c
  begins = record { left = refl; on = unchanged }

  module _ {i : ℕ} {b : A} {d : Reader} (t : Turns body first last a c i b d) where
    -- what is left after this turn
    abbrev later : A → Grammar A
    later next = turns (i + 1) (last - (i + 1)) next body

    left_to_run : i < last → exec (body i b >>= later) c.bytes.now (place d) ≡ exec (for first last a body) c.bytes.now (place c)
    left_to_run h = let m : last - i ≡ suc (last - (i + 1)) = omega arith in rw (m, one_more body i (last - (i + 1)) b) at t.left

    of_the_start : {r : Result A Refusal} {e : Reader} → Reads (body i b) d r e → outcome r (place e) ≡ exec (body i b) c.bytes.now (place d)
    of_the_start r = r.same ∙ ap (λ x. exec (body i b) x.now (place d)) t.on.bytes

    pub turn : {b' : A} {e : Reader} → i < last → Reads (body i b) d (Ok b') e → Turns body first last a c (i + 1) b' e
    unfolding and_then
    turn h r =
        record {
          left = ap (λ o. and_then o (λ v q. exec (later v) c.bytes.now q)) (of_the_start r) ∙ sym (exec_bind later c.bytes.now (body i b) (place d)) ∙ left_to_run h;
          on = onward t.on r.on;
        }

    -- a turn that was refused: the turns that are left are not read
    pub leaves : {x : Refusal} {e : Reader} → i < last → Reads (body i b) d (Err x) e → Reads (for first last a body) c (Err x) e
    unfolding and_then
    leaves h r =
        record {
          same = ap (λ o. and_then o (λ v q. exec (later v) c.bytes.now q)) (of_the_start r) ∙ sym (exec_bind later c.bytes.now (body i b) (place d)) ∙ left_to_run h;
          on = onward t.on r.on;
        }

    pub ends : last ≤ i → Reads (for first last a body) c (Ok b) d
    unfolding exec
    ends h = let m : last - i ≡ 0 = omega arith in record { same = rw (m, none_left body i b) at t.left; on = t.on }

-- ---- a judge

pub judged : (bad : Bool) (x : Refusal) {r : Result (Unit {0}) Refusal} {c : Reader} → r ≡ cond bad (Err x) (Ok tt) → Reads (refuse_if bad x) c r c
unfolding exec
judged bad x {c = c} e = rw e (go bad)
  where
    go : (b : Bool) → Reads (refuse_if b x) c (cond b (Err x) (Ok tt)) c
    go true = record { same = refl; on = unchanged }
    go false = record { same = refl; on = unchanged }

-- what went on was good
pub good : (bad : Bool) (x : Refusal) → ◌≡◌ {A = Result (Unit {0}) Refusal} (Ok tt) (cond bad (Err x) (Ok tt)) → bad ≡ false
good true x e = cc
good false x e = refl

-- ---- the start of a frame

module _ {x : Refusal} {n : ℕ} {c : Reader} where
  pub framed_short : length c.bytes.now < n → Reads (framed x n) c (Err x) c
  unfolding exec except
  framed_short short = record { same = simp (lt-ltb (length c.bytes.now) n short); on = unchanged }

  pub framed_whole : n ≤ length c.bytes.now → Reads (framed x n) c (Ok tt) (record c { limit = n * 8 })
  unfolding exec except
  framed_whole whole = record { same = simp (le-ltb (length c.bytes.now) n whole); on = record { bytes = refl; lent = refl; long = refl } }

-- ---- the bit reached

pub standing : {c : Reader} → Reads position c (Ok c.at) c
unfolding exec
standing = record { same = refl; on = unchanged }

-- ---- one element: a value that is kept, one that is dropped, a span

except_then : {A : Type 0} (a : A) (o : Check) (p q : Place) → except o p (λ _. got a q) ≡ and_then (except o p (λ _. got (tt {0}) q)) (λ _ r. got a r)
unfolding except and_then
except_then a clear p q = refl
except_then a (stop why bit) p q = refl

module _ {i : Item} {w v : ℕ} {c d : Reader} where
  -- what is made of the value
  pub made : {A : Type 0} (f : ℕ → A) → Writes (recorded i w v) c (Ok tt) d → v ≡ value c.bytes.now c.at w → Reads (field i w (λ u. done (f u))) c (Ok (f v)) d
  unfolding exec and_then
  made f h e = record { same = rw (← e) (ap (λ o. and_then o (λ _ q. got (f v) q)) h.same ∙ sym (except_then (f v) _ (place c) _)); on = h.on }

  pub unmade : {A : Type 0} (f : ℕ → A) {x : Refusal} → Writes (recorded i w v) c (Err x) d → v ≡ value c.bytes.now c.at w → Reads (field i w (λ u. done (f u))) c (Err x) d
  unfolding exec and_then
  unmade f h e = record { same = rw (← e) (ap (λ o. and_then o (λ _ q. got (f v) q)) h.same ∙ sym (except_then (f v) _ (place c) _)); on = h.on }

  pub noted : {r : Result (Unit {0}) Refusal} → Writes (recorded i w v) c r d → v ≡ value c.bytes.now c.at w → Reads (note i w) c r d
  unfolding exec
  noted h e = record { same = rw (← e) h.same; on = h.on }

  pub passed : {r : Result (Unit {0}) Refusal} → Writes (recorded i w v) c r d → v ≡ 0 → Reads (pass i w) c r d
  unfolding exec
  passed h e = record { same = rw e at h.same; on = h.on }

-- ---- what is promised is one answer: two results that are seen as the same outcome are one, at one place

pub record Agree {A : Type 0} (a : Result A Refusal) (c : Reader) (b : Result A Refusal) (d : Reader) : Type 0 where
  pub placed : place c ≡ place d
  pub answered : a ≡ b

pub agreed : {A : Type 0} (a b : Result A Refusal) (c d : Reader) → outcome a (place c) ≡ outcome b (place d) → Agree a c b d
agreed (Ok a) (Ok b) c d e = record { placed = cc; answered = cc }
agreed (Ok a) (Err y) c d e = let z : ◌≡◌ {A = ℕ} 0 1 = cc in record { placed = absurd (omega arith); answered = absurd (omega arith) }
agreed (Err x) (Ok b) c d e = let z : ◌≡◌ {A = ℕ} 0 1 = cc in record { placed = absurd (omega arith); answered = absurd (omega arith) }
agreed (Err x) (Err y) c d e = record { placed = cc; answered = cc }
