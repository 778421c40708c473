-- No answer about a burst tells more rows than a frame can have: it tells those of its parse, or none. Assumes nothing.
use mathlib.Core.Bool.{Bool, true, false, cond}
use mathlib.Core.List.{List}
use Prim.Native.Nat.{ℕ, ◌≤◌}
use native.Mathlib.Omega.{arith}
use lib.IntN.{ℤ}
use lib.ListN.{length}
use Rattle.ac3.specs.Promise.{Call, input, answer_to}
use Rattle.ac3.specs.RowBound.{most_rows}
use Rattle.ac3.specs.declared.Answer as parse
use Rattle.ac3.proofs.RowBound.{row_bound}
use Rattle.burst.specs.Answers.{Left, Verdict, refuses, gives, answered, numbered, writing, reading, bsmod_of, written, read}
use Rattle.burst.specs.Burst.{head_bytes}
use Rattle.burst.specs.Refusals.{unread}

fewer : (b : Bool) (x y : Left) (n : ℕ) → (numbered x).0.rows ≤ n → (numbered y).0.rows ≤ n → (numbered (cond {A = Left} b x y)).0.rows ≤ n
fewer true x y n h k = h
fewer false x y n h k = k

few_answered : (lent : List ℤ) (out : List ℕ) (parsed : parse.Answer × List ℤ) (v : Verdict) → (numbered (answered lent out parsed v)).0.rows ≤ parsed.0.rows
few_answered lent out parsed (refuses r) = fewer (unread r) _ _ _ (omega arith) (omega arith)
few_answered lent out parsed (gives bytes) = omega arith

pub few_written : (capture : List ℕ) (place : ℕ) (rows : List ℤ) (out : List ℕ) → (written capture place rows out).0.rows ≤ most_rows
few_written capture place rows out =
    let c : Call = record { capture = capture; place = place; room = rows } in
    omega (arith, few_answered rows out (answer_to c) (writing (answer_to c).0 (bsmod_of c) (input c) (length out)), row_bound.counted c)

pub few_read : (burst : List ℕ) (rows : List ℤ) (out : List ℕ) → (read burst rows out).0.rows ≤ most_rows
few_read burst rows out =
    let c : Call = record { capture = burst; place = head_bytes; room = rows } in
    omega (arith, few_answered rows out (answer_to c) (reading (answer_to c).0 (bsmod_of c) burst (length out)), row_bound.counted c)
