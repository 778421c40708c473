-- Laws of what is kept in the front of lent runs: an entry or a frame goes behind what is there, and the rest is as it was. Assumes nothing.
use mathlib.Core.List.{List, [], ◌∷◌, ◌++◌, append_assoc, append-nil}
use mathlib.Core.Path.{◌≡◌, refl, sym, ap, ◌∙◌}
use Prim.Native.Nat.{ℕ, ◌+◌, ◌-◌, ◌*◌, ◌/◌, ◌≤◌, ◌<◌}
use native.Mathlib.Omega.{arith}
use lib.ListN.{length, take, drop, length-append, length-drop, drop_of_length-le}
use lib.Seq.{sets, sets-eq, take-append_seam, drop-append_seam, drop-append-add, drop-drop, take_all}
use borrow.Rule.Slice.PartMut.{put_mid}
use Rattle.writer.proofs.Written.{in_front_lem}
use Rattle.salvage.specs.Walk.{Entry, entry_width, Kept, refuse, with}
use Rattle.salvage.specs.Lent.{in_front, numbers, Holds}
use Rattle.salvage.specs.Refusals.{Answer}

module _ (xs run : List ℕ) (fits : length xs ≤ length run) where
  pub length_in_front : length (in_front xs run) ≡ length run
  length_in_front = simp (length-append, length-drop) (omega arith)

module _ (xs vs run : List ℕ) where
  -- behind what is in front, in the rest that is left
  behind : xs ++ in_front vs (drop (length xs) run) ≡ in_front (xs ++ vs) run
  behind = rw (drop-drop, length-append) (sym (append_assoc xs vs _))

  pub stored : length xs + length vs ≤ length run → sets (in_front xs run) (length xs) vs ≡ in_front (xs ++ vs) run
  stored h =
      sets-eq vs (in_front xs run) (length xs) (rw (length_in_front xs run (omega arith)) h)
      ∙ rw (take-append_seam, drop-append-add) (append_assoc xs vs _ ∙ behind)

  pub appended : take (length xs) (in_front xs run) ++ in_front vs (drop (length xs) (in_front xs run)) ≡ in_front (xs ++ vs) run
  appended = rw (take-append_seam, drop-append_seam) behind

pub length_numbers : (es : List Entry) → length (numbers es) ≡ length es * entry_width
unfolding numbers
length_numbers [] = refl
length_numbers (e ∷ es) = omega (arith, length_numbers es)

numbers_more : (es : List Entry) (e : Entry) → numbers (es ++ (e ∷ [])) ≡ numbers es ++ (e.kind ∷ e.place ∷ e.size ∷ [])
unfolding numbers
numbers_more [] e = refl
numbers_more (x ∷ es) e = ap (λ l. x.kind ∷ x.place ∷ x.size ∷ l) (numbers_more es e)

-- ---- what is held, read off

module _ {list out : List ℕ} {k : Kept} {done : Answer} {l o : List ℕ} (h : Holds list out (done, (l, o)) k) where
  pub entries_of : done.entries ≡ length k.entries
  entries_of = ap (λ x. x.0.entries) h.same

  pub bytes_of : done.bytes ≡ length k.output
  bytes_of = ap (λ x. x.0.bytes) h.same

  pub refusal_of_lem : done.refusal ≡ k.refusal
  refusal_of_lem = ap (λ x. x.0.refusal) h.same

  pub list_length : length l ≡ length list
  list_length = ap (λ x. length x.1.0) h.same ∙ length_in_front (numbers k.entries) list (omega (arith, length_numbers k.entries, h.listed))

  pub out_length : length o ≡ length out
  out_length = ap (λ x. length x.1.1) h.same ∙ length_in_front k.output out h.written

  pub stops : (n : ℕ) → Holds list out (record { refusal = n; entries = done.entries; bytes = done.bytes }, (l, o)) (refuse n k)
  stops n = record {
    same = ap (λ x. (record { refusal = n; entries = x.0.entries; bytes = x.0.bytes }, x.1)) h.same;
    listed = h.listed;
    written = h.written;
  }

  module _ (e : Entry) (bytes : List ℕ) {b : ℕ} {l' o' : List ℕ} where
    pub goes_on : length k.entries < length list / entry_width → length k.output + length bytes ≤ length out
        → b ≡ done.bytes + length bytes
        → l' ≡ sets l (done.entries * entry_width) (e.kind ∷ e.place ∷ e.size ∷ [])
        → o' ≡ take done.bytes o ++ in_front bytes (drop done.bytes o)
        → Holds list out (record { refusal = 0; entries = done.entries + 1; bytes = b }, (l', o')) (with e bytes k)
    goes_on room space size stores writes = record {
      same = λ i. (record { refusal = 0; entries = one i; bytes = (size ∙ ap (λ n. n + length bytes) bytes_of ∙ sym (length-append k.output bytes)) i }, (listed i, written i));
      listed = omega (arith, length-append k.entries (e ∷ []));
      written = rw length-append space;
    }
      where
        vs : List ℕ
        vs = e.kind ∷ e.place ∷ e.size ∷ []

        one : done.entries + 1 ≡ length (k.entries ++ (e ∷ []))
        one = omega (arith, entries_of, length-append k.entries (e ∷ []))

        at : done.entries * entry_width ≡ length (numbers k.entries)
        at = omega (arith, entries_of, length_numbers k.entries)

        listed : l' ≡ in_front (numbers (k.entries ++ (e ∷ []))) list
        listed =
            stores ∙ (λ i. sets (h.same i).1.0 (at i) vs)
            ∙ stored (numbers k.entries) vs list (omega (arith, length_numbers k.entries, room))
            ∙ ap (λ xs. in_front xs list) (sym (numbers_more k.entries e))

        written : o' ≡ in_front (k.output ++ bytes) out
        written =
            writes ∙ (λ i. take (bytes_of i) (h.same i).1.1 ++ in_front bytes (drop (bytes_of i) (h.same i).1.1))
            ∙ appended k.output bytes out

-- what a lent rest comes back as, where bytes were written to its front: everything from the place on was lent
pub part_back : (at : ℕ) (run vs : List ℕ) {rest : List ℕ} → at + length vs ≤ length run
    → rest ≡ sets (take (length run - at) (drop at run)) 0 vs
    → put_mid at (length run - at) run rest ≡ take at run ++ in_front vs (drop at run)
part_back at run vs {rest} h e =
    let long = length-drop at run in
    let short : length (drop at run) ≤ length run - at = omega (arith, long) in
    let whole : rest ≡ in_front vs (drop at run) = e ∙ ap (λ l. sets l 0 vs) (take_all _ _ short) ∙ in_front_lem vs (drop at run) (omega (arith, long)) in
    ap (λ r. take at run ++ (rest ++ r)) (drop_of_length-le (drop at run) short) ∙ ap (λ r. take at run ++ r) (append-nil rest ∙ whole)
