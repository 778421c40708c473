-- The laws of `Counts`: of sequence, of what is there only under a test, of loops; and what a counted grammar writes on any input. A part
-- of a grammar that has all items of a key finds none before it, so it may count from 0. Assumes nothing.
use mathlib.Core.Bool.{Bool, true, false, ◌&&◌, ◌||◌, not, cond}
use mathlib.Core.List.{List, [], ◌∷◌}
use mathlib.Core.Path.{◌≡◌, refl, ap, sym, subst, ◌∙◌}
use Prim.Native.Nat.{ℕ, zero, suc, ◌+◌, ◌≤◌, ◌<◌}
use native.Mathlib.Omega.{arith}
use lib.Dec.{T, eqb, ltb, eqb→eq, lt→ltb, T_not}
use Rattle.bits.proofs.Window.{value_lt}
use Rattle.syntax.specs.declared.Item.{Item}
use Rattle.syntax.specs.declared.Refusal.{Refusal}
use Rattle.syntax.specs.Grammar.{Grammar, done, ◌>>=◌, part_of, take, note, refuse_if, when, read_if, turns}
use Rattle.syntax.specs.Run.{Row, Spot, Check, clear, stop, Result, unless, run}
use Rattle.ac3.specs.AtMost.{AtMost, a_done, a_refuse, a_field, a_free, a_span, a_walk, a_frame, a_here}
use Rattle.ac3.specs.Counts.{Unparted, u_done, u_refuse, u_field, u_free, u_span, u_walk, u_frame, u_here, Right, after, Counts, c_done, c_refuse, c_field, c_free, c_span, c_walk, c_frame, c_here}
use Rattle.ac3.specs.Marked.{among}
use Rattle.ac3.specs.Parts.{parted, same_field}
use Rattle.ac3.proofs.AtMost.{Any}

-- ---- names without parts

module _ {A B : Type 0} where
  pub u_bind : {g : Grammar A} {f : A → Grammar B} → Unparted g → ((a : A) → Unparted (f a)) → Unparted (g >>= f)
  unfolding ◌>>=◌
  u_bind (u_done {a = a}) h = h a
  u_bind u_refuse h = u_refuse
  u_bind (u_field t p k) h = u_field t p (λ v. u_bind (k v) h)
  u_bind (u_free t p k) h = u_free t p (u_bind k h)
  u_bind (u_span t p k) h = u_span t p (u_bind k h)
  u_bind (u_walk t p k) h = u_walk t p (u_bind k h)
  u_bind (u_frame k) h = u_frame (u_bind k h)
  u_bind (u_here k) h = u_here (λ at. u_bind (k at) h)

pub u_if : (b : Bool) (x : Refusal) → Unparted (refuse_if b x)
u_if true x = u_refuse
u_if false x = u_done

pub u_when : (b : Bool) {g : Grammar (Unit {0})} → Unparted g → Unparted (when b g)
u_when true h = h
u_when false h = u_done

pub u_read : {A : Type 0} (b : Bool) (a : A) {g : Grammar A} → Unparted g → Unparted (read_if b a g)
u_read true a h = h
u_read false a h = u_done

pub u_cond : {A : Type 0} (b : Bool) {g k : Grammar A} → Unparted g → Unparted k → Unparted (cond b g k)
u_cond true h i = h
u_cond false h i = i

pub u_turns : {A : Type 0} (n i : ℕ) (a : A) {body : ℕ → A → Grammar A} → ((k : ℕ) → k < i + n → (b : A) → Unparted (body k b)) → Unparted (turns i n a body)
unfolding turns
u_turns zero i a h = u_done
u_turns (suc n) i a h = u_bind (h i (omega arith) a) (λ next. u_turns n (i + 1) next (λ k lt. h k (omega arith)))

pub u_for : {A : Type 0} (n i : ℕ) (a : A) {body : ℕ → A → Grammar A} → ((k : ℕ) (b : A) → Unparted (body k b)) → Unparted (turns i n a body)
u_for n i a h = u_turns n i a (λ k lt. h k)

pub ruleset plainly = (tt, u_done, u_field, u_free, u_span, u_walk, u_frame, u_here, u_if, u_when, u_read, u_cond, u_for, u_bind)

-- ---- sequence

module _ {A B : Type 0} {key : Item} {P : A → ℕ → Type 0} {Q : B → ℕ → Type 0} {f : A → Grammar B} where
  c_bind : {n : ℕ} {g : Grammar A} → Counts key P n g → ((a : A) (m : ℕ) → P a m → Counts key Q m (f a)) → Counts key Q n (g >>= f)
  unfolding ◌>>=◌
  c_bind {n} (c_done {a = a} p) h = h a n p
  c_bind c_refuse h = c_refuse
  c_bind (c_field r k) h = c_field r (λ v lt. c_bind (k v lt) h)
  c_bind (c_free r k) h = c_free r (c_bind k h)
  c_bind (c_span r k) h = c_span r (c_bind k h)
  c_bind (c_walk r k) h = c_walk r (c_bind k h)
  c_bind (c_frame k) h = c_frame (c_bind k h)
  c_bind (c_here k) h = c_here (λ at. c_bind (k at) h)

module _ {A : Type 0} {key : Item} where
  c_widen : {P Q : A → ℕ → Type 0} {n : ℕ} {g : Grammar A} → ((a : A) (m : ℕ) → P a m → Q a m) → Counts key P n g → Counts key Q n g
  c_widen {n = n} w (c_done {a = a} p) = c_done (w a n p)
  c_widen w c_refuse = c_refuse
  c_widen w (c_field r k) = c_field r (λ v lt. c_widen w (k v lt))
  c_widen w (c_free r k) = c_free r (c_widen w k)
  c_widen w (c_span r k) = c_span r (c_widen w k)
  c_widen w (c_walk r k) = c_walk r (c_widen w k)
  c_widen w (c_frame k) = c_frame (c_widen w k)
  c_widen w (c_here k) = c_here (λ at. c_widen w (k at))

  -- what is known of the answer by another way
  c_also : {sets : Bool} {R : A → Type 0} {most : ℕ} {Q : A → ℕ → Type 0} {n : ℕ} {g : Grammar A} → AtMost sets R most g → Counts key Q n g → Counts key (λ a m. R a × Q a m) n g
  c_also (a_done q) (c_done p) = c_done (q, p)
  c_also (a_refuse t) c_refuse = c_refuse
  c_also (a_field t h) (c_field r k) = c_field r (λ v lt. c_also (h v lt) (k v lt))
  c_also (a_free t h) (c_free r k) = c_free r (c_also h k)
  c_also (a_span t h) (c_span r k) = c_span r (c_also h k)
  c_also (a_walk t h) (c_walk r k) = c_walk r (c_also h k)
  c_also (a_frame u t h) (c_frame k) = c_frame (c_also h k)
  c_also (a_here h) (c_here k) = c_here (λ at. c_also (h at) (k at))

-- ---- what has no part is not counted

pub and_first : (a b : Bool) → T (a && b) → T a
and_first true b t = tt
and_first false b t = t

pub and_second : (a b : Bool) → T (a && b) → T b
and_second true b t = t
and_second false b t = absurd t

module _ (key : Item) (its : T (among key.name parted)) where
  other_name : (i : Item) → T (not (among i.name parted)) → same_field key i ≡ false
  other_name i t = go (same_field key i) refl
    where
      go : (b : Bool) → same_field key i ≡ b → b ≡ false
      go true e =
          let is : key.name ≡ i.name = eqb→eq key.name i.name (and_first (eqb key.name i.name) (eqb key.block i.block && eqb key.index i.index) (subst T (sym e) tt)) in
          absurd (T_not (among i.name parted) t (subst (λ n. T (among n parted)) is its))
      go false e = refl

  right_other : (n : ℕ) (i : Item) → T (not (among i.name parted)) → T (eqb i.part 255) → Right key n i
  right_other n i t p = (without (among i.name parted) t, λ s. absurd (rw (other_name i t) at s))
    where
      without : (b : Bool) → T (not b) → T (cond b (ltb i.part 255) (eqb i.part 255))
      without true t = absurd t
      without false t = p

  stays : (n : ℕ) (i : Item) → T (not (among i.name parted)) → after key n i ≡ n
  stays n i t = rw (other_name i t)

  quiet : {A : Type 0} {g : Grammar A} → Unparted g → (m n : ℕ) → m ≡ n → Counts key (λ _ l. l ≡ n) m g
  quiet u_done m n e = c_done e
  quiet u_refuse m n e = c_refuse
  quiet (u_field {i = i} t p k) m n e = c_field (right_other m i t p) (λ v _. quiet (k v) _ n (stays m i t ∙ e))
  quiet (u_free {i = i} t p k) m n e = c_free (right_other m i t p) (quiet k _ n (stays m i t ∙ e))
  quiet (u_span {i = i} t p k) m n e = c_span (right_other m i t p) (quiet k _ n (stays m i t ∙ e))
  quiet (u_walk {i = i} t p k) m n e = c_walk (right_other m i t p) (quiet k _ n (stays m i t ∙ e))
  quiet (u_frame k) m n e = c_frame (quiet k m n e)
  quiet (u_here k) m n e = c_here (λ at. quiet (k at) m n e)

-- ---- a part of a grammar that has all items of the key, if it has any

-- It may have some only where M holds. If none stands before it then, it counts from 0; where M does not hold it counts none.
pub record Tallied {A : Type 0} (key : Item) (Q : A → Type 0) (M : Type 0) (g : Grammar A) : Type 0 where
  pub tally : (n : ℕ) → (M → n ≡ 0) → Counts key (λ a m. Q a × (¬ M → m ≡ n)) n g

module _ {key : Item} {A : Type 0} {Q : A → Type 0} {g : Grammar A} where
  pub t_widen : {R : A → Type 0} {M N : Type 0} → ((a : A) → Q a → R a) → (M → N) → Tallied key Q M g → Tallied key R N g
  t_widen q w t = record { tally = λ n h. c_widen (λ a m p. (q a p.0, λ no. p.1 (λ x. no (w x)))) (t.tally n (λ x. h (w x))) }

  pub t_also : {sets : Bool} {R : A → Type 0} {M : Type 0} {most : ℕ} → AtMost sets R most g → Tallied key Q M g → Tallied key R M g
  t_also h t = record { tally = λ n e. c_widen (λ a m p. (p.0, p.1.1)) (c_also h (t.tally n e)) }

pub t_done : {key : Item} {A : Type 0} {Q : A → Type 0} {M : Type 0} {a : A} → Q a → Tallied key Q M (done a)
t_done q = record { tally = λ n h. c_done (q, λ _. refl) }

-- one part and then another, which cannot both have items of the key
pub t_seq : {key : Item} {A B : Type 0} {P : A → Type 0} {Q : B → Type 0} {M N O : Type 0} {g : Grammar A} {f : A → Grammar B}
    → (M → O) → (N → O) → (M → N → ⊥) → Tallied key P M g → ((a : A) → P a → Tallied key Q N (f a)) → Tallied key Q O (g >>= f)
t_seq l r apart t u =
    record {
      tally = λ n h. c_bind (t.tally n (λ x. h (l x))) (λ a m p.
          c_widen (λ b x q. (q.0, λ no. q.1 (λ y. no (r y)) ∙ p.1 (λ y. no (l y)))) ((u a p.0).tally m (λ y. p.1 (λ x. apart x y) ∙ h (r y))));
    }

pub t_read : {key : Item} {A : Type 0} {Q : A → Type 0} {M : Type 0} (b : Bool) (a : A) {g : Grammar A} → Q a → Tallied key Q M g → Tallied key Q M (read_if b a g)
t_read true a q h = h
t_read false a q h = t_done q

pub t_when : {key : Item} {M : Type 0} (b : Bool) {g : Grammar (Unit {0})} → Tallied key Any M g → Tallied key Any M (when b g)
t_when true h = h
t_when false h = t_done tt

-- a loop: only the turn of one number has items of the key
module _ {key : Item} {A : Type 0} (Inv : A → Type 0) (M : Type 0) (chosen : ℕ) {body : ℕ → A → Grammar A} where
  turns_by : (n i : ℕ) (a : A) (from m : ℕ) → ((j : ℕ) → j < i + n → (b : A) → Inv b → Tallied key Inv (M × (chosen ≡ j)) (body j b)) → Inv a
      → (M → i ≤ chosen → m ≡ 0) → (¬ M → m ≡ from) → Counts key (λ a l. Inv a × (¬ M → l ≡ from)) m (turns i n a body)
  unfolding turns
  turns_by zero i a from m h inv none kept = c_done (inv, kept)
  turns_by (suc n) i a from m h inv none kept =
      c_bind ((h i (omega arith) a inv).tally m (λ x. none x.0 (let is = x.1 in omega arith))) (λ b l q.
      turns_by n (i + 1) b from l (λ j lt. h j (omega arith)) q.0
      (λ x le. q.1 (λ y. let is = y.1 in omega arith) ∙ none x (omega arith))
      (λ no. q.1 (λ y. no y.0) ∙ kept no))

  pub t_turns : (n : ℕ) (a : A) → ((j : ℕ) → j < n → (b : A) → Inv b → Tallied key Inv (M × (chosen ≡ j)) (body j b)) → Inv a → Tallied key Inv M (turns 0 n a body)
  t_turns n a h inv = record { tally = λ from none. turns_by n 0 a from from (λ j lt. h j (omega arith)) inv (λ x _. none x) (λ _. refl) }

-- ---- a turn with one item of the key, if it has any: its part is the turn's number

pub record Turn {A : Type 0} (key : Item) (b : Bool) (j : ℕ) (g : Grammar A) : Type 0 where
  pub turn : (m : ℕ) → (T b → m ≡ j) → Counts key (λ _ l. l ≡ cond b (m + 1) m) m g

module _ (key : Item) where
  -- is the key of this name, block and index?
  abbrev pub is : (block index name : ℕ) → Bool
  is block index name = eqb key.name name && (eqb key.block block && eqb key.index index)

module _ (key : Item) (block index name j : ℕ) (p : T (among name parted)) (small : j < 255) where
  right_part : (m : ℕ) → (T (is key block index name) → m ≡ j) → Right key m (part_of block name index j)
  right_part m h = (with_part (among name parted) p, λ s. sym (h s))
    where
      with_part : (b : Bool) → T b → T (cond b (ltb j 255) (eqb j 255))
      with_part true t = lt→ltb j 255 small
      with_part false t = absurd t

  pub turn_take : (w : ℕ) → Turn key (is key block index name) j (take (part_of block name index j) w)
  turn_take w = record { turn = λ m h. c_field (right_part m h) (λ v lt. c_done refl) }

  pub turn_note : (w : ℕ) → Turn key (is key block index name) j (note (part_of block name index j) w)
  turn_note w = record { turn = λ m h. c_free (right_part m h) (c_done refl) }

pub turn_seq : {key : Item} {A B : Type 0} (a b : Bool) {j : ℕ} {g : Grammar A} {f : A → Grammar B} → (T a → T b → ⊥)
    → Turn key a j g → ((x : A) → Turn key b j (f x)) → Turn key (a || b) j (g >>= f)
turn_seq true true apart t u = absurd (apart tt tt)
turn_seq true false apart t u = record { turn = λ m h. c_bind (t.turn m h) (λ x l e. c_widen (λ _ _ q. q ∙ e) ((u x).turn l (λ no. absurd no))) }
turn_seq false true apart t u =
    record { turn = λ m h. c_bind (t.turn m (λ no. absurd no)) (λ x l e. c_widen (λ _ _ q. q ∙ ap (λ n. n + 1) e) ((u x).turn l (λ y. e ∙ h y))) }
turn_seq false false apart t u = record { turn = λ m h. c_bind (t.turn m h) (λ x l e. c_widen (λ _ _ q. q ∙ e) ((u x).turn l (λ no. absurd no))) }

module _ {key : Item} {A : Type 0} (b : Bool) {body : ℕ → A → Grammar A} where
  parts_by : (n i : ℕ) (a : A) (from m : ℕ) → ((j : ℕ) → j < i + n → (x : A) → Turn key b j (body j x)) → (T b → m ≡ i) → (¬ T b → m ≡ from)
      → Counts key (λ _ l. Unit {0} × (¬ T b → l ≡ from)) m (turns i n a body)
  unfolding turns
  parts_by zero i a from m h counted kept = c_done (tt, kept)
  parts_by (suc n) i a from m h counted kept =
      c_bind ((h i (omega arith) a).turn m counted) (λ x l e. parts_by n (i + 1) x from l (λ j lt. h j (omega arith)) (one_more b e counted) (λ no. none b no e ∙ kept no))
    where
      one_more : {l : ℕ} (b : Bool) → l ≡ cond b (m + 1) m → (T b → m ≡ i) → T b → l ≡ i + 1
      one_more true e h t = e ∙ ap (λ n. n + 1) (h t)
      one_more false e h t = absurd t

      none : {l : ℕ} (b : Bool) → ¬ T b → l ≡ cond b (m + 1) m → l ≡ m
      none true missing e = absurd (missing tt)
      none false missing e = e

  -- turns that are numbered from 0: all items of the key are theirs
  pub t_parts : (n : ℕ) (a : A) → ((j : ℕ) → j < n → (x : A) → Turn key b j (body j x)) → Tallied key Any (T b) (turns 0 n a body)
  t_parts n a h = record { tally = λ from none. parts_by n 0 a from from (λ j lt. h j (omega arith)) none (λ _. refl) }

-- ---- what has no parts, before, after and alone

module _ (key : Item) (its : T (among key.name parted)) where
  pub t_quiet : {A : Type 0} {M : Type 0} {g : Grammar A} → Unparted g → Tallied key Any M g
  t_quiet u = record { tally = λ n h. c_widen (λ a m e. (tt, λ _. e)) (quiet key its u n n refl) }

  pub turn_end : {A B : Type 0} {b : Bool} {j : ℕ} {g : Grammar A} {f : A → Grammar B} → Turn key b j g → ((a : A) → Unparted (f a)) → Turn key b j (g >>= f)
  turn_end t u = record { turn = λ m h. c_bind (t.turn m h) (λ x l e. quiet key its (u x) l _ e) }

-- a part without parts before and after one that may have some
module _ (key : Item) (its : T (among key.name parted)) {A B : Type 0} {M : Type 0} {g : Grammar A} {f : A → Grammar B} where
  pub t_before : {Q : B → Type 0} → Unparted g → ((a : A) → Tallied key Q M (f a)) → Tallied key Q M (g >>= f)
  t_before u h = t_seq {M = ⊥} (λ x. absurd x) (λ x. x) (λ x _. x) (t_quiet key its u) (λ a _. h a)

  pub t_known : {sets : Bool} {P : A → Type 0} {Q : B → Type 0} {most : ℕ} → AtMost sets P most g → Unparted g → ((a : A) → P a → Tallied key Q M (f a)) → Tallied key Q M (g >>= f)
  t_known p u h = t_seq {M = ⊥} (λ x. absurd x) (λ x. x) (λ x _. x) (t_also p (t_quiet key its u)) h

  pub t_after : {Q : B → Type 0} → Tallied key Any M g → ((a : A) → Tallied key Q ⊥ (f a)) → Tallied key Q M (g >>= f)
  t_after t h = t_seq {N = ⊥} (λ x. x) (λ x. absurd x) (λ _ x. x) t (λ a _. h a)

-- ---- what a counted grammar writes

abbrev pub Numbered : (key : Item) (n : ℕ) → List Row → Type 0
Numbered key n [] = Unit {0}
Numbered key n (r ∷ rs) = Right key n r.item × Numbered key (after key n r.item) rs

module _ {A : Type 0} (key : Item) where
  numbered_unless : (n : ℕ) (c : Check) (p : Spot) (r : Result A) → Numbered key n r.rows → Numbered key n (unless c p (λ _. r)).rows
  unfolding unless
  numbered_unless n clear p r h = h
  numbered_unless n (stop x bit) p r h = tt

module _ {A : Type 0} {key : Item} where
  pub numbered_run : {Q : A → ℕ → Type 0} {n : ℕ} {g : Grammar A} → Counts key Q n g → (s : List ℕ) (p : Spot) → Numbered key n (run g s p).rows
  unfolding run
  numbered_run (c_done q) s p = tt
  numbered_run c_refuse s p = tt
  numbered_run {n = n} (c_field {w = w} r k) s p = numbered_unless key n _ p _ (r, numbered_run (k _ (value_lt s p.at w)) s _)
  numbered_run {n = n} (c_free r k) s p = numbered_unless key n _ p _ (r, numbered_run k s _)
  numbered_run {n = n} (c_span r k) s p = numbered_unless key n _ p _ (r, numbered_run k s _)
  numbered_run {n = n} (c_walk r k) s p = numbered_unless key n _ p _ (r, numbered_run k s _)
  numbered_run {n = n} (c_frame k) s p = numbered_unless key n _ p _ (numbered_run k s _)
  numbered_run (c_here k) s p = numbered_run (k _) s p
