-- `index::entry_of` meets its contract: what is found by a name in the room is the definition's row of that name. Assumes nothing.
use Rattle.std.proofs.Common.{◌≡◌, sym, ap, ◌∙◌, ℕ, ℤ, pos, cond, eqb, List}
use Rattle.syntax.specs.Names as Name
use Rattle.ac3.specs.Promise.{Call, listed, answer_to}
use Rattle.ac3.specs.declared.Answer as parse
use Rattle.rows.specs.Found.{value_of}
use Rattle.rows.specs.Look.{value_in}
use Rattle.rows.proofs.Found.{looks_up}
use Rattle.index.specs.Index.{entry_of}
use Rattle.index.specs.declared.outcome.Entry.{Entry}
use Rattle.index.proofs.entry_of.Goals as goal

module _ (c : Call) {a : parse.Answer} {rows : List ℤ} (told : (a, rows) ≡ answer_to c) where
  found : (name : ℕ) → value_in a.rows name rows ≡ pos (value_of name (listed c))
  found name = ap (λ x. value_in x.0.rows name x.1) told ∙ (looks_up c name).valued

  entry_is : {place size acmod first second : ℕ} → c.place ≡ place → size ≡ a.summary.header.bytes → acmod ≡ a.summary.header.acmod
      → ((v : ℕ) → value_in a.rows Name.dialnorm rows ≡ pos v → first ≡ v)
      → ((v : ℕ) → value_in a.rows Name.dialnorm2 rows ≡ pos v → second ≡ cond (eqb a.summary.header.acmod 0) v 0)
      → ◌≡◌ {A = Entry} (record { place = place; size = size; acmod = acmod; dialnorm = first; second = second }) (entry_of c)
  entry_is here long mode one two = λ i.
      record {
        place = sym here i;
        size = (long ∙ ap (λ x. x.0.summary.header.bytes) told) i;
        acmod = (mode ∙ ap (λ x. x.0.summary.header.acmod) told) i;
        dialnorm = one _ (found Name.dialnorm) i;
        second = (two _ (found Name.dialnorm2) ∙ ap (λ x. cond (eqb x.0.summary.header.acmod 0) (value_of Name.dialnorm2 (listed c)) 0) told) i;
      }

pub returns : goal.returns
returns c call here told = entry_is call told here c.from.ensures c.from-2.ensures c.level.ensures c.second_level.ensures
