-- Two things that are equal to a third are equal; what is seen of a reader is an equation, and the promise of the parser leaves no choice.
-- Assumes nothing.
use mathlib.Core.Path.{◌≡◌, sym, ◌∙◌}
use lib.Seq.{ext_get_or}
use Rattle.std.specs.Prelude.{Result}
use Rattle.syntax.specs.declared.Reader.{Reader}
use Rattle.syntax.specs.declared.Refusal.{Refusal}
use Rattle.syntax.specs.Reads.{place, outcome}
use Rattle.syntax.proofs.Sequence.{agreed}
use Rattle.ac3.specs.OneAnswer.{SameReading, OneAnswer}
use Rattle.ac3.proofs.Promise.{determined}

same_reading : {A : Type 0} (a b : Result A Refusal) (c d : Reader) → outcome a (place c) ≡ outcome b (place d) → SameReading a b c d
same_reading a b c d e = let same = agreed a b c d e in record { place = same.placed; result = same.answered }

pub any_two : OneAnswer
any_two =
    record {
      equation = λ y x z p q. p ∙ sym q;
      entries = λ n none f l m p q. ext_get_or none l m (p.0 ∙ sym q.0) (λ i _. p.1 i ∙ sym (q.1 i));
      reads = λ g c₀ a b c d p q. same_reading a b c d (p.same ∙ sym q.same);
      writes = λ next c₀ a b c d p q. same_reading a b c d (p.same ∙ sym q.same);
      judges = λ bad x r q e f. e ∙ sym f;
      promises = λ c x y p q. determined c p ∙ sym (determined c q);
    }
