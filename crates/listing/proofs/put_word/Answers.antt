-- `listing::put_word` meets its contract: the letters stand where they are copied to. Assumes nothing.
use Rattle.std.proofs.Common.{◌≡◌, ◌∙◌, ◌++◌, ◌+◌, ◌-◌, refl, sym, ap, length, take, drop, arith}
use mathlib.Core.List.{append_assoc}
use Rattle.std.proofs.lemmas.List.{drop-take}
use borrow.Rule.Slice.PartMut.{post_of, Post-is}
use lib.Seq.{slice, length-slice, sets-eq}
use Rattle.listing.specs.Number.{letters}
use Rattle.listing.proofs.put_word.Goals as goal

pub returns : goal.returns
returns c =
    let out = c.args.out.now in
    let at = c.args.at in
    let k = c.args.end - c.args.from in
    let word = slice c.args.from c.args.end letters in
    let long : length word ≡ k = length-slice c.args.from c.args.end letters c.requires.1 in
    let end : c.args.from + k ≡ c.args.end = omega arith in
    let copied : c.copy_from_slice.new.self ≡ word = c.copy_from_slice.ensures.after ∙ sym (drop-take c.args.from k letters) ∙ ap (λ e. drop c.args.from (take e letters)) end in (
      refl,
      ap (λ l. take at out ++ (l ++ post_of at (at + k - at) out)) copied
          ∙ ap (λ l. take at out ++ (word ++ l)) (Post-is at (at + k) out (omega arith))
          ∙ ap (λ n. take at out ++ (word ++ drop (at + n) out)) (sym long)
          ∙ sym (append_assoc (take at out) word _)
          ∙ sym (sets-eq word out at (omega (arith, long, c.requires.2))),
    )
