-- What is packed is the text of a listing, which is not refused.
use Rattle.std.proofs.Common.{◌≡◌, refl}
use Rattle.list_packed.proofs.Packed.{packed_printed}
use Rattle.list_packed.proofs.listed_packed.Goals as goal

pub unwrap-requires : goal.unwrap-requires
unwrap-requires c = rw (packed_printed c.args.frame.now c.args.out.now c.requires c.listed-size.ensures c.pack.ensures).1 refl

pub returns : goal.returns
returns c =
    let x = packed_printed c.args.frame.now c.args.out.now c.requires c.listed-size.ensures c.pack.ensures in
    let same : c.unwrap.result ≡ x.0 = cc (x.1, c.unwrap.ensures) in
    rw same (x.2, x.3)
