-- What bounds a header's values. No part of the definition: contracts cite it, so that tables are looked up in range.
use Rattle.std.specs.Prelude.{◌<◌}
use Rattle.header.specs.declared.Header.{Header}

pub record SoundHeader (h : Header) : Type 0 where
  pub fscod : h.fscod < 3
  pub acmod : h.acmod < 8
