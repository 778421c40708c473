-- The exponent strategies of a block (4.3.3, 4.4.3.21 to .23), and the bandwidths of its channels (4.4.3.24).
use Rattle.std.specs.Prelude.{Bool, true, false, ◌&&◌, not, List, ℕ, ltb, get_or, set, replicate}
use Rattle.syntax.specs.Grammar.{Grammar, done, ◌>>=◌, ◌>>◌, one, nth, take, refuse_if, read_if, for, fill}
use Rattle.syntax.specs.Names as Name
use Rattle.syntax.specs.Refusals.{bad_bandwidth, no_bandwidth}
use Rattle.slots.specs.declared.Coupling.{Coupling}
use Rattle.slots.specs.declared.Strategies.{Strategies}
use Rattle.slots.specs.Slots.{coupled, first_coupled, past_channel, is_new}
use Rattle.channels.specs.declared.Bandwidths.{Bandwidths}

unfoldable pub channel_strategies : (blk nfchans : ℕ) → Grammar (List ℕ)
channel_strategies blk nfchans = fill nfchans (replicate 5 0) (λ ch. take (nth blk Name.chexpstr ch) 2)

unfoldable pub exponent_strategies : (blk nfchans : ℕ) (cplinu lfeon : Bool) → Grammar Strategies
exponent_strategies blk nfchans cplinu lfeon = do
  cplexpstr ← read_if cplinu 0 (take (one blk Name.cplexpstr) 2)
  chexpstr ← channel_strategies blk nfchans
  lfeexpstr ← read_if lfeon 0 (take (one blk Name.lfeexpstr) 1)
  done (record { cplexpstr = cplexpstr; chexpstr = chexpstr; lfeexpstr = lfeexpstr })

-- a channel with new exponents that is not coupled sends its bandwidth
unfoldable pub bandwidth : (blk : ℕ) → Coupling → (chexpstr : List ℕ) (ch : ℕ) → Bandwidths → Grammar Bandwidths
bandwidth blk c chexpstr ch w = read_if (is_new (get_or chexpstr ch 0) && not (coupled c ch)) w do
  chbwcod ← take (nth blk Name.chbwcod ch) 6
  refuse_if (ltb 60 chbwcod) bad_bandwidth
  done (record { sent = set w.sent ch true; chbwcod = set w.chbwcod ch chbwcod })

unfoldable pub bandwidths : (blk nfchans : ℕ) → Coupling → (chexpstr : List ℕ) → Bandwidths → Grammar Bandwidths
bandwidths blk nfchans c chexpstr old = for 0 nfchans old (bandwidth blk c chexpstr)

-- the first bin past a channel
unfoldable pub channel_end : Coupling → Bandwidths → (ch : ℕ) → Grammar ℕ
channel_end c w ch = read_if (not (coupled c ch)) (first_coupled c.cplbegf) do
  refuse_if (not (get_or w.sent ch false)) no_bandwidth
  done (past_channel (get_or w.chbwcod ch 0))

unfoldable pub channel_ends : (nfchans : ℕ) → Coupling → Bandwidths → Grammar (List ℕ)
channel_ends nfchans c w = fill nfchans (replicate 5 0) (channel_end c w)
