-- syncinfo (4.3.1) and bsi (4.3.2, or D.1.2 when bsid is 6).
use Rattle.std.specs.Prelude.{◌&&◌, not, cond, ℕ, ◌+◌, ◌*◌, ◌%◌, eqb, leb, ltb}
use Rattle.tables.specs.Tables.{frame_bytes}
use Rattle.syntax.specs.declared.Role.TheVariants.{Sync, Crc1, FrameSize, Dialnorm, ComprExists, Compr, Addbsi}
use Rattle.syntax.specs.Grammar.{Grammar, done, ◌>>=◌, ◌>>◌, plain, roled, take, flag, note, pass, framed, refuse_if, when, each}
use Rattle.syntax.specs.Names as Name
use Rattle.syntax.specs.Refusals.{too_short, not_sync, no_frame_size, cut_short, bad_bsid}
use Rattle.header.specs.declared.Header.{Header}

-- fscod (4.4.1.3), and the bytes of the frame, which it gives with frmsizecod (4.4.1.4)
unfoldable pub syncinfo : Grammar (ℕ × ℕ)
syncinfo = do
  framed too_short 6
  syncword ← take (roled Sync Name.syncword) 16
  refuse_if (not (eqb syncword 0x0B77)) not_sync
  note (roled Crc1 Name.crc1) 16
  fscod ← take (roled FrameSize Name.fscod) 2
  frmsizecod ← take (roled FrameSize Name.frmsizecod) 6
  let bytes = frame_bytes fscod frmsizecod
  refuse_if (eqb bytes 0) no_frame_size
  framed cut_short bytes
  done (fscod, bytes)

-- one programme: the second one's names stand eight further on
unfoldable pub programme_info : ℕ → Grammar (Unit {0})
programme_info p = do
  note (roled (Dialnorm p) (Name.dialnorm + 8 * p)) 5
  compre ← flag (roled (ComprExists p) (Name.compre + 8 * p))
  when compre (note (roled (Compr p) (Name.compr + 8 * p)) 8)
  langcode ← flag (plain (Name.langcode + 8 * p))
  when langcode (note (plain (Name.langcod + 8 * p)) 8)
  audprodie ← flag (plain (Name.audprodie + 8 * p))
  when audprodie do
    note (plain (Name.mixlevel + 8 * p)) 5
    note (plain (Name.roomtyp + 8 * p)) 2

-- acmod 0 is two programmes (4.4.2.3)
abbrev pub programmes : (acmod : ℕ) → ℕ
programmes acmod = cond (eqb acmod 0) 2 1

-- D.1.2
unfoldable pub alternate_info : Grammar (Unit {0})
alternate_info = do
  xbsi1e ← flag (plain Name.xbsi1e)
  when xbsi1e do
    note (plain Name.dmixmod) 2
    note (plain Name.ltrtcmixlev) 3
    note (plain Name.ltrtsurmixlev) 3
    note (plain Name.lorocmixlev) 3
    note (plain Name.lorosurmixlev) 3
  xbsi2e ← flag (plain Name.xbsi2e)
  when xbsi2e do
    note (plain Name.dsurexmod) 2
    note (plain Name.dheadphonmod) 2
    note (plain Name.adconvtyp) 1
    note (plain Name.xbsi2) 8
    note (plain Name.encinfo) 1

unfoldable pub time_codes : Grammar (Unit {0})
time_codes = do
  timecod1e ← flag (plain Name.timecod1e)
  when timecod1e (note (plain Name.timecod1) 14)
  timecod2e ← flag (plain Name.timecod2e)
  when timecod2e (note (plain Name.timecod2) 14)

-- addbsil is one less than the bytes of addbsi (4.4.2.30)
unfoldable pub additional_info : Grammar (Unit {0})
additional_info = do
  addbsie ← flag (plain Name.addbsie)
  when addbsie do
    addbsil ← take (plain Name.addbsil) 6
    pass (roled Addbsi Name.addbsi) (8 * (addbsil + 1))

-- bsid above 8 is not of this standard (4.4.2.1); acmod says which mix levels follow (4.4.2.3 to 4.4.2.6), lfeon whether there is an LFE channel
-- (4.4.2.7)
unfoldable pub bsi : (fscod bytes : ℕ) → Grammar Header
bsi fscod bytes = do
  bsid ← take (plain Name.bsid) 5
  refuse_if (ltb 8 bsid) bad_bsid
  note (plain Name.bsmod) 3
  acmod ← take (plain Name.acmod) 3
  when (eqb (acmod % 2) 1 && not (eqb acmod 1)) (note (plain Name.cmixlev) 2)
  when (leb 4 acmod) (note (plain Name.surmixlev) 2)
  when (eqb acmod 2) (note (plain Name.dsurmod) 2)
  lfeon ← flag (plain Name.lfeon)
  each (programmes acmod) programme_info
  note (plain Name.copyrightb) 1
  note (plain Name.origbs) 1
  cond (eqb bsid 6) alternate_info time_codes
  additional_info
  done (record { bytes = bytes; fscod = fscod; bsid = bsid; acmod = acmod; lfeon = lfeon })

-- the frame as far as addbsi
unfoldable pub header : Grammar Header
header = do
  (fscod, bytes) ← syncinfo
  bsi fscod bytes
