-- The coupling strategy and coordinates of a block, and its rematrixing (4.3.3).
use Rattle.std.specs.Prelude.{Bool, true, false, ◌&&◌, ◌||◌, not, cond, List, [], ◌∷◌, ℕ, ◌+◌, ◌-◌, eqb, ltb, get_or, replicate}
use Rattle.syntax.specs.Grammar.{Grammar, announced, done, ◌>>=◌, ◌>>◌, one, nth, part_of, take, flag, note, refuse_if, when, read_if, for, each, fill}
use Rattle.syntax.specs.Names as Name
use Rattle.syntax.specs.Refusals.{no_coupling_strategy, no_rematrixing, bad_coupling_range, too_few_coupled}
use Rattle.slots.specs.declared.Coupling.{Coupling}
use Rattle.slots.specs.Slots.{sub_bands, range_empty, coupled}

unfoldable pub how_many : List Bool → ℕ
how_many [] = 0
how_many (true ∷ bs) = 1 + how_many bs
how_many (false ∷ bs) = how_many bs

-- cplinu 0 (4.4.3.8): no channel is coupled; the range stays
abbrev pub uncoupled : Coupling → Coupling
uncoupled c =
    record { cplinu = false; chincpl = replicate 5 false; phsflginu = false; cplbegf = c.cplbegf; cplendf = c.cplendf; ncplbnd = c.ncplbnd }

-- chincpl (4.4.3.9)
unfoldable pub coupled_channels : (blk nfchans : ℕ) → Grammar (List Bool)
coupled_channels blk nfchans = fill nfchans (replicate 5 false) (λ ch. flag (nth blk Name.chincpl ch))

-- cplbndstrc (4.4.3.13): a sub-band that joins the band before it
unfoldable pub joined : (blk bnd bands : ℕ) → Grammar ℕ
joined blk bnd bands = do
  cplbndstrc ← flag (nth blk Name.cplbndstrc bnd)
  done (cond cplbndstrc (bands - 1) bands)

-- the coupling bands: as many as there are sub-bands, less those that join
unfoldable pub coupling_bands : (blk subbands : ℕ) → Grammar ℕ
coupling_bands blk subbands = for 1 subbands subbands (joined blk)

-- cplinu 1: chincpl to cplbndstrc (4.4.3.9 to 4.4.3.13)
unfoldable pub new_coupling : (blk acmod nfchans : ℕ) → Grammar Coupling
new_coupling blk acmod nfchans = do
  chincpl ← coupled_channels blk nfchans
  phsflginu ← read_if (eqb acmod 2) false (flag (one blk Name.phsflginu))
  cplbegf ← take (one blk Name.cplbegf) 4
  cplendf ← take (one blk Name.cplendf) 4
  refuse_if (range_empty cplbegf cplendf) bad_coupling_range
  ncplbnd ← coupling_bands blk (sub_bands cplbegf cplendf)
  refuse_if (ltb (how_many chincpl) 2) too_few_coupled
  done (record { cplinu = true; chincpl = chincpl; phsflginu = phsflginu; cplbegf = cplbegf; cplendf = cplendf; ncplbnd = ncplbnd })

-- cplstre (4.4.3.7)
unfoldable pub coupling_strategy : (blk acmod nfchans : ℕ) → Coupling → Grammar Coupling
coupling_strategy blk acmod nfchans old = do
  cplstre ← announced blk Name.cplstre no_coupling_strategy
  read_if cplstre old do
    cplinu ← flag (one blk Name.cplinu)
    read_if cplinu (uncoupled old) (new_coupling blk acmod nfchans)

-- ---- coordinates (4.4.3.14 to 4.4.3.18)

-- the coordinate of a band
unfoldable pub coordinate : (blk ch bnd : ℕ) → Grammar (Unit {0})
coordinate blk ch bnd = do
  note (part_of blk Name.cplcoexp ch bnd) 4
  note (part_of blk Name.cplcomant ch bnd) 4

-- whether a channel sent coordinates: cplcoe (4.4.3.14)
unfoldable pub channel_coordinates : (blk : ℕ) → Coupling → ℕ → Grammar Bool
channel_coordinates blk c ch = read_if (coupled c ch) false do
  cplcoe ← flag (nth blk Name.cplcoe ch)
  when cplcoe do
    note (nth blk Name.mstrcplco ch) 2
    each c.ncplbnd (coordinate blk ch)
  done cplcoe

unfoldable pub phase_flags : (blk ncplbnd : ℕ) → Grammar (Unit {0})
phase_flags blk ncplbnd = each ncplbnd (λ bnd. note (nth blk Name.phsflg bnd) 1)

-- which channels sent coordinates: none where there is no coupling
unfoldable pub coupling_coordinates : (blk nfchans : ℕ) → Coupling → Grammar (List Bool)
coupling_coordinates blk nfchans c = read_if c.cplinu (replicate 5 false) do
  sent ← fill nfchans (replicate 5 false) (channel_coordinates blk c)
  when (c.phsflginu && (get_or sent 0 false || get_or sent 1 false)) (phase_flags blk c.ncplbnd)
  done sent

-- ---- rematrixing (4.4.3.19, 4.4.3.20), Table 4.10

abbrev pub rematrix_bands : Coupling → ℕ
rematrix_bands c = cond (not c.cplinu || ltb 2 c.cplbegf) 4 (cond (ltb 0 c.cplbegf) 3 2)

unfoldable pub rematrixing : (blk acmod : ℕ) → Coupling → Grammar (Unit {0})
rematrixing blk acmod c = when (eqb acmod 2) do
  rematstr ← announced blk Name.rematstr no_rematrixing
  when rematstr (each (rematrix_bands c) (λ rbnd. note (nth blk Name.rematflg rbnd) 1))
