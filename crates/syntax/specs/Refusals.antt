-- The refusals of a frame, by name. What is told of one: its number, and the name and the block of the element that did not fit.
-- Docs: FORMAT.md has the table of numbers.
use Rattle.std.specs.Prelude.{ℕ}
use Rattle.syntax.specs.declared.Item.{Item}
use Rattle.syntax.specs.declared.Refusal.{Refusal}
use Rattle.syntax.specs.declared.Refusal.TheVariants.{TooShort, NotSync, NoFrameSize, CutShort, BadBsid, Past, Full, NoCouplingStrategy, NoRematrixing, NoCurve, NoOffsets, BadCouplingRange, TooFewCoupled, BadBandwidth, NoBandwidth, NoCouplingExponents, NoChannelExponents, NoLfeExponents, BadGroup, BadExponent, NoDelta, BadDelta, NoLeak, Unfit}

-- this element would end past the frame
abbrev pub past : Item → Refusal
past i = Past i.name i.block

-- ---- syncinfo and bsi

abbrev pub too_short : Refusal
too_short = TooShort

abbrev pub not_sync : Refusal
not_sync = NotSync

abbrev pub no_frame_size : Refusal
no_frame_size = NoFrameSize

abbrev pub cut_short : Refusal
cut_short = CutShort

abbrev pub bad_bsid : Refusal
bad_bsid = BadBsid

-- no row is left
abbrev pub full : Refusal
full = Full

-- ---- audio blocks

-- block 0 lacks a flag that announces what it needs: cplstre, rematstr, baie, snroffste
abbrev pub no_coupling_strategy : Refusal
no_coupling_strategy = NoCouplingStrategy

abbrev pub no_rematrixing : Refusal
no_rematrixing = NoRematrixing

abbrev pub no_curve : Refusal
no_curve = NoCurve

abbrev pub no_offsets : Refusal
no_offsets = NoOffsets

abbrev pub bad_coupling_range : Refusal
bad_coupling_range = BadCouplingRange

abbrev pub too_few_coupled : Refusal
too_few_coupled = TooFewCoupled

abbrev pub bad_bandwidth : Refusal
bad_bandwidth = BadBandwidth

abbrev pub no_bandwidth : Refusal
no_bandwidth = NoBandwidth

-- exponents are reused that were not sent, or not for these bins
abbrev pub no_coupling_exponents : Refusal
no_coupling_exponents = NoCouplingExponents

abbrev pub no_channel_exponents : Refusal
no_channel_exponents = NoChannelExponents

abbrev pub no_lfe_exponents : Refusal
no_lfe_exponents = NoLfeExponents

abbrev pub bad_group : Refusal
bad_group = BadGroup

abbrev pub bad_exponent : Refusal
bad_exponent = BadExponent

-- delta segments are reused in block 0; a reserved code
abbrev pub no_delta : Refusal
no_delta = NoDelta

abbrev pub bad_delta : Refusal
bad_delta = BadDelta

abbrev pub no_leak : Refusal
no_leak = NoLeak

-- ---- a header answer that does not fit the input: no refusal of a frame's own

abbrev pub unfit : Refusal
unfit = Unfit

-- ---- what is told of one

-- its number
abbrev pub number : Refusal → ℕ
number TooShort = 1
number NotSync = 2
number NoFrameSize = 3
number CutShort = 4
number BadBsid = 5
number (Past n b) = 6
number Full = 7
number NoCouplingStrategy = 8
number NoRematrixing = 21
number NoCurve = 22
number NoOffsets = 23
number BadCouplingRange = 9
number TooFewCoupled = 10
number BadBandwidth = 11
number NoBandwidth = 12
number NoCouplingExponents = 13
number NoChannelExponents = 14
number NoLfeExponents = 15
number BadGroup = 16
number BadExponent = 17
number NoDelta = 18
number BadDelta = 19
number NoLeak = 20
number Unfit = 24

-- the name and the block of what did not fit; every other refusal tells none
abbrev pub name : Refusal → ℕ
name TooShort = 0
name NotSync = 0
name NoFrameSize = 0
name CutShort = 0
name BadBsid = 0
name (Past n b) = n
name Full = 0
name NoCouplingStrategy = 0
name NoRematrixing = 0
name NoCurve = 0
name NoOffsets = 0
name BadCouplingRange = 0
name TooFewCoupled = 0
name BadBandwidth = 0
name NoBandwidth = 0
name NoCouplingExponents = 0
name NoChannelExponents = 0
name NoLfeExponents = 0
name BadGroup = 0
name BadExponent = 0
name NoDelta = 0
name BadDelta = 0
name NoLeak = 0
name Unfit = 0

abbrev pub block : Refusal → ℕ
block TooShort = 255
block NotSync = 255
block NoFrameSize = 255
block CutShort = 255
block BadBsid = 255
block (Past n b) = b
block Full = 255
block NoCouplingStrategy = 255
block NoRematrixing = 255
block NoCurve = 255
block NoOffsets = 255
block BadCouplingRange = 255
block TooFewCoupled = 255
block BadBandwidth = 255
block NoBandwidth = 255
block NoCouplingExponents = 255
block NoChannelExponents = 255
block NoLfeExponents = 255
block BadGroup = 255
block BadExponent = 255
block NoDelta = 255
block BadDelta = 255
block NoLeak = 255
block Unfit = 255
