-- The tables of TS 102 366, as lists and functions: of a frame's size and channels (4.4), of the bit allocation (6.2.2), of the mantissas
-- (6.3.5) and of the adaptive hybrid transform (E.2.4). Past its last entry a table has 0. Assumes nothing.
use Rattle.std.specs.Prelude.{List, [], ◌∷◌, ℕ, ◌*◌, ◌/◌, zero, suc, ℤ, pos, negsuc, get_or}

-- Table 4.3: full bandwidth channels, by acmod (4.4.2.3)
abbrev pub channel_counts : List ℕ
channel_counts = 2 ∷ 1 ∷ 2 ∷ 3 ∷ 3 ∷ 4 ∷ 4 ∷ 5 ∷ []

unfoldable pub nfchans : ℕ → ℕ
nfchans acmod = get_or channel_counts acmod 0

-- Table 4.13: words of 16 bits to a frame. At 48 and at 32 kHz two codes are one row of the table; at 44.1 kHz they differ by a word.
unfoldable pub words48 : List ℕ
words48 = 64 ∷ 80 ∷ 96 ∷ 112 ∷ 128 ∷ 160 ∷ 192 ∷ 224 ∷ 256 ∷ 320 ∷ 384 ∷ 448 ∷ 512 ∷ 640 ∷ 768 ∷ 896 ∷ 1024 ∷ 1152 ∷ 1280 ∷ []

unfoldable pub words44 : List ℕ
words44 =
    69 ∷ 70 ∷ 87 ∷ 88 ∷ 104 ∷ 105 ∷ 121 ∷ 122 ∷ 139 ∷ 140 ∷ 174 ∷ 175 ∷ 208 ∷ 209 ∷ 243 ∷ 244 ∷ 278 ∷ 279 ∷ 348 ∷
    349 ∷ 417 ∷ 418 ∷ 487 ∷ 488 ∷ 557 ∷ 558 ∷ 696 ∷ 697 ∷ 835 ∷ 836 ∷ 975 ∷ 976 ∷ 1114 ∷ 1115 ∷ 1253 ∷ 1254 ∷ 1393 ∷ 1394 ∷ []

unfoldable pub words32 : List ℕ
words32 = 96 ∷ 120 ∷ 144 ∷ 168 ∷ 192 ∷ 240 ∷ 288 ∷ 336 ∷ 384 ∷ 480 ∷ 576 ∷ 672 ∷ 768 ∷ 960 ∷ 1152 ∷ 1344 ∷ 1536 ∷ 1728 ∷ 1920 ∷ []

-- bytes of a frame, by fscod (4.4.1.3: 0 is 48 kHz, 1 is 44.1, 2 is 32) and frmsizecod (4.4.1.4); 0 where there is no such frame
unfoldable pub frame_bytes : ℕ → ℕ → ℕ
frame_bytes zero code = 2 * get_or words48 (code / 2) 0
frame_bytes (suc zero) code = 2 * get_or words44 code 0
frame_bytes (suc (suc zero)) code = 2 * get_or words32 (code / 2) 0
frame_bytes (suc (suc (suc n))) code = 0

-- Table 6.6, slowdec
unfoldable pub slow_decay : ℕ → ℕ
slow_decay sdcycod = get_or (15 ∷ 17 ∷ 19 ∷ 21 ∷ []) sdcycod 0

-- Table 6.7, fastdec
unfoldable pub fast_decay : ℕ → ℕ
fast_decay fdcycod = get_or (63 ∷ 83 ∷ 103 ∷ 123 ∷ []) fdcycod 0

-- Table 6.8, slowgain
unfoldable pub slow_gain : ℕ → ℕ
slow_gain sgaincod = get_or (1344 ∷ 1240 ∷ 1144 ∷ 1040 ∷ []) sgaincod 0

-- Table 6.9, dbpbtab
unfoldable pub knee : ℕ → ℕ
knee dbpbcod = get_or (0 ∷ 1792 ∷ 2304 ∷ 2816 ∷ []) dbpbcod 0

-- Table 6.10, floortab: the last entry is 0xF800 as a number of 16 bits with its sign
abbrev pub floors : List ℤ
floors = pos 752 ∷ pos 688 ∷ pos 624 ∷ pos 560 ∷ pos 496 ∷ pos 368 ∷ pos 240 ∷ negsuc 2047 ∷ []

unfoldable pub floor : ℕ → ℤ
floor floorcod = get_or floors floorcod (pos 0)

-- Table 6.11, fastgain
unfoldable pub fast_gain : ℕ → ℕ
fast_gain fgaincod = get_or (128 ∷ 256 ∷ 384 ∷ 512 ∷ 640 ∷ 768 ∷ 896 ∷ 1024 ∷ []) fgaincod 0

-- Table 6.12: the first bin past each of the 50 bands, which is bndtab and bndsz added up
unfoldable pub band_end : List ℕ
band_end =
    1 ∷ 2 ∷ 3 ∷ 4 ∷ 5 ∷ 6 ∷ 7 ∷ 8 ∷ 9 ∷ 10 ∷ 11 ∷ 12 ∷ 13 ∷ 14 ∷ 15 ∷ 16 ∷ 17 ∷ 18 ∷ 19 ∷ 20 ∷ 21 ∷ 22 ∷ 23 ∷ 24 ∷
    25 ∷ 26 ∷ 27 ∷ 28 ∷ 31 ∷ 34 ∷ 37 ∷ 40 ∷ 43 ∷ 46 ∷ 49 ∷ 55 ∷ 61 ∷ 67 ∷ 73 ∷ 79 ∷ 85 ∷ 97 ∷ 109 ∷ 121 ∷ 133 ∷ 157 ∷ 181 ∷ 205 ∷
    229 ∷ 253 ∷ []

-- Table 6.14, latab: what the smaller of two levels adds to the larger, by half their distance
unfoldable pub log_add : List ℕ
log_add =
    64 ∷ 63 ∷ 62 ∷ 61 ∷ 60 ∷ 59 ∷ 58 ∷ 57 ∷ 56 ∷ 55 ∷ 54 ∷ 53 ∷ 52 ∷ 52 ∷ 51 ∷ 50 ∷ 49 ∷ 48 ∷ 47 ∷ 47 ∷ 46 ∷ 45 ∷ 44 ∷ 44 ∷
    43 ∷ 42 ∷ 41 ∷ 41 ∷ 40 ∷ 39 ∷ 38 ∷ 38 ∷ 37 ∷ 36 ∷ 36 ∷ 35 ∷ 35 ∷ 34 ∷ 33 ∷ 33 ∷ 32 ∷ 32 ∷ 31 ∷ 30 ∷ 30 ∷ 29 ∷ 29 ∷ 28 ∷
    28 ∷ 27 ∷ 27 ∷ 26 ∷ 26 ∷ 25 ∷ 25 ∷ 24 ∷ 24 ∷ 23 ∷ 23 ∷ 22 ∷ 22 ∷ 21 ∷ 21 ∷ 21 ∷ 20 ∷ 20 ∷ 19 ∷ 19 ∷ 19 ∷ 18 ∷ 18 ∷ 18 ∷
    17 ∷ 17 ∷ 17 ∷ 16 ∷ 16 ∷ 16 ∷ 15 ∷ 15 ∷ 15 ∷ 14 ∷ 14 ∷ 14 ∷ 13 ∷ 13 ∷ 13 ∷ 13 ∷ 12 ∷ 12 ∷ 12 ∷ 12 ∷ 11 ∷ 11 ∷ 11 ∷ 11 ∷
    10 ∷ 10 ∷ 10 ∷ 10 ∷ 10 ∷ 9 ∷ 9 ∷ 9 ∷ 9 ∷ 9 ∷ 8 ∷ 8 ∷ 8 ∷ 8 ∷ 8 ∷ 8 ∷ 7 ∷ 7 ∷ 7 ∷ 7 ∷ 7 ∷ 7 ∷ 6 ∷ 6 ∷
    6 ∷ 6 ∷ 6 ∷ 6 ∷ 6 ∷ 6 ∷ 5 ∷ 5 ∷ 5 ∷ 5 ∷ 5 ∷ 5 ∷ 5 ∷ 5 ∷ 4 ∷ 4 ∷ 4 ∷ 4 ∷ 4 ∷ 4 ∷ 4 ∷ 4 ∷ 4 ∷ 4 ∷
    4 ∷ 3 ∷ 3 ∷ 3 ∷ 3 ∷ 3 ∷ 3 ∷ 3 ∷ 3 ∷ 3 ∷ 3 ∷ 3 ∷ 3 ∷ 3 ∷ 3 ∷ 2 ∷ 2 ∷ 2 ∷ 2 ∷ 2 ∷ 2 ∷ 2 ∷ 2 ∷ 2 ∷
    2 ∷ 2 ∷ 2 ∷ 2 ∷ 2 ∷ 2 ∷ 2 ∷ 2 ∷ 2 ∷ 2 ∷ 1 ∷ 1 ∷ 1 ∷ 1 ∷ 1 ∷ 1 ∷ 1 ∷ 1 ∷ 1 ∷ 1 ∷ 1 ∷ 1 ∷ 1 ∷ 1 ∷
    1 ∷ 1 ∷ 1 ∷ 1 ∷ 1 ∷ 1 ∷ 1 ∷ 1 ∷ 1 ∷ 1 ∷ 1 ∷ 1 ∷ 1 ∷ 1 ∷ 1 ∷ 1 ∷ 1 ∷ 1 ∷ 0 ∷ 0 ∷ 0 ∷ 0 ∷ 0 ∷ 0 ∷
    0 ∷ 0 ∷ 0 ∷ 0 ∷ 0 ∷ 0 ∷ 0 ∷ 0 ∷ 0 ∷ 0 ∷ 0 ∷ 0 ∷ 0 ∷ 0 ∷ 0 ∷ 0 ∷ 0 ∷ 0 ∷ 0 ∷ 0 ∷ 0 ∷ 0 ∷ 0 ∷ 0 ∷
    0 ∷ 0 ∷ 0 ∷ 0 ∷ 0 ∷ 0 ∷ 0 ∷ 0 ∷ 0 ∷ 0 ∷ 0 ∷ 0 ∷ 0 ∷ 0 ∷ 0 ∷ 0 ∷ []

-- Table 6.15, hth: the hearing threshold, 50 bands to each fscod
unfoldable pub hearing : List ℕ
hearing =
    1232 ∷ 1232 ∷ 1088 ∷ 1024 ∷ 992 ∷ 960 ∷ 944 ∷ 944 ∷ 928 ∷ 928 ∷ 928 ∷ 928 ∷ 928 ∷ 912 ∷ 912 ∷ 912 ∷ 896 ∷ 896 ∷ 880 ∷ 880 ∷ 864 ∷ 864 ∷ 848 ∷ 848 ∷
    832 ∷ 832 ∷ 816 ∷ 800 ∷ 784 ∷ 768 ∷ 752 ∷ 752 ∷ 752 ∷ 752 ∷ 768 ∷ 784 ∷ 832 ∷ 912 ∷ 992 ∷ 1056 ∷ 1120 ∷ 1168 ∷ 1184 ∷ 1120 ∷ 1088 ∷ 1088 ∷ 1312 ∷ 2048 ∷
    2112 ∷ 2112 ∷ 1264 ∷ 1264 ∷ 1120 ∷ 1040 ∷ 992 ∷ 976 ∷ 960 ∷ 944 ∷ 944 ∷ 928 ∷ 928 ∷ 928 ∷ 928 ∷ 928 ∷ 912 ∷ 912 ∷ 912 ∷ 896 ∷ 896 ∷ 896 ∷ 880 ∷ 880 ∷
    864 ∷ 864 ∷ 848 ∷ 848 ∷ 832 ∷ 832 ∷ 800 ∷ 784 ∷ 768 ∷ 752 ∷ 752 ∷ 752 ∷ 752 ∷ 768 ∷ 800 ∷ 848 ∷ 912 ∷ 992 ∷ 1056 ∷ 1104 ∷ 1184 ∷ 1168 ∷ 1120 ∷ 1088 ∷
    1152 ∷ 1584 ∷ 2112 ∷ 2112 ∷ 1408 ∷ 1408 ∷ 1200 ∷ 1104 ∷ 1056 ∷ 1008 ∷ 992 ∷ 976 ∷ 960 ∷ 944 ∷ 944 ∷ 944 ∷ 928 ∷ 928 ∷ 928 ∷ 928 ∷ 928 ∷ 928 ∷ 928 ∷ 928 ∷
    912 ∷ 912 ∷ 912 ∷ 912 ∷ 896 ∷ 896 ∷ 896 ∷ 880 ∷ 864 ∷ 848 ∷ 832 ∷ 816 ∷ 800 ∷ 784 ∷ 768 ∷ 752 ∷ 752 ∷ 752 ∷ 768 ∷ 784 ∷ 816 ∷ 848 ∷ 960 ∷ 1040 ∷
    1136 ∷ 1184 ∷ 1120 ∷ 1088 ∷ 1104 ∷ 1248 ∷ []

-- Table 6.16, baptab: the bit allocation pointer (bap) by the address
unfoldable pub bap : List ℕ
bap =
    0 ∷ 1 ∷ 1 ∷ 1 ∷ 1 ∷ 1 ∷ 2 ∷ 2 ∷ 3 ∷ 3 ∷ 3 ∷ 4 ∷ 4 ∷ 5 ∷ 5 ∷ 6 ∷ 6 ∷ 6 ∷ 6 ∷ 7 ∷ 7 ∷ 7 ∷ 7 ∷ 8 ∷
    8 ∷ 8 ∷ 8 ∷ 9 ∷ 9 ∷ 9 ∷ 9 ∷ 10 ∷ 10 ∷ 10 ∷ 10 ∷ 11 ∷ 11 ∷ 11 ∷ 11 ∷ 12 ∷ 12 ∷ 12 ∷ 12 ∷ 13 ∷ 13 ∷ 13 ∷ 13 ∷ 14 ∷
    14 ∷ 14 ∷ 14 ∷ 14 ∷ 14 ∷ 14 ∷ 14 ∷ 15 ∷ 15 ∷ 15 ∷ 15 ∷ 15 ∷ 15 ∷ 15 ∷ 15 ∷ 15 ∷ []

-- E.2.4.3.1, hebaptab: the pointer of the adaptive hybrid transform (hebap) by the same address
unfoldable pub hebap : List ℕ
hebap =
    0 ∷ 1 ∷ 2 ∷ 3 ∷ 4 ∷ 5 ∷ 6 ∷ 7 ∷ 8 ∷ 8 ∷ 8 ∷ 8 ∷ 9 ∷ 9 ∷ 9 ∷ 10 ∷ 10 ∷ 10 ∷ 10 ∷ 11 ∷ 11 ∷ 11 ∷ 11 ∷ 12 ∷
    12 ∷ 12 ∷ 12 ∷ 13 ∷ 13 ∷ 13 ∷ 13 ∷ 14 ∷ 14 ∷ 14 ∷ 14 ∷ 15 ∷ 15 ∷ 15 ∷ 15 ∷ 16 ∷ 16 ∷ 16 ∷ 16 ∷ 17 ∷ 17 ∷ 17 ∷ 17 ∷ 18 ∷
    18 ∷ 18 ∷ 18 ∷ 18 ∷ 18 ∷ 18 ∷ 18 ∷ 19 ∷ 19 ∷ 19 ∷ 19 ∷ 19 ∷ 19 ∷ 19 ∷ 19 ∷ 19 ∷ []

-- Table 6.17: the bits of a mantissa by its bap; those of 1, 2 and 4 come in groups
abbrev pub mantissa_bits : List ℕ
mantissa_bits = 0 ∷ 0 ∷ 0 ∷ 3 ∷ 0 ∷ 4 ∷ 5 ∷ 6 ∷ 7 ∷ 8 ∷ 9 ∷ 10 ∷ 11 ∷ 12 ∷ 14 ∷ 16 ∷ []

unfoldable pub bap_bits : ℕ → ℕ
bap_bits bap = get_or mantissa_bits bap 0

-- Table E.2.2: the bits of a vector index, by hebap 0 to 7
unfoldable pub vq_bits : ℕ → ℕ
vq_bits hebap = get_or (0 ∷ 2 ∷ 3 ∷ 4 ∷ 5 ∷ 7 ∷ 8 ∷ 9 ∷ []) hebap 0

-- the same table: the bits of a mantissa, by hebap 8 to 19 less 8
abbrev pub gain_bits : List ℕ
gain_bits = 3 ∷ 4 ∷ 5 ∷ 6 ∷ 7 ∷ 8 ∷ 9 ∷ 10 ∷ 11 ∷ 12 ∷ 14 ∷ 16 ∷ []

unfoldable pub gaq_bits : ℕ → ℕ
gaq_bits index = get_or gain_bits index 0
