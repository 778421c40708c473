-- The names of the fields, numbered in the order in which parsing first reaches them.
-- absexp, exps and lfeabsexp are the standard's exps[ch][0], exps[ch] and lfeexps[0].
use Rattle.std.specs.Prelude.{List, [], ◌∷◌, ℕ}

-- syncinfo, 4.3.1
abbrev pub syncword : ℕ
syncword = 1

abbrev pub crc1 : ℕ
crc1 = 2

abbrev pub fscod : ℕ
fscod = 3

abbrev pub frmsizecod : ℕ
frmsizecod = 4

-- bsi, 4.3.2
abbrev pub bsid : ℕ
bsid = 5

abbrev pub bsmod : ℕ
bsmod = 6

abbrev pub acmod : ℕ
acmod = 7

abbrev pub cmixlev : ℕ
cmixlev = 8

abbrev pub surmixlev : ℕ
surmixlev = 9

abbrev pub dsurmod : ℕ
dsurmod = 10

abbrev pub lfeon : ℕ
lfeon = 11

-- a programme, and its twin of the second programme eight further on
abbrev pub dialnorm : ℕ
dialnorm = 12

abbrev pub compre : ℕ
compre = 13

abbrev pub compr : ℕ
compr = 14

abbrev pub langcode : ℕ
langcode = 15

abbrev pub langcod : ℕ
langcod = 16

abbrev pub audprodie : ℕ
audprodie = 17

abbrev pub mixlevel : ℕ
mixlevel = 18

abbrev pub roomtyp : ℕ
roomtyp = 19

abbrev pub dialnorm2 : ℕ
dialnorm2 = 20

abbrev pub compr2e : ℕ
compr2e = 21

abbrev pub compr2 : ℕ
compr2 = 22

abbrev pub langcod2e : ℕ
langcod2e = 23

abbrev pub langcod2 : ℕ
langcod2 = 24

abbrev pub audprodi2e : ℕ
audprodi2e = 25

abbrev pub mixlevel2 : ℕ
mixlevel2 = 26

abbrev pub roomtyp2 : ℕ
roomtyp2 = 27

-- after them
abbrev pub copyrightb : ℕ
copyrightb = 28

abbrev pub origbs : ℕ
origbs = 29

-- the alternate bsi, D.1.2
abbrev pub xbsi1e : ℕ
xbsi1e = 30

abbrev pub dmixmod : ℕ
dmixmod = 31

abbrev pub ltrtcmixlev : ℕ
ltrtcmixlev = 32

abbrev pub ltrtsurmixlev : ℕ
ltrtsurmixlev = 33

abbrev pub lorocmixlev : ℕ
lorocmixlev = 34

abbrev pub lorosurmixlev : ℕ
lorosurmixlev = 35

abbrev pub xbsi2e : ℕ
xbsi2e = 36

abbrev pub dsurexmod : ℕ
dsurexmod = 37

abbrev pub dheadphonmod : ℕ
dheadphonmod = 38

abbrev pub adconvtyp : ℕ
adconvtyp = 39

abbrev pub xbsi2 : ℕ
xbsi2 = 40

abbrev pub encinfo : ℕ
encinfo = 41

-- time codes and additional information
abbrev pub timecod1e : ℕ
timecod1e = 42

abbrev pub timecod1 : ℕ
timecod1 = 43

abbrev pub timecod2e : ℕ
timecod2e = 44

abbrev pub timecod2 : ℕ
timecod2 = 45

abbrev pub addbsie : ℕ
addbsie = 46

abbrev pub addbsil : ℕ
addbsil = 47

abbrev pub addbsi : ℕ
addbsi = 48

-- audblk, 4.3.3
abbrev pub blksw : ℕ
blksw = 49

abbrev pub dithflag : ℕ
dithflag = 50

abbrev pub dynrnge : ℕ
dynrnge = 51

abbrev pub dynrng : ℕ
dynrng = 52

abbrev pub dynrng2e : ℕ
dynrng2e = 53

abbrev pub dynrng2 : ℕ
dynrng2 = 54

-- coupling
abbrev pub cplstre : ℕ
cplstre = 55

abbrev pub cplinu : ℕ
cplinu = 56

abbrev pub chincpl : ℕ
chincpl = 57

abbrev pub phsflginu : ℕ
phsflginu = 58

abbrev pub cplbegf : ℕ
cplbegf = 59

abbrev pub cplendf : ℕ
cplendf = 60

abbrev pub cplbndstrc : ℕ
cplbndstrc = 61

abbrev pub cplcoe : ℕ
cplcoe = 62

abbrev pub mstrcplco : ℕ
mstrcplco = 63

abbrev pub cplcoexp : ℕ
cplcoexp = 64

abbrev pub cplcomant : ℕ
cplcomant = 65

abbrev pub phsflg : ℕ
phsflg = 66

-- rematrixing
abbrev pub rematstr : ℕ
rematstr = 67

abbrev pub rematflg : ℕ
rematflg = 68

-- exponents
abbrev pub cplexpstr : ℕ
cplexpstr = 69

abbrev pub chexpstr : ℕ
chexpstr = 70

abbrev pub lfeexpstr : ℕ
lfeexpstr = 71

abbrev pub chbwcod : ℕ
chbwcod = 72

abbrev pub cplabsexp : ℕ
cplabsexp = 73

abbrev pub cplexps : ℕ
cplexps = 74

abbrev pub absexp : ℕ
absexp = 75

abbrev pub exps : ℕ
exps = 76

abbrev pub gainrng : ℕ
gainrng = 77

abbrev pub lfeabsexp : ℕ
lfeabsexp = 78

abbrev pub lfeexps : ℕ
lfeexps = 79

-- parameters of the bit allocation
abbrev pub baie : ℕ
baie = 80

abbrev pub sdcycod : ℕ
sdcycod = 81

abbrev pub fdcycod : ℕ
fdcycod = 82

abbrev pub sgaincod : ℕ
sgaincod = 83

abbrev pub dbpbcod : ℕ
dbpbcod = 84

abbrev pub floorcod : ℕ
floorcod = 85

abbrev pub snroffste : ℕ
snroffste = 86

abbrev pub csnroffst : ℕ
csnroffst = 87

abbrev pub cplfsnroffst : ℕ
cplfsnroffst = 88

abbrev pub cplfgaincod : ℕ
cplfgaincod = 89

abbrev pub fsnroffst : ℕ
fsnroffst = 90

abbrev pub fgaincod : ℕ
fgaincod = 91

abbrev pub lfefsnroffst : ℕ
lfefsnroffst = 92

abbrev pub lfefgaincod : ℕ
lfefgaincod = 93

abbrev pub cplleake : ℕ
cplleake = 94

abbrev pub cplfleak : ℕ
cplfleak = 95

abbrev pub cplsleak : ℕ
cplsleak = 96

-- delta bit allocation
abbrev pub deltbaie : ℕ
deltbaie = 97

abbrev pub cpldeltbae : ℕ
cpldeltbae = 98

abbrev pub deltbae : ℕ
deltbae = 99

abbrev pub cpldeltnseg : ℕ
cpldeltnseg = 100

abbrev pub cpldeltoffst : ℕ
cpldeltoffst = 101

abbrev pub cpldeltlen : ℕ
cpldeltlen = 102

abbrev pub cpldeltba : ℕ
cpldeltba = 103

abbrev pub deltnseg : ℕ
deltnseg = 104

abbrev pub deltoffst : ℕ
deltoffst = 105

abbrev pub deltlen : ℕ
deltlen = 106

abbrev pub deltba : ℕ
deltba = 107

-- skip field and mantissas
abbrev pub skiple : ℕ
skiple = 108

abbrev pub skipl : ℕ
skipl = 109

abbrev pub skipfld : ℕ
skipfld = 110

abbrev pub mantissas : ℕ
mantissas = 111

-- ---- names whose values steer nothing, so that an editor may change them freely, and names of spans

abbrev pub editable : List ℕ
editable =
    crc1 ∷ bsmod ∷ cmixlev ∷ surmixlev ∷ dsurmod ∷ dialnorm ∷ compr ∷ langcod ∷ mixlevel ∷ roomtyp ∷ dialnorm2 ∷ compr2 ∷ langcod2 ∷ mixlevel2 ∷ roomtyp2
    ∷ copyrightb ∷ origbs ∷ dmixmod ∷ ltrtcmixlev ∷ ltrtsurmixlev ∷ lorocmixlev ∷ lorosurmixlev ∷ dsurexmod ∷ dheadphonmod ∷ adconvtyp ∷ xbsi2 ∷ encinfo
    ∷ timecod1 ∷ timecod2 ∷ blksw ∷ dithflag ∷ dynrng ∷ dynrng2 ∷ mstrcplco ∷ cplcoexp ∷ cplcomant ∷ phsflg ∷ rematflg ∷ gainrng ∷ []

abbrev pub spans : List ℕ
spans = addbsi ∷ skipfld ∷ mantissas ∷ []
