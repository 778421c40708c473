-- Frames on which the definition gives what the Rust gives, as `ac3/specs/Listing.antt` says it in short.
-- Made by tools/tried.py from tools/frames.txt. Assumes nothing.
use mathlib.Core.List.{List, [], ◌∷◌, ◌++◌}
use mathlib.Core.Path.{◌≡◌, refl}
use Prim.Native.Nat.{ℕ}
use Rattle.bits.specs.Bits.{bit_at, value, bits_before, same_bits, range_eq}
use Rattle.syntax.specs.Grammar.{◌>>=◌, turns}
use Rattle.syntax.specs.Numbers.{shown}
use Rattle.syntax.specs.Place.{except, exec, and_then, flatten, landing, finish}
use Rattle.syntax.specs.Run.{room_check, check, sum, unless, run, continue}
use Rattle.tables.specs.Tables.{nfchans, words48, words44, words32, frame_bytes, slow_decay, fast_decay, slow_gain, knee, floor, fast_gain, band_end, log_add, hearing, bap, hebap, bap_bits, vq_bits, gaq_bits}
use Rattle.alloc.specs.Allocation.{from, placed, snr_offset, psd_of, mapped_psd, logadd, band_sum, band_of, start_of, end_of, band_psd, integrated_psd, lowcomp, low_after, rises, start_leak, fall_to, fall_by, fall_leak, leak_step, excitations, excitation, over_knee, mask_of, masking_curve, delta_of, passed, delta_in, delta_sum, delta_applied, kept, threshold, thresholds, address_of, bap_of, pointers as Allocation-pointers, allocation_by}
use Rattle.parameters.specs.Delta.{delta_code, channel_code, segment, new_deltas, slot_deltas, coded_deltas, deltas}
use Rattle.parameters.specs.Parameters.{new_curve, curve, fine_offset, channel_offset, new_offsets, offsets, new_leak, coupling_leak}
use Rattle.exponents.specs.Exponents.{step, unpack, group, exponent_set, slot_exponents, channel_exponents, exponents}
use Rattle.mantissas.specs.Mantissas.{silent, pointers as Mantissas-pointers, all_pointers, widths, bits_in, by_slot, mantissas}
use Rattle.mantissas.specs.Parts.{channel_parts, parts}
use Rattle.header.specs.Header.{syncinfo, programme_info, alternate_info, time_codes, additional_info, bsi, header}
use Rattle.channels.specs.Coupling.{how_many, coupled_channels, joined, coupling_bands, new_coupling, coupling_strategy, coordinate, channel_coordinates, phase_flags, coupling_coordinates, rematrixing}
use Rattle.channels.specs.Strategies.{channel_strategies, exponent_strategies, bandwidth, bandwidths, channel_end, channel_ends}
use Rattle.ac3.specs.AudioBlock.{channel_flags, dynamic_range, channel_settings, coupling_section, exponent_section, skip_field, alloc_state, audio_block}
use Rattle.ac3.specs.Frame.{audio, syncframe, answered}
use Rattle.ac3.specs.Listing.{bytes, plus_one, checksum, verdict, short}
use Rattle.ac3.specs.Sent.{every, some, coordinates_sent}
use Rattle.ac3.specs.Listing.{listing}

-- ffmpeg, 2/0, 48 kHz, coupling in every block
abbrev stereo : List ℕ
stereo =
    bytes 64 0x0b77773e024043e106f0010c0c0c21818187d69f3f7d8042c3ef8fdbe7d0df3e7c6010b0fbfcf9e9f3e7cf9f197f292244900b537c6d9f40b105a9be36cfa058
    ++ bytes 64 0x98209aef9fbe7cf80f96f24d85108187cb7926c288403000067ea4023f7226633f52011fb913180003e9340f39255e01f49a079c92af0c184d786f80c3b038ff
    ++ bytes 32 0x62020c61d81c7fb101030614fabbe030741e02614a66183a0f0130a530008dc5

-- ffmpeg, 1/0, 44.1 kHz
abbrev mono : List ℕ
mono =
    bytes 64 0x0b772cef48402f8429538005498be7ca6aa9bea6f9f42a6a9f3e7cf9f3e7cfa9a9a6a6bbe7cf9f3e7cf9f3e7cf9f3e7cf8cbfc7702a42eb25e30d1e3de7672d3
    ++ bytes 64 0x95026457931791d71d09c29726589f66ff9f56769ac79da940314fbd9b388805f6e9c82e1419e4c167ac3dee21e92813615d22c221fffd2fa8d91b36a500e2df
    ++ bytes 64 0x7508d06fad8668744ef52aed952edb7b841b419630983207fa4e03f457a267250d2403aa86180e09ec843aaa14821a10198ce489f772878e08768ba80c8c6fe0
    ++ bytes 64 0x2e96919c8d6a5000780d4009e01657971889577148fcae360f3b4145cdcc60fab6f0a65f9fbdb3b6e5d08940399fdd4076c05960372131a169801aa4f0e89a60
    ++ bytes 22 0xce9e27625c82b64f047c651b8b9746a4000000008ad7

-- acmod 0 with LFE, bsid 6, 32 kHz, coupling and delta segments in every block
abbrev two_programmes : List ℕ
two_programmes =
    bytes 64 0x0b77738a80321a820451eed7556f8e25f1723db6c8be15b9bc04e90abc090a28f2229b9a20bf56456b85f051bf03da079028a7f32d045a31c97ad50959cb9e6d
    ++ bytes 64 0x3125bc037173e33f0edbec8162323644100000000000000001f100552df034364801253cde692f888d0fb9b800021441978699af11294ee50033082b81059f06
    ++ bytes 64 0x166b21a22146277e5f71582759e72750773a5460005ac5014f646721e3409f7aec00d08ed91ef0001537c42433e363d5e74313ef2ee703c33880a5d57759087c

-- acmod 0 with LFE, bsid 6, eight coupling delta segments
abbrev eight_segments : List ℕ
eight_segments =
    bytes 64 0x0b773cb30134130d0471e8de7f6a47802c87323d08e78d38d79e32c4abc6042854e1bdd001070e0b00a13c0015c30e98000e1c50002853e0038d8ef7e0c7c851
    ++ bytes 64 0xe939b968417244f09c000863f2cf7d40b80fb2e714051c1fb63ab6ba1d3b76636624865b7b9ac1f4531e63e90da4640b2dcc20ab2d56bd095b8f8855c717f9e8

-- 3/2 with LFE
abbrev surround : List ℕ
surround =
    bytes 64 0x0b77bf470c47fd0cbecd857355889b08b1d166438edffc00030815d930d764eeb340f65165b1e5eba4b07c4d6d2a5e626c843668fb4b38fdd0c1829adef57300
    ++ bytes 64 0x2830c082071eeea8038464c492d5d53c73f3a80a0ee23f028417d1142fb4d8d48d6c57af415bf8772e51f1f41f27c1001600606fa42ef109f31363909de380fc
    ++ bytes 64 0x08015c08eff89346412b4fd6612c7e7f707b33eeba5680040060810196ec18060208ff12759f83508000102080c39175486ad9e6cb3ea8e52295c601dee56235
    ++ bytes 64 0x3d92b317c650ef2d423f469866d9e6152ba2f1df658e3d55539b5619eed4992242132fe86b6ebee6868ce9df43eac5df285f58dba5e08a43b6b2878b6a5a8d08
    ++ bytes 64 0xcd30b4d0486aefa4808cbbf8cc0c4eaf17206a6bece82ce11b84f6472b5a32ec9b7d160b5830d397b9c441820bf684e5174984b957f911ecc35e089cc371b199
    ++ bytes 64 0xdae09fb359a3813a2cb12ebb434028a7949adfd2cccde264dbcae371a17d1ca6161d8c0ca4285f07b6ead0d06ab72a0037b890d52979e8596fb9c90f2c971ba0

-- 2/1 with LFE, coupling and delta segments
abbrev coupled_surround : List ℕ
coupled_surround =
    bytes 64 0x0b77535f02429c384addd7cc1b44940b7c261f111c5a1795fface896a16d5c49c1131d3462fb04a6a8a4efde9400a181870547550f0000000000000000000000
    ++ bytes 64 0x00000000000000000000000000000000000000559a25bfa178002334734915d562b59081722f63b523db2609628c194893fbc003bea8e7d4cb6f2b2000d2d7df
    ++ bytes 32 0x21cba43ea46caf52b3d4182f2ed53f3e8c8c1a24001a865af19f8fc9c0020042

-- 3/0, 32 kHz, coupling in every block
abbrev three_front : List ℕ
three_front =
    bytes 64 0x0b77bc0c80427263afc04988eaa6993f8054f556e26c955654eb5f08983b61b1c24204cbb6050d62bd2c7d41536af48278e0e26d29afa2c237aee61eed443dec
    ++ bytes 64 0xfda4b36000372dcdb5130ce984529dbb443000236dc91c8aae3c8efcf99cf77300037015fd5da2a50257d70f59bff8400008d44cb187226a95231ed8c001e06e
    ++ bytes 64 0x4817f779a4b55867d278094ba4a1ba72d6a58f74719c7da8ef7237ad0a5bcb7a7cd87420162bb3d6562f8590ce6c5630ab4b56b37375fd7dfbd7a95dabb8021c

-- 3/1, bsid 6
abbrev one_surround : List ℕ
one_surround =
    bytes 64 0x0b772a090030aae3179f0c8fe5fe122790997983b7aa6a5e6409ab807dfac99ce0bd703ac36c86a016f4caa846a5d3d5f3a85e763f0051592f8611488863b383
    ++ bytes 64 0x00005a7a9c18da000206941cd66a0000192dfbc70a0000b2217ba56ce00053a33986c80981d95acd467b755ba45dd69ab77237a0002a51bf094ae5114518a728

-- 2/2 with LFE, coupling in every block
abbrev two_surround : List ℕ
two_surround =
    bytes 64 0x0b7777470046c5be70022fc87041e71fed9573ac452307286f035e18a08203887704a4bcb34b0a8468aaa64dd108522cc69a5a5850ba9bcf902f946fb2ad7e60
    ++ bytes 64 0x54a15ae7ba83790000052c188e28ea02ff00004aa60e48c84165408000001f330e026c98c1f4742000046456012593f74a779a36000ce4c6256da3e00000edd0

-- coupling in one block only, coordinates sent
abbrev some_coupled : List ℕ
some_coupled =
    bytes 64 0x0b7729ce01464fbba4db4cd8e7f32be27552a9a97fad84d739f424b770d768c65a0da55310f7b64e64d642da141c0c3a5b4882996a15758400e18001c24a9f82
    ++ bytes 64 0x0579a52c97418c87ec44d9c73e1510983180e5feabc7cc8c1aa0020a08f0006b4ae0340beb0008b8001324a1bc913e8c44c45e60406e8377307a494503786c71

-- phase flags, and a coupling start exponent of 26
abbrev phases_flagged : List ℕ
phases_flagged =
    bytes 64 0x0b77213b012641031cfa124abffe8b916066ec8c4d8723b600eca91573c020050013a8621040018ea60003cfc0002159c000a3eb80014f14f7953161686e56d5
    ++ bytes 64 0xf886235860da647f116e8fd292f02a174f010d9a874e77f192dace955355d257a68c9a114d3ef60dee5a5d6bd50018211feac129180e38f77820edc14ca8596d

-- coupling exponents reused after a pause without coupling
abbrev pause : List ℕ
pause =
    bytes 64 0x0b776fc0093410020ca53c28f3e3c6bd8581e934d13c47a46b115b0041e790deadfd71360cd99c9a910df99adfd5da59ba8b0e54364c0a430639454f60e31d29
    ++ bytes 64 0x67b38e9fe4e40b12dc83c732cb4c5488f344bb0d034c68e8f23db4cbea5fe07482e08349aab1c4e1d5448f34917c71373b538b0a2e95dcc936a8aa35c9360efe
    ++ bytes 64 0xd6ae7b20ea20dd8e36b3ac649b776f1e817e61dd96eeb6a67664634a105c93ca118392291a989db3fb8c156fd890ccaf9215943fe1224717f7b562d5284d318c
    ++ bytes 64 0x0cf269d056179d054a9090066088ca3b26e0802e6ed8d01bf3e50eee3bc5ce7e3c8568ee6ce151632b6ee66d3e8dcca96fb75860b4acdbf400618000200fb87f

-- channel exponents reused as the channel joins or leaves coupling
abbrev joining : List ℕ
joining =
    bytes 64 0x0b7720e603344c6b04fee406454f8200491ae37a580c6edea5223ccbbec5679fe0060418e1e1001732740b1981ce79275ae9ae7fbce0f68064db898515807826
    ++ bytes 64 0xac75cf85fafcd079df17b33667cbc0d9a9a3627eb9c4b170aacf2969880c945e267be9ed07c4b63b7e3bcb47ccd5173d7717cbe5193dfce2cda0180140850218
    ++ bytes 32 0xfbfd5eec889bc2b582e0f6c665059d84e6a6fab29573f94ae619c2f6bbf038fb

-- all SNR offsets 0, coupling in use, its leak never sent
abbrev quiet_coupling : List ℕ
quiet_coupling =
    bytes 64 0x0b7753a04137418108bde18835aef24cfc888d232c8136cf441400400010b182b96ec8ed1df01f6b0c6108182a858c02bd6baef5c6004019bd44c4746d59eee2
    ++ bytes 64 0xa56c181b55c671deebe07e93200333e20a79255ecdcd7dedf4e71f68f7c4b059da482f0a0a621e27984323f0dafd09c81302f534942f56c0a5590038406a1a42
    ++ bytes 12 0x4fd5a03afc8a0834100ffe02

-- mantissas of width 0 in every block
abbrev zero_width : List ℕ
zero_width =
    bytes 64 0x0b77d9a000442f804b0ed39a4faea4c315d6400c20180600804009b97352edaf8905252ccb0c0d6f217410c5cbdcfc6ff16d33b4627739780320805bab2a64b8
    ++ bytes 64 0x8e0c5a590b53692fb1a755db5cec2a913917d8e5ad23309ba6669b95650df280af1b5f0d17f8b603f146a4746e414e93a43ccedb28a7f65958ec4463808c8e1d

-- audio up to the frame's last bit
abbrev to_the_end : List ℕ
to_the_end =
    bytes 64 0x0b7763c40111211f94f878f4c52113d81df072bc2ef397734e60ac1385ed7374e7b59eb2d9a40d4e6445bde3a8871212c74cbd52c5d335a181d5e340a5d3cc60
    ++ bytes 64 0x27c4d12119ad67ca359008df0a04005a202c04681ca4e2868595213e830f75b6db667cb0536722b2b2c97e0582088a235295c189f953023e36790dfa7229d7fb

-- skipl 0
abbrev skip_nothing : List ℕ
skip_nothing =
    bytes 64 0x0b773f3a0128270c6b0de2d314a343a205d2c19c803ddb9e0140312243e000016800b4003ecb11e0401a582a9b80319e29aec4b07c8620060045b60fcfb6a1a8
    ++ bytes 64 0x016779ae23db0f771b3cd725400e3e4db2360f3100001ee000010330eedf89d78a9e45140ecd70591396925f1d0c70f02e66600a00cc237b073d0af5ca815a5b

-- addbsil 63
abbrev addbsi_longest : List ℕ
addbsi_longest =
    bytes 64 0x0b777e840134258cfeb5006d24a576a840b3840397b5a675282aa60651abc79ef8ed034f4d912e19d7301f4f67b1c14267f320afa4e2310c3041905bcc102c35
    ++ bytes 64 0xdadb297b52d47a6d05ac3174979087fa5050310988800002010080043433b78ff4258a3845315bd5590f822e02c01872b0ef312da050010100d68cf027f91606

-- chbwcod 60
abbrev widest : List ℕ
widest =
    bytes 64 0x0b7722fc402a2f11f7483a21417187790469e7c07cef879477c23872b4283c100a2191bf02c6b8e887eb4d5f5e0be9cb939f350a3d84199bbe1e2d8ece7c7828
    ++ bytes 64 0xac9e128068fc287b81a222b8361224000792067b60ffc0424e7116e08ddad8fe825686e2de26e3d5e0474a8141fd55f44608428485a10a6b21feccc9f2c77686
    ++ bytes 10 0xcbbe4bf10c2780185880

-- names that the others lack
abbrev other_names_1 : List ℕ
other_names_1 =
    bytes 64 0x0b7790ba4a3105c5a9f9c6bf4e2f4a691aaf8fc6c57f6afa60950b6adaa9f50d68449dbfdf100cd96e7eb652e9bb1a0e4471849dece2902716f546c38ac07855
    ++ bytes 64 0xf82de3afbcd8c6b4119b0474001dbb0f6a69bac168b7b259416f563362d1e40594cf66b9dac1cc607475b070d9e256eedb970b1780414fbe6ee6b6100c5e9591
    ++ bytes 64 0x82a369b7b7159f2a77256ee048b689a9742392e1657c283637e59a38014307cbaa1f000000000000000000000000000000000000000000000000000000000000
    ++ bytes 64 0x00ebec517c56800948f9ea80032bd446be714b221486888774b0fd8020010c15468b38357561cacc9ac357f4e0d783ad70201d7179b869f31c12b5e915eacc49
    ++ bytes 64 0x5a415805c9253f3dde9e64ab0cba5b934ba33763c4f2cda66084bedcc5cc9ccd648ae196153ab7d90988db4a16abad24624517cd5b18400a142289cccc5e70e6
    ++ bytes 28 0x729df92d49efcc556f1bb79d80800838764bab560e154030544d9e3b

-- delta segments that stay while deltbaie is 0
abbrev deltas_stay : List ℕ
deltas_stay =
    bytes 64 0x0b77fb63404226efaf538789cbd7906a6f894c808d6872e8d0dc431512955a7c7354f0201df33aa0540ec6c2968d800000000000000000000000000000000000
    ++ bytes 64 0x00000000000000000000000000000000000000000000000000000000000000000000000011f8fc000efbdb601007182e1f000ddd8f82c4b0e12567256476539a
    ++ bytes 10 0xed8fa6e501108a8510a3

-- coordinates of 18 bands
abbrev bands_eighteen : List ℕ
bands_eighteen =
    bytes 64 0x0b7700000040400000f078000200089119a22ab33bc44cd55de66ef77f8008c00112233445566778899aabbccddeeff00119f83e7cf9f3e7cf9f3e7cf9f3e7cf
    ++ bytes 64 0x9f3e7c0f9f3e01f3e7c4004000000000000000000000000000000000000000000000000000000000000000000000000000000000000000000000000000000000

-- coordinates of one band, merged of 18 sub-bands
abbrev bands_one : List ℕ
bands_one =
    bytes 64 0x0b7700000040400000f07ffffe004009f83e7cf9f3e7cf9f3e7cf9f3e7cf9f3e7c0f9f3e01f3e7c4004000000000000000000000000000000000000000000000
    ++ bytes 64 0x00000000000000000000000000000000000000000000000000000000000000000000000000000000000000000000000000000000000000000000000000000000

-- D15 up to bin 253 for coupling and for a channel, with LFE
abbrev groups_to_the_end : List ℕ
groups_to_the_end =
    bytes 64 0x0b77000008406400003c1e0000157e03e7cf9f3e7cf9f3e7cf9f3e7cf9f3e7cf9f3e7cf9f3e7cf9f3e7cf9f3e7cf9f3e7cf9f3e7cf9f3e7cf9f3e7cf9f3e7cf9
    ++ bytes 64 0xf3e7cf9f3e7cf9f3e7cf9f3e7cf9f03e7cf9f3e7cf9f3e7cf9f00f9f3e7cf9f3e7cf9f3e7c03e7cf9f3e7cf9f3e7cf9f3e7cf9f3e7cf9f3e7cf9f3e7cf9f3e7c
    ++ bytes 64 0xf9f3e7cf9f3e7cf9f3e7cf9f3e7cf9f3e7cf9f3e7cf9f3e7cf9f3e7cf9f3e7cf9f3e7cf9f3e7cf9f3e7cf9f3e7cf9f00f9f40040000000000000000000000000
    ++ bytes 64 0x00000000000000000000000000000000000000000000000000000000000000000000000000000000000000000000000000000000000000000000000000000000

-- eight delta segments for coupling and for each of five channels
abbrev segments_eight : List ℕ
segments_eight =
    bytes 64 0x0b7700000440e0000000fe400fff07c0f9f3e7cf807cf9f3e7c03e7cf9f3e01f3e7cf9f00f9f3e7cf88008000000000002aabc00022444866c890ab4cd8eff80
    ++ bytes 64 0x00448890cd91215699b1dff00008911219b2242ad3363bfe00011222433644855a66c77fc00022444866c890ab4cd8eff8000448890cd91215699b1df8000000
    ++ bytes 64 0x00000000000000000000000000000000000000000000000000000000000000000000000000000000000000000000000000000000000000000000000000000000

-- channel 3 joins coupling in block 2 with cplcoe 0: coordinates not sent
abbrev late_channel : List ℕ
late_channel =
    bytes 64 0x0b7700000040c000000f94e00400801ff800f81f3e7cf9f3e7cf807cf9f3e7cf9f3e01f3e7cf9f3e7cf807cf9f3e7cf8800800000000000000000003f53000c1
    ++ bytes 64 0xf3e7cf9f3e7cf8000000000000000000000000000000000000000000000000000000000000000000000000000000000000000000000000000000000000000000

-- a channel leaves coupling and comes back with cplcoe 0: coordinates sent
abbrev comes_back : List ℕ
comes_back =
    bytes 64 0x0b77000000406000003ea700200400ff07c0f9f3e7cf9f3e7c03e7cf9f3e7cf9f00f9f3e7cf9f3e7c400400000000003ca601800f9f3e7cf9f0001f530060f9f
    ++ bytes 64 0x3e7cf9f3e7c000000000000000000000000000000000000000000000000000000000000000000000000000000000000000000000000000000000000000000000

-- coupling off and on again, with cplcoe 0: coordinates sent
abbrev off_and_on : List ℕ
off_and_on =
    bytes 64 0x0b7700000040400000f18c008010fc1f03e7cf9f3e7c03e7cf9f3e7c4004000000004f00007cf9f3e7cf807cf9f3e7cf80078c40000000000000000000000000
    ++ bytes 64 0x00000000000000000000000000000000000000000000000000000000000000000000000000000000000000000000000000000000000000000000000000000000

-- cplcoe 0 in the first coupled block and 1 in the next: coordinates not sent
abbrev a_block_late : List ℕ
a_block_late =
    bytes 64 0x0b7700000040400000f2990fc1f03e7cf9f3e7cf9f00f9f3e7cf9f3e7c4004000000002004000000000000000000000000000000000000000000000000000000
    ++ bytes 64 0x00000000000000000000000000000000000000000000000000000000000000000000000000000000000000000000000000000000000000000000000000000000

-- acmod 0, coordinates sent
abbrev programmes_coupled : List ℕ
programmes_coupled =
    bytes 64 0x0b770000004000000001ea7002007e0f81f3e7cf9f3e7cf807cf9f3e7cf9f3e20020000000000000000000000000000000000000000000000000000000000000
    ++ bytes 64 0x00000000000000000000000000000000000000000000000000000000000000000000000000000000000000000000000000000000000000000000000000000000

-- the example of docs/FORMAT.md
abbrev fscod_3 : List ℕ
fscod_3 =
    bytes 6 0x0b770000c000

-- five bytes
abbrev refusal_1 : List ℕ
refusal_1 =
    bytes 5 0x0b77000000

-- no sync word
abbrev refusal_2 : List ℕ
refusal_2 =
    bytes 64 0x33dd7e840134258cfeb5006d24a576a840b3840397b5a675282aa60651abc79ef8ed034f4d912e19d7301f4f67b1c14267f320afa4e2310c3041905bcc102c35
    ++ bytes 64 0xdadb297b52d47a6d05ac3174979087fa5050310988800002010080043433b78ff4258a3845315bd5590f822e02c01872b0ef312da050010100d68cf027f91606

-- one byte short
abbrev refusal_4 : List ℕ
refusal_4 =
    bytes 64 0x0b77773e024043e106f0010c0c0c21818187d69f3f7d8042c3ef8fdbe7d0df3e7c6010b0fbfcf9e9f3e7cf9f197f292244900b537c6d9f40b105a9be36cfa058
    ++ bytes 64 0x98209aef9fbe7cf80f96f24d85108187cb7926c288403000067ea4023f7226633f52011fb913180003e9340f39255e01f49a079c92af0c184d786f80c3b038ff
    ++ bytes 31 0x62020c61d81c7fb101030614fabbe030741e02614a66183a0f0130a530008d

-- bsid above 8
abbrev refusal_5 : List ℕ
refusal_5 =
    bytes 64 0x0b777e84014c258cfeb5006d24a576a840b3840397b5a675282aa60651abc79ef8ed034f4d912e19d7301f4f67b1c14267f320afa4e2310c3041905bcc102c35
    ++ bytes 64 0xdadb297b52d47a6d05ac3174979087fa5050310988800002010080043433b78ff4258a3845315bd5590f822e02c01872b0ef312da050010100d68cf027f91606

-- block 0's skip field past the frame
abbrev refusal_6_skip : List ℕ
refusal_6_skip =
    bytes 64 0x0b7758d701462c042b0255e987286b075120756c828102dcaad2c454578a7b52540080648a8d4456a514d07d5225eb382aff8ae4ad55294b08df3ecbe8ba784f
    ++ bytes 64 0x60fdd829b4281db8f56213709312c5f611b00b2f82281bc319ca4a7c231ac67e200a22d9c0451e0c1c784034fa7a4e5b06ae2f46000ecc6d12f5be2857b0147f

-- a field of block 0 past the frame: a group of exponents
abbrev refusal_6_field : List ℕ
refusal_6_field =
    bytes 64 0x0b77000000400040201000804020080010003f800000000000000000000000000000000000000000000000000000000000000000000000000000000000000000
    ++ bytes 64 0x00000000000000000000000000000000000000012f9e03e7cf9f3e7cf9f3e7cf9f3e7cf9f3e7cf9f3e7cf9f3e7cf9f3e7cf9f3e7cf9f3e7cf9f3e7cf9f3e7cf8

-- block 4 ends with the frame: block 5's first field
abbrev refusal_6_block_5 : List ℕ
refusal_6_block_5 =
    bytes 64 0x0b770000004020000b241f3e7cf9f3e7cf9f10010002640000000000000000000000000000000000000000000000000000000000000000000000000000000000
    ++ bytes 64 0x00000000000000000000000000000000000000000000000000000000000000000000000000000000000000000000000000000000000000000000000000000000

-- block 5's skip field past the frame
abbrev refusal_6_skip_5 : List ℕ
refusal_6_skip_5 =
    bytes 64 0x0b770000004020000b001f3e7cf9f3e20020000000000000001ff800000000000000000000000000000000000000000000000000000000000000000000000000
    ++ bytes 64 0x00000000000000000000000000000000000000000000000000000000000000000000000000000000000000000000000000000000000000000000000000000000

-- block 5's mantissas past the frame
abbrev refusal_6_walk_5 : List ℕ
refusal_6_walk_5 =
    bytes 64 0x0b770000004020000b001f3e7cf9f3e20020070000000000007f0e00000000000000000000000000000000000000000000000000000000000000000000000000
    ++ bytes 64 0x00000000000000000000000000000000000000000000000000000000000000000000000000000000000000000000000000000000000000000000000000000000

-- a mantissa past the frame
abbrev refusal_6_walk : List ℕ
refusal_6_walk =
    bytes 64 0x0b77d9a000442f804b0ed39a4faea4c315d66e0c20180600804009b97352edaf8905252ccb0c0d6f217410c5cbdcfc6ff16d33b4627739780320805bab2a64b8
    ++ bytes 64 0x8e0c5a590b53692fb1a755db5cec2a913917d8e5ad23309ba6669b95650df280af1b5f0d17f8b603f146a4746e414e93a43ccedb28a7f65958ec4463808c8e1d

-- a mantissa past the frame, behind those of coupling
abbrev refusal_6_coupled : List ℕ
refusal_6_coupled =
    bytes 64 0x0b773cb30134130d0471e8de7f6a47802c87323d08e78d38d79e32c4abc6042854e1bddb81070e0b00a13c0015c30e98000e1c50002853e0038d8ef7e0c7c851
    ++ bytes 64 0xe939b968417244f09c000863f2cf7d40b80fb2e714051c1fb63ab6ba1d3b76636624865b7b9ac1f4531e63e90da4640b2dcc20ab2d56bd095b8f8855c717f9e8

-- a field past the frame, in block 5
abbrev refusal_6_late : List ℕ
refusal_6_late =
    bytes 64 0x0b770000004020000b441f3e7cf9f3e7cf9f3e7c4004000984000000000000000000000000000000000000000000000000000000000000000000000000000000
    ++ bytes 64 0x00000000000000000000000000000000000000000000000000000000000000000000000000000000000000000000000000000000000000000000000000000001

-- a mantissa past the frame, in block 5
abbrev refusal_6_late_walk : List ℕ
refusal_6_late_walk =
    bytes 64 0x0b770000004020000b001f3e7cf9f3e20020070000000000007f0e00000000000000000000000000000000000000000000000000000000000000000000000000
    ++ bytes 64 0x00000000000000000000000000000000000000000000000000000000000000000000000000000000000000000000000000000000000000000000000000000000

-- block 0 has cplstre 0
abbrev refusal_8 : List ℕ
refusal_8 =
    bytes 64 0x0b773f3a0128270c630de2d314a343a205d2c19c803ddb9e0140312243e000016800b4003ecb11e0401a582a9b80319e29aec4b07c8620060045b60fcfb6a1a8
    ++ bytes 64 0x016779ae23db0f771b3cd725400e3e4db2360f3100001ee000010330eedf89d78a9e45140ecd70591396925f1d0c70f02e66600a00cc237b073d0af5ca815a5b

-- cplbegf above cplendf + 2
abbrev refusal_9 : List ℕ
refusal_9 =
    bytes 64 0x0b7712f4001524044f0acac536da8d411d65c00b88110060180001f814b76461f8b50f9fbce629cf2c47d80209e1a7c2435cab27e7cae3046f2543faa30ec25f
    ++ bytes 64 0x9bf0a0f38ccf90990914702250eae329b268438bd5d0a3d66e20c6c6738e8c2d5cd01c0a6b409117ef14442a37848ce374d05cc7dd1a1278553149ac510ef90e

-- one coupled channel
abbrev refusal_10 : List ℕ
refusal_10 =
    bytes 64 0x0b7752310019230c6ffbe57fcb4a1e2876158bc0c6e13ed1845f2defa848b0db74ef82c846ea008c09098e8ae5596a9761b30a7fdd0fbc2e73c5b5d120a00006
    ++ bytes 64 0x00c0b16cb7a7face1877be6d240f74ae21f2c68cc6c68f69867882eae85213a792ef483a402e4c5da253869951f05e2d5f2a795b3b4ce0c9e51b23c064145b27

-- chbwcod above 60
abbrev refusal_11 : List ℕ
refusal_11 =
    bytes 64 0x0b7758d701462c042bf832fc87286b07512001100c0102dcaad2c454578a7b52540080648a8d4456a514d07d5225eb382aff8ae4ad55294b08df3ecbe8ba784f
    ++ bytes 64 0x60fdd829b4281db8f56213709312c5f611b00b2f82281bc319ca4a7c231ac67e200a22d9c0451e0c1c784034fa7a4e5b06ae2f46000ecc6d12f5be2857b0147f

-- bandwidth never sent
abbrev refusal_12 : List ℕ
refusal_12 =
    bytes 64 0x0b7752310019230c68050b1fcb4a1e2876158bc0c6e13ed1845f2defa848b0db74ef82c846ea008c09098e8ae5596a9761b30a7fdd0fbc2e73c5b5d120a00006
    ++ bytes 64 0x00c0b16cb7a7face1877be6d240f74ae21f2c68cc6c68f69867882eae85213a792ef483a402e4c5da253869951f05e2d5f2a795b3b4ce0c9e51b23c064145b27

-- coupling exponents reused over another range
abbrev refusal_13 : List ℕ
refusal_13 =
    bytes 64 0x0b777c7e84221c898039ffc0ac35b9c63b22da3e2b33beb465057fc497873328f7ee6c910bd062189d2b32b1912e413e0c7cb5af2c32209eaaf711df90a9e88c
    ++ bytes 64 0xcf996978b4517997bcfb85ac8e01221809c3a578513b2f9ea482c56b43bbb65840a5d35a1cae3d74dd4915c112ea8db6a62b9fd978faf8a45c9d4cc32e28c5bb
    ++ bytes 64 0xabcb9bdf99fa4f5c4ed5450b9cb7631306bb5a8380181830152adcaa977dd63e0b9f00642c78a3f0e2a4de11be7f00017a486ff2000084f138087d8008501c3c
    ++ bytes 64 0x54edf8013b489287845fddc4002440480e57cc12b3195d8ba3fd846d4b6125a77db0db7cc10bdef095687d23347e6a6326986b5c7601cfa2c6814bdc5cf77dfa
    ++ bytes 32 0x562896dc597fefdd9fd21c412f60b9ef31164e0fc91956fac7cf68c19f3c46e7

-- channel exponents reused with another end
abbrev refusal_14 : List ℕ
refusal_14 =
    bytes 64 0x0b77213b012641031cfa124abf9e8b916066ec8c4d8723b600eca91573c020050013a8621040018ea60003cfc0002159c000a3eb80014f14f7953161686e56d5
    ++ bytes 64 0xf886235860da647f116e8fd292f02a174f010d9a874e77f192dace955355d257a68c9a114d3ef60dee5a5d6bd50018211feac129180e38f77820edc14ca8596d

-- LFE exponents never sent
abbrev refusal_15 : List ℕ
refusal_15 =
    bytes 64 0x0b77d9a000443f804b0ed39a4faea4c315d6400c20180600804009b97352edaf8905252ccb0c0d6f217410c5cbdcfc6ff16d33b4627739780320805bab2a64b8
    ++ bytes 64 0x8e0c5a590b53692fb1a755db5cec2a913917d8e5ad23309ba6669b95650df280af1b5f0d17f8b603f146a4746e414e93a43ccedb28a7f65958ec4463808c8e1d

-- group above 124
abbrev refusal_16 : List ℕ
refusal_16 =
    bytes 64 0x0b77caed48402f842ae83fcef9f38437cfabbe7cfabbe7cf9f3e7cf9f3e32febc400bfffddffbf900e9b682c950caf56aae64724018008002000f188000001ff
    ++ bytes 64 0x000007bf0c093f15ee0742351925e658521004001fde310000fffff802803ff1842ffdc1a00198f01df08a8608e280fe03c624a17a05f3e3e7cfdf577cf9f3f7
    ++ bytes 64 0xcf9f3e86f9f3e7c07ebf37fe1f13863cebe4bd95fab2819c21fdcb7bf75eaffffffffb000400129249b5b1d6b5ad35ad6b5a940297ff803d383fb417fdb28cd6
    ++ bytes 64 0x9485bab577e785200a1301bf02f05399cf699a69a4d4351ada1a86a20d4026a1c1f9f3e437cfdf3e7cf805dd670242a0240003fa3e11cfffbcc6c622c1083ec1
    ++ bytes 22 0x5c060000100200000000000000000000001b6c00ff91

-- exponent outside 0 to 24
abbrev refusal_17 : List ℕ
refusal_17 =
    bytes 64 0x0b772cef48402f8429381696498be7ca6aa9bea6f9f42a6a9f3e7cf9f3e7cfa9a9a6a6bbe7cf9f3e7cf9f3e7cf9f3e7cf8cbfc7702a42eb25e30d1e3de7672d3
    ++ bytes 64 0x95026457931791d71d09c29726589f66ff9f56769ac79da940314fbd9b388805f6e9c82e1419e4c167ac3dee21e92813615d22c221fffd2fa8d91b36a500e2df
    ++ bytes 64 0x7508d06fad8668744ef52aed952edb7b841b419630983207fa4e03f457a267250d2403aa86180e09ec843aaa14821a10198ce489f772878e08768ba80c8c6fe0
    ++ bytes 64 0x2e96919c8d6a5000780d4009e01657971889577148fcae360f3b4145cdcc60fab6f0a65f9fbdb3b6e5d08940399fdd4076c05960372131a169801aa4f0e89a60
    ++ bytes 22 0xce9e27625c82b64f047c651b8b9746a4000000008ad7

-- deltbae 0 in block 0
abbrev refusal_18 : List ℕ
refusal_18 =
    bytes 64 0x0b7758d701462c042b0255e987286b0751200189549802dcaad2c454578a7b52540080648a8d4456a514d07d5225eb382aff8ae4ad55294b08df3ecbe8ba784f
    ++ bytes 64 0x60fdd829b4281db8f56213709312c5f611b00b2f82281bc319ca4a7c231ac67e200a22d9c0451e0c1c784034fa7a4e5b06ae2f46000ecc6d12f5be2857b0147f

-- deltbae 3
abbrev refusal_19 : List ℕ
refusal_19 =
    bytes 64 0x0b7758d701462c042b0255e987286b07513047e24c0102dcaad2c454578a7b52540080648a8d4456a514d07d5225eb382aff8ae4ad55294b08df3ecbe8ba784f
    ++ bytes 64 0x60fdd829b4281db8f56213709312c5f611b00b2f82281bc319ca4a7c231ac67e200a22d9c0451e0c1c784034fa7a4e5b06ae2f46000ecc6d12f5be2857b0147f

-- coupling leak never sent
abbrev refusal_20 : List ℕ
refusal_20 =
    bytes 64 0x0b770429024043e106f0010c0c0c21818187d4b0a9a8ababc27d5dd265b59fbe542aeaf09f7cf9f1f3e7cf9f197f23e7cf8007bc22b48ab1245b5246a9cf22b4
    ++ bytes 64 0x60c0eb43840d3c6a94c7958db61306a2cc624c181bed6fc13792554ec7b9841d54e7bc70018303a6f9f01a7a141dd8273586cb61419830380a530196ace53c6d
    ++ bytes 32 0x711ae93437659ca306070d38c065e55ac44d96cb478985aaae188ba9a9005c9d

-- block 0 has rematstr 0
abbrev refusal_21 : List ℕ
refusal_21 =
    bytes 64 0x0b771da100304182148678eecf1f6c5540eed243f43dbac26cbe74c8a5ed43ee100086099893de00000436000f000020000f2b35eb00038568e661a4c3151c5a
    ++ bytes 64 0x1618afa80ab45805881bf9d1917d39872af7b4e60b7d5e255cb4c81adab49cdf5ae491874f0f62b9c61f0b35fb67fcbb4c186dac6b9377df5e3a9ea871c4c4b0

-- block 0 has baie 0
abbrev refusal_22 : List ℕ
refusal_22 =
    bytes 64 0x0b7758d701462c042b0255e987286b05512001100c0102dcaad2c454578a7b52540080648a8d4456a514d07d5225eb382aff8ae4ad55294b08df3ecbe8ba784f
    ++ bytes 64 0x60fdd829b4281db8f56213709312c5f611b00b2f82281bc319ca4a7c231ac67e200a22d9c0451e0c1c784034fa7a4e5b06ae2f46000ecc6d12f5be2857b0147f

-- block 0 has snroffste 0
abbrev refusal_23 : List ℕ
refusal_23 =
    bytes 64 0x0b773f3a0128270c6b0de2d314a343a205d2819c803ddb9e0140312243e000016800b4003ecb11e0401a582a9b80319e29aec4b07c8620060045b60fcfb6a1a8
    ++ bytes 64 0x016779ae23db0f771b3cd725400e3e4db2360f3100001ee000010330eedf89d78a9e45140ecd70591396925f1d0c70f02e66600a00cc237b073d0af5ca815a5b

accepted :
    (listing 1820 stereo ≡ 211 ∷ 1254 ∷ 1687316358851013630 ∷ 0 ∷ 160 ∷ 8 ∷ 2 ∷ 0 ∷ 0 ∷ 6 ∷ 67 ∷ 513 ∷ 688 ∷ 817 ∷ 946 ∷ 1100 ∷ 404 ∷ 579 ∷ 708 ∷ 837 ∷ 991 ∷ 1145 ∷ 1 ∷ 57 ∷ 52 ∷ 0 ∷ 0 ∷ 0 ∷ 0 ∷ 0 ∷ 57 ∷ 52 ∷ 0 ∷ 0 ∷ 0 ∷ 0 ∷ 0 ∷ 57 ∷ 52 ∷ 0 ∷ 0 ∷ 0 ∷ 0 ∷ 0 ∷ 57 ∷ 52 ∷ 0 ∷ 0 ∷ 0 ∷ 0 ∷ 0 ∷ 57 ∷ 52 ∷ 0 ∷ 0 ∷ 0 ∷ 0 ∷ 0 ∷ 57 ∷ 52 ∷ 0 ∷ 0 ∷ 0 ∷ 0 ∷ 0 ∷ [])
    × (listing 1820 mono ≡ 133 ∷ 2174 ∷ 1070593261574896366 ∷ 0 ∷ 278 ∷ 8 ∷ 1 ∷ 0 ∷ 1 ∷ 0 ∷ 65 ∷ 704 ∷ 998 ∷ 1292 ∷ 1586 ∷ 1880 ∷ 420 ∷ 714 ∷ 1008 ∷ 1302 ∷ 1596 ∷ 1890 ∷ 1 ∷ 284 ∷ 0 ∷ 0 ∷ 0 ∷ 0 ∷ 0 ∷ 0 ∷ 284 ∷ 0 ∷ 0 ∷ 0 ∷ 0 ∷ 0 ∷ 0 ∷ 284 ∷ 0 ∷ 0 ∷ 0 ∷ 0 ∷ 0 ∷ 0 ∷ 284 ∷ 0 ∷ 0 ∷ 0 ∷ 0 ∷ 0 ∷ 0 ∷ 284 ∷ 0 ∷ 0 ∷ 0 ∷ 0 ∷ 0 ∷ 0 ∷ 284 ∷ 0 ∷ 0 ∷ 0 ∷ 0 ∷ 0 ∷ 0 ∷ [])
    × (listing 1820 two_programmes ≡ 327 ∷ 1530 ∷ 1679016584205727469 ∷ 0 ∷ 192 ∷ 6 ∷ 0 ∷ 1 ∷ 2 ∷ 6 ∷ 73 ∷ 754 ∷ 859 ∷ 1175 ∷ 1257 ∷ 1328 ∷ 711 ∷ 830 ∷ 1151 ∷ 1233 ∷ 1304 ∷ 1506 ∷ 0 ∷ 0 ∷ 24 ∷ 0 ∷ 0 ∷ 0 ∷ 0 ∷ 19 ∷ 0 ∷ 10 ∷ 0 ∷ 0 ∷ 0 ∷ 0 ∷ 19 ∷ 0 ∷ 0 ∷ 0 ∷ 0 ∷ 0 ∷ 0 ∷ 24 ∷ 0 ∷ 0 ∷ 0 ∷ 0 ∷ 0 ∷ 0 ∷ 24 ∷ 0 ∷ 0 ∷ 0 ∷ 0 ∷ 0 ∷ 0 ∷ 24 ∷ 0 ∷ 0 ∷ 0 ∷ 0 ∷ 0 ∷ 0 ∷ 24 ∷ [])
    × (listing 1820 eight_segments ≡ 236 ∷ 605 ∷ 623095571539255108 ∷ 0 ∷ 128 ∷ 6 ∷ 0 ∷ 1 ∷ 0 ∷ 6 ∷ 73 ∷ 327 ∷ 364 ∷ 395 ∷ 426 ∷ 568 ∷ 327 ∷ 364 ∷ 395 ∷ 426 ∷ 568 ∷ 605 ∷ 0 ∷ 0 ∷ 0 ∷ 0 ∷ 0 ∷ 0 ∷ 0 ∷ 0 ∷ 0 ∷ 0 ∷ 0 ∷ 0 ∷ 0 ∷ 0 ∷ 0 ∷ 0 ∷ 0 ∷ 0 ∷ 0 ∷ 0 ∷ 0 ∷ 0 ∷ 0 ∷ 0 ∷ 0 ∷ 0 ∷ 0 ∷ 0 ∷ 0 ∷ 0 ∷ 0 ∷ 0 ∷ 0 ∷ 0 ∷ 0 ∷ 0 ∷ 0 ∷ 0 ∷ 0 ∷ 0 ∷ 0 ∷ 0 ∷ 0 ∷ [])
    × (listing 1820 surround ≡ 364 ∷ 1395 ∷ 1368316862619759103 ∷ 0 ∷ 384 ∷ 8 ∷ 7 ∷ 1 ∷ 0 ∷ 0 ∷ 150 ∷ 554 ∷ 668 ∷ 893 ∷ 992 ∷ 1251 ∷ 554 ∷ 668 ∷ 893 ∷ 992 ∷ 1251 ∷ 1395 ∷ 1 ∷ 0 ∷ 0 ∷ 0 ∷ 0 ∷ 0 ∷ 0 ∷ 0 ∷ 0 ∷ 0 ∷ 0 ∷ 0 ∷ 0 ∷ 0 ∷ 0 ∷ 0 ∷ 0 ∷ 0 ∷ 0 ∷ 0 ∷ 0 ∷ 0 ∷ 0 ∷ 0 ∷ 0 ∷ 0 ∷ 0 ∷ 0 ∷ 0 ∷ 0 ∷ 0 ∷ 0 ∷ 0 ∷ 0 ∷ 0 ∷ 0 ∷ 0 ∷ 0 ∷ 0 ∷ 0 ∷ 0 ∷ 0 ∷ 0 ∷ [])
    × (listing 1820 coupled_surround ≡ 353 ∷ 1272 ∷ 1773707119003245062 ∷ 0 ∷ 160 ∷ 8 ∷ 4 ∷ 1 ∷ 0 ∷ 6 ∷ 132 ∷ 665 ∷ 870 ∷ 943 ∷ 1112 ∷ 1205 ∷ 665 ∷ 870 ∷ 943 ∷ 1112 ∷ 1205 ∷ 1272 ∷ 0 ∷ 0 ∷ 0 ∷ 0 ∷ 0 ∷ 0 ∷ 0 ∷ 0 ∷ 0 ∷ 0 ∷ 0 ∷ 0 ∷ 0 ∷ 0 ∷ 0 ∷ 0 ∷ 0 ∷ 0 ∷ 0 ∷ 0 ∷ 0 ∷ 0 ∷ 0 ∷ 0 ∷ 0 ∷ 0 ∷ 0 ∷ 0 ∷ 0 ∷ 0 ∷ 0 ∷ 0 ∷ 0 ∷ 0 ∷ 0 ∷ 0 ∷ 0 ∷ 0 ∷ 0 ∷ 0 ∷ 0 ∷ 0 ∷ 0 ∷ [])
    × (listing 1820 three_front ≡ 230 ∷ 1089 ∷ 1193157268220887521 ∷ 0 ∷ 192 ∷ 8 ∷ 3 ∷ 0 ∷ 2 ∷ 6 ∷ 81 ∷ 511 ∷ 625 ∷ 739 ∷ 855 ∷ 979 ∷ 438 ∷ 552 ∷ 666 ∷ 782 ∷ 906 ∷ 1016 ∷ 0 ∷ 45 ∷ 0 ∷ 28 ∷ 0 ∷ 0 ∷ 0 ∷ 0 ∷ 45 ∷ 0 ∷ 28 ∷ 0 ∷ 0 ∷ 0 ∷ 0 ∷ 45 ∷ 0 ∷ 28 ∷ 0 ∷ 0 ∷ 0 ∷ 0 ∷ 45 ∷ 0 ∷ 28 ∷ 0 ∷ 0 ∷ 0 ∷ 0 ∷ 45 ∷ 0 ∷ 28 ∷ 0 ∷ 0 ∷ 0 ∷ 0 ∷ 45 ∷ 0 ∷ 28 ∷ 0 ∷ 0 ∷ 0 ∷ 0 ∷ [])
    × (listing 1820 one_surround ≡ 201 ∷ 788 ∷ 443495983195877646 ∷ 0 ∷ 128 ∷ 6 ∷ 5 ∷ 0 ∷ 0 ∷ 0 ∷ 84 ∷ 495 ∷ 560 ∷ 617 ∷ 674 ∷ 731 ∷ 460 ∷ 525 ∷ 582 ∷ 639 ∷ 696 ∷ 753 ∷ 1 ∷ 0 ∷ 0 ∷ 0 ∷ 35 ∷ 0 ∷ 0 ∷ 0 ∷ 0 ∷ 0 ∷ 0 ∷ 35 ∷ 0 ∷ 0 ∷ 0 ∷ 0 ∷ 0 ∷ 0 ∷ 35 ∷ 0 ∷ 0 ∷ 0 ∷ 0 ∷ 0 ∷ 0 ∷ 35 ∷ 0 ∷ 0 ∷ 0 ∷ 0 ∷ 0 ∷ 0 ∷ 35 ∷ 0 ∷ 0 ∷ 0 ∷ 0 ∷ 0 ∷ 0 ∷ 35 ∷ 0 ∷ 0 ∷ 0 ∷ [])
    × (listing 1820 two_surround ≡ 296 ∷ 979 ∷ 1746701615328716398 ∷ 0 ∷ 128 ∷ 8 ∷ 6 ∷ 1 ∷ 0 ∷ 6 ∷ 75 ∷ 539 ∷ 617 ∷ 695 ∷ 785 ∷ 875 ∷ 509 ∷ 587 ∷ 665 ∷ 755 ∷ 845 ∷ 949 ∷ 0 ∷ 0 ∷ 0 ∷ 0 ∷ 15 ∷ 0 ∷ 0 ∷ 15 ∷ 0 ∷ 0 ∷ 0 ∷ 15 ∷ 0 ∷ 0 ∷ 15 ∷ 0 ∷ 0 ∷ 0 ∷ 15 ∷ 0 ∷ 0 ∷ 15 ∷ 0 ∷ 0 ∷ 0 ∷ 15 ∷ 0 ∷ 0 ∷ 15 ∷ 0 ∷ 0 ∷ 0 ∷ 15 ∷ 0 ∷ 0 ∷ 15 ∷ 0 ∷ 0 ∷ 0 ∷ 15 ∷ 0 ∷ 0 ∷ 15 ∷ [])
    × (listing 1820 some_coupled ≡ 252 ∷ 820 ∷ 586386374867509809 ∷ 0 ∷ 128 ∷ 8 ∷ 2 ∷ 1 ∷ 0 ∷ 1 ∷ 96 ∷ 489 ∷ 632 ∷ 744 ∷ 760 ∷ 792 ∷ 489 ∷ 632 ∷ 744 ∷ 760 ∷ 792 ∷ 820 ∷ 1 ∷ 0 ∷ 0 ∷ 0 ∷ 0 ∷ 0 ∷ 0 ∷ 0 ∷ 0 ∷ 0 ∷ 0 ∷ 0 ∷ 0 ∷ 0 ∷ 0 ∷ 0 ∷ 0 ∷ 0 ∷ 0 ∷ 0 ∷ 0 ∷ 0 ∷ 0 ∷ 0 ∷ 0 ∷ 0 ∷ 0 ∷ 0 ∷ 0 ∷ 0 ∷ 0 ∷ 0 ∷ 0 ∷ 0 ∷ 0 ∷ 0 ∷ 0 ∷ 0 ∷ 0 ∷ 0 ∷ 0 ∷ 0 ∷ 0 ∷ [])
    × (listing 1820 phases_flagged ≡ 191 ∷ 431 ∷ 2074124762563544736 ∷ 0 ∷ 128 ∷ 4 ∷ 2 ∷ 0 ∷ 0 ∷ 6 ∷ 67 ∷ 279 ∷ 310 ∷ 341 ∷ 369 ∷ 400 ∷ 279 ∷ 310 ∷ 341 ∷ 369 ∷ 400 ∷ 431 ∷ 0 ∷ 0 ∷ 0 ∷ 0 ∷ 0 ∷ 0 ∷ 0 ∷ 0 ∷ 0 ∷ 0 ∷ 0 ∷ 0 ∷ 0 ∷ 0 ∷ 0 ∷ 0 ∷ 0 ∷ 0 ∷ 0 ∷ 0 ∷ 0 ∷ 0 ∷ 0 ∷ 0 ∷ 0 ∷ 0 ∷ 0 ∷ 0 ∷ 0 ∷ 0 ∷ 0 ∷ 0 ∷ 0 ∷ 0 ∷ 0 ∷ 0 ∷ 0 ∷ 0 ∷ 0 ∷ 0 ∷ 0 ∷ 0 ∷ 0 ∷ [])
    × (listing 1820 pause ≡ 377 ∷ 2028 ∷ 1515393768675836011 ∷ 0 ∷ 256 ∷ 6 ∷ 0 ∷ 1 ∷ 0 ∷ 3 ∷ 231 ∷ 590 ∷ 970 ∷ 1439 ∷ 1712 ∷ 1788 ∷ 485 ∷ 898 ∷ 1417 ∷ 1690 ∷ 1773 ∷ 2028 ∷ 0 ∷ 100 ∷ 0 ∷ 0 ∷ 0 ∷ 0 ∷ 0 ∷ 5 ∷ 72 ∷ 0 ∷ 0 ∷ 0 ∷ 0 ∷ 0 ∷ 0 ∷ 0 ∷ 22 ∷ 0 ∷ 0 ∷ 0 ∷ 0 ∷ 0 ∷ 0 ∷ 22 ∷ 0 ∷ 0 ∷ 0 ∷ 0 ∷ 0 ∷ 5 ∷ 10 ∷ 0 ∷ 0 ∷ 0 ∷ 0 ∷ 0 ∷ 0 ∷ 0 ∷ 0 ∷ 0 ∷ 0 ∷ 0 ∷ 0 ∷ [])
    × (listing 1820 joining ≡ 314 ∷ 1018 ∷ 1477599029914269909 ∷ 0 ∷ 160 ∷ 6 ∷ 2 ∷ 1 ∷ 0 ∷ 2 ∷ 96 ∷ 288 ∷ 430 ∷ 483 ∷ 540 ∷ 774 ∷ 288 ∷ 430 ∷ 483 ∷ 540 ∷ 774 ∷ 1018 ∷ 0 ∷ 0 ∷ 0 ∷ 0 ∷ 0 ∷ 0 ∷ 0 ∷ 0 ∷ 0 ∷ 0 ∷ 0 ∷ 0 ∷ 0 ∷ 0 ∷ 0 ∷ 0 ∷ 0 ∷ 0 ∷ 0 ∷ 0 ∷ 0 ∷ 0 ∷ 0 ∷ 0 ∷ 0 ∷ 0 ∷ 0 ∷ 0 ∷ 0 ∷ 0 ∷ 0 ∷ 0 ∷ 0 ∷ 0 ∷ 0 ∷ 0 ∷ 0 ∷ 0 ∷ 0 ∷ 0 ∷ 0 ∷ 0 ∷ 0 ∷ [])
    × (listing 1820 quiet_coupling ≡ 327 ∷ 1099 ∷ 1001095495553235712 ∷ 0 ∷ 140 ∷ 6 ∷ 2 ∷ 0 ∷ 1 ∷ 1 ∷ 67 ∷ 240 ∷ 334 ∷ 524 ∷ 620 ∷ 783 ∷ 240 ∷ 334 ∷ 524 ∷ 620 ∷ 783 ∷ 1099 ∷ 0 ∷ 0 ∷ 0 ∷ 0 ∷ 0 ∷ 0 ∷ 0 ∷ 0 ∷ 0 ∷ 0 ∷ 0 ∷ 0 ∷ 0 ∷ 0 ∷ 0 ∷ 0 ∷ 0 ∷ 0 ∷ 0 ∷ 0 ∷ 0 ∷ 0 ∷ 0 ∷ 0 ∷ 0 ∷ 0 ∷ 0 ∷ 0 ∷ 0 ∷ 0 ∷ 0 ∷ 0 ∷ 0 ∷ 0 ∷ 0 ∷ 0 ∷ 0 ∷ 0 ∷ 0 ∷ 0 ∷ 0 ∷ 0 ∷ 0 ∷ [])
    × (listing 1820 zero_width ≡ 96 ∷ 211 ∷ 2296638830452988407 ∷ 0 ∷ 128 ∷ 8 ∷ 1 ∷ 0 ∷ 0 ∷ 0 ∷ 65 ∷ 161 ∷ 171 ∷ 181 ∷ 191 ∷ 201 ∷ 161 ∷ 171 ∷ 181 ∷ 191 ∷ 201 ∷ 211 ∷ 1 ∷ 0 ∷ 0 ∷ 0 ∷ 0 ∷ 0 ∷ 0 ∷ 0 ∷ 0 ∷ 0 ∷ 0 ∷ 0 ∷ 0 ∷ 0 ∷ 0 ∷ 0 ∷ 0 ∷ 0 ∷ 0 ∷ 0 ∷ 0 ∷ 0 ∷ 0 ∷ 0 ∷ 0 ∷ 0 ∷ 0 ∷ 0 ∷ 0 ∷ 0 ∷ 0 ∷ 0 ∷ 0 ∷ 0 ∷ 0 ∷ 0 ∷ 0 ∷ 0 ∷ 0 ∷ 0 ∷ 0 ∷ 0 ∷ 0 ∷ [])
    × (listing 1820 to_the_end ≡ 177 ∷ 1024 ∷ 1645789900954477477 ∷ 0 ∷ 128 ∷ 2 ∷ 1 ∷ 0 ∷ 0 ∷ 0 ∷ 100 ∷ 355 ∷ 590 ∷ 611 ∷ 631 ∷ 650 ∷ 329 ∷ 590 ∷ 611 ∷ 631 ∷ 650 ∷ 693 ∷ 1 ∷ 26 ∷ 0 ∷ 0 ∷ 0 ∷ 0 ∷ 0 ∷ 0 ∷ 0 ∷ 0 ∷ 0 ∷ 0 ∷ 0 ∷ 0 ∷ 0 ∷ 0 ∷ 0 ∷ 0 ∷ 0 ∷ 0 ∷ 0 ∷ 0 ∷ 0 ∷ 0 ∷ 0 ∷ 0 ∷ 0 ∷ 0 ∷ 0 ∷ 0 ∷ 0 ∷ 0 ∷ 0 ∷ 0 ∷ 0 ∷ 0 ∷ 331 ∷ 0 ∷ 0 ∷ 0 ∷ 0 ∷ 0 ∷ 0 ∷ [])
    × (listing 1820 skip_nothing ≡ 98 ∷ 400 ∷ 70243059790895682 ∷ 0 ∷ 128 ∷ 5 ∷ 1 ∷ 0 ∷ 0 ∷ 0 ∷ 65 ∷ 200 ∷ 240 ∷ 280 ∷ 320 ∷ 360 ∷ 170 ∷ 210 ∷ 250 ∷ 290 ∷ 330 ∷ 370 ∷ 1 ∷ 30 ∷ 0 ∷ 0 ∷ 0 ∷ 0 ∷ 0 ∷ 0 ∷ 30 ∷ 0 ∷ 0 ∷ 0 ∷ 0 ∷ 0 ∷ 0 ∷ 30 ∷ 0 ∷ 0 ∷ 0 ∷ 0 ∷ 0 ∷ 0 ∷ 30 ∷ 0 ∷ 0 ∷ 0 ∷ 0 ∷ 0 ∷ 0 ∷ 30 ∷ 0 ∷ 0 ∷ 0 ∷ 0 ∷ 0 ∷ 0 ∷ 30 ∷ 0 ∷ 0 ∷ 0 ∷ 0 ∷ 0 ∷ 0 ∷ [])
    × (listing 1820 addbsi_longest ≡ 99 ∷ 730 ∷ 1180059700245890026 ∷ 0 ∷ 128 ∷ 6 ∷ 1 ∷ 0 ∷ 0 ∷ 0 ∷ 583 ∷ 679 ∷ 689 ∷ 699 ∷ 710 ∷ 720 ∷ 679 ∷ 689 ∷ 699 ∷ 710 ∷ 720 ∷ 730 ∷ 1 ∷ 0 ∷ 0 ∷ 0 ∷ 0 ∷ 0 ∷ 0 ∷ 0 ∷ 0 ∷ 0 ∷ 0 ∷ 0 ∷ 0 ∷ 0 ∷ 0 ∷ 0 ∷ 0 ∷ 0 ∷ 0 ∷ 0 ∷ 0 ∷ 0 ∷ 0 ∷ 0 ∷ 0 ∷ 0 ∷ 0 ∷ 0 ∷ 0 ∷ 0 ∷ 0 ∷ 0 ∷ 0 ∷ 0 ∷ 0 ∷ 0 ∷ 0 ∷ 0 ∷ 0 ∷ 0 ∷ 0 ∷ 0 ∷ 0 ∷ [])
    × (listing 1820 widest ≡ 207 ∷ 1088 ∷ 1253942583223131049 ∷ 0 ∷ 138 ∷ 5 ∷ 1 ∷ 0 ∷ 1 ∷ 0 ∷ 100 ∷ 269 ∷ 458 ∷ 545 ∷ 684 ∷ 1046 ∷ 269 ∷ 458 ∷ 545 ∷ 580 ∷ 1046 ∷ 1088 ∷ 1 ∷ 0 ∷ 0 ∷ 0 ∷ 0 ∷ 0 ∷ 0 ∷ 0 ∷ 0 ∷ 0 ∷ 0 ∷ 0 ∷ 0 ∷ 0 ∷ 0 ∷ 0 ∷ 0 ∷ 0 ∷ 0 ∷ 0 ∷ 0 ∷ 0 ∷ 104 ∷ 0 ∷ 0 ∷ 0 ∷ 0 ∷ 0 ∷ 0 ∷ 0 ∷ 0 ∷ 0 ∷ 0 ∷ 0 ∷ 0 ∷ 0 ∷ 0 ∷ 0 ∷ 0 ∷ 0 ∷ 0 ∷ 0 ∷ 0 ∷ [])
    × (listing 1820 other_names_1 ≡ 563 ∷ 2776 ∷ 1967708164742970496 ∷ 0 ∷ 348 ∷ 6 ∷ 0 ∷ 0 ∷ 1 ∷ 6 ∷ 147 ∷ 1544 ∷ 1604 ∷ 1712 ∷ 1949 ∷ 2596 ∷ 1544 ∷ 1604 ∷ 1712 ∷ 1949 ∷ 2596 ∷ 2776 ∷ 0 ∷ 0 ∷ 0 ∷ 0 ∷ 0 ∷ 0 ∷ 0 ∷ 0 ∷ 0 ∷ 0 ∷ 0 ∷ 0 ∷ 0 ∷ 0 ∷ 0 ∷ 0 ∷ 0 ∷ 0 ∷ 0 ∷ 0 ∷ 0 ∷ 0 ∷ 0 ∷ 0 ∷ 0 ∷ 0 ∷ 0 ∷ 0 ∷ 0 ∷ 0 ∷ 0 ∷ 0 ∷ 0 ∷ 0 ∷ 0 ∷ 0 ∷ 0 ∷ 0 ∷ 0 ∷ 0 ∷ 0 ∷ 0 ∷ 0 ∷ [])
    × (listing 1820 deltas_stay ≡ 150 ∷ 1098 ∷ 612091140150737585 ∷ 0 ∷ 138 ∷ 8 ∷ 1 ∷ 0 ∷ 1 ∷ 0 ∷ 138 ∷ 817 ∷ 850 ∷ 892 ∷ 926 ∷ 1044 ∷ 802 ∷ 835 ∷ 877 ∷ 911 ∷ 1009 ∷ 1063 ∷ 1 ∷ 15 ∷ 0 ∷ 0 ∷ 0 ∷ 0 ∷ 0 ∷ 0 ∷ 15 ∷ 0 ∷ 0 ∷ 0 ∷ 0 ∷ 0 ∷ 0 ∷ 15 ∷ 0 ∷ 0 ∷ 0 ∷ 0 ∷ 0 ∷ 0 ∷ 15 ∷ 0 ∷ 0 ∷ 0 ∷ 0 ∷ 0 ∷ 0 ∷ 35 ∷ 0 ∷ 0 ∷ 0 ∷ 0 ∷ 0 ∷ 0 ∷ 35 ∷ 0 ∷ 0 ∷ 0 ∷ 0 ∷ 0 ∷ 0 ∷ [])
    × (listing 1820 bands_eighteen ≡ 266 ∷ 732 ∷ 1403960179331273181 ∷ 0 ∷ 128 ∷ 8 ∷ 2 ∷ 0 ∷ 0 ∷ 6 ∷ 67 ∷ 632 ∷ 652 ∷ 672 ∷ 692 ∷ 712 ∷ 632 ∷ 652 ∷ 672 ∷ 692 ∷ 712 ∷ 732 ∷ 1 ∷ 0 ∷ 0 ∷ 0 ∷ 0 ∷ 0 ∷ 0 ∷ 0 ∷ 0 ∷ 0 ∷ 0 ∷ 0 ∷ 0 ∷ 0 ∷ 0 ∷ 0 ∷ 0 ∷ 0 ∷ 0 ∷ 0 ∷ 0 ∷ 0 ∷ 0 ∷ 0 ∷ 0 ∷ 0 ∷ 0 ∷ 0 ∷ 0 ∷ 0 ∷ 0 ∷ 0 ∷ 0 ∷ 0 ∷ 0 ∷ 0 ∷ 0 ∷ 0 ∷ 0 ∷ 0 ∷ 0 ∷ 0 ∷ 0 ∷ [])
    × (listing 1820 bands_one ≡ 198 ∷ 460 ∷ 1522623281577177158 ∷ 0 ∷ 128 ∷ 8 ∷ 2 ∷ 0 ∷ 0 ∷ 6 ∷ 67 ∷ 360 ∷ 380 ∷ 400 ∷ 420 ∷ 440 ∷ 360 ∷ 380 ∷ 400 ∷ 420 ∷ 440 ∷ 460 ∷ 1 ∷ 0 ∷ 0 ∷ 0 ∷ 0 ∷ 0 ∷ 0 ∷ 0 ∷ 0 ∷ 0 ∷ 0 ∷ 0 ∷ 0 ∷ 0 ∷ 0 ∷ 0 ∷ 0 ∷ 0 ∷ 0 ∷ 0 ∷ 0 ∷ 0 ∷ 0 ∷ 0 ∷ 0 ∷ 0 ∷ 0 ∷ 0 ∷ 0 ∷ 0 ∷ 0 ∷ 0 ∷ 0 ∷ 0 ∷ 0 ∷ 0 ∷ 0 ∷ 0 ∷ 0 ∷ 0 ∷ 0 ∷ 0 ∷ 0 ∷ [])
    × (listing 1820 groups_to_the_end ≡ 374 ∷ 1598 ∷ 577431730805009659 ∷ 0 ∷ 256 ∷ 8 ∷ 3 ∷ 1 ∷ 0 ∷ 6 ∷ 67 ∷ 1478 ∷ 1502 ∷ 1526 ∷ 1550 ∷ 1574 ∷ 1478 ∷ 1502 ∷ 1526 ∷ 1550 ∷ 1574 ∷ 1598 ∷ 0 ∷ 0 ∷ 0 ∷ 0 ∷ 0 ∷ 0 ∷ 0 ∷ 0 ∷ 0 ∷ 0 ∷ 0 ∷ 0 ∷ 0 ∷ 0 ∷ 0 ∷ 0 ∷ 0 ∷ 0 ∷ 0 ∷ 0 ∷ 0 ∷ 0 ∷ 0 ∷ 0 ∷ 0 ∷ 0 ∷ 0 ∷ 0 ∷ 0 ∷ 0 ∷ 0 ∷ 0 ∷ 0 ∷ 0 ∷ 0 ∷ 0 ∷ 0 ∷ 0 ∷ 0 ∷ 0 ∷ 0 ∷ 0 ∷ 0 ∷ [])
    × (listing 1820 segments_eight ≡ 412 ∷ 1168 ∷ 965782024263992707 ∷ 0 ∷ 192 ∷ 8 ∷ 7 ∷ 0 ∷ 0 ∷ 6 ∷ 69 ∷ 998 ∷ 1032 ∷ 1066 ∷ 1100 ∷ 1134 ∷ 998 ∷ 1032 ∷ 1066 ∷ 1100 ∷ 1134 ∷ 1168 ∷ 0 ∷ 0 ∷ 0 ∷ 0 ∷ 0 ∷ 0 ∷ 0 ∷ 0 ∷ 0 ∷ 0 ∷ 0 ∷ 0 ∷ 0 ∷ 0 ∷ 0 ∷ 0 ∷ 0 ∷ 0 ∷ 0 ∷ 0 ∷ 0 ∷ 0 ∷ 0 ∷ 0 ∷ 0 ∷ 0 ∷ 0 ∷ 0 ∷ 0 ∷ 0 ∷ 0 ∷ 0 ∷ 0 ∷ 0 ∷ 0 ∷ 0 ∷ 0 ∷ 0 ∷ 0 ∷ 0 ∷ 0 ∷ 0 ∷ 0 ∷ [])
    × (listing 1820 late_channel ≡ 256 ∷ 660 ∷ 2189947234466581002 ∷ 0 ∷ 128 ∷ 8 ∷ 6 ∷ 0 ∷ 0 ∷ 6 ∷ 67 ∷ 441 ∷ 469 ∷ 573 ∷ 602 ∷ 631 ∷ 441 ∷ 469 ∷ 573 ∷ 602 ∷ 631 ∷ 660 ∷ 0 ∷ 0 ∷ 0 ∷ 0 ∷ 0 ∷ 0 ∷ 0 ∷ 0 ∷ 0 ∷ 0 ∷ 0 ∷ 0 ∷ 0 ∷ 0 ∷ 0 ∷ 0 ∷ 0 ∷ 0 ∷ 0 ∷ 0 ∷ 0 ∷ 0 ∷ 0 ∷ 0 ∷ 0 ∷ 0 ∷ 0 ∷ 0 ∷ 0 ∷ 0 ∷ 0 ∷ 0 ∷ 0 ∷ 0 ∷ 0 ∷ 0 ∷ 0 ∷ 0 ∷ 0 ∷ 0 ∷ 0 ∷ 0 ∷ 0 ∷ [])
    × (listing 1820 comes_back ≡ 235 ∷ 634 ∷ 1843704781168628010 ∷ 0 ∷ 128 ∷ 8 ∷ 3 ∷ 0 ∷ 0 ∷ 6 ∷ 67 ∷ 375 ∷ 464 ∷ 562 ∷ 586 ∷ 610 ∷ 375 ∷ 464 ∷ 562 ∷ 586 ∷ 610 ∷ 634 ∷ 1 ∷ 0 ∷ 0 ∷ 0 ∷ 0 ∷ 0 ∷ 0 ∷ 0 ∷ 0 ∷ 0 ∷ 0 ∷ 0 ∷ 0 ∷ 0 ∷ 0 ∷ 0 ∷ 0 ∷ 0 ∷ 0 ∷ 0 ∷ 0 ∷ 0 ∷ 0 ∷ 0 ∷ 0 ∷ 0 ∷ 0 ∷ 0 ∷ 0 ∷ 0 ∷ 0 ∷ 0 ∷ 0 ∷ 0 ∷ 0 ∷ 0 ∷ 0 ∷ 0 ∷ 0 ∷ 0 ∷ 0 ∷ 0 ∷ 0 ∷ [])
    × (listing 1820 off_and_on ≡ 193 ∷ 484 ∷ 1316331983646767939 ∷ 0 ∷ 128 ∷ 8 ∷ 2 ∷ 0 ∷ 0 ∷ 5 ∷ 67 ∷ 268 ∷ 392 ∷ 424 ∷ 444 ∷ 464 ∷ 268 ∷ 392 ∷ 424 ∷ 444 ∷ 464 ∷ 484 ∷ 1 ∷ 0 ∷ 0 ∷ 0 ∷ 0 ∷ 0 ∷ 0 ∷ 0 ∷ 0 ∷ 0 ∷ 0 ∷ 0 ∷ 0 ∷ 0 ∷ 0 ∷ 0 ∷ 0 ∷ 0 ∷ 0 ∷ 0 ∷ 0 ∷ 0 ∷ 0 ∷ 0 ∷ 0 ∷ 0 ∷ 0 ∷ 0 ∷ 0 ∷ 0 ∷ 0 ∷ 0 ∷ 0 ∷ 0 ∷ 0 ∷ 0 ∷ 0 ∷ 0 ∷ 0 ∷ 0 ∷ 0 ∷ 0 ∷ 0 ∷ [])
    × (listing 1820 a_block_late ≡ 176 ∷ 396 ∷ 804892608931913972 ∷ 0 ∷ 128 ∷ 8 ∷ 2 ∷ 0 ∷ 0 ∷ 6 ∷ 67 ∷ 276 ∷ 316 ∷ 336 ∷ 356 ∷ 376 ∷ 276 ∷ 316 ∷ 336 ∷ 356 ∷ 376 ∷ 396 ∷ 0 ∷ 0 ∷ 0 ∷ 0 ∷ 0 ∷ 0 ∷ 0 ∷ 0 ∷ 0 ∷ 0 ∷ 0 ∷ 0 ∷ 0 ∷ 0 ∷ 0 ∷ 0 ∷ 0 ∷ 0 ∷ 0 ∷ 0 ∷ 0 ∷ 0 ∷ 0 ∷ 0 ∷ 0 ∷ 0 ∷ 0 ∷ 0 ∷ 0 ∷ 0 ∷ 0 ∷ 0 ∷ 0 ∷ 0 ∷ 0 ∷ 0 ∷ 0 ∷ 0 ∷ 0 ∷ 0 ∷ 0 ∷ 0 ∷ 0 ∷ [])
    × (listing 1820 programmes_coupled ≡ 174 ∷ 397 ∷ 1943488180946144133 ∷ 0 ∷ 128 ∷ 8 ∷ 0 ∷ 0 ∷ 0 ∷ 6 ∷ 73 ∷ 297 ∷ 317 ∷ 337 ∷ 357 ∷ 377 ∷ 297 ∷ 317 ∷ 337 ∷ 357 ∷ 377 ∷ 397 ∷ 1 ∷ 0 ∷ 0 ∷ 0 ∷ 0 ∷ 0 ∷ 0 ∷ 0 ∷ 0 ∷ 0 ∷ 0 ∷ 0 ∷ 0 ∷ 0 ∷ 0 ∷ 0 ∷ 0 ∷ 0 ∷ 0 ∷ 0 ∷ 0 ∷ 0 ∷ 0 ∷ 0 ∷ 0 ∷ 0 ∷ 0 ∷ 0 ∷ 0 ∷ 0 ∷ 0 ∷ 0 ∷ 0 ∷ 0 ∷ 0 ∷ 0 ∷ 0 ∷ 0 ∷ 0 ∷ 0 ∷ 0 ∷ 0 ∷ 0 ∷ [])
unfolding bit_at value bits_before same_bits range_eq ◌>>=◌ turns shown except exec and_then flatten landing finish room_check check sum unless run continue nfchans words48 words44 words32 frame_bytes slow_decay fast_decay slow_gain knee floor fast_gain band_end log_add hearing bap hebap bap_bits vq_bits gaq_bits from placed snr_offset psd_of mapped_psd logadd band_sum band_of start_of end_of band_psd integrated_psd lowcomp low_after rises start_leak fall_to fall_by fall_leak leak_step excitations excitation over_knee mask_of masking_curve delta_of passed delta_in delta_sum delta_applied kept threshold thresholds address_of bap_of Allocation-pointers allocation_by delta_code channel_code segment new_deltas slot_deltas coded_deltas deltas new_curve curve fine_offset channel_offset new_offsets offsets new_leak coupling_leak step unpack group exponent_set slot_exponents channel_exponents exponents silent Mantissas-pointers all_pointers widths bits_in by_slot mantissas channel_parts parts syncinfo programme_info alternate_info time_codes additional_info bsi header how_many coupled_channels joined coupling_bands new_coupling coupling_strategy coordinate channel_coordinates phase_flags coupling_coordinates rematrixing channel_strategies exponent_strategies bandwidth bandwidths channel_end channel_ends channel_flags dynamic_range channel_settings coupling_section exponent_section skip_field alloc_state audio_block audio syncframe answered bytes plus_one checksum verdict short every some coordinates_sent
accepted = (refl, refl, refl, refl, refl, refl, refl, refl, refl, refl, refl, refl, refl, refl, refl, refl, refl, refl, refl, refl, refl, refl, refl, refl, refl, refl, refl, refl, refl, refl)

refused :
    (listing 1820 fscod_3 ≡ 4 ∷ 40 ∷ 2008319515514683955 ∷ 3 ∷ 0 ∷ 0 ∷ [])
    × (listing 1820 refusal_1 ≡ 0 ∷ 0 ∷ 0 ∷ 1 ∷ 0 ∷ 0 ∷ [])
    × (listing 1820 refusal_2 ≡ 1 ∷ 16 ∷ 1247079423686475267 ∷ 2 ∷ 0 ∷ 0 ∷ [])
    × (listing 1820 refusal_4 ≡ 4 ∷ 40 ∷ 858162269086096427 ∷ 4 ∷ 0 ∷ 0 ∷ [])
    × (listing 1820 refusal_5 ≡ 5 ∷ 45 ∷ 1071876382301112663 ∷ 5 ∷ 0 ∷ 0 ∷ [])
    × (listing 1820 refusal_6_skip ≡ 45 ∷ 163 ∷ 2221902904343503897 ∷ 6 ∷ 110 ∷ 1 ∷ [])
    × (listing 1820 refusal_6_field ≡ 93 ∷ 1022 ∷ 778733100979519953 ∷ 6 ∷ 76 ∷ 1 ∷ [])
    × (listing 1820 refusal_6_block_5 ≡ 90 ∷ 1024 ∷ 1885279947214924982 ∷ 6 ∷ 49 ∷ 6 ∷ [])
    × (listing 1820 refusal_6_skip_5 ≡ 95 ∷ 213 ∷ 733100018367082917 ∷ 6 ∷ 110 ∷ 6 ∷ [])
    × (listing 1820 refusal_6_walk_5 ≡ 97 ∷ 1017 ∷ 1141245542488094136 ∷ 6 ∷ 111 ∷ 6 ∷ [])
    × (listing 1820 refusal_6_walk ≡ 45 ∷ 1019 ∷ 1752497196116173982 ∷ 6 ∷ 111 ∷ 1 ∷ [])
    × (listing 1820 refusal_6_coupled ≡ 91 ∷ 1023 ∷ 2190410021756002127 ∷ 6 ∷ 111 ∷ 1 ∷ [])
    × (listing 1820 refusal_6_late ≡ 101 ∷ 1024 ∷ 893169045205364474 ∷ 6 ∷ 109 ∷ 6 ∷ [])
    × (listing 1820 refusal_6_late_walk ≡ 97 ∷ 1017 ∷ 1141245542488094136 ∷ 6 ∷ 111 ∷ 6 ∷ [])
    × (listing 210 stereo ≡ 210 ∷ 1254 ∷ 164836208445000784 ∷ 7 ∷ 0 ∷ 0 ∷ [])
    × (listing 3 fscod_3 ≡ 3 ∷ 34 ∷ 1721548396395347304 ∷ 7 ∷ 0 ∷ 0 ∷ [])
    × (listing 1820 refusal_8 ≡ 21 ∷ 69 ∷ 1740011256445656806 ∷ 8 ∷ 0 ∷ 0 ∷ [])
    × (listing 1820 refusal_9 ≡ 25 ∷ 79 ∷ 1135262220787232406 ∷ 9 ∷ 0 ∷ 0 ∷ [])
    × (listing 1820 refusal_10 ≡ 25 ∷ 79 ∷ 736931796212000109 ∷ 10 ∷ 0 ∷ 0 ∷ [])
    × (listing 1820 refusal_11 ≡ 24 ∷ 78 ∷ 136118160906711183 ∷ 11 ∷ 0 ∷ 0 ∷ [])
    × (listing 1820 refusal_12 ≡ 23 ∷ 72 ∷ 1626114153450911791 ∷ 12 ∷ 0 ∷ 0 ∷ [])
    × (listing 1820 refusal_13 ≡ 40 ∷ 101 ∷ 1992228103901636574 ∷ 13 ∷ 0 ∷ 0 ∷ [])
    × (listing 1820 refusal_14 ≡ 46 ∷ 120 ∷ 1436964737250862293 ∷ 14 ∷ 0 ∷ 0 ∷ [])
    × (listing 1820 refusal_15 ≡ 35 ∷ 141 ∷ 938410465327665950 ∷ 15 ∷ 0 ∷ 0 ∷ [])
    × (listing 1820 refusal_16 ≡ 26 ∷ 89 ∷ 228340918472774395 ∷ 16 ∷ 0 ∷ 0 ∷ [])
    × (listing 1820 refusal_17 ≡ 26 ∷ 89 ∷ 1632667454438844254 ∷ 17 ∷ 0 ∷ 0 ∷ [])
    × (listing 1820 refusal_18 ≡ 44 ∷ 155 ∷ 485436596335904740 ∷ 18 ∷ 0 ∷ 0 ∷ [])
    × (listing 1820 refusal_19 ≡ 44 ∷ 155 ∷ 781682996369271754 ∷ 19 ∷ 0 ∷ 0 ∷ [])
    × (listing 1820 refusal_20 ≡ 103 ∷ 398 ∷ 1343444548768297771 ∷ 20 ∷ 0 ∷ 0 ∷ [])
    × (listing 1820 refusal_21 ≡ 26 ∷ 75 ∷ 1681950038189532974 ∷ 21 ∷ 0 ∷ 0 ∷ [])
    × (listing 1820 refusal_22 ≡ 33 ∷ 127 ∷ 1780880590504274166 ∷ 22 ∷ 0 ∷ 0 ∷ [])
    × (listing 1820 refusal_23 ≡ 40 ∷ 146 ∷ 2001894335952279341 ∷ 23 ∷ 0 ∷ 0 ∷ [])
unfolding bit_at value bits_before same_bits range_eq ◌>>=◌ turns shown except exec and_then flatten landing finish room_check check sum unless run continue nfchans words48 words44 words32 frame_bytes slow_decay fast_decay slow_gain knee floor fast_gain band_end log_add hearing bap hebap bap_bits vq_bits gaq_bits from placed snr_offset psd_of mapped_psd logadd band_sum band_of start_of end_of band_psd integrated_psd lowcomp low_after rises start_leak fall_to fall_by fall_leak leak_step excitations excitation over_knee mask_of masking_curve delta_of passed delta_in delta_sum delta_applied kept threshold thresholds address_of bap_of Allocation-pointers allocation_by delta_code channel_code segment new_deltas slot_deltas coded_deltas deltas new_curve curve fine_offset channel_offset new_offsets offsets new_leak coupling_leak step unpack group exponent_set slot_exponents channel_exponents exponents silent Mantissas-pointers all_pointers widths bits_in by_slot mantissas channel_parts parts syncinfo programme_info alternate_info time_codes additional_info bsi header how_many coupled_channels joined coupling_bands new_coupling coupling_strategy coordinate channel_coordinates phase_flags coupling_coordinates rematrixing channel_strategies exponent_strategies bandwidth bandwidths channel_end channel_ends channel_flags dynamic_range channel_settings coupling_section exponent_section skip_field alloc_state audio_block audio syncframe answered bytes plus_one checksum verdict short every some coordinates_sent
refused = (refl, refl, refl, refl, refl, refl, refl, refl, refl, refl, refl, refl, refl, refl, refl, refl, refl, refl, refl, refl, refl, refl, refl, refl, refl, refl, refl, refl, refl, refl, refl, refl)
