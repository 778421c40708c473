-- All that is proved of the parser: the theorems, one by one. Assumes nothing.
use mathlib.Core.Path.{refl}
use Rattle.syntax.proofs.Later.{only_what_was_read}
use Rattle.ac3.specs.Frame.{syncframe}
use Rattle.ac3.specs.Promise.{input, room_for}
use Rattle.ac3.specs.Proved.{Proved}
use Rattle.ac3.proofs.HeaderAndBlocks.{header_and_blocks}
use Rattle.ac3.proofs.Coordinates.{coordinates_idle}
use Rattle.ac3.proofs.Demand3.{ac3_cover, ac3_demand3}
use Rattle.ac3.proofs.Editing.{edit_freely}
use Rattle.ac3.proofs.Later.{later_bytes}
use Rattle.ac3.proofs.MoreRoom.{more_room}
use Rattle.ac3.proofs.OneAnswer.{any_two}
use Rattle.ac3.proofs.Parts.{parts_of_rows, parts_of_rooms}
use Rattle.ac3.proofs.Promise.{promised, reaches, answers_demand3}
use Rattle.ac3.proofs.Rooms.{spans_by_role, rooms_demand3}
use Rattle.ac3.proofs.RowBound.{row_bound}
use Rattle.ac3.proofs.Sent.{sent_is_each_had}
use Rattle.ac3.proofs.SlotBits.{bits_of_slots}
use Rattle.ac3.proofs.Unfitting.{what_did_not_fit}
use Rattle.ac3.proofs.Useless.{none_useless}
use Rattle.ac3.proofs.Values.{values_on_each_side}
use Rattle.ac3.proofs.Within.{kept_within}

pub proved : Proved
proved =
    record {
      promised = λ c. promised c refl;
      what_did_not_fit = what_did_not_fit;
      within = kept_within;
      one_answer = any_two;
      cover = λ c ok. ac3_cover (input c) (room_for c) (reaches c ok);
      demand3 = answers_demand3;
      demand3_held = rooms_demand3;
      spans_by_role = spans_by_role;
      demand3_grammar = ac3_demand3;
      bits_of_slots = bits_of_slots;
      edit_freely = edit_freely;
      later_bytes = later_bytes;
      only_what_was_read = only_what_was_read syncframe;
      sent_is_each_had = sent_is_each_had;
      coordinates_idle = coordinates_idle;
      header_and_blocks = header_and_blocks;
      parts = parts_of_rooms;
      parts_listed = parts_of_rows;
      row_bound = row_bound;
      more_room = more_room;
      none_useless = none_useless;
      values = values_on_each_side;
    }
