-- The line and the status that a segment has.
use Rattle.std.specs.Prelude.{◌==◌, ℕ, List, [], ◌++◌, length, Option, Some, None, Result, Ok, Err, codes, decimal}
use Rattle.std.specs.Prelude.{if◌then◌else◌}
use Rattle.segment.specs.Faults.{fault_name}
use Rattle.segment.specs.Flags.{has_flag}
use Rattle.segment.specs.declared.fields.Segment.{Segment}
use Rattle.segment.specs.declared.flag.Flag.{Flag}
use Rattle.segment.specs.declared.flag.Flag.TheVariants.{Cwr, Ece, Urg, Ack, Psh, Rst, Syn, Fin}
use Rattle.seqno.specs.Numbers.{number_of}
use Rattle.seqno.specs.declared.word.Word.{Word}
use Rattle.cli.specs.declared.argument.ArgumentFault.{ArgumentFault}
use Rattle.cli.specs.declared.argument.ArgumentFault.TheVariants as faults

-- each flag's letter
abbrev pub letter_of : Flag → List ℕ
letter_of Cwr = codes "C"
letter_of Ece = codes "E"
letter_of Urg = codes "U"
letter_of Ack = codes "A"
letter_of Psh = codes "P"
letter_of Rst = codes "R"
letter_of Syn = codes "S"
letter_of Fin = codes "F"

-- the flag's letter, if it is set
abbrev pub letter_in : ℕ → Flag → List ℕ
letter_in flags flag = if has_flag flags flag then letter_of flag else []

-- the letters of the upper and of the lower four flags, from the highest bit down
abbrev pub upper_letters : ℕ → List ℕ
upper_letters flags = letter_in flags Cwr ++ letter_in flags Ece ++ letter_in flags Urg ++ letter_in flags Ack

abbrev pub lower_letters : ℕ → List ℕ
lower_letters flags = letter_in flags Psh ++ letter_in flags Rst ++ letter_in flags Syn ++ letter_in flags Fin

-- the letters of the flags that are set, or a dash if none is
abbrev pub flags_text : ℕ → List ℕ
flags_text flags = if flags == 0 then codes "-" else upper_letters flags ++ lower_letters flags

-- the MSS, or a dash if the segment has none
abbrev pub mss_text : Option ℕ → List ℕ
mss_text None = codes "-"
mss_text (Some mss) = decimal mss

-- the number of the first payload byte: a SYN takes the number before it (RFC 9293, 3.4)
abbrev pub first_number : Segment → Word
first_number segment = if has_flag segment.flags Syn then number_of segment.seq 1 else segment.seq

-- the ports and both numbers
abbrev pub ends_text : Segment → List ℕ
ends_text segment =
    codes "src " ++ decimal segment.src ++ codes " dst " ++ decimal segment.dst
    ++ codes " seq " ++ decimal segment.seq.0 ++ codes " ack " ++ decimal segment.ack.0

-- how many payload bytes there are, and the number of the first
abbrev pub payload_text : Segment → List ℕ
payload_text segment =
    codes " len " ++ decimal (length segment.payload) ++ codes " first " ++ decimal (first_number segment).0

-- the flags, the window, the MSS and the payload
abbrev pub rest_text : Segment → List ℕ
rest_text segment =
    (codes " flags " ++ flags_text segment.flags) ++ (codes " wnd " ++ decimal segment.window)
    ++ (codes " mss " ++ mss_text segment.mss) ++ payload_text segment

-- the fields in their order, each after its name
abbrev pub segment_text : Segment → List ℕ
segment_text segment = ends_text segment ++ rest_text segment

-- the line of an argument's segment or fault, with its end
abbrev pub segment_line : Result Segment ArgumentFault → List ℕ
segment_line (Ok segment) = segment_text segment ++ codes "\n"
segment_line (Err faults.Hex) = codes "bad segment hex\n"
segment_line (Err (faults.Segment fault)) = codes "bad segment " ++ fault_name fault ++ codes "\n"
segment_line (Err faults.OutOfMemory) = codes "bad memory\n"

-- its status: the segment is printed, the argument is refused, memory ran out
abbrev pub segment_status : Result Segment ArgumentFault → ℕ
segment_status (Ok segment) = 0
segment_status (Err faults.Hex) = 2
segment_status (Err (faults.Segment fault)) = 2
segment_status (Err faults.OutOfMemory) = 4
