-- What goes out shows the made segment.
use Rattle.std.proofs.Common.{◌≡◌, ℕ, Bool, true, false, Option, None, Some, refl}
use Rattle.std.specs.Prelude.{◌||◌, ◌&&◌, ◌==◌, nat_lt, not, min, if◌then◌else◌}
use Rattle.std.specs.Option.{option_map_or}
use Rattle.seqno.specs.Numbers.{number_of}
use Rattle.seqno.specs.declared.word.Word.{Word}
use Rattle.case_forms.specs.Versions.{says_sender, scales}
use Rattle.case_forms.specs.declared.trace.Header.{Header}
use Rattle.case_forms.specs.declared.version.Version.{Version}
use Rattle.case_forms.specs.declared.steps.Flags.{Flags}
use Rattle.segment.specs.Flags.{has_flag}
use Rattle.segment.specs.declared.fields.Segment.{Segment}
use Rattle.segment.specs.declared.flag.Flag.TheVariants.{Ack}
use Rattle.segment.specs.Encoding.{as_written}
use Rattle.spec_tcp.specs.declared.endpoint.Emission.{Emission}
use Rattle.spec_tcp.specs.Makes.Kind.{word_zero}
use Rattle.spec_tcp.specs.Same.{same_word}
use Rattle.spec_tcp.specs.Wire.{header_matches, shift_matches, same_flags}
use Rattle.stack_core.specs.Outgoing.{flag_bits, segment_of}
use Rattle.stack_core.proofs.Same.{bytes_same, number_same}

or_true : (a : Bool) → (a || true) ≡ true
or_true true = refl
or_true false = refl

bits : (ack rst syn fin : Bool) (s : Segment) → let f : Flags = record { ack = ack; rst = rst; syn = syn; fin = fin } in
    s.flags ≡ flag_bits f → same_flags s f ≡ true
bits true true true true s is = rw is refl
bits true true true false s is = rw is refl
bits true true false true s is = rw is refl
bits true true false false s is = rw is refl
bits true false true true s is = rw is refl
bits true false true false s is = rw is refl
bits true false false true s is = rw is refl
bits true false false false s is = rw is refl
bits false true true true s is = rw is refl
bits false true true false s is = rw is refl
bits false true false true s is = rw is refl
bits false true false false s is = rw is refl
bits false false true true s is = rw is refl
bits false false true false s is = rw is refl
bits false false false true s is = rw is refl
bits false false false false s is = rw is refl

-- ACK and the number, where the segment has ACK
acks : (v : Version) (reply ack rst syn fin : Bool) (n : Word) (raised : ℕ) (s : Segment)
    → let f : Flags = record { ack = ack; rst = rst; syn = syn; fin = fin } in
    s.flags ≡ flag_bits f → s.ack ≡ (if ack then n else word_zero)
    → (if has_flag s.flags Ack then (ack || says_sender v && reply)
    && (same_word s.ack n || says_sender v && nat_lt 0 raised && same_word (number_of s.ack raised) n) else not ack) ≡ true
acks v reply true true true true n raised s is told = rw (is, told, number_same n.0) refl
acks v reply true true true false n raised s is told = rw (is, told, number_same n.0) refl
acks v reply true true false true n raised s is told = rw (is, told, number_same n.0) refl
acks v reply true true false false n raised s is told = rw (is, told, number_same n.0) refl
acks v reply true false true true n raised s is told = rw (is, told, number_same n.0) refl
acks v reply true false true false n raised s is told = rw (is, told, number_same n.0) refl
acks v reply true false false true n raised s is told = rw (is, told, number_same n.0) refl
acks v reply true false false false n raised s is told = rw (is, told, number_same n.0) refl
acks v reply false true true true n raised s is told = rw is refl
acks v reply false true true false n raised s is told = rw is refl
acks v reply false true false true n raised s is told = rw is refl
acks v reply false true false false n raised s is told = rw is refl
acks v reply false false true true n raised s is told = rw is refl
acks v reply false false true false n raised s is told = rw is refl
acks v reply false false false true n raised s is told = rw is refl
acks v reply false false false false n raised s is told = rw is refl

either : (a b : Bool) → b ≡ true → (a || b) ≡ true
either true b is = refl
either false b is = is

pub shown : (v : Version) (m : Emission) (mss : Option ℕ) → header_matches v (as_written (segment_of m mss)) m ≡ true
shown v m mss =
    let s : Segment = as_written (segment_of m mss) in
    let ack = acks v m.is_reset_reply m.flags.ack m.flags.rst m.flags.syn m.flags.fin m.ack_seq m.raised s refl refl in
    let flags = bits m.flags.ack m.flags.rst m.flags.syn m.flags.fin s refl in
    let window = either m.is_reset_reply (m.window == m.window) (number_same m.window) in
    (λ i. number_same m.lport i && number_same m.rport i && number_same m.seq.0 i && ack i && flags i && window i && bytes_same m.payload i)

-- the shift that a SYN tells is the one that its sender gave
shift_shown : (syn : Bool) (shift : Option ℕ)
    → option_map_or (λ told. option_map_or (λ given. min told 14 == min given 14) shift false)
    (if syn then shift else None) true ≡ true
shift_shown false shift = refl
shift_shown true None = refl
shift_shown true (Some n) = number_same (min n 14)

pub all_shown : (h : Header) (s : Segment) (m : Emission) (mss : Option ℕ) → s ≡ as_written (segment_of m mss)
    → (header_matches h.version s m && (not (scales h.version && m.flags.syn) || shift_matches s m)) ≡ true
all_shown h s m mss is = rw (is, shown h.version m mss, shift_shown m.flags.syn m.shift) (or_true (not (scales h.version && m.flags.syn)))
