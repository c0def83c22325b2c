-- Cases written out, for facts that are computed: the lines and steps of both texts as words.
use Rattle.std.proofs.Common.{ℕ, ◌*◌, ◌%◌, Bool, true, false, List, [], ◌∷◌, map, Option, None, Some}
use Rattle.std.specs.List.{range_with_len}
use Rattle.std.specs.Option.{option_map}
use Rattle.case_forms.specs.declared.version.Growth.TheVariants.{OneSegment}
use Rattle.case_forms.specs.declared.version.Sender.TheVariants.{Reno}
use Rattle.case_forms.specs.declared.calls.Host.{Host}
use Rattle.case_forms.specs.declared.calls.Host.TheVariants as hosts
use Rattle.case_forms.specs.declared.calls.Call.{Call}
use Rattle.case_forms.specs.declared.calls.Call.TheVariants as calls
use Rattle.case_forms.specs.declared.calls.Answer.{Answer}
use Rattle.case_forms.specs.declared.calls.Answer.TheVariants as answers
use Rattle.case_forms.specs.declared.version.Version.TheVariants.{One}
use Rattle.case_forms.specs.declared.version.Initial.TheVariants.{Rfc5681}
use Rattle.case_forms.specs.declared.version.Judged.TheVariants.{Full}
use Rattle.case_forms.specs.declared.trace.Header.{Header}
use Rattle.case_forms.specs.declared.trace.Wire.{Wire}
use Rattle.case_forms.specs.declared.trace.Event.{Event}
use Rattle.case_forms.specs.declared.trace.Event.TheVariants as events
use Rattle.case_forms.specs.declared.trace.Line as lines
use Rattle.case_forms.specs.declared.trace.Span.{Span}
use Rattle.case_forms.specs.declared.timer.RecoveryChange.TheVariants.{Begins, IsUndone}
use Rattle.case_forms.specs.declared.timer.Timer.{Timer}
use Rattle.case_forms.specs.declared.named_line.Extras.TheVariants as extras
use Rattle.case_forms.specs.declared.named_line.NamedLine.{NamedLine}
use Rattle.case_forms.specs.declared.steps.Label.{Label}
use Rattle.case_forms.specs.declared.steps.Label.TheVariants as labels
use Rattle.case_forms.specs.declared.steps.Flags.{Flags}
use Rattle.case_forms.specs.declared.steps.Step as witness
use Rattle.segment.specs.declared.fields.Segment.{Segment}
use Rattle.segment.specs.Encoding.{encoding, as_written}

-- the header, but for the maximum segment lifetime and what a listen queue may hold above its backlog
abbrev pub header : (msl extra : ℕ) → Header
header msl extra =
    record {
      version = One;
      skew = 0;
      msl = msl;
      grain = 1000;
      minrto = 1000000;
      extra = extra;
      initial = Rfc5681;
      congestion = Full;
      slack = None;
      sender = Reno;
      growth = OneSegment;
    }

abbrev pub nowhere : Span
nowhere = record { line = 0; start = 0; stop = 0 }

-- a segment on the wire
abbrev pub packet : (src dst seq ack flags window : ℕ) → Option ℕ → List ℕ → Wire
packet src dst seq ack flags window mss payload =
    let shown : Segment =
    record {
      src = src;
      dst = dst;
      seq = record { 0 = seq };
      ack = record { 0 = ack };
      flags = flags;
      window = window;
      mss = mss;
      scale = None;
      options = [];
      payload = payload;
    } in
    record { bytes = encoding shown; seg = as_written shown }

abbrev pub line : (number moment thread : ℕ) → Event → lines.Line
line number moment thread event = record { number = number; moment = moment; thread = thread; event = event; span = nowhere }

-- B and E lines
abbrev pub begins : (number moment thread : ℕ) → Call → lines.Line
begins number moment thread call = line number moment thread (events.CallBegin call)

abbrev pub ends : (number moment thread : ℕ) → Answer → lines.Line
ends number moment thread answer = line number moment thread (events.CallEnd answer)

-- O, I and T lines
abbrev pub sends : (number moment thread : ℕ) → Host → Wire → lines.Line
sends number moment thread host wire = line number moment thread (events.Sent host wire)

abbrev pub gets : (number moment thread : ℕ) → Host → Wire → lines.Line
gets number moment thread host wire = line number moment thread (events.Came host wire)

abbrev pub expires : (number moment thread : ℕ) → Host → (lport rport : ℕ) → Timer → lines.Line
expires number moment thread host lport rport timer = line number moment thread (events.Expired host lport rport timer)

abbrev pub step : ℕ → Label NamedLine → witness.Step
step moment label = record { moment = moment; label = label; span = nowhere }

-- L steps, with no number more, one or two
abbrev pub takes : (moment number : ℕ) → witness.Step
takes moment number = step moment (labels.L (record { number = number; extras = extras.Bare }))

abbrev pub takes_of : (moment number x : ℕ) → witness.Step
takes_of moment number x = step moment (labels.L (record { number = number; extras = extras.One x }))

abbrev pub takes_with : (moment number cwnd ssthresh : ℕ) → witness.Step
takes_with moment number cwnd ssthresh = step moment (labels.L (record { number = number; extras = extras.Two cwnd ssthresh }))

-- D, M, T, K, R and F steps
abbrev pub effects : (moment thread : ℕ) → Answer → witness.Step
effects moment thread answer = step moment (labels.D thread answer)

abbrev pub makes : ℕ → Host → (lport rport pos len : ℕ) → Flags → ℕ → Option ℕ → witness.Step
makes moment host lport rport pos len flags window iss =
    step moment (labels.M host (record {
      lport = lport;
      rport = rport;
      pos = pos;
      len = len;
      flags = flags;
      window = window;
      iss = option_map (λ n. record { 0 = n }) iss;
      shift = None;
    }))

abbrev pub consumes : ℕ → Host → (number cwnd : ℕ) → (keep sample : Bool) → witness.Step
consumes moment host number cwnd keep sample = step moment (labels.T host number (record { cwnd = cwnd; keep = keep; sample = sample }))

abbrev pub drops : ℕ → Host → ℕ → witness.Step
drops moment host number = step moment (labels.K host number)

abbrev pub resets : ℕ → Host → ℕ → witness.Step
resets moment host number = step moment (labels.R host number)

abbrev pub recovers : ℕ → Host → (lport rport cwnd ssthresh : ℕ) → witness.Step
recovers moment host lport rport cwnd ssthresh =
    step moment (labels.F host (record { change = Begins; lport = lport; rport = rport; cwnd = cwnd; ssthresh = ssthresh }))

abbrev pub undoes : ℕ → Host → (lport rport cwnd ssthresh : ℕ) → witness.Step
undoes moment host lport rport cwnd ssthresh =
    step moment (labels.F host (record { change = IsUndone; lport = lport; rport = rport; cwnd = cwnd; ssthresh = ssthresh }))

-- the flags of made segments
abbrev pub flags : Bool → Bool → Bool → Bool → Flags
flags a r s f = record { ack = a; rst = r; syn = s; fin = f }

abbrev pub ack : Flags
ack = flags true false false false

abbrev pub syn : Flags
syn = flags false false true false

abbrev pub syn_ack : Flags
syn_ack = flags true false true false

abbrev pub fin_ack : Flags
fin_ack = flags true false false true

abbrev pub rst : Flags
rst = flags false true false false

abbrev pub rst_ack : Flags
rst_ack = flags true true false false

-- bytes of a stream in which byte i is 7 i modulo 251: so many of them, from that one on
abbrev pub sevens : (from count : ℕ) → List ℕ
sevens from count = map (λ i. 7 * i % 251) (range_with_len from count)

-- a handshake of host 0, port 4000, and host 1, port 80, whose numbers begin at 1000 and 50000; host 1 tells that MSS
abbrev pub opening_lines : Option ℕ → List lines.Line
opening_lines mss =
    begins 7 10 1 (calls.Listen hosts.One 80 4)
    ∷ ends 8 11 1 (answers.Given 5)
    ∷ begins 9 12 2 (calls.Connect hosts.Zero 4000 80)
    ∷ ends 10 13 2 (answers.Given 6)
    ∷ sends 11 14 3 hosts.Zero (packet 4000 80 1000 0 2 65535 None [])
    ∷ gets 12 15 6 hosts.One (packet 4000 80 1000 0 2 65535 None [])
    ∷ sends 13 16 4 hosts.One (packet 80 4000 50000 1001 18 65535 mss [])
    ∷ gets 14 17 5 hosts.Zero (packet 80 4000 50000 1001 18 65535 mss [])
    ∷ sends 15 18 3 hosts.Zero (packet 4000 80 1001 50001 16 65535 None [])
    ∷ gets 16 19 6 hosts.One (packet 4000 80 1001 50001 16 65535 None [])
    ∷ []

-- its steps; host 0 takes the second segment with that congestion window
abbrev pub opening_steps : (cwnd : ℕ) → List witness.Step
opening_steps cwnd =
    takes 10 7
    ∷ effects 10 1 (answers.Given 5)
    ∷ takes 11 8
    ∷ takes 12 9
    ∷ effects 12 2 (answers.Given 6)
    ∷ takes 13 10
    ∷ makes 13 hosts.Zero 4000 80 0 0 syn 65535 (Some 1000)
    ∷ takes_of 14 11 1
    ∷ takes_of 15 12 11
    ∷ consumes 15 hosts.One 12 0 false false
    ∷ makes 15 hosts.One 80 4000 0 0 syn_ack 65535 (Some 50000)
    ∷ takes_of 16 13 2
    ∷ takes_of 17 14 13
    ∷ consumes 17 hosts.Zero 14 cwnd false false
    ∷ makes 17 hosts.Zero 4000 80 1 0 ack 65535 None
    ∷ takes_of 18 15 3
    ∷ takes_of 19 16 15
    ∷ consumes 19 hosts.One 16 2144 false false
    ∷ []

-- the same more slowly, so that round trips are measured, with numbers that begin at 2^32 - 2 and 100; host 1 has room for that
-- many children more, offers that window and tells that MSS
abbrev pub slow_opening_lines : (backlog window : ℕ) → Option ℕ → List lines.Line
slow_opening_lines backlog window mss =
    begins 7 10 1 (calls.Listen hosts.One 80 backlog)
    ∷ ends 8 11 1 (answers.Given 5)
    ∷ begins 9 20 2 (calls.Connect hosts.Zero 4000 80)
    ∷ ends 10 21 2 (answers.Given 6)
    ∷ sends 11 30 3 hosts.Zero (packet 4000 80 4294967294 0 2 65535 None [])
    ∷ gets 12 40 4 hosts.One (packet 4000 80 4294967294 0 2 65535 None [])
    ∷ sends 13 50 4 hosts.One (packet 80 4000 100 4294967295 18 window mss [])
    ∷ gets 14 60 3 hosts.Zero (packet 80 4000 100 4294967295 18 window mss [])
    ∷ sends 15 70 3 hosts.Zero (packet 4000 80 4294967295 101 16 65535 None [])
    ∷ gets 16 80 4 hosts.One (packet 4000 80 4294967295 101 16 65535 None [])
    ∷ []

abbrev pub slow_opening_steps : (window cwnd : ℕ) → List witness.Step
slow_opening_steps window cwnd =
    takes 10 7
    ∷ effects 10 1 (answers.Given 5)
    ∷ takes 11 8
    ∷ takes 20 9
    ∷ effects 20 2 (answers.Given 6)
    ∷ takes 21 10
    ∷ makes 30 hosts.Zero 4000 80 0 0 syn 65535 (Some 4294967294)
    ∷ takes_of 30 11 1
    ∷ takes_of 40 12 11
    ∷ consumes 41 hosts.One 12 0 false false
    ∷ makes 50 hosts.One 80 4000 0 0 syn_ack window (Some 100)
    ∷ takes_of 50 13 2
    ∷ takes_of 60 14 13
    ∷ consumes 61 hosts.Zero 14 cwnd false true
    ∷ makes 70 hosts.Zero 4000 80 1 0 ack 65535 None
    ∷ takes_of 70 15 3
    ∷ takes_of 80 16 15
    ∷ consumes 81 hosts.One 16 2144 false true
    ∷ []
