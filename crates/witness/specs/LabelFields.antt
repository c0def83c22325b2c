-- Labels, read from left to right.
use Rattle.std.specs.Prelude.{Result, Ok}
use Rattle.case_forms.specs.declared.named_line.NamedLine.{NamedLine}
use Rattle.case_forms.specs.declared.steps.Label.{Label}
use Rattle.case_forms.specs.declared.timer.RecoveryChange.{RecoveryChange}
use Rattle.case_forms.specs.declared.version.Version.{Version}
use Rattle.case_forms.specs.declared.steps.Label.TheVariants.{L, D, M, T, K, R, F}
use Rattle.line_fields.specs.declared.fault.TextFault.{TextFault}
use Rattle.line_fields.specs.Word.{Rest}
use Rattle.line_fields.specs.Reading.{◌>>=◌, number_field}
use Rattle.line_fields.specs.Choice.{kind_field}
use Rattle.line_fields.specs.AnswerFields.{answer_field}
use Rattle.witness.specs.declared.labels.LabelWord.{LabelWord}
use Rattle.witness.specs.declared.labels.LabelWord.TheVariants as words
use Rattle.witness.specs.Flags.{flags_field}
use Rattle.witness.specs.Parts.{endpoint_field, entry_field, bit_field, extras_field, start_field}
use Rattle.witness.specs.Labels.{label_name, label_words_of}

-- the number of a line, and the extra numbers
unfoldable pub line_label : Rest → Result (Label NamedLine × Rest) TextFault
line_label r = do
  line ← number_field 0 4294967295 r
  extras ← extras_field line.1
  Ok (L (record { number = line.0; extras = extras.0 }), extras.1)

-- a thread, and the answer of its open call
unfoldable pub effect_label : Rest → Result (Label NamedLine × Rest) TextFault
effect_label r = do
  thread ← number_field 0 4294967295 r
  answer ← answer_field thread.1
  Ok (D thread.0 answer.0, answer.1)

-- an endpoint, and the plan of the segment that it builds
unfoldable pub segment_label : Version → Rest → Result (Label NamedLine × Rest) TextFault
segment_label v r = do
  at ← endpoint_field v r
  position ← number_field 0 1000000000000000000 at.1
  len ← number_field 0 65515 position.1
  flags ← flags_field len.1
  window ← number_field 0 65535 flags.1
  start ← start_field v window.1
  Ok (
    M at.0.0 (record {
      lport = at.0.1;
      rport = at.0.2;
      pos = position.0;
      len = len.0;
      flags = flags.0;
      window = window.0;
      iss =
          start.0.0;
      shift = start.0.1;
    }),
    start.1,
  )

-- an inbox entry, the congestion window, whether data is kept, and whether the round trip is measured
unfoldable pub taking_label : Version → Rest → Result (Label NamedLine × Rest) TextFault
taking_label v r = do
  entry ← entry_field v r
  cwnd ← number_field 0 4294967295 entry.1
  keep ← bit_field cwnd.1
  sample ← bit_field keep.1
  Ok (T entry.0.0 entry.0.1 (record { cwnd = cwnd.0; keep = keep.0; sample = sample.0 }), sample.1)

-- an inbox entry that is dropped
abbrev pub dropping_label : Version → Rest → Result (Label NamedLine × Rest) TextFault
dropping_label v r = do
  entry ← entry_field v r
  Ok (K entry.0.0 entry.0.1, entry.1)

-- an inbox entry that is answered with a reset
abbrev pub refusing_label : Version → Rest → Result (Label NamedLine × Rest) TextFault
refusing_label v r = do
  entry ← entry_field v r
  Ok (R entry.0.0 entry.0.1, entry.1)

-- an endpoint, its congestion window and its slow start threshold when this becomes of its recovery
unfoldable pub recovery_label : Version → RecoveryChange → Rest → Result (Label NamedLine × Rest) TextFault
recovery_label v change r = do
  at ← endpoint_field v r
  cwnd ← number_field 0 4294967295 at.1
  ssthresh ← number_field 0 4294967295 cwnd.1
  Ok (
    F at.0.0 (record {
      change = change;
      lport = at.0.1;
      rport = at.0.2;
      cwnd = cwnd.0;
      ssthresh = ssthresh.0;
    }),
    ssthresh.1,
  )

-- what follows the first word
abbrev pub label_behind : Version → LabelWord → Rest → Result (Label NamedLine × Rest) TextFault
label_behind v words.Line r = line_label r
label_behind v words.Effect r = effect_label r
label_behind v words.Making r = segment_label v r
label_behind v words.Taking r = taking_label v r
label_behind v words.Dropping r = dropping_label v r
label_behind v words.Refusing r = refusing_label v r
label_behind v (words.Recovery change) r = recovery_label v change r

-- a label
unfoldable pub label_field : Version → Rest → Result (Label NamedLine × Rest) TextFault
label_field v r = kind_field label_name (label_words_of v) r >>= λ word. label_behind v word.0 word.1
