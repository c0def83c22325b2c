-- The first line of a witness.
use Rattle.std.specs.Prelude.{ℕ, Bool, ◌&&◌, List}
use Rattle.std.specs.Str.{bytes_eq}
use Rattle.bstr.specs.Text.{without_terminator}
use Rattle.case_forms.specs.declared.version.Version.{Version}
pub use Rattle.line_fields.specs.FirstLine.{first_text}
use Rattle.line_fields.specs.Lines.{is_ended}

-- the bytes of a line, with its end, are the first line of a witness of this version
abbrev pub begins_witness : Version → List ℕ → Bool
begins_witness v raw = is_ended raw && bytes_eq (without_terminator raw) (first_text v)
