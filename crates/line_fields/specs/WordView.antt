-- A token as a field.
use Rattle.line_fields.specs.declared.fields.Token.{Token}
use Rattle.line_fields.specs.Word.{Word}

-- a token without the place of its bytes in memory
abbrev pub word_of : Token → Word
word_of t = record { text = t.text.now; line = t.span.line; start = t.span.start; stop = t.span.stop }
