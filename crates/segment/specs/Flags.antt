-- The flags of a segment (RFC 9293, 3.1).
use Rattle.std.specs.Prelude.{ℕ, ◌/◌, ◌%◌, ◌==◌, Bool}
use Rattle.segment.specs.declared.flag.Flag.{Flag}
use Rattle.segment.specs.declared.flag.Flag.TheVariants.{Cwr, Ece, Urg, Ack, Psh, Rst, Syn, Fin}

-- each flag's bit in the byte of flags, from the highest down
abbrev pub mask_of : Flag → ℕ
mask_of Cwr = 128
mask_of Ece = 64
mask_of Urg = 32
mask_of Ack = 16
mask_of Psh = 8
mask_of Rst = 4
mask_of Syn = 2
mask_of Fin = 1

-- whether the flag's bit is set
abbrev pub has_flag : ℕ → Flag → Bool
has_flag flags flag = flags / mask_of flag % 2 == 1
