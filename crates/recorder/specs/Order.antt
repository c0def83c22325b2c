-- Two hosts' entries in the order of their keys. Nothing here depends on a header.
use Rattle.std.specs.Prelude.{if◌then◌else◌, List, [], ◌∷◌}
use Rattle.spec_merge.specs.Keys.{before}
use Rattle.spec_merge.specs.Recordings.{TcpEntry}

abbrev pub in_order_with : TcpEntry → (List TcpEntry → List TcpEntry) → List TcpEntry → List TcpEntry
in_order_with x rest [] = x ∷ rest []
in_order_with x rest (y ∷ ys) = if before x.key y.key then x ∷ rest (y ∷ ys) else y ∷ in_order_with x rest ys

abbrev pub in_order : List TcpEntry → List TcpEntry → List TcpEntry
in_order [] ys = ys
in_order (x ∷ xs) ys = in_order_with x (in_order xs) ys
