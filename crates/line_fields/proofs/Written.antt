-- Fields and the texts that spell them.
use Rattle.std.proofs.Common.{◌≡◌, ◌<◌, ◌≤◌, ◌+◌, ◌-◌, ℕ, Some, None, is_some, List, [], ◌∷◌, ◌++◌, Bool, true, false}
use Rattle.std.proofs.Common.{cond, leb, ◌&&◌, length, Ok, refl, sym, ap, subst, ◌∙◌, arith}
use Rattle.std.specs.Prelude.{map}
use Rattle.std.specs.List.{AllByRecursion}
use Rattle.std.proofs.lemmas.Bool.{and_parts, leb-true}
use Rattle.std.proofs.lemmas.List.{length-append}
use Rattle.std.proofs.lemmas.List.Elements.{All-weaker}
use Rattle.hex.specs.Hex.{decode_of, is_hex_digit, lower_digits}
use Rattle.hex.proofs.HexLemmas.{decode_of-ok, decode_of-encode_lower, length-encode_with}
use Rattle.line_fields.specs.Spelling.{Piece, plain, hex, IsWritten, AreWritten, piece_text, piece_texts, IsClean, joined}

-- ---- fields that stand as they are

pub first_plain : (text : List ℕ) (ps : List Piece) (ws : List (List ℕ)) → AreWritten (plain text ∷ ps) ws
    → (us : List (List ℕ)) × (ws ≡ text ∷ us) × AreWritten ps us
first_plain text ps [] h = absurd h
first_plain text ps (w ∷ ws) h = (ws, ap (λ (t : List ℕ). t ∷ ws) h.0, h.1)

pub none_written : (ws : List (List ℕ)) → AreWritten [] ws → ws ≡ []
none_written [] h = refl
none_written (w ∷ ws) h = absurd h

abbrev pub plains : List (List ℕ) → List Piece
plains ts = map (λ t. plain t) ts

pub plains_written : (ts : List (List ℕ)) → AreWritten (plains ts) ts
plains_written [] = tt
plains_written (t ∷ ts) = (refl, plains_written ts)

pub plains_are : (ts ws : List (List ℕ)) → AreWritten (plains ts) ws → ws ≡ ts
plains_are [] ws h = none_written ws h
plains_are (t ∷ ts) ws h = let w = first_plain t (plains ts) ws h in w.1 ∙ ap (λ (us : List (List ℕ)). t ∷ us) (plains_are ts w.0 w.2)

-- ---- fields of which the last is bytes in hex

pub hex_written : (ts : List (List ℕ)) (bytes t : List ℕ) → decode_of t ≡ Ok bytes → AreWritten (plains ts ++ (hex bytes ∷ [])) (ts ++ t ∷ [])
hex_written [] bytes t h = (h, tt)
hex_written (u ∷ ts) bytes t h = (refl, hex_written ts bytes t h)

only_hex : (bytes : List ℕ) (ws : List (List ℕ)) → AreWritten (hex bytes ∷ []) ws → (t : List ℕ) × (decode_of t ≡ Ok bytes) × (ws ≡ t ∷ [])
only_hex bytes [] h = absurd h
only_hex bytes (t ∷ ws) h = (t, h.0, ap (λ (us : List (List ℕ)). t ∷ us) (none_written ws h.1))

pub hex_is : (ts : List (List ℕ)) (bytes : List ℕ) (ws : List (List ℕ)) → AreWritten (plains ts ++ (hex bytes ∷ [])) ws
    → (t : List ℕ) × (decode_of t ≡ Ok bytes) × (ws ≡ ts ++ t ∷ [])
hex_is [] bytes ws h = only_hex bytes ws h
hex_is (u ∷ ts) bytes ws h =
    let w = first_plain u (plains ts ++ (hex bytes ∷ [])) ws h in
    let p = hex_is ts bytes w.0 w.2 in
    (p.0, p.1, w.1 ∙ ap (λ (us : List (List ℕ)). u ∷ us) p.2)

-- ---- what is printed is one of the texts, and no longer than another

printed_text : (p : Piece) (t : List ℕ) → IsWritten p t → IsWritten p (piece_text p)
printed_text (plain text) t h = refl
printed_text (hex bytes) t h = decode_of-encode_lower bytes (decode_of-ok t bytes h).3

pub printed_written : (ps : List Piece) (ws : List (List ℕ)) → AreWritten ps ws → AreWritten ps (piece_texts ps)
printed_written [] ws h = tt
printed_written (p ∷ ps) [] h = absurd h
printed_written (p ∷ ps) (w ∷ ws) h = (printed_text p w h.0, printed_written ps ws h.1)

text_len : (p : Piece) (t : List ℕ) → IsWritten p t → length t ≡ length (piece_text p)
text_len (plain text) t h = ap length h
text_len (hex bytes) t h = (decode_of-ok t bytes h).2 ∙ sym (length-encode_with lower_digits bytes)

joined_rest : (w : List ℕ) (v : List ℕ) (ws : List (List ℕ)) → length (joined (w ∷ v ∷ ws)) ≡ length w + (1 + length (joined (v ∷ ws)))
joined_rest w v ws = let e = length-append w (32 ∷ joined (v ∷ ws)) in omega (arith, e)

pub written_len : (ps : List Piece) (ws : List (List ℕ)) → AreWritten ps ws → length (joined ws) ≡ length (joined (piece_texts ps))
written_len [] [] h = refl
written_len [] (w ∷ ws) h = absurd h
written_len (p ∷ ps) [] h = absurd h
written_len (p ∷ []) (w ∷ []) h = text_len p w h.0
written_len (p ∷ []) (w ∷ v ∷ ws) h = absurd h.1
written_len (p ∷ q ∷ ps) (w ∷ []) h = absurd h.1
written_len (p ∷ q ∷ ps) (w ∷ v ∷ ws) h =
    let first = text_len p w h.0 in
    let others = written_len (q ∷ ps) (v ∷ ws) h.1 in
    let here = joined_rest w v ws in
    let there = joined_rest (piece_text p) (piece_text q) (piece_texts ps) in
    omega (arith, first, others, here, there)

-- ---- the texts are clean where those are that stand as they are

abbrev pub IsCleanPiece : Piece → Type 0
IsCleanPiece (plain text) = IsClean text
IsCleanPiece (hex bytes) = Unit {0}

-- whether the test of a digit passes, by the tests that it is made of
some_digit : (b c d : Bool) (n x y z : ℕ) → (b ≡ true → 65 ≤ n) → (c ≡ true → 97 ≤ n) → (d ≡ true → 48 ≤ n)
    → is_some (cond b (Some x) (cond c (Some y) (cond d (Some z) None))) ≡ true → 32 < n
some_digit true c d n x y z f g h e = let le = f refl in omega arith
some_digit false true d n x y z f g h e = let le = g refl in omega arith
some_digit false false true n x y z f g h e = let le = h refl in omega arith
some_digit false false false n x y z f g h e = absurd cc

least : (a n b : ℕ) → (leb a n && leb n b) ≡ true → a ≤ n
least a n b e = leb-true a n (and_parts (leb a n) (leb n b) e).0

digit_clean : (c : ℕ) → is_hex_digit c ≡ true → 32 < c
digit_clean c e =
    some_digit (leb 65 c && leb c 70) (leb 97 c && leb c 102) (leb 48 c && leb c 57) c (c - 55) (c - 87) (c - 48)
    (least 65 c 70) (least 97 c 102) (least 48 c 57) e

clean_text : (p : Piece) (t : List ℕ) → IsCleanPiece p → IsWritten p t → IsClean t
clean_text (plain text) t clean h = subst IsClean (sym h) clean
clean_text (hex bytes) t clean h = All-weaker (λ c. is_hex_digit c ≡ true) (λ c. 32 < c) digit_clean t (decode_of-ok t bytes h).1

pub written_clean : (ps : List Piece) (ws : List (List ℕ)) → AllByRecursion IsCleanPiece ps → AreWritten ps ws → AllByRecursion IsClean ws
written_clean [] [] clean h = tt
written_clean [] (w ∷ ws) clean h = absurd h
written_clean (p ∷ ps) [] clean h = absurd h
written_clean (p ∷ ps) (w ∷ ws) clean h = (clean_text p w clean.0 h.0, written_clean ps ws clean.1 h.1)
