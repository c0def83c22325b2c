-- A copy that is older than half the number space is refused.
use Rattle.std.proofs.Common.{◌≡◌, ℕ, ◌+◌, ◌<◌, ◌^◌, Bool, true, false, Option, Some, None, refl, subst, sym, arith}
use Rattle.std.specs.Prelude.{nat_le, nat_lt, not, ◌&&◌, ◌||◌, if◌then◌else◌, is_some}
use Rattle.seqno.specs.declared.word.Word.{Word}
use Rattle.seqno.specs.Numbers.{number_of}
use Rattle.spec_tcp.specs.declared.endpoint.Endpoint.{Endpoint}
use Rattle.spec_tcp.specs.declared.endpoint.Emission.{Emission}
use Rattle.spec_tcp.specs.Endpoints.{rcv_nxt}
use Rattle.spec_tcp.specs.Same.{same_word}
use Rattle.spec_tcp.specs.Arrives.OtherStates.Sequence.{is_bad_number, reads_as, read_position}

old_unread : (near : ℕ) (base : Option Word) (w : Word) (pos : ℕ) → pos + 2 ^ 31 < near → reads_as near base w pos ≡ false
old_unread near None w pos old = refl
old_unread near (Some b) w pos old = go (same_word (number_of b pos) w) (nat_le near (pos + 2 ^ 31)) refl
  where
    go : (s n : Bool) → nat_le near (pos + 2 ^ 31) ≡ n → (s && n && nat_lt pos (near + 2 ^ 31)) ≡ false
    go false n e = refl
    go true false e = refl
    go true true e = grind arith

pub old_is_bad : (e : Endpoint) (m : Emission) → m.is_reset_reply ≡ false → m.pos + 2 ^ 31 < rcv_nxt e → is_bad_number e m ≡ true
old_is_bad e m own old =
    subst (λ (a : Bool). (if a then not (is_some (read_position e m))
    else not (reads_as (rcv_nxt e) e.irs m.seq m.pos) || m.flags.ack
    && not (reads_as e.stream.snd_una e.iss m.ack_seq m.ack)) ≡ true) (sym own)
    (subst (λ (r : Bool). (not r || m.flags.ack && not (reads_as e.stream.snd_una e.iss m.ack_seq m.ack)) ≡ true)
    (sym (old_unread (rcv_nxt e) e.irs m.seq m.pos old)) refl)
