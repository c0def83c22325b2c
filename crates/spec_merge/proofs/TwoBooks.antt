-- Two books of the machine and their merge: a listener, an open, a handshake, five bytes that are lost, and their retransmission.
use Rattle.std.proofs.Common.{◌≡◌, ℕ, true, false, List, [], ◌∷◌, take, drop, Some, None, refl}
use Rattle.case_forms.specs.declared.calls.Host.TheVariants.{Zero, One}
use Rattle.case_forms.specs.declared.calls.Call.TheVariants as calls
use Rattle.case_forms.specs.declared.calls.Answer.TheVariants as answers
use Rattle.case_forms.specs.declared.taken_line.Expired.TheVariants as expireds
use Rattle.case_forms.specs.declared.timer.Timer.TheVariants.{Rto}
use Rattle.case_forms.specs.declared.trace.Wire.{Wire}
use Rattle.spec_network.specs.Hosts.{Begin, Finish, Effect, At, Makes, Sends, Gets, Takes, Expires, Stamped}
use Rattle.spec_network.specs.HostSteps.{start}
use Rattle.spec_merge.specs.Keys.{Books}
use Rattle.spec_tcp.specs.Machine.{tcp, tcp_shape}
use Rattle.spec_merge.specs.Placing.{Came, CallBegin, CallEnd, Event, Expired, IsPlacedRun, Line, Sent}
use Rattle.spec_merge.proofs.Merged.{is_placed_run}
use Rattle.spec_tcp.proofs.Telling as telling
use Rattle.spec_tcp_laws.specs.Runs.{accepted_by, told_to}
use Rattle.spec_merge.specs.Recordings.{IsKept, MayJoin, NamesSent, TcpEntry, merged, merged_lines, world_of}
use Rattle.spec_merge.proofs.BookTests.{above, host_run, keys_rise, line_of}
use Rattle.spec_merge.proofs.Entries.{brings, does, emission, first_of, header, how, key, making, packet, stamped}

abbrev pub hello : List ℕ
hello = 104 ∷ 101 ∷ 108 ∷ 108 ∷ 111 ∷ []

-- the SYN, its answer, the acknowledgment of both, and the five bytes, whose numbers pass 2^32
abbrev pub syn : Wire
syn = packet 4000 80 4294967294 0 2 []

abbrev pub syn_ack : Wire
syn_ack = packet 80 4000 100 4294967295 18 []

abbrev ack : Wire
ack = packet 4000 80 4294967295 101 16 []

abbrev five_bytes : Wire
five_bytes = packet 4000 80 4294967295 101 24 hello

-- host 0 opens, and sends the five bytes twice; the answer to its SYN comes at the very moment at which it went out
abbrev pub zeros : List TcpEntry
zeros =
    does 20 1 Zero (Begin 7 2 (calls.Connect Zero 4000 80))
    ∷ does 21 2 Zero (Effect 2 (answers.Given 6))
    ∷ does 21 2 Zero (Finish 8 2 (answers.Given 6))
    ∷ does 30 3 Zero (At Zero (Makes (making 4000 80 0 0 telling.syn (Some 4294967294))))
    ∷ does 30 3 Zero (At Zero (Sends 9 1 syn))
    ∷ brings 50 6 Zero (key 50 5 One) 10 (emission One (Some (first_of Zero)) 0 1 50 telling.syn_ack syn_ack)
    ∷ does 50 6 Zero (At Zero (Gets 10 10 syn_ack))
    ∷ does 61 7 Zero (At Zero (Takes 10 (how 2144 false true)))
    ∷ does 70 8 Zero (At Zero (Makes (making 4000 80 1 0 telling.ack None)))
    ∷ does 70 8 Zero (At Zero (Sends 11 2 ack))
    ∷ does 100 9 Zero (Begin 12 2 (calls.Send 6 hello))
    ∷ does 101 10 Zero (Effect 2 (answers.Given 5))
    ∷ does 101 10 Zero (Finish 13 2 (answers.Given 5))
    ∷ does 110 11 Zero (At Zero (Makes (making 4000 80 1 5 telling.ack None)))
    ∷ does 110 11 Zero (At Zero (Sends 14 3 five_bytes))
    ∷ does 1000110 12 Zero (At Zero (Expires 15 (record { lport = 4000; rport = 80; expired = expireds.Rto (record { cwnd = 536; ssthresh = 1072 }) })))
    ∷ does 1000110 13 Zero (At Zero (Makes (making 4000 80 1 5 telling.ack None)))
    ∷ does 1000110 13 Zero (At Zero (Sends 16 4 five_bytes))
    ∷ []

-- host 1 listens, answers, accepts, and reads the bytes that came at the second time
abbrev pub ones : List TcpEntry
ones =
    does 10 1 One (Begin 7 1 (calls.Listen One 80 4))
    ∷ does 11 2 One (Effect 1 (answers.Given 5))
    ∷ does 11 2 One (Finish 8 1 (answers.Given 5))
    ∷ brings 40 4 One (key 30 3 Zero) 9 (emission Zero None 0 0 30 telling.syn syn)
    ∷ does 40 4 One (At One (Gets 9 9 syn))
    ∷ does 41 4 One (At One (Takes 9 (how 0 false false)))
    ∷ does 50 5 One (At One (Makes (making 80 4000 0 0 telling.syn_ack (Some 100))))
    ∷ does 50 5 One (At One (Sends 10 1 syn_ack))
    ∷ brings 80 9 One (key 70 8 Zero) 11 (emission Zero (Some (first_of One)) 1 1 70 telling.ack ack)
    ∷ does 80 9 One (At One (Gets 11 11 ack))
    ∷ does 81 9 One (At One (Takes 11 (how 2144 false true)))
    ∷ does 90 10 One (Begin 12 1 (calls.Accept 5))
    ∷ does 90 11 One (Effect 1 (answers.Given 7))
    ∷ does 91 11 One (Finish 13 1 (answers.Given 7))
    ∷ brings 1000120 14 One (key 1000110 13 Zero) 16 (emission Zero (Some (first_of One)) 1 1 1000110 telling.ack five_bytes)
    ∷ does 1000120 14 One (At One (Gets 14 16 five_bytes))
    ∷ does 1000121 14 One (At One (Takes 14 (how 2144 true false)))
    ∷ does 1000130 15 One (Begin 15 1 (calls.Recv 7 100))
    ∷ does 1000130 16 One (Effect 1 (answers.Bytes hello))
    ∷ does 1000131 16 One (Finish 16 1 (answers.Bytes hello))
    ∷ []

abbrev line : ℕ → Event tcp_shape → Line tcp_shape
line moment event = record { moment = moment; event = event }

-- merged, with lines from 7 on and made segments from 1 on
abbrev pub told : List (Stamped tcp_shape)
told =
    stamped 10 (Begin 7 1 (calls.Listen One 80 4))
    ∷ stamped 11 (Effect 1 (answers.Given 5))
    ∷ stamped 11 (Finish 8 1 (answers.Given 5))
    ∷ stamped 20 (Begin 9 2 (calls.Connect Zero 4000 80))
    ∷ stamped 21 (Effect 2 (answers.Given 6))
    ∷ stamped 21 (Finish 10 2 (answers.Given 6))
    ∷ stamped 30 (At Zero (Makes (making 4000 80 0 0 telling.syn (Some 4294967294))))
    ∷ stamped 30 (At Zero (Sends 11 1 syn))
    ∷ stamped 40 (At One (Gets 12 11 syn))
    ∷ stamped 41 (At One (Takes 12 (how 0 false false)))
    ∷ stamped 50 (At One (Makes (making 80 4000 0 0 telling.syn_ack (Some 100))))
    ∷ stamped 50 (At One (Sends 13 2 syn_ack))
    ∷ stamped 50 (At Zero (Gets 14 13 syn_ack))
    ∷ stamped 61 (At Zero (Takes 14 (how 2144 false true)))
    ∷ stamped 70 (At Zero (Makes (making 4000 80 1 0 telling.ack None)))
    ∷ stamped 70 (At Zero (Sends 15 3 ack))
    ∷ stamped 80 (At One (Gets 16 15 ack))
    ∷ stamped 81 (At One (Takes 16 (how 2144 false true)))
    ∷ stamped 90 (Begin 17 1 (calls.Accept 5))
    ∷ stamped 90 (Effect 1 (answers.Given 7))
    ∷ stamped 91 (Finish 18 1 (answers.Given 7))
    ∷ stamped 100 (Begin 19 2 (calls.Send 6 hello))
    ∷ stamped 101 (Effect 2 (answers.Given 5))
    ∷ stamped 101 (Finish 20 2 (answers.Given 5))
    ∷ stamped 110 (At Zero (Makes (making 4000 80 1 5 telling.ack None)))
    ∷ stamped 110 (At Zero (Sends 21 4 five_bytes))
    ∷ stamped 1000110 (At Zero (Expires 22 (record { lport = 4000; rport = 80; expired = expireds.Rto (record { cwnd = 536; ssthresh = 1072 }) })))
    ∷ stamped 1000110 (At Zero (Makes (making 4000 80 1 5 telling.ack None)))
    ∷ stamped 1000110 (At Zero (Sends 23 5 five_bytes))
    ∷ stamped 1000120 (At One (Gets 24 23 five_bytes))
    ∷ stamped 1000121 (At One (Takes 24 (how 2144 true false)))
    ∷ stamped 1000130 (Begin 25 1 (calls.Recv 7 100))
    ∷ stamped 1000130 (Effect 1 (answers.Bytes hello))
    ∷ stamped 1000131 (Finish 26 1 (answers.Bytes hello))
    ∷ []

merged_are : merged header 7 zeros ones ≡ told
merged_are = refl

-- what each host kept
zeros_are_kept : IsKept header Zero 7 zeros
zeros_are_kept = record {
  runs = host_run header Zero (start (tcp header)) zeros refl;
  numbered = (refl, (refl, (refl, (refl, (refl, (refl, (refl, (refl, (refl, (refl, tt))))))))));
  keys = keys_rise header Zero zeros refl;
}

ones_are_kept : IsKept header One 7 ones
ones_are_kept = record {
  runs = host_run header One (start (tcp header)) ones refl;
  numbered = (refl, (refl, (refl, (refl, (refl, (refl, (refl, (refl, (refl, (refl, tt))))))))));
  keys = keys_rise header One ones refl;
}

-- host 1's read joined what it had kept before
read_joins : MayJoin header One 7 (take 17 ones) (drop 17 ones)
read_joins = record {
  runs = host_run header One (world_of header One (take 17 ones)) (drop 17 ones) refl;
  numbered = (refl, (refl, tt));
  keys = keys_rise header One (drop 17 ones) refl;
  above = above header (take 17 ones) (drop 17 ones) refl;
}

-- each segment that came is one that the other sent
zeros_name_ones : NamesSent header One zeros ones
zeros_name_ones = (
  tt,
  (
    tt,
    (
      tt,
      (
        tt,
        (
          tt,
          (
            (refl, refl, line_of header 10 (key 50 5 One) ones refl),
            (tt, (tt, (tt, (tt, (tt, (tt, (tt, (tt, (tt, (tt, (tt, (tt, tt)))))))))))),
          ),
        ),
      ),
    ),
  ),
)

ones_name_zeros : NamesSent header Zero ones zeros
ones_name_zeros = (
  tt,
  (
    tt,
    (
      tt,
      (
        (refl, refl, line_of header 9 (key 30 3 Zero) zeros refl),
        (
          tt,
          (
            tt,
            (
              tt,
              (
                tt,
                (
                  (refl, refl, line_of header 11 (key 70 8 Zero) zeros refl),
                  (
                    tt,
                    (
                      tt,
                      (
                        tt,
                        (
                          tt,
                          (
                            tt,
                            (
                              (refl, refl, line_of header 16 (key 1000110 13 Zero) zeros refl),
                              (tt, (tt, (tt, (tt, (tt, tt))))),
                            ),
                          ),
                        ),
                      ),
                    ),
                  ),
                ),
              ),
            ),
          ),
        ),
      ),
    ),
  ),
)

are_books : Books (tcp header) 7 zeros ones
are_books = (
  record { runs = zeros_are_kept.runs; numbered = zeros_are_kept.numbered; keys = zeros_are_kept.keys; arrivals = zeros_name_ones },
  record { runs = ones_are_kept.runs; numbered = ones_are_kept.numbered; keys = ones_are_kept.keys; arrivals = ones_name_zeros },
)

-- so their merge is_placed_run the lines that it takes
placed_run : IsPlacedRun (tcp header) 0 7 (merged_lines header 7 zeros ones) (merged header 7 zeros ones)
placed_run = is_placed_run (tcp header) (λ n. refl) 0 7 zeros ones are_books

-- what host 1's read was told is what the sends of host 0's endpoint accepted
told_is_accepted : (told_to header 7 told ≡ hello) × (accepted_by header (first_of Zero) told ≡ hello)
told_is_accepted = (refl, refl)

-- these are the lines: each once, in the order of the merged steps
lines_are : merged_lines header 7 zeros ones ≡
    line 10 (CallBegin 1 (calls.Listen One 80 4))
    ∷ line 11 (CallEnd 1 (answers.Given 5))
    ∷ line 20 (CallBegin 2 (calls.Connect Zero 4000 80))
    ∷ line 21 (CallEnd 2 (answers.Given 6))
    ∷ line 30 (Sent Zero syn)
    ∷ line 40 (Came One syn)
    ∷ line 50 (Sent One syn_ack)
    ∷ line 50 (Came Zero syn_ack)
    ∷ line 70 (Sent Zero ack)
    ∷ line 80 (Came One ack)
    ∷ line 90 (CallBegin 1 (calls.Accept 5))
    ∷ line 91 (CallEnd 1 (answers.Given 7))
    ∷ line 100 (CallBegin 2 (calls.Send 6 hello))
    ∷ line 101 (CallEnd 2 (answers.Given 5))
    ∷ line 110 (Sent Zero five_bytes)
    ∷ line 1000110 (Expired Zero (record { lport = 4000; rport = 80; timer = Rto }))
    ∷ line 1000110 (Sent Zero five_bytes)
    ∷ line 1000120 (Came One five_bytes)
    ∷ line 1000130 (CallBegin 1 (calls.Recv 7 100))
    ∷ line 1000131 (CallEnd 1 (answers.Bytes hello))
    ∷ []
lines_are = refl
