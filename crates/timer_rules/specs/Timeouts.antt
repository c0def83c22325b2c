-- The retransmission timeout (RFC 6298). Times are in microseconds.
use Rattle.std.specs.Prelude.{ℕ, ◌+◌, ◌-◌, ◌*◌, ◌/◌, min, max, Option, None, Some}
use Rattle.case_forms.specs.declared.trace.Header.{Header}

-- the timeout never passes a minute (RFC 6298, 2.5)
abbrev pub longest_rto : ℕ
longest_rto = 60000000

-- the timeout before the first sample (RFC 6298, 2.1)
abbrev pub first_rto : ℕ
first_rto = 1000000

-- the least timeout for data if the SYN was lost (RFC 6298, 5.7)
abbrev pub lost_syn_rto : ℕ
lost_syn_rto = 3000000

-- by how much two times differ
abbrev pub distance : ℕ → ℕ → ℕ
distance a b = (a - b) + (b - a)

-- SRTT after a sample: the sample, then seven eighths of the old one and an eighth of the sample (RFC 6298, 2.2 and
-- 2.3)
abbrev pub srtt_after : Option ℕ → ℕ → ℕ
srtt_after None r = r
srtt_after (Some srtt) r = (7 * srtt + r) / 8

-- RTTVAR after a sample: half of it, then three quarters of the old one and a quarter of how far the sample is from the
-- old SRTT (RFC 6298, 2.2 and 2.3)
abbrev pub rttvar_after : Option ℕ → ℕ → ℕ → ℕ
rttvar_after None rttvar r = r / 2
rttvar_after (Some srtt) rttvar r = (3 * rttvar + distance srtt r) / 4

-- the timeout from SRTT and RTTVAR: at least the minimum, at most a minute (RFC 6298, 2.2 to 2.5)
abbrev pub timeout : Header → ℕ → ℕ → ℕ
timeout h srtt rttvar = min longest_rto (max h.minrto (srtt + max h.grain (4 * rttvar)))

-- twice the timeout, at most a minute (RFC 6298, 5.5)
abbrev pub doubled : ℕ → ℕ
doubled rto = min longest_rto (2 * rto)
