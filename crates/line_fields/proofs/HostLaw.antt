-- A host is read exactly where its number spells it, and the texts of the version name it.
use Rattle.std.proofs.Common.{◌≡◌, ◌≤◌, ◌<◌, ◌^◌, ℕ, List, [], ◌∷◌, ◌++◌, Ok, refl, sym, ap, ◌∙◌, arith, zero, suc}
use Rattle.std.specs.Fmt.{decimal}
use Rattle.case_forms.specs.declared.calls.Host.{Host}
use Rattle.case_forms.specs.declared.calls.Host.TheVariants.{Zero, One}
use Rattle.case_forms.specs.declared.version.Version.{Version}
use Rattle.case_forms.specs.declared.version.Version.TheVariants as versions
use Rattle.line_fields.specs.Reading.{number_field}
use Rattle.line_fields.specs.Hosts.{host_number, host_of, greatest_host, IsHost, host_field}
use Rattle.line_fields.specs.Reader.{Any, IsReader}
use Rattle.line_fields.specs.Spelling.{IsClean}
use Rattle.line_fields.proofs.Readers.{IsNumberField, reads_then, reads_done, reads_as, reads_number}
use Rattle.line_fields.proofs.Joined.{IsClean-decimal}

host_back : (h : Host) → host_of (host_number h) ≡ h
host_back Zero = refl
host_back One = refl

number_back : (n : ℕ) → n ≤ 1 → host_number (host_of n) ≡ n
number_back zero le = refl
number_back (suc zero) le = refl
number_back (suc (suc n)) le = absurd (omega arith)

at_most_one : (h : Host) → host_number h ≤ 1
at_most_one Zero = omega arith
at_most_one One = omega arith

two_hosts : (v : Version) → greatest_host v ≤ 1
two_hosts versions.One = omega arith
two_hosts versions.Two = omega arith
two_hosts versions.Three = omega arith
two_hosts versions.Four = omega arith
two_hosts versions.FourHalf = omega arith
two_hosts versions.Five = omega arith
two_hosts versions.FiveHalf = omega arith
two_hosts versions.Six = omega arith
two_hosts versions.SixHalf = omega arith

few_hosts : (v : Version) → greatest_host v < 2 ^ 64
few_hosts v = let two = two_hosts v in omega arith

named_back : (v : Version) (n : ℕ) → n ≤ greatest_host v → host_number (host_of n) ≡ n
named_back v n le = number_back n (let two = two_hosts v in omega arith)

-- the field of a host
abbrev pub IsHostField : Version → Host → List (List ℕ) → Type 0
IsHostField v h ws = IsHost v h × (ws ≡ decimal (host_number h) ∷ [])

pub reads_host : (v : Version) → IsReader (host_field v) (IsHostField v)
unfolding host_field
reads_host v =
    reads_as Any (host_field v) _ (IsHostField v)
    (reads_then Any (number_field 0 (greatest_host v)) (IsNumberField 0 (greatest_host v)) (λ n r. Ok (host_of n, r))
    (λ n h ws. (h ≡ host_of n) × (ws ≡ [])) (reads_number 0 (greatest_host v) (few_hosts v))
    (λ n. reads_done Any (host_of n)))
    (λ h ws d.
    let back = ap host_number d.4.0 ∙ named_back v d.0 d.3.1 in
    let within = d.3.1 in (
      omega (arith, back, within),
      d.5 ∙ ap (λ (us : List (List ℕ)). us ++ d.2) d.3.2
          ∙ ap (λ (vs : List (List ℕ)). decimal d.0 ∷ vs) d.4.1 ∙ ap (λ (n : ℕ). decimal n ∷ []) (sym back),
    ))
    (λ h ws s. (host_number h, decimal (host_number h) ∷ [], [], (omega arith, s.0, refl), (sym (host_back h), refl), s.1))

pub host_clean : (h : Host) → IsClean (decimal (host_number h))
host_clean h = IsClean-decimal (host_number h) (let le = at_most_one h in omega arith)
