-- What is late at the endpoints from some place on.
use Rattle.std.proofs.Common.{◌≡◌, ℕ, zero, suc, ◌+◌, ◌<◌, List, [], ◌∷◌, Option, refl, ap, subst, ◌∙◌, length, drop, arith}
use Rattle.std.specs.Option.{option_map_or}
use Rattle.std.specs.Prelude.{slice_get}
use Rattle.case_forms.specs.declared.calls.Host.{Host}
use Rattle.case_forms.specs.declared.trace.Header.{Header}
use Rattle.spec_tcp.specs.declared.endpoint.Endpoint.{Endpoint}
use Rattle.spec_duties.specs.declared.owed.Lates.{Lates}
use Rattle.spec_duties.specs.Watching.{Duties}
use Rattle.spec_duties.specs.End.{either, lates_at, lates_from}

module _ (h : Header) (slack moment : ℕ) (d : Duties) (host : Host) where
  abbrev with : Lates → ℕ → Option Endpoint → Lates
  with so_far place found = option_map_or (λ e. either so_far (lates_at h slack moment d host place e)) found so_far

  -- the endpoint at the index i, which has this place
  next : (es : List Endpoint) (i place : ℕ) (so_far : Lates) → i < length es
      → lates_from h slack moment d host (suc place) (with so_far place (slice_get es i)) (drop (suc i) es)
      ≡ lates_from h slack moment d host place so_far (drop i es)
  next [] i place so_far lt = absurd (omega (arith, lt))
  next (x ∷ es) zero place so_far lt = refl
  next (x ∷ es) (suc i) place so_far lt = next es i place so_far (omega (arith, lt))

  pub lates_next : (es : List Endpoint) (place : ℕ) (so_far : Lates) → place < length es
      → lates_from h slack moment d host (place + 1) (with so_far place (slice_get es place)) (drop (place + 1) es)
      ≡ lates_from h slack moment d host place so_far (drop place es)
  lates_next es place so_far lt =
      let more : suc place ≡ place + 1 = omega arith in
      subst (λ (n : ℕ). lates_from h slack moment d host n (with so_far place (slice_get es place)) (drop n es)
      ≡ lates_from h slack moment d host place so_far (drop place es)) more (next es place place so_far lt)

  -- nothing is left at the end
  at_end : (es : List Endpoint) (place : ℕ) (so_far : Lates) → lates_from h slack moment d host place so_far (drop (length es) es) ≡ so_far
  at_end [] place so_far = refl
  at_end (x ∷ es) place so_far = at_end es place so_far

  pub lates_done : (es : List Endpoint) (place : ℕ) (so_far : Lates) → place ≡ length es
      → lates_from h slack moment d host place so_far (drop place es) ≡ so_far
  lates_done es place so_far is =
      ap (λ (n : ℕ). lates_from h slack moment d host place so_far (drop n es)) is ∙ at_end es place so_far
