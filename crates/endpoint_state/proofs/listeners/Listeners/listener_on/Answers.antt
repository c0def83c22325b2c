use Rattle.std.proofs.Common.{◌∙◌, sym, ap, List, None, nat_eq, slice_get}
use Rattle.std.specs.Map.{lookup}
use Rattle.spec_tcp.specs.declared.endpoint.Listener.{Listener}
use Rattle.spec_tcp.specs.HostTcp.{last_from, listens_on}
use Rattle.endpoint_state.proofs.ListenLemmas.{unknown_port, no_port, open_port, closed_port}
use Rattle.endpoint_state.proofs.listeners.Listeners.listener_on.Goals as goal

pub returns-in_err-place : goal.returns-in_err-place
returns-in_err-place c = c.from_residual.ensures
    ∙ (sym (unknown_port (λ p. lookup (nat_eq p) c.self.inside.places.entries) c.self.inside.all.items c.self.invariant
    c.args.port (sym c.in_err-place.ensures.value))
    ∙ ap (λ (xs : List Listener). last_from (listens_on c.args.port) 0 None xs) c.self.view_is)

pub returns-in_err-listener : goal.returns-in_err-listener
returns-in_err-listener c = c.from_residual-in_err-listener.ensures
    ∙ (sym (no_port (λ p. lookup (nat_eq p) c.self.inside.places.entries) c.self.inside.all.items c.self.invariant
    c.args.port c.in_ok-place.field-0.now (sym c.in_ok-place.ensures.value)
    (ap (λ (xs : List Listener). slice_get xs c.in_ok-place.field-0.now) c.self.view_is
    ∙ sym c.in_err-listener.ensures))
    ∙ ap (λ (xs : List Listener). last_from (listens_on c.args.port) 0 None xs) c.self.view_is)

pub returns-then-listener : goal.returns-then-listener
returns-then-listener c =
    sym (open_port (λ p. lookup (nat_eq p) c.self.inside.places.entries) c.self.inside.all.items c.self.invariant
    c.args.port c.in_ok-place.field-0.now c.in_ok-listener.listener.now (sym c.in_ok-place.ensures.value)
    (ap (λ (xs : List Listener). slice_get xs c.in_ok-place.field-0.now) c.self.view_is
    ∙ sym c.in_ok-listener.ensures) c.if-listener.true)
    ∙ ap (λ (xs : List Listener). last_from (listens_on c.args.port) 0 None xs) c.self.view_is

pub returns-else-listener : goal.returns-else-listener
returns-else-listener c =
    sym (closed_port (λ p. lookup (nat_eq p) c.self.inside.places.entries) c.self.inside.all.items c.self.invariant
    c.args.port c.in_ok-place.field-0.now c.in_ok-listener.listener.now (sym c.in_ok-place.ensures.value)
    (ap (λ (xs : List Listener). slice_get xs c.in_ok-place.field-0.now) c.self.view_is
    ∙ sym c.in_ok-listener.ensures) c.if-listener.false)
    ∙ ap (λ (xs : List Listener). last_from (listens_on c.args.port) 0 None xs) c.self.view_is
