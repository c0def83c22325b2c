use Rattle.endpoint_state.proofs.Rooms.{has_room, have_room}
use Rattle.endpoint_state.proofs.laws.have_room.Goals as goal

pub returns : goal.returns
returns c = record { endpoint = has_room; endpoints = have_room }
