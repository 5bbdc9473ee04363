-- An intact instance has a closure.
use Rattle.memory_laws.proofs.Closing.{closures_are_there}
use Rattle.memory_laws.proofs.Had.{ready_address}
use Rattle.memory_laws.proofs.Mapping.{blocks_are_there, map_is_there}
use Rattle.session_model.specs.State.{state}
use Rattle.session_promises.specs.Laws.{IntactHasClosure}

pub intact_has_closure : IntactHasClosure
intact_has_closure jmax h l graphs are i intact =
    let map = map_is_there jmax h l graphs are in
    let address = ready_address (state h).rows i intact.ready in
    let first = blocks_are_there jmax h l graphs are i address.0 address.1 in
    let closure = closures_are_there jmax h l graphs are map.0 map.1 i intact first.0 first.1 in
    (closure.0, record { graphs = graphs; are = are; spots = map.0; bound = map.1; intact = intact; first = first.0; starts = first.1; linked = closure.1 })
