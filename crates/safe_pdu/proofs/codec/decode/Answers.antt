use Rattle.safe_pdu.proofs.ReadByField.{found_by_places, fault_by_places, only_by_places}
use Rattle.safe_pdu.proofs.codec.decode.Goals as goal

pub returns-clause-found : goal.returns-clause-found
returns-clause-found c = found_by_places _ _ _ c.type_inv.octets c.read_places.ensures

pub returns-clause-only : goal.returns-clause-only
returns-clause-only c = only_by_places _ _ _ c.read_places.ensures

pub returns-clause-fault : goal.returns-clause-fault
returns-clause-fault c = fault_by_places _ _ _ c.read_places.ensures
