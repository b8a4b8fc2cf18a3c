use Rattle.edit_laws.proofs.Steps.{of_edit}
use Rattle.edit_laws.proofs.Rooms.{RoomStays, room_stays}
use Rattle.edit_laws.proofs.laws.room_stays.Goals as goal

pub returns : goal.returns
returns c = λ u v f e. of_edit f RoomStays (room_stays f) u v e
