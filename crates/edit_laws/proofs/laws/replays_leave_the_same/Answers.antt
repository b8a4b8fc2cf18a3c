use Rattle.std.proofs.Common.{refl}
use Rattle.asm_unit.specs.Held.{entries_of}
use Rattle.edit_laws.proofs.Names.{LastingStay, lasting_stay, same_names}
use Rattle.edit_laws.proofs.OtherFunctions.{OthersStay, others_stay, stays_refl}
use Rattle.edit_laws.proofs.Rooms.{RoomStays, room_stays}
use Rattle.edit_laws.proofs.Runs.{replay_sound, of_replay}
use Rattle.edit_laws.proofs.laws.replays_leave_the_same.Goals as goal

pub returns-clause-sound : goal.returns-clause-sound
returns-clause-sound c = λ u v f es. replay_sound f es u v

pub returns-clause-others : goal.returns-clause-others
returns-clause-others c = λ u v f k es sound proper replayed. of_replay f (OthersStay f) (others_stay f) es u v (λ j apart. stays_refl u j) sound proper replayed k

pub returns-clause-names : goal.returns-clause-names
returns-clause-names c = λ u v f es sound proper replayed. same_names (entries_of v.held) (entries_of u.held) (of_replay f LastingStay (lasting_stay f) es u v refl sound proper replayed)

pub returns-clause-lasting : goal.returns-clause-lasting
returns-clause-lasting c = λ u v f es. of_replay f LastingStay (lasting_stay f) es u v refl

pub returns-clause-room : goal.returns-clause-room
returns-clause-room c = λ u v f es. of_replay f RoomStays (room_stays f) es u v (λ r. r)
