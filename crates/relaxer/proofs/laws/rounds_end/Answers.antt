use Rattle.relaxer.proofs.Rounds.{round_grows, rounds_end, one_layout, last_round_stays}
use Rattle.relaxer.proofs.laws.rounds_end.Goals as goal

pub returns : goal.returns
returns c = record { grows = round_grows; ends = rounds_end; one = one_layout; last = last_round_stays }
