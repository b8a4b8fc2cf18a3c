use Rattle.pass_rules.proofs.Determined.{one_list_of_goals, one_list_of_loops, one_list_of_branches}
use Rattle.pass_rules.proofs.laws.one_list_is_asked_for.Goals as goal

pub returns-clause-loops : goal.returns-clause-loops
returns-clause-loops c = one_list_of_loops

pub returns-clause-branches : goal.returns-clause-branches
returns-clause-branches c = one_list_of_branches

pub returns-clause-goals : goal.returns-clause-goals
returns-clause-goals c = one_list_of_goals
