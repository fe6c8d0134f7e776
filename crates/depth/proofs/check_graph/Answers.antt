-- The answer is that of the check with a buffer for the order, whose tables are 0 and 1.
use Rattle.model.specs.Calls.{check_answer}
use Rattle.depth.proofs.check_graph.Goals as goal

pub returns : goal.returns
unfolding check_answer
returns c = c.check_graph_with.ensures.answers
