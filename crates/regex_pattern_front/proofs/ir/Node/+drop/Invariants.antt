use Rattle.regex_pattern_front.specs.IterativeDropMeasure.{drop_measure_of_node_and_rest}
use Rattle.regex_pattern_front.proofs.ir.Node.+drop.Given as goal

abbrev pub decreases-loop-node : goal.decreases-loop-node
decreases-loop-node l = drop_measure_of_node_and_rest l.self l.rest
