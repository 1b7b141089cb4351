use Rattle.std.proofs.Common.{◌≡◌, ◌++◌, [], map, take}
use Rattle.std.specs.List.{flat_map}
use Rattle.mq_model.specs.Printed.{line_text, printed, said_words}
use Rattle.mq_model.specs.SaidOf.{names_in, node_by}
use Rattle.mq_model.proofs.print.print_model.Given as goal

-- the head and the bound, and the lines of the nodes so far
abbrev pub invariant-loop-node : goal.invariant-loop-node
invariant-loop-node l =
    l.text.items ≡ printed (record { nodes = []; columns = []; bound = l.net.bound; version = l.net.version })
    ++ flat_map line_text (map said_words (map (node_by (names_in l.net) l.net.columns) (take l.node-index l.net.nodes)))
