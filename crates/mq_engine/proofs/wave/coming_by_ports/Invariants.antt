use Rattle.std.proofs.Common.{◌≡◌, ◌*◌, ◌≤◌, length, take}
use Rattle.std.specs.List.{flat_map}
use Rattle.mq_arrivals.specs.Arrivals.{pairs_read}
use Rattle.mq_engine.proofs.wave.coming_by_ports.Given as goal

-- what comes by the ports so far
abbrev pub invariant-loop-port : goal.invariant-loop-port
invariant-loop-port l = (l.count ≡ length (flat_map (pairs_read l.arriving.outputs.now) (take l.port l.inputs))) × (l.count ≤ l.port * 1048576)
