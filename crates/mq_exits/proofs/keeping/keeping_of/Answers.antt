use Rattle.mq_exits.proofs.keeping.keeping_of.Goals as goal

pub returns-in-Passing : goal.returns-in-Passing
returns-in-Passing g c = c.passing_of.ensures c.args.keep
