use Rattle.mq_exits.proofs.load.Held.load.Goals as goal

pub returns-clause-told : goal.returns-clause-told
returns-clause-told c k = (c.args.self.now.plan.now, c.args.self.now.rows.now, c.args.self.now.number, c.stream.ensures k)
