use Rattle.record.proofs.admit.Goals as goal

pub returns-in-Sent : goal.returns-in-Sent
returns-in-Sent g c b = rw (c.in-Sent.is, ← c.deref.ensures.value) (c.receive.ensures.value b)

pub returns-in-Day : goal.returns-in-Day
returns-in-Day g c b = rw c.in-Day.is (c.day.ensures.value g.D.Digester.hash b)
