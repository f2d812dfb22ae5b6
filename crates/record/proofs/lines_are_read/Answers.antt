use Rattle.record.proofs.Entries.{sent_read, day_read, opening_read}
use Rattle.record.proofs.lines_are_read.Goals as goal

pub returns : goal.returns
returns c = record { sent = sent_read; day = day_read; opening = opening_read }
