use Rattle.desk_text.proofs.Ends.{ended, unended}
use Rattle.desk_text.proofs.command.without_end.Goals as goal

pub returns-in-len1-up : goal.returns-in-len1-up
returns-in-len1-up c = ended c.args.byte c.args.line.now c.in-len1-up.len_at_least c.if-last-byte.true

pub returns-in_default-2 : goal.returns-in_default-2
returns-in_default-2 c = unended c.args.byte c.args.line.now c.in-len1-up.len_at_least c.if-last-byte.false
