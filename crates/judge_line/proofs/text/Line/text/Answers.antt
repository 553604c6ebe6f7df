-- The line of an acceptance is that of its certificate, the line of a refusal that of its number and its place.
use Rattle.judge_line.proofs.Lines.{accepted_shown, refused_shown}
use Rattle.judge_line.proofs.text.Line.text.Goals as goal

pub returns-in-Ok : goal.returns-in-Ok
returns-in-Ok c = accepted_shown c.args.self.now _ c.in-Ok.is c.accepted_line.ensures

pub returns-in-Err : goal.returns-in-Err
returns-in-Err c = refused_shown c.args.self.now _ _ c.in-Err.is c.number.ensures c.refused_line.ensures
