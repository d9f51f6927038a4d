use Rattle.text.proofs.FirstLine.{lines_are}
use Rattle.text.specs.Lines.{lines}
use Rattle.bookrun.proofs.Lawful.{sound_throughout}
use Rattle.bookrun.proofs.answer.answer.Goals as goal

pub returns-in_err-answer_lines-clause-lines : goal.returns-in_err-answer_lines-clause-lines
returns-in_err-answer_lines-clause-lines c = lines_are c.args.script.now

pub returns-in_err-answer_lines-clause-sound : goal.returns-in_err-answer_lines-clause-sound
returns-in_err-answer_lines-clause-sound c = sound_throughout (lines c.args.script.now)

pub returns-clause-lines : goal.returns-clause-lines
returns-clause-lines c = lines_are c.args.script.now

pub returns-clause-sound : goal.returns-clause-sound
returns-clause-sound c = sound_throughout (lines c.args.script.now)
