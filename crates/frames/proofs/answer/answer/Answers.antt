use Rattle.std.proofs.Common.{rules}
use Rattle.text.proofs.FirstLine.{lines_are}
use Rattle.frames.proofs.answer.answer.Goals as goal

pub returns-in_err-tally : goal.returns-in_err-tally
returns-in_err-tally c = record { text = search rules; lines = lines_are c.args.input.now }

pub returns-in_err-writeln : goal.returns-in_err-writeln
returns-in_err-writeln c = record { text = search rules; lines = lines_are c.args.input.now }

pub returns : goal.returns
returns c = record { text = search rules; lines = lines_are c.args.input.now }
