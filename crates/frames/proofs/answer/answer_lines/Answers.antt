use Rattle.std.proofs.Common.{◌+◌, ◌++◌, string_bytes, sym, refl, ap, ◌∙◌, arith}
use Rattle.frames.proofs.Turns.{sofar_more, sofar_refused}
use Rattle.frames.specs.Answer.{line}
use Rattle.frames.specs.Texts.{refusal_text}
use Rattle.frames.proofs.answer.answer_lines.Goals as goal

pub returns-in-Err : goal.returns-in-Err
returns-in-Err c =
    let steps = c.in-Some.ensures.steps in
    let wrote = c.in_ok-writeln-in-Err.ensures.bytes ∙ ap (λ n. string_bytes c.loop-before.out ++ line (refusal_text (record { line = n + 1; fault = c.in-Err.fault }))) steps.1 in
    sofar_refused c.loop-before.invariant.2 _ _ steps.0 c.in-Err.fault (string_bytes c.writeln-in-Err.new.self) (sym c.in-Err.ensures) wrote

pub loop-before-preserved : goal.loop-before-preserved
loop-before-preserved c =
    let steps = c.in-Some.ensures.steps in
    let total = ap (λ m. c.loop-before.tally.micros + m) c.from.ensures in
    (c.in-Some.ensures.goes.keeps, tt, sofar_more c.loop-before.invariant.2 _ _ steps.0 c.in-Ok.timed _ (string_bytes c.writeln.new.self) _ (sym c.in-Ok.ensures) steps.2 (grind arith) c.in_ok-writeln-in-Ok.ensures.bytes refl total)
