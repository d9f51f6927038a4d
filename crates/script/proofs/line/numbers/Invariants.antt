use Rattle.std.proofs.Common.{◌≡◌, ◌++◌, length, take, drop, map}
use Rattle.std.specs.Option.{option_map}
use Rattle.script.specs.Form.{numbers_of}
use Rattle.script.proofs.line.numbers.Given as goal

-- the numbers of the line are those that were read, followed by those of the rest
abbrev pub invariant-loop-i : goal.invariant-loop-i
invariant-loop-i g l = record {
  places : length l.numbers ≡ g.row.N;
  read : numbers_of (map (λ key. key.now) l.keys) l.line ≡ option_map (λ ns. take l.i l.numbers ++ ns) (numbers_of (map (λ key. key.now) (drop l.i l.keys)) l.rest);
}
