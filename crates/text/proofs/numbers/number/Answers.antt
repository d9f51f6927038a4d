use Rattle.std.proofs.Common.{◌≡◌, Ok, arith, rules}
use Rattle.std.specs.Char.{is_ascii_digit}
use Rattle.std.proofs.lemmas.List.Sums.{prefix_len-le-length}
use Rattle.text.specs.Number.{number, seen}
use Rattle.text.proofs.Decimal.{reads_number}
use Rattle.text.proofs.numbers.number.Goals as goal

pub split_at-requires : goal.split_at-requires
split_at-requires c = omega (arith, c.digit_count.ensures, prefix_len-le-length is_ascii_digit c.args.text.now)

pub returns-in_err-n : goal.returns-in_err-n
unfolding number
returns-in_err-n c =
    let read : seen c.from_residual.result ≡ number c.args.text.now = search rules in
    record { value = read; exact = reads_number c.args.text.now (seen c.from_residual.result) read }

pub returns : goal.returns
unfolding number
returns c =
    let read : Ok (c.in_ok-n.n, c.split_at.result.1.now) ≡ number c.args.text.now = search rules in
    record { value = read; exact = reads_number c.args.text.now (Ok (c.in_ok-n.n, c.split_at.result.1.now)) read }
