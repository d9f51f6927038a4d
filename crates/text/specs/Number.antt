-- Decimal numbers in a text.
use Rattle.std.specs.Prelude.{◌≡◌, ℕ, ◌+◌, ◌-◌, ◌*◌, ◌^◌, ◌<◌, true, cond, ◌&&◌, List, [], ◌∷◌, ◌++◌, length, take, drop, Some, None, Ok, Err, decimal, Option, Result, MatchResult, ◌==◌, nat_lt, slice_index}
use Rattle.std.specs.Borrow.{Bor}
use Rattle.std.specs.Char.{is_ascii_digit}
use Rattle.std.specs.Option.{ok_or}
use Rattle.std.specs.List.{prefix_len}
use Rattle.std.specs.Str.{all_ascii_digits}
use Rattle.text.specs.declared.numbers.NumberFault.{NumberFault}
use Rattle.text.specs.declared.numbers.NumberFault.TheVariants.{DigitExpected, LeadingZero, TooGreat}

-- the number that the digits ds write after those of n
abbrev pub value_after : ℕ → List ℕ → ℕ
value_after n [] = n
value_after n (d ∷ ds) = value_after (n * 10 + (d - 48)) ds

-- the number that digits write
abbrev pub value_of : List ℕ → ℕ
value_of ds = value_after 0 ds

-- n, where it is a number of 32 bits
abbrev pub small : ℕ → Option ℕ
small n = cond (nat_lt n (2 ^ 32)) (Some n) None

-- the number that the digits ds write: at least one digit, no 0 in front of another, at most 4,294,967,295
abbrev pub whole_number : List ℕ → Result ℕ NumberFault
whole_number ds =
    cond (length ds == 0) (Err DigitExpected)
    (cond (slice_index ds 0 == 48 && nat_lt 1 (length ds)) (Err LeadingZero) (ok_or (small (value_of ds)) TooGreat))

-- a value with the text after it
abbrev pub before : {A E : Type 0} → List ℕ → Result A E → Result (A × List ℕ) E
before rest (Ok x) = Ok (x, rest)
before rest (Err e) = Err e

-- the number that a text begins with, as far as its digits go, and the text after it
unfoldable pub number : List ℕ → Result (ℕ × List ℕ) NumberFault
number bs = before (drop (prefix_len is_ascii_digit bs) bs) (whole_number (take (prefix_len is_ascii_digit bs) bs))

-- what a reader answers, with the text that is left in place of the reference to it
abbrev pub seen : {E : Type 0} → Result (ℕ × Bor (List ℕ)) E → Result (ℕ × List ℕ) E
seen (Ok x) = Ok (x.0, x.1.now)
seen (Err e) = Err e

-- a text that does not begin with a digit
abbrev pub NoDigit : List ℕ → Type 0
NoDigit bs = prefix_len is_ascii_digit bs ≡ 0

-- a text is the decimal digits of n, of 32 bits, and then rest, which does not begin with a digit
pub record Read (bs rest : List ℕ) (n : ℕ) : Type 0 where
  pub text : bs ≡ decimal n ++ rest
  pub stops : NoDigit rest
  pub fits : n < 2 ^ 32

-- what is wrong with a text that must begin with a number
abbrev pub BadNumber : List ℕ → NumberFault → Type 0
BadNumber bs DigitExpected = NoDigit bs
BadNumber bs LeadingZero = (d : ℕ) × ((rest : List ℕ) × ((bs ≡ 48 ∷ (d ∷ rest)) × (is_ascii_digit d ≡ true)))
BadNumber bs TooGreat = (ds : List ℕ) × ((rest : List ℕ) × ((bs ≡ ds ++ rest) × ((all_ascii_digits ds ≡ true) × (4294967295 < value_of ds))))

-- the text of an accepted number is its decimal digits and then what is left; a refusal is explained by the text
abbrev pub ReadsNumber : List ℕ → Result (ℕ × List ℕ) NumberFault → Type 0
ReadsNumber bs r = MatchResult r (λ x. Read bs x.1 x.0) (BadNumber bs)
