-- A number is read from its decimal digits, and from nothing else.
use Rattle.std.proofs.Common.{◌≡◌, ℕ, zero, suc, ◌+◌, ◌^◌, ◌<◌, Bool, true, false, cond, ◌&&◌, eqb, ltb, List, [], ◌∷◌, ◌++◌, length, get_or, take, drop, Some, None, Ok, Err, decimal, Result, sym, refl, ap, ◌∙◌, subst, one-add, arith, take-append-drop, rules}
use Rattle.std.proofs.lemmas.Fmt.{decimal-digits_value, digits_decimal, digits_value-decimal, decimal_nonempty, first_decimal, decimal_digit}
use Rattle.std.proofs.lemmas.List.{length-take-le, take_at, drop_at}
use Rattle.std.proofs.lemmas.Str.Parse.{IsNumeralModel, numerals_by_fold}
use Rattle.std.proofs.lemmas.List.Sums.{prefix_len-le-length}
use Rattle.std.proofs.lemmas.Bool.Decides.{nat_tests}
use Rattle.std.specs.Option.{ok_or}
use Rattle.std.specs.Char.{is_ascii_digit}
use Rattle.std.specs.List.{prefix_len}
use Rattle.std.specs.Str.{all_ascii_digits}
use Rattle.text.specs.declared.numbers.NumberFault.{NumberFault}
use Rattle.text.specs.declared.numbers.NumberFault.TheVariants.{DigitExpected, LeadingZero, TooGreat}
use Rattle.text.specs.Number.{value_after, value_of, small, whole_number, before, number, NoDigit, Read, BadNumber, ReadsNumber}

own : IsNumeralModel (λ ds. all_ascii_digits ds ≡ true) value_of
own = numerals_by_fold _ (search rules) value_after (search rules)

-- the bytes before the first that is no digit
leading_digits : (bs : List ℕ) → all_ascii_digits (take (prefix_len is_ascii_digit bs) bs) ≡ true
leading_digits [] = refl
leading_digits (b ∷ bs) = go (is_ascii_digit b) refl (leading_digits bs)
  where
    go : (v : Bool) → is_ascii_digit b ≡ v → all_ascii_digits (take (prefix_len is_ascii_digit bs) bs) ≡ true → all_ascii_digits (take (cond v (1 + prefix_len is_ascii_digit bs) 0) (b ∷ bs)) ≡ true
    go true is more = rw one-add (rw is more)
    go false is more = refl

-- no digit follows them
leading_stops : (bs : List ℕ) → prefix_len is_ascii_digit (drop (prefix_len is_ascii_digit bs) bs) ≡ 0
leading_stops [] = refl
leading_stops (b ∷ bs) = go (is_ascii_digit b) refl (leading_stops bs)
  where
    go : (v : Bool) → is_ascii_digit b ≡ v → prefix_len is_ascii_digit (drop (prefix_len is_ascii_digit bs) bs) ≡ 0 → prefix_len is_ascii_digit (drop (cond v (1 + prefix_len is_ascii_digit bs) 0) (b ∷ bs)) ≡ 0
    go true is more = rw one-add more
    go false is more = rw is refl

leading_all : (ds rest : List ℕ) → all_ascii_digits ds ≡ true → prefix_len is_ascii_digit rest ≡ 0 → prefix_len is_ascii_digit (ds ++ rest) ≡ length ds
leading_all [] rest all stop = stop
leading_all (d ∷ ds) rest all stop = go (is_ascii_digit d) all (leading_all ds rest)
  where
    go : (v : Bool) → (v && all_ascii_digits ds) ≡ true → (all_ascii_digits ds ≡ true → prefix_len is_ascii_digit rest ≡ 0 → prefix_len is_ascii_digit (ds ++ rest) ≡ length ds) → cond v (1 + prefix_len is_ascii_digit (ds ++ rest)) 0 ≡ suc (length ds)
    go true all more = omega (arith, more all stop)
    go false all more = cc

-- what an accepted number says of the length of its digits, the first digit and their value
abbrev whole : ℕ → ℕ → ℕ → Result ℕ NumberFault
whole l first v = cond (eqb l 0) (Err DigitExpected) (cond (eqb first 48 && ltb 1 l) (Err LeadingZero) (ok_or (small v) TooGreat))

record Accepted (l first v n : ℕ) : Type 0 where
  some : 0 < l
  plain : first ≡ 48 → l ≡ 1
  value : v ≡ n
  fits : v < 2 ^ 32

accepted : (l first v n : ℕ) → whole l first v ≡ Ok n → Accepted l first v n
accepted l first v n is = record { some = grind (arith, nat_tests); plain = λ zero. grind (arith, nat_tests); value = grind (arith, nat_tests); fits = grind (arith, nat_tests) }

accepts : (l first v : ℕ) → 0 < l → (first ≡ 48 → l ≡ 1) → v < 2 ^ 32 → whole l first v ≡ Ok v
accepts l first v some plain fits = grind (arith, nat_tests)

whole_ok : (ds : List ℕ) (n : ℕ) → all_ascii_digits ds ≡ true → whole_number ds ≡ Ok n → ds ≡ decimal n
whole_ok ds n all is =
    let h = accepted (length ds) (get_or ds 0 0) (value_of ds) n is in
    sym (decimal-digits_value own ds all h.some h.plain (omega (arith, h.fits))) ∙ ap decimal h.value

one_zero : (n : ℕ) → n < 2 ^ 64 → get_or (decimal n) 0 0 ≡ 48 → length (decimal n) ≡ 1
one_zero zero fits is = rw (decimal_digit 0 (omega arith)) refl
one_zero (suc n) fits is = absurd (omega (arith, first_decimal (suc n) (omega arith) fits))

whole_back : (n : ℕ) → n < 2 ^ 32 → whole_number (decimal n) ≡ Ok n
whole_back n fits =
    let wide : n < 2 ^ 64 = omega arith in
    let value = digits_value-decimal own n wide in
    accepts (length (decimal n)) (get_or (decimal n) 0 0) (value_of (decimal n)) (decimal_nonempty n wide) (one_zero n wide) (omega arith) ∙ ap Ok value

before_ok : {A E : Type 0} (rest : List ℕ) (r : Result A E) (x : A) (after : List ℕ) → before rest r ≡ Ok (x, after) → (r ≡ Ok x) × (rest ≡ after)
before_ok {A} rest (Ok y) x after is =
    let pair : ◌≡◌ {A = A × List ℕ} (y, rest) (x, after) = cc in
    (ap (λ p. Ok p.0) pair, ap (λ p. p.1) pair)
before_ok rest (Err e) x after is = (cc, cc)

pub number_ok : (bs rest : List ℕ) (n : ℕ) → number bs ≡ Ok (n, rest) → Read bs rest n
unfolding number
number_ok bs rest n is =
    let k = prefix_len is_ascii_digit bs in
    let ds = take k bs in
    let parts = before_ok (drop k bs) (whole_number ds) n rest is in
    let digits = whole_ok ds n (leading_digits bs) parts.0 in
    let h = accepted (length ds) (get_or ds 0 0) (value_of ds) n parts.0 in
    record {
      text = sym (take-append-drop k bs) ∙ (λ i. digits i ++ parts.1 i);
      stops = ap (prefix_len is_ascii_digit) (sym parts.1) ∙ leading_stops bs;
      fits = omega (arith, h.value, h.fits);
    }

pub number_back : (n : ℕ) (rest : List ℕ) → n < 2 ^ 32 → NoDigit rest → number (decimal n ++ rest) ≡ Ok (n, rest)
unfolding number
number_back n rest fits stop =
    let k = leading_all (decimal n) rest (digits_decimal own n (omega arith)) stop in
    let front = ap (λ j. take j (decimal n ++ rest)) k ∙ take_at (decimal n) rest _ refl in
    let back = ap (λ j. drop j (decimal n ++ rest)) k ∙ drop_at (decimal n) rest _ refl in
    (λ i. before (back i) (whole_number (front i))) ∙ ap (before rest) (whole_back n fits)

before_err : {A E : Type 0} (rest : List ℕ) (r : Result A E) (e : E) → before rest r ≡ Err e → r ≡ Err e
before_err rest (Ok y) e is = cc
before_err rest (Err d) e is = cc

-- why no number is read
data Refusal (l first v : ℕ) (why : NumberFault) : Type 0 where
  none : why ≡ DigitExpected → l ≡ 0 → Refusal l first v why
  zeros : why ≡ LeadingZero → first ≡ 48 → 1 < l → Refusal l first v why
  great : why ≡ TooGreat → 4294967295 < v → Refusal l first v why

refusal : (l first v : ℕ) (why : NumberFault) → whole l first v ≡ Err why → Refusal l first v why
refusal l first v why is = go (eqb l 0) refl (eqb first 48 && ltb 1 l) refl (ltb v (2 ^ 32)) refl is
  where
    go : (a : Bool) → eqb l 0 ≡ a → (b : Bool) → (eqb first 48 && ltb 1 l) ≡ b → (d : Bool) → ltb v (2 ^ 32) ≡ d → cond a (Err DigitExpected) (cond b (Err LeadingZero) (ok_or (cond d (Some v) None) TooGreat)) ≡ Err why → Refusal l first v why
    go true ea b eb d ed is = none (cc) (grind (arith, nat_tests))
    go false ea true eb d ed is = zeros (cc) (grind (arith, nat_tests)) (grind (arith, nat_tests))
    go false ea false eb true ed is = (cc)
    go false ea false eb false ed is = great (cc) (grind (arith, nat_tests))

two_digits : (ds : List ℕ) → all_ascii_digits ds ≡ true → get_or ds 0 0 ≡ 48 → 1 < length ds → (d : ℕ) × ((rest : List ℕ) × ((ds ≡ 48 ∷ (d ∷ rest)) × (is_ascii_digit d ≡ true)))
two_digits [] all first more = absurd (omega arith)
two_digits (a ∷ []) all first more = absurd (omega arith)
two_digits (a ∷ b ∷ ds) all first more = (b, (ds, (ap (λ x. x ∷ (b ∷ ds)) first, second (is_ascii_digit a) (is_ascii_digit b) all)))
  where
    second : (u v : Bool) → (u && (v && all_ascii_digits ds)) ≡ true → v ≡ true
    second true true all = refl
    second true false all = cc
    second false v all = cc

explained : (bs ds rest : List ℕ) (why : NumberFault) → bs ≡ ds ++ rest → all_ascii_digits ds ≡ true → prefix_len is_ascii_digit bs ≡ length ds → Refusal (length ds) (get_or ds 0 0) (value_of ds) why → BadNumber bs why
explained bs ds rest why whole all front (none e empty) = subst (BadNumber bs) (sym e) (front ∙ empty)
explained bs ds rest why whole all front (zeros e first more) =
    let two = two_digits ds all first more in
    subst (BadNumber bs) (sym e) (two.0, (two.1.0 ++ rest, (whole ∙ ap (λ l. l ++ rest) two.1.1.0, two.1.1.1)))
explained bs ds rest why whole all front (great e over) = subst (BadNumber bs) (sym e) (ds, (rest, (whole, (all, over))))

pub number_err : (bs : List ℕ) (why : NumberFault) → number bs ≡ Err why → BadNumber bs why
unfolding number
number_err bs why is =
    let k = prefix_len is_ascii_digit bs in
    let ds = take k bs in
    let rest = drop k bs in
    let front = sym (length-take-le k bs (prefix_len-le-length is_ascii_digit bs)) in
    explained bs ds rest why (sym (take-append-drop k bs)) (leading_digits bs) front
    (refusal (length ds) (get_or ds 0 0) (value_of ds) why (before_err rest (whole_number ds) why is))

pub reads_number : (bs : List ℕ) (r : Result (ℕ × List ℕ) NumberFault) → r ≡ number bs → ReadsNumber bs r
reads_number bs (Ok x) is = number_ok bs x.1 x.0 (sym is)
reads_number bs (Err why) is = number_err bs why (sym is)
