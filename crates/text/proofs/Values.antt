-- The value of digits, one digit after the other.
use Rattle.std.proofs.Common.{◌≡◌, ℕ, ◌+◌, ◌-◌, ◌*◌, ◌^◌, ◌<◌, ◌≤◌, List, [], ◌∷◌, length, get_or, drop, Some, None, sym, ◌∙◌, arith}
use Rattle.std.proofs.lemmas.List.{at_drop_more, at_drop_all}
use Rattle.std.proofs.lemmas.Bool.Decides.{nat_tests}
use Rattle.text.specs.Number.{value_after, small}

-- a value only grows
grows : (n : ℕ) (ds : List ℕ) → n ≤ value_after n ds
grows n [] = omega arith
grows n (d ∷ ds) = omega (arith, grows (n * 10 + (d - 48)) ds)

-- one digit more
pub value_more : (n : ℕ) (ds : List ℕ) (i v : ℕ) → i < length ds → value_after n (drop i ds) ≡ v → value_after (n * 10 + (get_or ds i 0 - 48)) (drop (i + 1) ds) ≡ v
value_more n ds i v h is = sym (at_drop_more (value_after n) ds i 0 h) ∙ is

-- no digit more
pub value_all : (n : ℕ) (ds : List ℕ) (i v : ℕ) → length ds ≤ i → n < 2 ^ 32 → value_after n (drop i ds) ≡ v → Some n ≡ small v
value_all n ds i v h fits is = let same = sym (at_drop_all (value_after n) ds i h) ∙ is in grind (arith, nat_tests)

-- once the value is too great it stays so
pub too_great : (n : ℕ) (ds : List ℕ) (i v : ℕ) → i < length ds → 2 ^ 32 ≤ n * 10 + (get_or ds i 0 - 48) → value_after n (drop i ds) ≡ v → None ≡ small v
too_great n ds i v h big is =
    let more = grows (n * 10 + (get_or ds i 0 - 48)) (drop (i + 1) ds) in
    let next = value_more n ds i v h is in
    let out : 2 ^ 32 ≤ v = omega arith in
    grind (arith, nat_tests)
