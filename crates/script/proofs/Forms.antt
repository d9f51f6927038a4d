-- A line is read by a form exactly when it is the form's keys, each followed by its number in decimal.
use Rattle.std.proofs.Common.{◌≡◌, ℕ, List, [], ◌∷◌, ◌++◌, Some, None, Ok, Err, decimal, Option, Result, refl, ap, ◌∙◌}
use Rattle.std.specs.Result.{result_ok}
use Rattle.std.specs.List.{AllByRecursion}
use Rattle.text.specs.Front.{after}
use Rattle.text.specs.Number.{number, NoDigit}
use Rattle.text.proofs.Fronts.{after_front, front_after}
use Rattle.text.proofs.Decimal.{number_ok, number_back}
use Rattle.script.specs.Form.{and_then, field, ended, Numbers, Maker, reads, form_text, Word, Words}

-- what was read before something else was made of it
pub then_some : {A B : Type 0} (r : Option A) (f : A → Option B) (y : B) → and_then r f ≡ Some y → (x : A) × ((r ≡ Some x) × (f x ≡ Some y))
then_some None f y is = cc
then_some (Some x) f y is = (x, (refl, is))

ok_part : {A E : Type 0} (r : Result A E) (x : A) → result_ok r ≡ Some x → r ≡ Ok x
ok_part (Ok y) x is = cc
ok_part (Err e) x is = cc

-- a field that is read is its key, its number and the rest
field_read : (k bs : List ℕ) (x : ℕ × List ℕ) → field k bs ≡ Some x → (bs ≡ k ++ (decimal x.0 ++ x.1)) × Word x.0
unfolding field
field_read k bs x is =
    let front = then_some (after k bs) _ x is in
    let read = number_ok front.0 x.1 x.0 (ok_part (number front.0) x front.1.1) in
    (front_after k bs front.0 front.1.0 ∙ ap (λ l. k ++ l) read.text, read.fits)

field_back : (k : List ℕ) (n : ℕ) (rest : List ℕ) → Word n → NoDigit rest → field k (k ++ (decimal n ++ rest)) ≡ Some (n, rest)
unfolding field
field_back k n rest fits stop =
    ap (λ r. and_then r (λ t. result_ok (number t))) (after_front k (decimal n ++ rest)) ∙ ap result_ok (number_back n rest fits stop)

end_some : (bs : List ℕ) (x : Unit {0}) → ended bs ≡ Some x → bs ≡ []
end_some [] x is = refl
end_some (b ∷ bs) x is = cc

-- what f makes of a number for each key
abbrev pub given : {A : Type 0} (ks : List (List ℕ)) → Maker ks A → Numbers ks → A
given [] f ns = f
given (k ∷ ks) f ns = given ks (f ns.0) ns.1

-- a line is the keys ks, each followed by a number of 32 bits, and f makes x of these
pub record Made {A : Type 0} (ks : List (List ℕ)) (f : Maker ks (Option A)) (bs : List ℕ) (x : A) : Type 0 where
  pub numbers : Numbers ks
  pub text : bs ≡ form_text ks numbers
  pub words : Words ks numbers
  pub made : given ks f numbers ≡ Some x

pub reads_some : {A : Type 0} (ks : List (List ℕ)) (f : Maker ks (Option A)) (bs : List ℕ) (x : A) → reads ks f bs ≡ Some x → Made ks f bs x
reads_some [] f bs x is =
    let e = then_some (ended bs) _ x is in
    record { numbers = tt; text = end_some bs e.0 e.1.0; words = tt; made = e.1.1 }
reads_some (k ∷ ks) f bs x is =
    let first = then_some (field k bs) _ x is in
    let n = first.0.0 in
    let read = field_read k bs first.0 first.1.0 in
    let more = reads_some ks (f n) first.0.1 x first.1.1 in
    record {
      numbers = (n, more.numbers);
      text = read.0 ∙ ap (λ l. k ++ (decimal n ++ l)) more.text;
      words = (read.1, more.words);
      made = more.made;
    }

-- a key that does not go on with the number in front of it
abbrev pub Parted : List ℕ → Type 0
Parted k = (rest : List ℕ) → NoDigit (k ++ rest)

form_stops : (ks : List (List ℕ)) (ns : Numbers ks) → AllByRecursion Parted ks → NoDigit (form_text ks ns)
form_stops [] ns parted = refl
form_stops (k ∷ ks) ns parted = parted.0 (decimal ns.0 ++ form_text ks ns.1)

pub reads_back : {A : Type 0} (ks : List (List ℕ)) (f : Maker ks (Option A)) (ns : Numbers ks) → AllByRecursion Parted ks → Words ks ns → reads ks f (form_text ks ns) ≡ given ks f ns
reads_back [] f ns parted words = refl
reads_back (k ∷ ks) f ns parted words =
    let stop = form_stops ks ns.1 parted.1 in
    ap (λ r. and_then r (λ x. reads ks (f x.0) x.1)) (field_back k ns.0 (form_text ks ns.1) words.0 stop) ∙ reads_back ks (f ns.0) ns.1 parted.1 words.1
