-- A form reads what it makes of the numbers of a line.
use Rattle.std.proofs.Common.{◌≡◌, ℕ, List, [], ◌∷◌, Some, None, Option, refl, ◌∙◌}
use Rattle.std.specs.Option.{option_map}
use Rattle.script.specs.Form.{and_then, field, ended, Maker, reads, numbers_of}

-- what f makes of a list of numbers, one for each key
abbrev pub given_list : {A : Type 0} (ks : List (List ℕ)) → Maker ks (Option A) → List ℕ → Option A
given_list [] f [] = f
given_list [] f (n ∷ ns) = None
given_list (k ∷ ks) f [] = None
given_list (k ∷ ks) f (n ∷ ns) = given_list ks (f n) ns

-- the same for the first number and those of the other keys
given_first : {A : Type 0} (k : List ℕ) (ks : List (List ℕ)) (f : Maker (k ∷ ks) (Option A)) (n : ℕ) (r : Option (List ℕ)) → and_then r (given_list ks (f n)) ≡ and_then (option_map (λ ns. n ∷ ns) r) (given_list (k ∷ ks) f)
given_first k ks f n None = refl
given_first k ks f n (Some ns) = refl

-- a line is read by a form as what f makes of its numbers
pub reads_numbers : {A : Type 0} (ks : List (List ℕ)) (f : Maker ks (Option A)) (bs : List ℕ) → reads ks f bs ≡ and_then (numbers_of ks bs) (given_list ks f)
reads_numbers [] f bs = elim (ended bs) as (λ e. and_then e (λ _. f) ≡ and_then (and_then e (λ _. Some [])) (given_list [] f)) [ None ↦ refl | Some x ↦ refl ]
reads_numbers (k ∷ ks) f bs =
    elim (field k bs) as (λ r. and_then r (λ x. reads ks (f x.0) x.1) ≡ and_then (and_then r (λ x. option_map (λ ns. x.0 ∷ ns) (numbers_of ks x.1))) (given_list (k ∷ ks) f)) [
      | None ↦ refl
      | Some x ↦ reads_numbers ks (f x.0) x.1 ∙ given_first k ks f x.0 (numbers_of ks x.1)
    ]
