-- Lines that are keys, each followed by its number.
use Rattle.std.specs.Prelude.{ℕ, ◌^◌, ◌<◌, List, [], ◌∷◌, ◌++◌, Some, None, decimal, Option}
use Rattle.std.specs.Borrow.{Bor}
use Rattle.std.specs.Option.{option_map}
use Rattle.std.specs.Result.{result_ok}
use Rattle.text.specs.Front.{after}
use Rattle.text.specs.Number.{number}

-- f of what was read, if something was
abbrev pub and_then : {A B : Type 0} → Option A → (A → Option B) → Option B
and_then None f = None
and_then (Some x) f = f x

-- a number and the text that is left, in place of the reference to it
abbrev pub left : ℕ × Bor (List ℕ) → ℕ × List ℕ
left x = (x.0, x.1.now)

-- the number of key k at the front of a text, and the text after it
unfoldable pub field : List ℕ → List ℕ → Option (ℕ × List ℕ)
field k bs = and_then (after k bs) (λ rest. result_ok (number rest))

-- something where nothing is left of a text
abbrev pub ended : List ℕ → Option (Unit {0})
ended [] = Some tt
ended (b ∷ bs) = None

-- a number for each of the keys
abbrev pub Numbers : List (List ℕ) → Type 0
Numbers [] = Unit {0}
Numbers (k ∷ ks) = ℕ × Numbers ks

-- an A made of a number for each of the keys
abbrev pub Maker : List (List ℕ) → Type 0 → Type 0
Maker [] A = A
Maker (k ∷ ks) A = ℕ → Maker ks A

-- what f makes of the numbers of a line that is these keys, each followed by its number, and nothing else
abbrev pub reads : {A : Type 0} (ks : List (List ℕ)) → Maker ks (Option A) → List ℕ → Option A
reads [] f bs = and_then (ended bs) (λ _. f)
reads (k ∷ ks) f bs = and_then (field k bs) (λ x. reads ks (f x.0) x.1)

-- the numbers of a line that is these keys, each followed by its number, and nothing else
abbrev pub numbers_of : List (List ℕ) → List ℕ → Option (List ℕ)
numbers_of [] bs = and_then (ended bs) (λ _. Some [])
numbers_of (k ∷ ks) bs = and_then (field k bs) (λ x. option_map (λ ns. x.0 ∷ ns) (numbers_of ks x.1))

-- the keys, each followed by its number in decimal
abbrev pub form_text : (ks : List (List ℕ)) → Numbers ks → List ℕ
form_text [] ns = []
form_text (k ∷ ks) ns = k ++ (decimal ns.0 ++ form_text ks ns.1)

-- n has 32 bits
abbrev pub Word : ℕ → Type 0
Word n = n < 2 ^ 32

-- the numbers have 32 bits
abbrev pub Words : (ks : List (List ℕ)) → Numbers ks → Type 0
Words [] ns = Unit {0}
Words (k ∷ ks) ns = Word ns.0 × Words ks ns.1
