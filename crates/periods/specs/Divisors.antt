-- What divides two periods, and which numbers steps of both reach.
use Rattle.std.specs.Prelude.{◌≡◌, ℕ, ◌+◌, ◌*◌, ◌%◌}

-- n is a whole number of times d
abbrev pub Divides : ℕ → ℕ → Type 0
Divides d n = (k : ℕ) × (n ≡ k * d)

-- g divides a and b, and every number that divides both divides g: of all a and b, zeros too, one g does
pub record Gcd (a b g : ℕ) : Type 0 where
  pub left : Divides g a
  pub right : Divides g b
  pub greatest : (d : ℕ) → Divides d a → Divides d b → Divides d g

-- from x in steps of a and from y in steps of b one and the same number is reached
abbrev pub Met : ℕ → ℕ → ℕ → ℕ → Type 0
Met a b x y = (j : ℕ) × ((k : ℕ) × (x + j * a ≡ y + k * b))

-- steps of a and of b meet exactly where the numbers that they start from leave the same remainder by g
abbrev pub Reaches : ℕ → ℕ → ℕ → Type 0
Reaches a b g = (x y : ℕ) → (Met a b x y → x % g ≡ y % g) × (x % g ≡ y % g → Met a b x y)
