-- The lines of a text.
use Rattle.std.specs.Prelude.{◌≡◌, ℕ, suc, ◌<◌, Bool, cond, not, ◌⊎◌, List, [], ◌∷◌, ◌++◌, length, take, drop, ◌==◌, ◌≢◌}
use Rattle.std.specs.List.{prefix_len, AllByRecursion}

-- a byte in front of the first line
abbrev pub in_front : ℕ → List (List ℕ) → List (List ℕ)
in_front b [] = (b ∷ []) ∷ []
in_front b (l ∷ ls) = (b ∷ l) ∷ ls

-- the lines without their line feeds; the last may have none, and where it has one no line follows
abbrev pub lines : List ℕ → List (List ℕ)
lines [] = []
lines (b ∷ bs) = cond (b == 10) ([] ∷ lines bs) (in_front b (lines bs))

-- any byte but a line feed
abbrev pub no_feed : ℕ → Bool
no_feed b = not (b == 10)

-- a text up to its first line feed, or all of it
abbrev pub first_line : List ℕ → List ℕ
first_line bs = take (prefix_len no_feed bs) bs

-- what follows the first line feed, or nothing
abbrev pub after_line : List ℕ → List ℕ
after_line bs = drop (suc (prefix_len no_feed bs)) bs

-- ls are the lines of a text: the empty text has none; any other has a first line without a line feed, and
-- after it a line feed and the lines of the rest, or nothing, where the line is not empty
abbrev pub LinesOf : List (List ℕ) → List ℕ → Type 0
LinesOf [] bs = bs ≡ []
LinesOf (l ∷ ls) bs =
    AllByRecursion (λ b. b ≢ 10) l
    × (((rest : List ℕ) × ((bs ≡ l ++ (10 ∷ rest)) × LinesOf ls rest)) ⊎ ((bs ≡ l) × ((0 < length l) × (ls ≡ []))))
