-- The front of a text.
use Rattle.std.specs.Prelude.{ℕ, cond, List, [], ◌∷◌, Some, None, Option, ◌==◌}

-- what follows the front p of a text, none where the text begins otherwise
abbrev pub after : List ℕ → List ℕ → Option (List ℕ)
after [] bs = Some bs
after (p ∷ ps) [] = None
after (p ∷ ps) (b ∷ bs) = cond (p == b) (after ps bs) None
