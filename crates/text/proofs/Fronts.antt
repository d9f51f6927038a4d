-- What follows the front of a text.
use Rattle.std.proofs.Common.{◌≡◌, ℕ, Bool, true, false, cond, eqb, List, [], ◌∷◌, ◌++◌, Some, None, Option, sym, refl, ap, ◌∙◌, Bor, eq-eqb, MatchOption}
use Rattle.std.specs.Option.{option_map}
use Rattle.std.proofs.lemmas.Bool.Decides.{Decides-eqb}
use Rattle.text.specs.Front.{after}

pub after_front : (p rest : List ℕ) → after p (p ++ rest) ≡ Some rest
after_front [] rest = refl
after_front (b ∷ p) rest = rw (eq-eqb b b refl) (after_front p rest)

pub front_after : (p bs rest : List ℕ) → after p bs ≡ Some rest → bs ≡ p ++ rest
front_after [] bs rest e = cc
front_after (b ∷ p) [] rest e = cc
front_after (b ∷ p) (x ∷ bs) rest e = go (eqb b x) refl (front_after p bs rest) e
  where
    go : (v : Bool) → eqb b x ≡ v → (after p bs ≡ Some rest → bs ≡ p ++ rest) → cond v (after p bs) None ≡ Some rest → x ∷ bs ≡ b ∷ (p ++ rest)
    go true same more e = let eq = (Decides-eqb b x).0 same in let tail = more e in cc
    go false apart more e = cc

after_none : (p bs : List ℕ) → ((rest : List ℕ) → bs ≡ p ++ rest → ⊥) → None ≡ after p bs
after_none p bs never = go (after p bs) refl
  where
    go : (v : Option (List ℕ)) → after p bs ≡ v → None ≡ v
    go None e = refl
    go (Some rest) e = absurd (never rest (front_after p bs rest e))

-- what a search for the front p finds
pub found_after : (bs p : List ℕ) (r : Option (Bor (List ℕ))) → MatchOption r ((rest : List ℕ) → bs ≡ p ++ rest → ⊥) (λ x. bs ≡ p ++ x.now) → option_map (λ x. x.now) r ≡ after p bs
found_after bs p None never = after_none p bs never
found_after bs p (Some x) is = sym (ap (after p) is ∙ after_front p x.now)
