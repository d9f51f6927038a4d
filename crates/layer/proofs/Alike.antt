-- The numbers of links.
use Rattle.std.proofs.Common.{◌≡◌, ℕ, Bool, true, false, cond, Some, None, Option, refl, ap}
use Rattle.std.specs.Option.{unwrap_or}
use Rattle.book.specs.Meaning.{linked}
use Rattle.layer.specs.declared.per_link.PerLink.{PerLink}
use Rattle.layer.specs.Links.{value_at}

-- a value where the test holds, and the number without one elsewhere
pub given : (b : Bool) (v : ℕ) (o : Option ℕ) → unwrap_or (cond b (Some v) o) 0 ≡ cond b v (unwrap_or o 0)
given true v o = refl
given false v o = refl

-- what is no link has no number
outside : (b : Bool) (o : Option ℕ) → b ≡ false → unwrap_or (cond b o None) 0 ≡ 0
outside b o absent = ap (λ v. unwrap_or (cond v o None) 0) absent

pub none_outside : (p : PerLink) (l : ℕ) → linked l ≡ false → value_at p l ≡ 0
none_outside p l = outside (linked l) _
