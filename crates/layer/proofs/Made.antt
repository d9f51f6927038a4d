-- A layer that can be made over a sound book is tied to it.
use Rattle.std.proofs.Common.{◌≡◌, ℕ, ◌+◌, ◌<◌, ◌≤◌, Bool, true, false, cond, Some, None, Ok, Err, Option, Result, nat_lt, refl, arith}
use Rattle.std.proofs.lemmas.Bool.Decides.{nat_tests}
use Rattle.std.specs.Result.{result_and}
use Rattle.book.specs.Calls.{holds_windows}
use Rattle.book.specs.Meaning.{Meaning, linked}
use Rattle.book.specs.Sound.{EachStanding, Sound}
use Rattle.book.specs.declared.MakeFault.{MakeFault}
use Rattle.book.specs.declared.MakeFault.TheVariants.{HoldsWindows}
use Rattle.book.specs.declared.Window.{Window}
use Rattle.book.proofs.Lowest.{Found, nowhere, found}
use Rattle.book.proofs.NoWindows.{none_stands}
use Rattle.layer.specs.Grains.{Whole, GrainTied, can_make_grain}
use Rattle.layer.specs.Rests.{RestTied, first_over, within, can_make_rest}
use Rattle.layer.specs.Vacancy.{vacant}

-- where no window stands, whatever window stands is one of P
each_of_none : (m : Meaning) → Sound m → vacant m ≡ Ok tt → (P : Window → Type 0) → EachStanding m P
each_of_none m sound can P = go (holds_windows m) refl can
  where
    go : (b : Bool) → holds_windows m ≡ b → ◌≡◌ {A = Result (Unit {0}) MakeFault} (cond b (Err HoldsWindows) (Ok tt)) (Ok tt) → EachStanding m P
    go false empty is = λ k w stands. absurd (let free = none_stands m sound empty k in cc)
    go true some is = (cc)

pub grain_made : (grain : ℕ → ℕ) (m : Meaning) → Sound m → can_make_grain m ≡ Ok tt → GrainTied grain m
grain_made grain m sound can = each_of_none m sound can (λ w. Whole (grain w.link) w)

pub rest_made : (extra : ℕ → ℕ) (m : Meaning) → Sound m → ((l : ℕ) → linked l ≡ false → extra l ≡ 0) → can_make_rest extra m ≡ Ok tt → RestTied extra m
rest_made extra m sound outside can = go (first_over extra m) (found _ 32 1) can
  where
    Over : ℕ → Bool
    Over l = nat_lt 1000000 (m.rest l + extra l)

    limit : ((j : ℕ) → 1 ≤ j → j < 1 + 32 → Over j ≡ false) → (l : ℕ) (v : Bool) → linked l ≡ v → m.rest l + extra l ≤ 1000000
    limit none l true there =
        let low : 1 ≤ l = grind (arith, nat_tests) in
        let high : l ≤ 32 = grind (arith, nat_tests) in
        let under = none l low (omega arith) in
        grind (arith, nat_tests)
    limit none l false absent = omega (arith, sound.rests l, outside l absent)

    go : (o : Option ℕ) → Found Over 1 32 o → result_and (within o) (vacant m) ≡ Ok tt → RestTied extra m
    go None (nowhere none) is = record { limits = λ l. limit none l (linked l) refl; longer = each_of_none m sound is (λ w. extra w.link < w.length) }
    go (Some l) at is = (cc)
