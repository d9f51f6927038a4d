-- Whether some number has a window.
use Rattle.std.proofs.Common.{◌≡◌, ℕ, ◌≤◌, Bool, true, false, is_some, Some, None, Decides, Option, sym, refl, ap, ◌∙◌, arith}
use Rattle.std.proofs.lemmas.Bool.{cond-true}
use Rattle.std.proofs.lemmas.Bool.Decides.{nat_tests}
use Rattle.book.specs.declared.window.Window.{Window}
use Rattle.book.specs.Calls.{find_answer, holds_windows}
use Rattle.book.specs.Lowest.{lowest}
use Rattle.book.specs.Meaning.{Meaning, numbered}
use Rattle.book.specs.Sound.{Sound, SomeStands}
use Rattle.book.proofs.Clashing.{number_range}
use Rattle.book.proofs.Lowest.{Found, nowhere, somewhere, found}

-- what stands under one of the 256 numbers is found
pub found_window : (m : Meaning) (n : ℕ) → 1 ≤ n → n ≤ 256 → find_answer n m ≡ m.windows n
found_window m n low high = cond-true (numbered n) (m.windows n) None (grind (arith, nat_tests))

-- no window stands where none is found
pub none_stands : (m : Meaning) → Sound m → holds_windows m ≡ false → (n : ℕ) → m.windows n ≡ None
none_stands m sound empty n = go (m.windows n) refl
  where
    search : (o : Option ℕ) → Found (λ k. is_some (m.windows k)) 1 256 o → is_some o ≡ false → (w : Window) → m.windows n ≡ Some w → ⊥
    search None (nowhere all) is w stands =
        let range = number_range n (sound.proper n w stands).number in
        let free = all n range.0 (omega (arith, range.1)) in
        let z : ◌≡◌ {A = ℕ} 0 1 = cc (ap is_some stands) in
        omega arith
    search (Some k) at is w stands = grind arith

    go : (o : Option Window) → m.windows n ≡ o → m.windows n ≡ None
    go None is = is
    go (Some w) is = absurd (search (lowest (λ k. is_some (m.windows k)) 1 256) (found _ 256 1) empty w is)

pub some_decides : (m : Meaning) (r : Bool) → Sound m → r ≡ holds_windows m → Decides r (SomeStands m)
some_decides m r sound is = ((λ yes. there (lowest (λ k. is_some (m.windows k)) 1 256) (found _ 256 1) (sym is ∙ yes)), (λ (n, (w, stands)). back n w stands r refl))
  where
    window : (k : ℕ) (o : Option Window) → m.windows k ≡ o → is_some o ≡ true → SomeStands m
    window k None at is = absurd (grind arith)
    window k (Some w) at is = (k, (w, at))

    there : (o : Option ℕ) → Found (λ k. is_some (m.windows k)) 1 256 o → is_some o ≡ true → SomeStands m
    there None at is = absurd (grind arith)
    there (Some k) (somewhere k' low high passes all) is = window k (m.windows k) refl passes

    back : (n : ℕ) (w : Window) → m.windows n ≡ Some w → (v : Bool) → r ≡ v → r ≡ true
    back n w stands true at = at
    back n w stands false at =
        let free = none_stands m sound (sym is ∙ at) n in
        absurd (grind arith)
