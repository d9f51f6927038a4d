-- The windows of a ledger by their numbers.
use Rattle.std.proofs.Common.{◌≡◌, ℕ, Bool, true, false, cond, ◌&&◌, eqb, Some, None, Option, refl, ap, ◌∙◌}
use Rattle.std.proofs.lemmas.Bool.Decides.{Decides-eqb}
use Rattle.std.specs.Option.{option_flatten}
use Rattle.book.specs.Meaning.{numbered, replaced}
use Rattle.book.specs.Numbered.{value_at, alike, changed_at}
use Rattle.book.specs.declared.Numbered.{Numbered}
use Rattle.book.specs.declared.Window.{Window}
use Rattle.bottom.specs.Ledger.{windows_of}

module _ (w : Numbered (Option Window) 256) where
  -- none stands where every number has none
  pub no_windows : value_at w ≡ alike 256 None → windows_of w ≡ (λ _. None)
  no_windows is = (λ i k. option_flatten (is i k)) ∙ (λ i k. none (numbered k) i)
    where
      none : (b : Bool) → option_flatten {T = Window} (cond b (Some None) None) ≡ None
      none true = refl
      none false = refl

  -- what stands under one number is replaced
  pub one_changed : (w' : Numbered (Option Window) 256) (n : ℕ) (o : Option Window) → value_at w' ≡ changed_at 256 n o (value_at w) → numbered n ≡ true → windows_of w' ≡ replaced n o (windows_of w)
  one_changed w' n o is there = (λ i k. option_flatten (is i k)) ∙ (λ i k. each k (eqb k n) refl i)
    where
      each : (k : ℕ) (b : Bool) → eqb k n ≡ b → option_flatten (cond (numbered k && b) (Some o) (value_at w k)) ≡ cond b o (option_flatten (value_at w k))
      each k true same =
          let number : numbered k ≡ true = ap numbered ((Decides-eqb k n).0 same) ∙ there in
          ap (λ v. option_flatten (cond (v && true) (Some o) (value_at w k))) number
      each k false other = past (numbered k)
        where
          past : (v : Bool) → option_flatten (cond (v && false) (Some o) (value_at w k)) ≡ option_flatten (value_at w k)
          past true = refl
          past false = refl
