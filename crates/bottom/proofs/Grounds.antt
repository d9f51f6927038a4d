-- What becomes of a ledger.
use Rattle.std.proofs.Common.{◌≡◌, ℕ, ◌≤◌, true, cond, not, Some, None, Ok, Err, Option, sym, ap, ◌∙◌, subst, arith}
use Rattle.std.proofs.lemmas.Bool.Decides.{nat_tests}
use Rattle.std.specs.Result.{result_and}
use Rattle.book.specs.Calls.{unfit, unmet, first_met, book_answer, book_after, changed, lift_answer, lift_after, standing}
use Rattle.book.specs.Meaning.{Meaning, numbered, with}
use Rattle.book.specs.Sound.{Suits, Sound}
use Rattle.book.specs.Steps.{Did}
use Rattle.book.specs.declared.BookFault.TheVariants.{Absent}
use Rattle.book.specs.declared.Numbered.{Numbered}
use Rattle.book.specs.declared.Window.{Window}
use Rattle.book.proofs.Clashing.{fit, book_fits}
use Rattle.book.proofs.Keeping.{empty_sound, book_sound, lift_sound}
use Rattle.bottom.specs.declared.ledger.Ledger.{Ledger}
use Rattle.bottom.specs.Ledger.{windows_of, cycle_of, no_rest, meaning_of, Kept, can_make, ground}

-- a book that can be made is sound without windows
pub ground_sound : (links cycle : ℕ) → can_make links cycle ≡ Ok tt → Sound (ground links cycle)
ground_sound links cycle can =
    let short : cycle ≤ 1000000 = grind (arith, nat_tests) in
    empty_sound (cycle_of links cycle) no_rest (λ l. grind (arith, nat_tests)) (λ l. omega arith)

module _ (links cycle : ℕ) (w : Numbered (Option Window) 256) (none : windows_of w ≡ (λ _. None)) where
  pub made_means : meaning_of (record { ground = record { links = links; cycle = cycle }; windows = w }) ≡ ground links cycle
  made_means = λ i. record { windows = none i; cycle = cycle_of links cycle; rest = no_rest }

  pub made_kept : can_make links cycle ≡ Ok tt → Kept (record { ground = record { links = links; cycle = cycle }; windows = w })
  made_kept can = record { links = grind (arith, nat_tests); sound = subst Sound (sym made_means) (ground_sound links cycle can) }

pub kept_as : (l l' : Ledger) (m : Meaning) → Kept l → l'.ground ≡ l.ground → meaning_of l' ≡ m → Sound m → Kept l'
kept_as l l' m kept ground is sound = record { links = omega (arith, kept.links, ap (λ g. g.links) ground); sound = subst Sound (sym is) sound }

-- one window is taken out
pub lifted : (l l' : Ledger) (n : ℕ) (w : Window) → numbered n ≡ true → (meaning_of l).windows n ≡ Some w → meaning_of l' ≡ with n None (meaning_of l) → l'.ground ≡ l.ground → Kept l → Did (Ok w) (lift_answer n (meaning_of l)) (meaning_of l') (lift_after n (meaning_of l)) (Kept l')
lifted l l' n w number stands is links kept =
    let m = meaning_of l in
    let answer : lift_answer n m ≡ Ok w = λ i. cond (not (number i)) (Err Absent) (standing n (stands i)) in
    let after : meaning_of l' ≡ lift_after n m = is ∙ sym (ap (λ r. changed r (with n None m) m) answer) in
    record { answer = sym answer; after = after; kept = kept_as l l' (lift_after n m) kept links after (lift_sound m n kept.sound) }

-- the answer to book where no earlier cause fits, from the number that is met
pub decided : (l : Ledger) (n : ℕ) (w : Window) (o : Option ℕ) → Ok tt ≡ unfit n w (meaning_of l) → (Suits (meaning_of l) w → o ≡ first_met (meaning_of l) w) → unmet n o ≡ book_answer n w (meaning_of l)
decided l n w o fits met =
    let first = met (fit (meaning_of l) n w (sym fits)).proper.suits in
    λ i. result_and (fits i) (unmet n (first i))

-- one window stands more
pub booked : (l l' : Ledger) (n : ℕ) (w : Window) → Ok tt ≡ book_answer n w (meaning_of l) → (numbered n ≡ true → meaning_of l' ≡ with n (Some w) (meaning_of l)) → l'.ground ≡ l.ground → Kept l → Did (Ok tt) (book_answer n w (meaning_of l)) (meaning_of l') (book_after n w (meaning_of l)) (Kept l')
booked l l' n w is means links kept =
    let m = meaning_of l in
    let fits = fit m n w (book_fits m n w (sym is)) in
    let after : meaning_of l' ≡ book_after n w m = means fits.proper.number ∙ ap (λ r. changed r (with n (Some w) m) m) is in
    record { answer = is; after = after; kept = kept_as l l' (book_after n w m) kept links after (book_sound m n w kept.sound) }
