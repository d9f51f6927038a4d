-- A refusal is passed on whole, and changes nothing.
use Rattle.std.proofs.Common.{◌≡◌, ℕ, Some, Err, Result, sym, ap, ◌∙◌}
use Rattle.std.specs.Result.{result_and}
use Rattle.book.specs.declared.span.Span.{Span}
use Rattle.book.specs.declared.fault.BookFault.{BookFault}
use Rattle.book.specs.declared.window.Window.{Window}
use Rattle.book.specs.Calls.{misfit, first_met, unfit, unmet, book_answer, book_after, span_answer, changed}
use Rattle.book.specs.Meaning.{Meaning, with}
use Rattle.book.specs.Sound.{Sound, ClashExactly}
use Rattle.book.specs.Steps.{Did}
use Rattle.book.proofs.Clashing.{clash_exactly}
use Rattle.book.proofs.Fitting.{unfit_early}

-- an error that was passed on is the answer
pub passed_on : {A : Type 0} (r a : Result A BookFault) (y e : BookFault) → r ≡ Err y → y ≡ e → Err e ≡ a → r ≡ a
passed_on r a y e err same is = err ∙ ap Err same ∙ is

module _ (m : Meaning) (n : ℕ) (w : Window) where
  -- a cause before a clash is the answer
  pub early_answer : (e : BookFault) → Err e ≡ unfit n w m → Err e ≡ book_answer n w m
  early_answer e is = ap (λ u. result_and u (unmet n (first_met m w))) is

  -- nothing is changed by a refusal
  pub refused : (K : Type 0) (r : Result (Unit {0}) BookFault) (e : BookFault) → r ≡ Err e → r ≡ book_answer n w m → K → Did r (book_answer n w m) m (book_after n w m) K
  refused K r e err is kept = record { answer = is; after = ap (λ x. changed x (with n (Some w) m) m) (sym err ∙ is); kept = kept }

  -- a window that fails the test by the span of its link is refused so, and nothing else is said or done
  pub refused_early : (Kept : Type 0) (span : Span) (r : Result (Unit {0}) BookFault) (y e : BookFault) → (Kept → Sound m) → (Kept → span ≡ span_answer w.link m) → r ≡ Err y → y ≡ e → Err e ≡ misfit n w span.cycle span.rest → (Kept → Did r (book_answer n w m) m (book_after n w m) Kept) × (Kept → ClashExactly m n w r)
  refused_early Kept span r y e sound spans err same fails =
      ((λ kept. refused Kept r y err (is kept) kept), (λ kept. clash_exactly m n w r (sound kept) (is kept)))
    where
      is : Kept → r ≡ book_answer n w m
      is kept = passed_on r (book_answer n w m) y e err same (early_answer e (unfit_early m n w span e (spans kept) fails))
