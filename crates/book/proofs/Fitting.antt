-- The causes before a clash, from the span of the window's link and what stands under its number.
use Rattle.std.proofs.Common.{◌≡◌, ℕ, ◌≤◌, Bool, true, false, cond, not, ◌&&◌, ltb, is_some, Ok, Err, Result, sym, refl, ap, ◌∙◌, ⊎_elim, mod-eq_of_lt, arith}
use Rattle.std.proofs.lemmas.Bool.{and_parts, false≢true}
use Rattle.std.proofs.lemmas.Bool.Decides.{nat_tests, leb_tells}
use Rattle.std.specs.Result.{result_and}
use Rattle.book.specs.declared.span.Span.{Span}
use Rattle.book.specs.declared.fault.BookFault.{BookFault}
use Rattle.book.specs.declared.fault.BookFault.TheVariants.{Absent, BadForm, Standing}
use Rattle.book.specs.declared.window.Window.{Window}
use Rattle.book.specs.Calls.{misfit, unfit, span_answer}
use Rattle.book.specs.Form.{GoodForm, well_formed}
use Rattle.book.specs.Meaning.{Meaning, numbered, linked}
use Rattle.book.specs.Sound.{Suits, Proper, Sound}
use Rattle.book.proofs.Clashing.{form_good, cycle_some}

-- nothing is said against a number that is free
abbrev pub free : ℕ → Bool → Result (Unit {0}) BookFault
free n taken = cond taken (Err (Standing n)) (Ok tt)

-- the tests, from their values
abbrev tests : Bool → Bool → Bool → ℕ → ℕ → Result (Unit {0}) BookFault
tests there good taken n rest = cond (not there) (Err Absent) (cond (not good) (Err (BadForm n rest)) (free n taken))

abbrev early : Bool → Bool → ℕ → ℕ → Result (Unit {0}) BookFault
early there good n rest = cond (not there) (Err Absent) (cond (not good) (Err (BadForm n rest)) (Ok tt))

joined : (there good taken : Bool) (n rest : ℕ) → result_and (early there good n rest) (free n taken) ≡ tests there good taken n rest
joined true true taken n rest = refl
joined true false taken n rest = refl
joined false good taken n rest = refl

pub unfit_from : (m : Meaning) (n : ℕ) (w : Window) (span : Span) → span ≡ span_answer w.link m → result_and (misfit n w span.cycle span.rest) (free n (is_some (m.windows n))) ≡ unfit n w m
unfolding unfit
unfit_from m n w span is =
    joined (numbered n && ltb 0 span.cycle) (well_formed span.cycle span.rest w) (is_some (m.windows n)) n span.rest ∙ go (linked w.link) refl is
  where
    All : Bool → Span → Result (Unit {0}) BookFault
    All v s = tests (numbered n && v) (well_formed s.cycle s.rest w) (is_some (m.windows n)) n s.rest

    nowhere : (v b t : Bool) (r : ℕ) → tests (v && false) b t n r ≡ Err Absent
    nowhere true b t r = refl
    nowhere false b t r = refl

    go : (v : Bool) → linked w.link ≡ v → span ≡ cond v (record { cycle = m.cycle w.link; rest = m.rest w.link }) (record { cycle = 0; rest = 0 }) → All (ltb 0 span.cycle) span ≡ All (v && ltb 0 (m.cycle w.link)) (record { cycle = m.cycle w.link; rest = m.rest w.link })
    go true there is = ap (λ s. All (ltb 0 s.cycle) s) is
    go false absent is = ap (λ s. All (ltb 0 s.cycle) s) is ∙ nowhere (numbered n) (well_formed 0 0 w) (is_some (m.windows n)) 0 ∙ sym (nowhere (numbered n) (well_formed (m.cycle w.link) (m.rest w.link) w) (is_some (m.windows n)) (m.rest w.link))

-- a window that passes the test by the span is proper
pub fitting : (m : Meaning) (n : ℕ) (w : Window) (span : Span) → span ≡ span_answer w.link m → misfit n w span.cycle span.rest ≡ Ok tt → Proper m n w
fitting m n w span is ok = go (linked w.link) refl is
  where
    passed : (there good : Bool) (rest : ℕ) → early there good n rest ≡ Ok tt → (there ≡ true) × (good ≡ true)
    passed true true rest is = (refl, refl)
    passed true false rest is = absurd (grind arith)
    passed false good rest is = absurd (grind arith)

    go : (v : Bool) → linked w.link ≡ v → span ≡ cond v (record { cycle = m.cycle w.link; rest = m.rest w.link }) (record { cycle = 0; rest = 0 }) → Proper m n w
    go true there is =
        let parts = passed (numbered n && ltb 0 (m.cycle w.link)) (well_formed (m.cycle w.link) (m.rest w.link) w) (m.rest w.link) (ap (λ s. misfit n w s.cycle s.rest) (sym is) ∙ ok) in
        let number = and_parts (numbered n) _ parts.0 in
        record { number = number.0; suits = record { link = λ i. there i && number.1 i; form = form_good _ _ w parts.1 } }
    go false absent is =
        let parts = passed (numbered n && ltb 0 0) (well_formed 0 0 w) 0 (ap (λ s. misfit n w s.cycle s.rest) (sym is) ∙ ok) in
        absurd (false≢true (and_parts (numbered n) false parts.0).1)

-- a window that fails that test has that cause, and one that passes it only its number's
pub unfit_early : (m : Meaning) (n : ℕ) (w : Window) (span : Span) (e : BookFault) → span ≡ span_answer w.link m → Err e ≡ misfit n w span.cycle span.rest → Err e ≡ unfit n w m
unfit_early m n w span e is refused = ap (λ r. result_and r (free n (is_some (m.windows n)))) refused ∙ unfit_from m n w span is

pub unfit_late : (m : Meaning) (n : ℕ) (w : Window) (span : Span) (taken : Bool) → span ≡ span_answer w.link m → Ok tt ≡ misfit n w span.cycle span.rest → taken ≡ is_some (m.windows n) → free n taken ≡ unfit n w m
unfit_late m n w span taken is passed stands = (λ i. result_and (passed i) (free n (stands i))) ∙ unfit_from m n w span is

pub good_form : (cycle rest : ℕ) (w : Window) → GoodForm cycle rest w → well_formed cycle rest w ≡ true
good_form cycle rest w good = let long = good.long in let again = good.again in let whole = good.whole in let ends = good.ends in grind (arith, nat_tests)

-- nothing but its number can be said against a window that is proper, whatever windows there are
pub unfit_proper : (m : Meaning) (n : ℕ) (w : Window) → Proper m n w → unfit n w m ≡ free n (is_some (m.windows n))
unfolding unfit
unfit_proper m n w proper =
    let good = good_form (m.cycle w.link) (m.rest w.link) w proper.suits.form in
    λ i. tests (proper.number i && proper.suits.link i) (good i) (is_some (m.windows n)) n (m.rest w.link)

-- a window that suits a link has a period no longer than the cycle
pub period_short : (m : Meaning) → Sound m → (w : Window) → Suits m w → w.period ≤ 1000000
period_short m sound w suits =
    let cycle = cycle_some m w.link suits.link in
    let whole = suits.form.whole in
    let most = sound.cycles w.link in
    ⊎_elim (λ short. omega (arith, short.1)) (λ long. absurd (let same = mod-eq_of_lt long.1 in omega arith)) (leb_tells w.period (m.cycle w.link))
