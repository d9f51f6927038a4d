-- A window is refused as a clash exactly when it would meet another.
use Rattle.std.proofs.Common.{◌≡◌, ℕ, ◌<◌, ◌≤◌, Bool, true, false, cond, not, ◌&&◌, eqb, is_some, Some, None, Ok, Err, Decides, Option, Result, sym, refl, ap, ◌∙◌, subst, arith}
use Rattle.std.proofs.lemmas.Bool.{and_parts}
use Rattle.std.proofs.lemmas.Bool.Decides.{nat_tests, Decides-eqb, not_from_Decides}
use Rattle.std.specs.Result.{result_and}
use Rattle.book.specs.declared.fault.BookFault.{BookFault}
use Rattle.book.specs.declared.fault.BookFault.TheVariants.{Absent, BadForm, Standing, Clash}
use Rattle.book.specs.declared.window.Window.{Window}
use Rattle.book.specs.Calls.{meets_standing, first_met, unfit, unmet, book_answer}
use Rattle.book.specs.Form.{well_formed, GoodForm}
use Rattle.book.specs.Holding.{Meet, meets}
use Rattle.book.specs.Meaning.{Meaning, numbered, linked, present}
use Rattle.book.specs.Sound.{Stands, Suits, Proper, Sound, WouldMeet, Clashes, ClashExactly}
use Rattle.book.proofs.Lowest.{Found, nowhere, somewhere, found}
use Rattle.book.proofs.Unbounded.{meets_decides}

pub form_good : (cycle rest : ℕ) (w : Window) → well_formed cycle rest w ≡ true → GoodForm cycle rest w
form_good cycle rest w is = record { long = grind (arith, nat_tests); again = grind (arith, nat_tests); whole = grind (arith, nat_tests); ends = grind (arith, nat_tests) }

-- a link that is there has a cycle
pub cycle_some : (m : Meaning) (l : ℕ) → present m l ≡ true → 0 < m.cycle l
cycle_some m l is = let parts = and_parts (linked l) _ is in grind (arith, nat_tests)

-- nothing but a clash can be said against the window: it would be proper, and its number is free
pub record Fit (m : Meaning) (n : ℕ) (w : Window) : Type 0 where
  pub proper : Proper m n w
  pub free : m.windows n ≡ None

-- the tests before a clash, from their values
abbrev tests : Bool → Bool → Option Window → ℕ → ℕ → Result (Unit {0}) BookFault
tests there good o n rest = cond (not there) (Err Absent) (cond (not good) (Err (BadForm n rest)) (cond (is_some o) (Err (Standing n)) (Ok tt)))

pub fit : (m : Meaning) (n : ℕ) (w : Window) → unfit n w m ≡ Ok tt → Fit m n w
unfolding unfit
fit m n w is = go (numbered n && present m w.link) refl (well_formed (m.cycle w.link) (m.rest w.link) w) refl (m.windows n) refl is
  where
    go : (a : Bool) → (numbered n && present m w.link) ≡ a → (b : Bool) → well_formed (m.cycle w.link) (m.rest w.link) w ≡ b → (o : Option Window) → m.windows n ≡ o → tests a b o n (m.rest w.link) ≡ Ok tt → Fit m n w
    go true there true good None free is =
        let parts = and_parts (numbered n) (present m w.link) there in
        record { proper = record { number = parts.0; suits = record { link = parts.1; form = form_good _ _ w good } }; free = free }
    go true there true good (Some v) taken is = absurd (grind arith)
    go true there false bad o at is = absurd (grind arith)
    go false absent b form o at is = absurd (grind arith)

-- an earlier cause is no clash
unfit_no_clash : (m : Meaning) (n : ℕ) (w : Window) (i k : ℕ) → unfit n w m ≡ Err (Clash i k) → ⊥
unfolding unfit
unfit_no_clash m n w i k is = go (numbered n && present m w.link) (well_formed (m.cycle w.link) (m.rest w.link) w) (m.windows n) is
  where
    go : (a b : Bool) (o : Option Window) → tests a b o n (m.rest w.link) ≡ Err (Clash i k) → ⊥
    go true true None is = grind arith
    go true true (Some v) is = grind arith
    go true false o is = grind arith
    go false b o is = grind arith

-- a number that a window may have
pub number_range : (k : ℕ) → numbered k ≡ true → (1 ≤ k) × (k ≤ 256)
number_range k is = (grind (arith, nat_tests), grind (arith, nat_tests))

module _ {m : Meaning} (sound : Sound m) {w : Window} (suits : Suits m w) where
  good_there : (k : ℕ) (v : Window) → Stands m k v → v.link ≡ w.link → GoodForm (m.cycle w.link) (m.rest w.link) v
  good_there k v stands same =
      let At : ℕ → Type 0 = λ l. GoodForm (m.cycle l) (m.rest l) v in
      subst At same (sound.proper k v stands).suits.form

  meeting : (k : ℕ) (v : Window) → Stands m k v → v.link ≡ w.link → Decides (meets (m.cycle w.link) (m.rest w.link) v w) (Meet (m.rest w.link) v w)
  meeting k v stands same = meets_decides v w _ _ (cycle_some m w.link suits.link) (good_there k v stands same) suits.form

  -- the test of one number says whether the window would meet that number's
  pub meets_standing_lem : (k : ℕ) → Decides (meets_standing m w (m.windows k)) (WouldMeet m w k)
  meets_standing_lem k = go (m.windows k) refl
    where
      go : (o : Option Window) → m.windows k ≡ o → Decides (meets_standing m w o) (WouldMeet m w k)
      go None free = ((λ is. absurd (grind arith)), (λ (v, (stands, more)). absurd (grind arith)))
      go (Some v) stands = (
        (λ is.
            let parts = and_parts (eqb v.link w.link) _ is in
            let same = (Decides-eqb v.link w.link).0 parts.0 in
            (v, (stands, (same, (meeting k v stands same).0 parts.1)))),
        (λ (u, (there, (same, met))).
            let equal : u ≡ v = cc in
            let link : v.link ≡ w.link = sym (ap (λ x. x.link) equal) ∙ same in
            let At : Window → Type 0 = λ x. Meet (m.rest w.link) x w in
            let tested = (meeting k v stands link).1 (subst At equal met) in
            let linked = (Decides-eqb v.link w.link).1 link in
            λ i. linked i && tested i),
      )

  -- a number that fails the test is met by nothing
  unmet_there : (k : ℕ) → meets_standing m w (m.windows k) ≡ false → WouldMeet m w k → ⊥
  unmet_there k fails = not_from_Decides _ (meets_standing_lem k) fails

  met_found : (o : Option ℕ) → first_met m w ≡ o → Found (λ k. meets_standing m w (m.windows k)) 1 256 o
  met_found o is = subst (Found (λ k. meets_standing m w (m.windows k)) 1 256) is (found _ 256 1)

  met_number : (k : ℕ) → WouldMeet m w k → (1 ≤ k) × (k ≤ 256)
  met_number k (v, (stands, more)) = number_range k (sound.proper k v stands).number

  -- no number is found where the window would meet none, and only there
  pub met_none : first_met m w ≡ None → (k : ℕ) → WouldMeet m w k → ⊥
  met_none is k would = go (met_found None is)
    where
      go : Found (λ k. meets_standing m w (m.windows k)) 1 256 None → ⊥
      go (nowhere all) = let range = met_number k would in unmet_there k (all k range.0 (omega (arith, range.1))) would

  pub met_some : (k : ℕ) → first_met m w ≡ Some k → WouldMeet m w k × ((j : ℕ) → j < k → WouldMeet m w j → ⊥)
  met_some k is = go (met_found (Some k) is)
    where
      go : Found (λ k. meets_standing m w (m.windows k)) 1 256 (Some k) → WouldMeet m w k × ((j : ℕ) → j < k → WouldMeet m w j → ⊥)
      go (somewhere k' low high passes all) = ((meets_standing_lem k).0 passes, (λ j less would. unmet_there j (all j (met_number j would).0 less) would))

pub clash_exactly : (m : Meaning) (n : ℕ) (w : Window) (r : Result (Unit {0}) BookFault) → Sound m → r ≡ book_answer n w m → ClashExactly m n w r
clash_exactly m n w r sound is = record { refused = λ i k clash. back i k (unfit n w m) refl (first_met m w) refl (sym is ∙ clash); refuses = λ fits k would. there fits k would (first_met m w) refl }
  where
    back : (i k : ℕ) (u : Result (Unit {0}) BookFault) → unfit n w m ≡ u → (o : Option ℕ) → first_met m w ≡ o → result_and u (unmet n o) ≡ Err (Clash i k) → (i ≡ n) × Clashes m n w k
    back i k (Ok x) fits None none clash = absurd (grind arith)
    back i k (Ok x) fits (Some j) some clash =
        let same : i ≡ n = cc in
        let number : j ≡ k = cc in
        let met = met_some sound (fit m n w fits).proper.suits k (some ∙ ap Some number) in
        (same, record { fits = fits; meets = met.0; lowest = met.1 })
    back i k (Err e) early o met clash = absurd (unfit_no_clash m n w i k (early ∙ clash))

    there : unfit n w m ≡ Ok tt → (k : ℕ) → WouldMeet m w k → (o : Option ℕ) → first_met m w ≡ o → (j : ℕ) × (r ≡ Err (Clash n j))
    there fits k would None none = absurd (met_none sound (fit m n w fits).proper.suits none k would)
    there fits k would (Some j) some = (j, is ∙ (λ i. result_and (fits i) (unmet n (some i))))

-- an accepted window fits
pub book_fits : (m : Meaning) (n : ℕ) (w : Window) → book_answer n w m ≡ Ok tt → unfit n w m ≡ Ok tt
book_fits m n w is = go (unfit n w m) refl is
  where
    go : (u : Result (Unit {0}) BookFault) → unfit n w m ≡ u → result_and u (unmet n (first_met m w)) ≡ Ok tt → unfit n w m ≡ Ok tt
    go (Ok x) fits is = fits
    go (Err e) early is = early ∙ is
