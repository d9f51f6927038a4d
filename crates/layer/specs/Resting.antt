-- A rest layer is a book that is kept in the one below.
use Rattle.std.specs.Prelude.{◌≡◌, ℕ, ◌+◌, ◌-◌, ◌<◌, Some, None, Option, refl}
use Rattle.std.proofs.Common.{arith}
use Rattle.std.specs.Option.{option_map}
use Rattle.book.specs.Form.{GoodForm}
use Rattle.book.specs.Meaning.{Meaning, with}
use Rattle.book.specs.Sound.{Suits, Sound}
use Rattle.book.specs.declared.Window.{Window}
use Rattle.book.specs.Through.{Through}
use Rattle.book.proofs.Through.{replaced_through, each_with, each_without}
use Rattle.layer.specs.Rests.{longer, shorter, rest_meaning, RestTied}

module _ (extra : ℕ → ℕ) where
  -- a window without the extra that it was given, and a window with the extra that was taken from it
  pub shorter-longer : (w : Window) → shorter extra (longer extra w) ≡ w
  shorter-longer w =
      let same : w.length + extra w.link - extra w.link ≡ w.length = omega arith in
      λ i. record { link = w.link; start = w.start; length = same i; period = w.period }

  longer-shorter : (w : Window) → extra w.link < w.length → longer extra (shorter extra w) ≡ w
  longer-shorter w more =
      let same : w.length - extra w.link + extra w.link ≡ w.length = omega arith in
      λ i. record { link = w.link; start = w.start; length = same i; period = w.period }

  form_shorter : (cycle rest : ℕ) (w : Window) → extra w.link < w.length → GoodForm cycle rest w → GoodForm cycle (rest + extra w.link) (shorter extra w)
  form_shorter cycle rest w more good = record { long = omega arith; again = good.again; whole = good.whole; ends = omega (arith, good.ends) }

  form_longer : (cycle rest : ℕ) (w : Window) → GoodForm cycle (rest + extra w.link) w → GoodForm cycle rest (longer extra w)
  form_longer cycle rest w good = record { long = omega (arith, good.long); again = good.again; whole = good.whole; ends = omega (arith, good.ends) }

  -- the book with the extra rest is kept in the one below, where each step is the same
  pub rest_through : (m : Meaning) → Sound m → RestTied extra m → Through (shorter extra) (longer extra) (λ l s. s) m (rest_meaning extra m)
  rest_through m sound tied = record {
    inner = sound;
    cycles = sound.cycles;
    rests = tied.limits;
    windows = λ k. refl;
    link = λ w. refl;
    above = λ k w stands.
        let suits = (sound.proper k w stands).suits in
        let more = tied.longer k w stands in
        (record { link = suits.link; form = form_shorter (m.cycle w.link) (m.rest w.link) w more suits.form }, longer-shorter w more);
    below = λ w suits. (record { link = suits.link; form = form_longer (m.cycle w.link) (m.rest w.link) w suits.form }, shorter-longer w);
    raise = λ l s. s;
    raised = λ l s there. refl;
    falls = λ w suits s (k, (late, early)). (k, (late, omega (arith, early)));
    rises = λ w suits s (k, (late, early)). (k, (late, omega (arith, early)));
  }

  -- what stands under one number is seen in the other form
  pub rest_replaced : (m : Meaning) (n : ℕ) (o : Option Window) → rest_meaning extra (with n o m) ≡ with n (option_map (shorter extra) o) (rest_meaning extra m)
  rest_replaced m n o = λ i. record { windows = λ k. replaced_through (shorter extra) n o m.windows k i; cycle = m.cycle; rest = λ l. m.rest l + extra l }

  -- one window more or less
  pub rest_put : (m : Meaning) (n : ℕ) (w : Window) → RestTied extra m → Suits (rest_meaning extra m) w → RestTied extra (with n (Some (longer extra w)) m)
  rest_put m n w tied suits = record { limits = tied.limits; longer = each_with m n (longer extra w) (λ v. extra v.link < v.length) (omega (arith, suits.form.long)) tied.longer }

  pub rest_taken : (m : Meaning) (n : ℕ) → RestTied extra m → RestTied extra (with n None m)
  rest_taken m n tied = record { limits = tied.limits; longer = each_without m n (λ v. extra v.link < v.length) tied.longer }
