-- A grain layer is a book that is kept in the one below.
use Rattle.std.specs.Prelude.{◌≡◌, ℕ, ◌+◌, ◌-◌, ◌*◌, ◌/◌, ◌%◌, ◌<◌, ◌≤◌, Bool, true, false, cond, ◌&&◌, ltb, Some, None, Option, ◌==◌, nat_lt, refl}
use Rattle.std.proofs.Common.{sym, ap, subst, ◌∙◌, add-mul, mul_assoc, mul-pos, mul-one, mul-le-mul_left, mul-le-mul_right, le_of_mul-le-mul_right, mul-div_cancel, div-mul-le_self, div-le_self, le-div_iff_mul-le, arith}
use Rattle.std.proofs.Math.Nat.{mul-mod_left}
use Rattle.std.proofs.lemmas.Bool.{and_parts}
use Rattle.std.proofs.lemmas.Bool.Decides.{nat_tests}
use Rattle.std.specs.Option.{option_map}
use Rattle.book.specs.Form.{GoodForm}
use Rattle.book.specs.Holding.{Holds}
use Rattle.book.specs.Meaning.{Meaning, linked, with}
use Rattle.book.specs.Sound.{Suits, Sound}
use Rattle.book.specs.declared.Window.{Window}
use Rattle.book.proofs.Clashing.{cycle_some}
use Rattle.book.specs.Through.{Through}
use Rattle.book.proofs.Through.{replaced_through, each_with, each_without}
use Rattle.layer.specs.Grains.{rounded_up, coarse_cycle, coarse_rest, finer, coarser, grain_meaning, Whole, GrainTied}
use Rattle.layer.specs.Rounding.{whole, grain_some, quotient_some, rounded_covers, rounded_within, fine_before, coarse_before}

-- a link that is there in steps of a grain: the grain is not 0, and divides the cycle
pub record Fits (g c : ℕ) : Type 0 where
  pub some : 0 < g
  pub whole : c % g ≡ 0
  pub cycle : coarse_cycle g c ≡ c / g
  pub there : 0 < c / g

pub fits_from : (g c : ℕ) → 0 < coarse_cycle g c → Fits g c
fits_from g c there = go (nat_lt 0 g && c % g == 0) refl there
  where
    go : (v : Bool) → (nat_lt 0 g && c % g == 0) ≡ v → 0 < cond v (c / g) 0 → Fits g c
    go true is there = record { some = grind (arith, nat_tests); whole = grind (arith, nat_tests); cycle = ap (λ v. cond v (c / g) 0) is; there = there }
    go false is there = absurd (omega arith)

pub fits_by : (g c : ℕ) → 0 < g → c % g ≡ 0 → 0 < c → Fits g c
fits_by g c some none cycle =
    let is : (nat_lt 0 g && c % g == 0) ≡ true = grind (arith, nat_tests) in
    record { some = some; whole = none; cycle = ap (λ v. cond v (c / g) 0) is; there = quotient_some (c / g) g c (whole c g none) cycle }

-- its rest is rounded up
pub rest_is : (g c r : ℕ) → Fits g c → coarse_rest g c r ≡ rounded_up r g
rest_is g c r fits =
    let there = fits.there in
    let same = fits.cycle in
    let is : ltb 0 (coarse_cycle g c) ≡ true = ap (ltb 0) same ∙ grind (arith, nat_tests) in
    ap (λ v. cond v (rounded_up r g) 0) is

module _ (grain : ℕ → ℕ) where
  -- the form of a window below, from its form in steps of the grain
  fine_form : (c r : ℕ) (w : Window) → Fits (grain w.link) c → GoodForm (c / grain w.link) (rounded_up r (grain w.link)) w → GoodForm c r (finer grain w)
  fine_form c r w fits good =
      let g = grain w.link in
      let p = w.period in
      let q = c / g in
      let R = rounded_up r g in
      let parts : c ≡ q / p * (p * g) = sym (whole c g fits.whole) ∙ ap (λ x. x * g) (sym (whole q p good.whole)) ∙ mul_assoc (q / p) p g in
      let sum : (w.start + w.length + R) * g ≡ w.start * g + w.length * g + R * g = add-mul (w.start + w.length) R g ∙ ap (λ x. x + R * g) (add-mul w.start w.length g) in
      let most : (w.start + w.length + R) * g ≤ p * g = mul-le-mul_right g good.ends in
      let covers = rounded_covers r g fits.some in
      record {
        long = mul-pos good.long fits.some;
        again = mul-pos good.again fits.some;
        whole = ap (λ x. x % (p * g)) parts ∙ mul-mod_left (q / p) (p * g);
        ends = omega arith;
      }

  -- a grain that divides a period divides the cycle
  divides : (c p g : ℕ) → c % p ≡ 0 → p % g ≡ 0 → c ≡ c / p * (p / g) * g
  divides c p g one other = sym (whole c p one) ∙ ap (λ x. c / p * x) (sym (whole p g other)) ∙ sym (mul_assoc (c / p) (p / g) g)

  coarse_fits : (c r : ℕ) (w : Window) → Whole (grain w.link) w → 0 < c → GoodForm c r w → Fits (grain w.link) c
  coarse_fits c r w steps cycle good =
      let g = grain w.link in
      let some = grain_some w.length g good.long steps.length in
      let parts = divides c w.period g good.whole steps.period in
      fits_by g c some (ap (λ x. x % g) parts ∙ mul-mod_left (c / w.period * (w.period / g)) g) cycle

  -- and the form in steps of the grain, from the form of a window of whole steps below
  coarse_form : (c r : ℕ) (w : Window) → Whole (grain w.link) w → 0 < c → GoodForm c r w → GoodForm (c / grain w.link) (rounded_up r (grain w.link)) (coarser grain w)
  coarse_form c r w steps cycle good =
      let g = grain w.link in
      let some = grain_some w.length g good.long steps.length in
      let a = w.start / g in
      let l = w.length / g in
      let p = w.period / g in
      let start = whole w.start g steps.start in
      let length = whole w.length g steps.length in
      let period = whole w.period g steps.period in
      let parts = divides c w.period g good.whole steps.period in
      let over : c / g ≡ c / w.period * p = ap (λ x. x / g) parts ∙ mul-div_cancel (c / w.period * p) some in
      let ends = good.ends in
      let sum = add-mul a l g in
      let under : (a + l) * g ≤ p * g = omega arith in
      let fits : a + l ≤ p = le_of_mul-le-mul_right under some in
      let d = p - (a + l) in
      let rest : p ≡ (a + l) + d = omega arith in
      let split = ap (λ x. x * g) rest ∙ add-mul (a + l) d g in
      let round : rounded_up r g ≤ d = rounded_within r g d some (omega arith) in
      record {
        long = quotient_some l g w.length length good.long;
        again = quotient_some p g w.period period good.again;
        whole = ap (λ x. x % p) over ∙ mul-mod_left (c / w.period) p;
        ends = omega arith;
      }

  pub coarser-finer : (w : Window) → 0 < grain w.link → coarser grain (finer grain w) ≡ w
  coarser-finer w some = λ i. record { link = w.link; start = mul-div_cancel w.start some i; length = mul-div_cancel w.length some i; period = mul-div_cancel w.period some i }

  finer-coarser : (w : Window) → Whole (grain w.link) w → finer grain (coarser grain w) ≡ w
  finer-coarser w steps =
      let g = grain w.link in
      λ i. record { link = w.link; start = whole w.start g steps.start i; length = whole w.length g steps.length i; period = whole w.period g steps.period i }

  -- a window holds a step exactly when it holds the first of its steps below, and where it holds any of them
  held_finer : (w : Window) (r s : ℕ) → 0 < grain w.link → Holds w (rounded_up r (grain w.link)) s → Holds (finer grain w) r (s * grain w.link)
  held_finer w r s some (k, (late, early)) =
      let g = grain w.link in
      let a = w.start + k * w.period in
      let times : a * g ≡ w.start * g + k * (w.period * g) = add-mul w.start (k * w.period) g ∙ ap (λ x. w.start * g + x) (mul_assoc k w.period g) in
      let low : a * g ≤ s * g = mul-le-mul_right g late in
      let high = fine_before a w.length r g s some early in
      (k, (omega arith, omega arith))

  finer_held : (w : Window) (r t : ℕ) → 0 < grain w.link → Holds (finer grain w) r t → Holds w (rounded_up r (grain w.link)) (t / grain w.link)
  finer_held w r t some (k, (late, early)) =
      let g = grain w.link in
      let a = w.start + k * w.period in
      let times : a * g ≡ w.start * g + k * (w.period * g) = add-mul w.start (k * w.period) g ∙ ap (λ x. w.start * g + x) (mul_assoc k w.period g) in
      let low : a ≤ t / g = (le-div_iff_mul-le some).1 (omega arith) in
      let most = div-mul-le_self t g in
      (k, (low, coarse_before a w.length r g (t / g) some (omega arith)))

  module _ (m : Meaning) where
    fits_suits : (w : Window) → Suits (grain_meaning grain m) w → Fits (grain w.link) (m.cycle w.link)
    fits_suits w suits = fits_from (grain w.link) (m.cycle w.link) (cycle_some (grain_meaning grain m) w.link suits.link)

    coarse_suits : (w : Window) → Whole (grain w.link) w → Suits m w → Suits (grain_meaning grain m) (coarser grain w)
    coarse_suits w steps suits =
        let l = w.link in
        let c = m.cycle l in
        let r = m.rest l in
        let cycle = cycle_some m l suits.link in
        let fits = coarse_fits c r w steps cycle suits.form in
        let there = fits.there in
        let same = fits.cycle in
        let some : ltb 0 (coarse_cycle (grain l) c) ≡ true = ap (ltb 0) same ∙ grind (arith, nat_tests) in
        let on = (and_parts (linked l) _ suits.link).0 in
        let form = coarse_form c r w steps cycle suits.form in
        record {
          link = λ i. on i && some i;
          form = subst (λ x. GoodForm x (coarse_rest (grain l) c r) (coarser grain w)) (sym same) (subst (λ x. GoodForm (c / grain l) x (coarser grain w)) (sym (rest_is (grain l) c r fits)) form);
        }

    fine_suits : (w : Window) → Suits (grain_meaning grain m) w → Suits m (finer grain w)
    fine_suits w suits =
        let l = w.link in
        let c = m.cycle l in
        let r = m.rest l in
        let fits = fits_suits w suits in
        let on = (and_parts (linked l) _ suits.link).0 in
        let most = div-le_self c (grain l) in
        let there = fits.there in
        let some : ltb 0 c ≡ true = grind (arith, nat_tests) in
        record {
          link = λ i. on i && some i;
          form = fine_form c r w fits (subst (λ x. GoodForm (c / grain l) x w) (rest_is (grain l) c r fits) (subst (λ x. GoodForm x (coarse_rest (grain l) c r) w) fits.cycle suits.form));
        }

    cycle_within : (g c : ℕ) → coarse_cycle g c ≤ c
    cycle_within g c = go (nat_lt 0 g && c % g == 0)
      where
        go : (v : Bool) → cond v (c / g) 0 ≤ c
        go true = div-le_self c g
        go false = omega arith

    rest_within : (g c r : ℕ) → coarse_rest g c r ≤ r
    rest_within g c r = go (nat_lt 0 (coarse_cycle g c)) refl
      where
        go : (v : Bool) → nat_lt 0 (coarse_cycle g c) ≡ v → cond v (rounded_up r g) 0 ≤ r
        go true is =
            let there : 0 < coarse_cycle g c = grind (arith, nat_tests) in
            let some = (fits_from g c there).some in
            let most : r * 1 ≤ r * g = mul-le-mul_left r some in
            rounded_within r g r some (omega (arith, mul-one r))
        go false is = omega arith

    -- the book in steps of the grain is kept in the one below, where a step is the first of as many
    pub grain_through : Sound m → GrainTied grain m → Through (coarser grain) (finer grain) (λ l s. s * grain l) m (grain_meaning grain m)
    grain_through sound tied = record {
      inner = sound;
      cycles = λ l. omega (arith, cycle_within (grain l) (m.cycle l), sound.cycles l);
      rests = λ l. omega (arith, rest_within (grain l) (m.cycle l) (m.rest l), sound.rests l);
      windows = λ k. refl;
      link = λ w. refl;
      above = λ k v stands. (coarse_suits v (tied k v stands) (sound.proper k v stands).suits, finer-coarser v (tied k v stands));
      below = λ w suits. (fine_suits w suits, coarser-finer w (fits_suits w suits).some);
      raise = λ l s. s / grain l;
      raised = λ l s there. mul-div_cancel s (fits_from (grain l) (m.cycle l) (cycle_some (grain_meaning grain m) l there)).some;
      falls = λ w suits s held. let fits = fits_suits w suits in held_finer w (m.rest w.link) s fits.some (subst (λ r. Holds w r s) (rest_is (grain w.link) (m.cycle w.link) (m.rest w.link) fits) held);
      rises = λ w suits s held. let fits = fits_suits w suits in subst (λ r. Holds w r (s / grain w.link)) (sym (rest_is (grain w.link) (m.cycle w.link) (m.rest w.link) fits)) (finer_held w (m.rest w.link) s fits.some held);
    }

    -- what stands under one number is seen in the other form
    pub grain_replaced : (n : ℕ) (o : Option Window) → grain_meaning grain (with n o m) ≡ with n (option_map (coarser grain) o) (grain_meaning grain m)
    grain_replaced n o = λ i. record { windows = λ k. replaced_through (coarser grain) n o m.windows k i; cycle = (grain_meaning grain m).cycle; rest = (grain_meaning grain m).rest }

    -- one window more or less
    pub grain_put : (n : ℕ) (w : Window) → GrainTied grain m → Suits (grain_meaning grain m) w → GrainTied grain (with n (Some (finer grain w)) m)
    grain_put n w tied suits =
        let g = grain w.link in
        each_with m n (finer grain w) (λ v. Whole (grain v.link) v) (record { start = mul-mod_left w.start g; length = mul-mod_left w.length g; period = mul-mod_left w.period g }) tied

    pub grain_taken : (n : ℕ) → GrainTied grain m → GrainTied grain (with n None m)
    grain_taken n tied = each_without m n (λ v. Whole (grain v.link) v) tied
