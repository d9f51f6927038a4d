-- What is true of a rest layer and of a grain layer, by their meanings alone.
use Rattle.std.proofs.Common.{◌≡◌, ℕ, ◌+◌, ◌*◌, ◌<◌, Some, None, ap, ◌∙◌, arith}
use Rattle.book.specs.Calls.{held_answer}
use Rattle.book.specs.declared.Window.{Window}
use Rattle.book.specs.Holding.{Holds}
use Rattle.book.specs.Meaning.{Meaning, with}
use Rattle.book.specs.Sound.{Sound}
use Rattle.book.proofs.Through.{through_sound, through_held, each_with}
use Rattle.layer.specs.Graining.{Fits, grain_through, grain_replaced, coarser-finer}
use Rattle.layer.specs.Grains.{finer, grain_meaning, GrainTied}
use Rattle.layer.specs.Resting.{rest_through, rest_replaced, rest_taken, shorter-longer}
use Rattle.layer.specs.Rests.{longer, shorter, rest_meaning, RestTied}

module _ (extra : ℕ → ℕ) (m : Meaning) where
  -- a window that is booked below with the extra, or lifted there, is booked or lifted above
  pub rest_with : (n : ℕ) (w : Window) → rest_meaning extra (with n (Some (longer extra w)) m) ≡ with n (Some w) (rest_meaning extra m)
  rest_with n w = rest_replaced extra m n (Some (longer extra w)) ∙ ap (λ v. with n (Some v) (rest_meaning extra m)) (shorter-longer extra w)

  pub rest_without : (n : ℕ) → rest_meaning extra (with n None m) ≡ with n None (rest_meaning extra m)
  rest_without n = rest_replaced extra m n None

  -- and the book below stays tied to the layer
  pub tied_with : (n : ℕ) (w : Window) → 0 < w.length → RestTied extra m → RestTied extra (with n (Some (longer extra w)) m)
  tied_with n w long tied = record { limits = tied.limits; longer = each_with m n (longer extra w) (λ v. extra v.link < v.length) (omega arith) tied.longer }

  pub tied_without : (n : ℕ) → RestTied extra m → RestTied extra (with n None m)
  tied_without n tied = rest_taken extra m n tied

module _ (extra : ℕ → ℕ) (w : Window) (l rest s : ℕ) (link : w.link ≡ l) where
  -- a window with the extra holds the steps that it holds on a link with the longer rest
  pub held_longer : Holds w (rest + extra l) s → Holds (longer extra w) rest s
  held_longer (k, (late, early)) = (k, (late, omega (arith, ap extra link)))

  pub longer_held : Holds (longer extra w) rest s → Holds w (rest + extra l) s
  longer_held (k, (late, early)) = (k, (late, omega (arith, ap extra link)))

  -- and one without the extra those that it held with it
  pub held_shorter : extra w.link < w.length → Holds w rest s → Holds (shorter extra w) (rest + extra l) s
  held_shorter more (k, (late, early)) = (k, (late, omega (arith, ap extra link)))

  pub shorter_held : extra w.link < w.length → Holds (shorter extra w) (rest + extra l) s → Holds w rest s
  shorter_held more (k, (late, early)) = (k, (late, omega (arith, ap extra link)))

module _ (grain : ℕ → ℕ) (m : Meaning) where
  -- a window that is booked below in finer steps, or lifted there, is booked or lifted above
  pub grain_with : (n : ℕ) (w : Window) → 0 < grain w.link → grain_meaning grain (with n (Some (finer grain w)) m) ≡ with n (Some w) (grain_meaning grain m)
  grain_with n w some = grain_replaced grain m n (Some (finer grain w)) ∙ ap (λ v. with n (Some v) (grain_meaning grain m)) (coarser-finer grain w some)

  pub grain_without : (n : ℕ) → grain_meaning grain (with n None m) ≡ with n None (grain_meaning grain m)
  grain_without n = grain_replaced grain m n None

module _ (extra : ℕ → ℕ) (m : Meaning) (sound : Sound m) (tied : RestTied extra m) where
  -- a rest layer is sound where the book below is
  pub rest_sound : Sound (rest_meaning extra m)
  rest_sound = through_sound (rest_through extra m sound tied)

  -- the same windows hold a step
  pub rest_held : (l s : ℕ) → held_answer l s m ≡ held_answer l s (rest_meaning extra m)
  rest_held l s = through_held (rest_through extra m sound tied) l s

module _ (grain : ℕ → ℕ) (m : Meaning) (sound : Sound m) (tied : GrainTied grain m) where
  -- a grain layer is sound where the book below is
  pub grain_sound : Sound (grain_meaning grain m)
  grain_sound = through_sound (grain_through grain m sound tied)

  -- a step is held by the window that holds the first of its steps below
  pub grain_held : (l s : ℕ) → Fits (grain l) (m.cycle l) → held_answer l (s * grain l) m ≡ held_answer l s (grain_meaning grain m)
  grain_held l s fits = through_held (grain_through grain m sound tied) l s
