-- A book that is kept in another one: each window is handed to the book below in another form.
use Rattle.std.proofs.Common.{◌≡◌, ℕ, ◌^◌, ◌%◌, ◌<◌, Bool, true, false, cond, eqb, Some, None, Ok, Option, Result, sym, refl, ap, ◌∙◌, subst, arith}
use Rattle.std.specs.Option.{option_map}
use Rattle.book.specs.declared.fault.BookFault.{BookFault}
use Rattle.book.specs.declared.span.Span.{Span}
use Rattle.book.specs.declared.window.Window.{Window}
use Rattle.book.specs.Calls.{first_met, misfit, book_answer, book_after, held_answer, span_answer}
use Rattle.book.specs.Holding.{Holds}
use Rattle.book.specs.Meaning.{Meaning, present, replaced, with}
use Rattle.book.specs.Sound.{EachStanding, Suits, Proper, Sound, HoldsAt}
use Rattle.book.specs.Steps.{Did}
use Rattle.book.specs.Through.{Through}
use Rattle.book.proofs.Fitting.{fitting, period_short}
use Rattle.book.proofs.Holders.{held_like, placed_held}
use Rattle.book.proofs.Keeping.{stands_with}
use Rattle.book.proofs.Meetings.{Meetings, kept_as, suits_above, meetings_sound, meetings_met, meetings_answer, meetings_booked}

module _ {up down : Window → Window} {lower : ℕ → ℕ → ℕ} {m₀ m : Meaning} (t : Through up down lower m₀ m) where
  -- two windows meet above exactly when they do below
  pub meetings : Meetings up down m₀ m
  meetings = record {
    inner = t.inner;
    cycles = t.cycles;
    rests = t.rests;
    windows = t.windows;
    link = t.link;
    above = t.above;
    below = t.below;
    meets = λ v w suits also same (s, (one, other)).
        let At : ℕ → Type 0 = λ l. Holds v (m.rest l) s → Holds (down v) (m₀.rest l) (lower l s) in
        (lower w.link s, (subst At same (t.falls v suits s) one, t.falls w also s other));
    met = λ v w suits also same (s, (one, other)).
        let At : ℕ → Type 0 = λ l. Holds (down v) (m₀.rest l) s → Holds v (m.rest l) (t.raise l s) in
        (t.raise w.link s, (subst At same (t.rises v suits s) one, t.rises w also s other));
  }

  -- the number whose window holds a step of a link holds it below, and the other way round
  held_below : (l s k : ℕ) → HoldsAt m l s k → HoldsAt m₀ l (lower l s) k
  held_below l s k (w, (stands, (link, held))) =
      let (v, (there, is)) = kept_as meetings k w stands in
      let same : down w ≡ v = ap down (sym is) ∙ (t.above k v there).1 in
      let At : ℕ → Type 0 = λ i. Holds w (m.rest i) s → Holds (down w) (m₀.rest i) (lower i s) in
      let Kept : Window → Type 0 = λ x. Holds x (m₀.rest l) (lower l s) in
      (v, (there, (ap (λ x. x.link) (sym same) ∙ t.link w ∙ link, subst Kept same (subst At link (t.falls w (suits_above meetings k w stands) s) held))))

  held_above : (l s k : ℕ) → HoldsAt m₀ l s k → HoldsAt m l (t.raise l s) k
  held_above l s k (v, (there, (link, held))) =
      let (suits, same) = t.above k v there in
      let seen : (up v).link ≡ l = sym (t.link (up v)) ∙ ap (λ x. x.link) same ∙ link in
      let At : ℕ → Type 0 = λ i. Holds (down (up v)) (m₀.rest i) s → Holds (up v) (m.rest i) (t.raise i s) in
      let Kept : Window → Type 0 = λ x. Holds x (m₀.rest l) s in
      (up v, (t.windows k ∙ ap (option_map up) there, (seen, subst At seen (t.rises (up v) suits s) (subst Kept (sym same) held))))

  -- no two windows of the book above ever hold one step, since none of the book below do
  pub through_sound : Sound m
  through_sound = meetings_sound meetings

  -- a window meets the same numbers below
  pub through_met : (w : Window) → Suits m w → first_met m₀ (down w) ≡ first_met m w
  through_met w suits = meetings_met meetings w suits

  -- the book below gives the answer
  pub through_answer : (n : ℕ) (w : Window) → Proper m n w → book_answer n (down w) m₀ ≡ book_answer n w m
  through_answer n w proper = meetings_answer meetings n w proper

  -- a step is held as one of the book below
  pub through_held : (l s : ℕ) → held_answer l (lower l s) m₀ ≡ held_answer l s m
  through_held l s =
      held_like m₀ m l (lower l s) s
      (λ k held. let above = held_above l (lower l s) k held in subst (λ i. HoldsAt m l i k) (t.raised l s (there k above)) above)
      (held_below l s)
    where
      -- the link of a window that holds a step is there
      there : {i : ℕ} (k : ℕ) → HoldsAt m l i k → present m l ≡ true
      there k (w, (stands, (link, held))) = ap (present m) (sym link) ∙ (suits_above meetings k w stands).link

  -- so the book below, asked for the place of the step in the cycle of the link, gives the answer
  pub held_through : (l s place below : ℕ) (span : Span) (r : Option ℕ) → span ≡ span_answer l m → 0 < span.cycle → place ≡ s % span.cycle → below ≡ lower l place → r ≡ held_answer l below m₀ → r ≡ held_answer l s m
  held_through l s place below span r is some at step asked =
      placed_held m through_sound l s span r is some (λ there. asked ∙ ap (λ x. held_answer l x m₀) (step ∙ ap (lower l) at) ∙ through_held l (s % span.cycle))

-- what stands under one number is replaced above as below
pub replaced_through : (up : Window → Window) (n : ℕ) (o : Option Window) (windows : ℕ → Option Window) (k : ℕ) → option_map up (replaced n o windows k) ≡ replaced n (option_map up o) (λ j. option_map up (windows j)) k
replaced_through up n o windows k = go (eqb k n)
  where
    go : (v : Bool) → option_map up (cond v o (windows k)) ≡ cond v (option_map up o) (option_map up (windows k))
    go true = refl
    go false = refl

-- one window more or less is one of P too
pub each_with : (m : Meaning) (n : ℕ) (v : Window) (P : Window → Type 0) → P v → EachStanding m P → EachStanding (with n (Some v) m) P
each_with m n v P here each k w stands = stands_with m n (Some v) k w (P w) stands (λ _ is. let same : v ≡ w = cc in subst P same here) (λ _ was. each k w was)

pub each_without : (m : Meaning) (n : ℕ) (P : Window → Type 0) → EachStanding m P → EachStanding (with n None m) P
each_without m n P each k w stands = stands_with m n None k w (P w) stands (λ _ is. absurd (grind arith)) (λ _ was. each k w was)

-- what a call on the book below does to the book above, which means what above says of the one below as long as this is Tied
module _ {up down : Window → Window} {lower : ℕ → ℕ → ℕ} (above : Meaning → Meaning) (Tied : Meaning → Type 0) (m₀ m₀' : Meaning) (t : Through up down lower m₀ (above m₀)) (tied : Tied m₀) (K : Type 0) (n : ℕ) (sees : (o : Option Window) → above (with n o m₀) ≡ with n (option_map up o) (above m₀)) where
  -- a window that passes the test of the book above is small enough to be handed down, and the book below books it
  pub booked_through : (w x : Window) (span : Span) (r : Result (Unit {0}) BookFault) → span ≡ span_answer w.link (above m₀) → Ok tt ≡ misfit n w span.cycle span.rest → ((down w).start < 2 ^ 32 → (down w).length < 2 ^ 32 → (down w).period < 2 ^ 32 → x ≡ down w) → (Suits (above m₀) w → Tied (with n (Some (down w)) m₀)) → Did r (book_answer n x m₀) m₀' (book_after n x m₀) K → Did r (book_answer n w (above m₀)) (above m₀') (book_after n w (above m₀)) (K × Tied m₀')
  booked_through w x span r is passed low stays called =
      let proper = fitting (above m₀) n w span is (sym passed) in
      let (below, same_window) = t.below w proper.suits in
      let short = period_short m₀ t.inner (down w) below in
      let ends = below.form.ends in
      meetings_booked above Tied m₀ m₀' (meetings t) tied K n w x r proper (low (omega arith) (omega arith) (omega arith)) (sees (Some (down w)) ∙ ap (λ v. with n (Some v) (above m₀)) same_window) (stays proper.suits) called
