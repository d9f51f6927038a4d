-- A book that is kept in another one, of which the windows meet as they do there: what follows from the meetings alone.
use Rattle.std.proofs.Common.{◌≡◌, ℕ, ◌≤◌, is_some, Some, None, Option, sym, refl, ap, ◌∙◌, subst, arith, Ok, Err, Result}
use Rattle.std.proofs.lemmas.Bool.Decides.{Decides-like, same_from_decides}
use Rattle.std.specs.Option.{option_map}
use Rattle.std.specs.Result.{result_and}
use Rattle.book.specs.declared.fault.BookFault.{BookFault}
use Rattle.book.specs.declared.window.Window.{Window}
use Rattle.book.specs.Calls.{meets_standing, first_met, unfit, unmet, book_answer, book_after, changed, held_answer}
use Rattle.book.specs.Holding.{Holds, Meet}
use Rattle.book.specs.Lowest.{lowest}
use Rattle.book.specs.Meaning.{Meaning, with}
use Rattle.book.specs.Sound.{Stands, EachStanding, Suits, Proper, Sound, WouldMeet}
use Rattle.book.specs.Steps.{Did}
use Rattle.book.proofs.Clashing.{meets_standing_lem}
use Rattle.book.proofs.Fitting.{free, unfit_proper}
use Rattle.book.proofs.Holders.{held_like}

-- m is kept in m₀: its windows are those of m₀ by up, a window that suits m is kept as down says, and two windows meet exactly
-- when they do below
pub record Meetings (up down : Window → Window) (m₀ m : Meaning) : Type 0 where
  pub inner : Sound m₀
  pub cycles : (l : ℕ) → m.cycle l ≤ 1000000
  pub rests : (l : ℕ) → m.rest l ≤ 1000000
  pub windows : (k : ℕ) → m.windows k ≡ option_map up (m₀.windows k)
  pub link : (w : Window) → (down w).link ≡ w.link
  pub above : EachStanding m₀ (λ v. Suits m (up v) × (down (up v) ≡ v))
  pub below : (w : Window) → Suits m w → Suits m₀ (down w) × (up (down w) ≡ w)
  pub meets : (v w : Window) → Suits m v → Suits m w → v.link ≡ w.link → Meet (m.rest w.link) v w → Meet (m₀.rest w.link) (down v) (down w)
  pub met : (v w : Window) → Suits m v → Suits m w → v.link ≡ w.link → Meet (m₀.rest w.link) (down v) (down w) → Meet (m.rest w.link) v w

module _ {up down : Window → Window} {m₀ m : Meaning} (t : Meetings up down m₀ m) where
  -- the window below that a window is kept as
  pub kept_as : (k : ℕ) (w : Window) → Stands m k w → (v : Window) × (Stands m₀ k v × (up v ≡ w))
  kept_as k w stands = go (m₀.windows k) refl (sym (t.windows k) ∙ stands)
    where
      go : (o : Option Window) → m₀.windows k ≡ o → option_map up o ≡ Some w → (v : Window) × (Stands m₀ k v × (up v ≡ w))
      go None free is = absurd (let z : ◌≡◌ {A = ℕ} 0 1 = cc in omega arith)
      go (Some v) there is = (v, (there, cc))

  pub suits_above : (k : ℕ) (w : Window) → Stands m k w → Suits m w
  suits_above k w stands = let (v, (there, same)) = kept_as k w stands in subst (Suits m) same (t.above k v there).0

  -- it is the one that down gives
  down_is : (k : ℕ) (v w : Window) → Stands m₀ k v → up v ≡ w → down w ≡ v
  down_is k v w there same = ap down (sym same) ∙ (t.above k v there).1

  link_above : (k : ℕ) (v : Window) → Stands m₀ k v → (up v).link ≡ v.link
  link_above k v there = sym (t.link (up v)) ∙ ap (λ x. x.link) (t.above k v there).1

  stands_above : (k : ℕ) (v : Window) → Stands m₀ k v → Stands m k (up v)
  stands_above k v there = t.windows k ∙ ap (option_map up) there

  -- no two windows of the book above ever hold one step, since none of the book below do
  pub meetings_sound : Sound m
  meetings_sound = record {
    cycles = t.cycles;
    rests = t.rests;
    proper = λ n w stands. record { number = (t.inner.proper n (kept_as n w stands).0 (kept_as n w stands).1.0).number; suits = suits_above n w stands };
    apart = λ i j v w other one two same s held also.
        let (x, (there, is)) = kept_as i v one in
        let (y, (there', is')) = kept_as j w two in
        let At : ℕ → Type 0 = λ l. Holds v (m.rest l) s in
        let (s₀, (held₀, also₀)) = t.meets v w (suits_above i v one) (suits_above j w two) same (s, (subst At same held, also)) in
        let first = down_is i x v there is in
        let second = down_is j y w there' is' in
        let link : w.link ≡ y.link = sym (t.link w) ∙ ap (λ z. z.link) second in
        let link' : w.link ≡ x.link = sym same ∙ sym (t.link v) ∙ ap (λ z. z.link) first in
        let One : Window → Type 0 = λ z. Holds z (m₀.rest w.link) s₀ in
        let First : ℕ → Type 0 = λ l. Holds x (m₀.rest l) s₀ in
        let Second : ℕ → Type 0 = λ l. Holds y (m₀.rest l) s₀ in
        t.inner.apart i j x y other there there' (sym link' ∙ link) s₀ (subst First link' (subst One first held₀)) (subst Second link (subst One second also₀));
  }

  module _ (w : Window) (suits : Suits m w) where
    would : (k : ℕ) → WouldMeet m w k → WouldMeet m₀ (down w) k
    would k (v, (stands, (same, met))) =
        let (x, (there, is)) = kept_as k v stands in
        let first = down_is k x v there is in
        let low = t.meets v w (suits_above k v stands) suits same met in
        let At : Window → ℕ → Type 0 = λ z l. Meet (m₀.rest l) z (down w) in
        (x, (there, (ap (λ z. z.link) (sym first) ∙ t.link v ∙ same ∙ sym (t.link w), subst (At x) (sym (t.link w)) (subst (λ z. At z w.link) first low))))

    would_back : (k : ℕ) → WouldMeet m₀ (down w) k → WouldMeet m w k
    would_back k (x, (there, (same, met))) =
        let link = link_above k x there ∙ same ∙ t.link w in
        let At : Window → ℕ → Type 0 = λ z l. Meet (m₀.rest l) z (down w) in
        let low = subst (λ z. At z w.link) (sym (t.above k x there).1) (subst (At x) (t.link w) met) in
        (up x, (stands_above k x there, (link, t.met (up x) w (t.above k x there).0 suits link low)))

    -- the window meets the same numbers below
    pub meetings_met : first_met m₀ (down w) ≡ first_met m w
    meetings_met =
        let same : (k : ℕ) → meets_standing m₀ (down w) (m₀.windows k) ≡ meets_standing m w (m.windows k) = λ k. same_from_decides _ _ (meets_standing_lem t.inner (t.below w suits).0 k) (Decides-like _ (would k) (would_back k) (meets_standing_lem meetings_sound suits k)) in
        λ i. lowest (λ k. same k i) 1 256

  some_mapped : (o : Option Window) → is_some (option_map up o) ≡ is_some o
  some_mapped None = refl
  some_mapped (Some v) = refl

  -- the book below gives the answer
  pub meetings_answer : (n : ℕ) (w : Window) → Proper m n w → book_answer n (down w) m₀ ≡ book_answer n w m
  meetings_answer n w proper =
      let low = (t.below w proper.suits).0 in
      let taken : is_some (m₀.windows n) ≡ is_some (m.windows n) = sym (ap is_some (t.windows n) ∙ some_mapped (m₀.windows n)) in
      let fits : unfit n (down w) m₀ ≡ unfit n w m = unfit_proper m₀ n (down w) (record { number = proper.number; suits = low }) ∙ ap (free n) taken ∙ sym (unfit_proper m n w proper) in
      λ i. result_and (fits i) (unmet n (meetings_met w proper.suits i))

  -- a step of the book above is held as one of the book below
  pub meetings_held : (l s s₀ : ℕ) → ((k : ℕ) (v : Window) → Stands m₀ k v → v.link ≡ l → Holds (up v) (m.rest l) s → Holds v (m₀.rest l) s₀) → ((k : ℕ) (v : Window) → Stands m₀ k v → v.link ≡ l → Holds v (m₀.rest l) s₀ → Holds (up v) (m.rest l) s) → held_answer l s₀ m₀ ≡ held_answer l s m
  meetings_held l s s₀ falls rises =
      held_like m₀ m l s₀ s
      (λ k (v, (there, (link, held))). (up v, (stands_above k v there, (link_above k v there ∙ link, rises k v there link held))))
      (λ k (w, (stands, (link, held))).
      let (v, (there, is)) = kept_as k w stands in
      let low : v.link ≡ l = sym (link_above k v there) ∙ ap (λ x. x.link) is ∙ link in
      let At : Window → Type 0 = λ x. Holds x (m.rest l) s in
      (v, (there, (low, falls k v there low (subst At (sym is) held)))))

-- what a call on the book below does to the book above, which means what above says of the one below as long as this is Tied
module _ {up down : Window → Window} (above : Meaning → Meaning) (Tied : Meaning → Type 0) (m₀ m₀' : Meaning) (t : Meetings up down m₀ (above m₀)) (tied : Tied m₀) (K : Type 0) (n : ℕ) where
  pub meetings_booked : (w x : Window) (r : Result (Unit {0}) BookFault) → Proper (above m₀) n w → x ≡ down w → above (with n (Some (down w)) m₀) ≡ with n (Some w) (above m₀) → Tied (with n (Some (down w)) m₀) → Did r (book_answer n x m₀) m₀' (book_after n x m₀) K → Did r (book_answer n w (above m₀)) (above m₀') (book_after n w (above m₀)) (K × Tied m₀')
  meetings_booked w x r proper low sees stays called =
      let At : Window → Type 0 = λ y. Did r (book_answer n y m₀) m₀' (book_after n y m₀) K in
      let did = subst At low called in
      let same = meetings_answer t n w proper in
      record {
        answer = did.answer ∙ same;
        after = ap above did.after ∙ go (book_answer n (down w) m₀) ∙ ap (λ a. changed a (with n (Some w) (above m₀)) (above m₀)) same;
        kept = (did.kept, subst Tied (sym did.after) (keeps (book_answer n (down w) m₀)));
      }
    where
      go : (a : Result (Unit {0}) BookFault) → above (changed a (with n (Some (down w)) m₀) m₀) ≡ changed a (with n (Some w) (above m₀)) (above m₀)
      go (Ok x) = sees
      go (Err e) = refl

      keeps : (a : Result (Unit {0}) BookFault) → Tied (changed a (with n (Some (down w)) m₀) m₀)
      keeps (Ok x) = stays
      keeps (Err e) = tied
