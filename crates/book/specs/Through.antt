-- A book that is kept in another one: each window is handed to the book below in another form.
use Rattle.std.specs.Prelude.{◌≡◌, ℕ, ◌≤◌, true}
use Rattle.std.specs.Option.{option_map}
use Rattle.book.specs.declared.window.Window.{Window}
use Rattle.book.specs.Holding.{Holds}
use Rattle.book.specs.Meaning.{Meaning, present}
use Rattle.book.specs.Sound.{EachStanding, Suits, Sound}

-- m is kept in m₀: its windows are those of m₀ by up, a window that suits m is kept as down says, and a step of a link is held
-- as the step below that lower gives
pub record Through (up down : Window → Window) (lower : ℕ → ℕ → ℕ) (m₀ m : Meaning) : Type 0 where
  pub inner : Sound m₀
  pub cycles : (l : ℕ) → m.cycle l ≤ 1000000
  pub rests : (l : ℕ) → m.rest l ≤ 1000000
  pub windows : (k : ℕ) → m.windows k ≡ option_map up (m₀.windows k)
  pub link : (w : Window) → (down w).link ≡ w.link
  pub above : EachStanding m₀ (λ v. Suits m (up v) × (down (up v) ≡ v))
  pub below : (w : Window) → Suits m w → Suits m₀ (down w) × (up (down w) ≡ w)
  pub raise : ℕ → ℕ → ℕ
  pub raised : (l s : ℕ) → present m l ≡ true → raise l (lower l s) ≡ s
  pub falls : (w : Window) → Suits m w → (s : ℕ) → Holds w (m.rest w.link) s → Holds (down w) (m₀.rest w.link) (lower w.link s)
  pub rises : (w : Window) → Suits m w → (s : ℕ) → Holds (down w) (m₀.rest w.link) s → Holds w (m.rest w.link) (raise w.link s)
