-- Every call of a book keeps it sound.
use Rattle.std.proofs.Common.{◌≡◌, ℕ, ◌≤◌, Bool, true, false, cond, eqb, Some, None, Ok, Err, Option, Result, sym, refl, ap, ◌∙◌, subst, arith}
use Rattle.std.proofs.lemmas.Bool.Decides.{Decides-eqb, not_from_Decides}
use Rattle.std.specs.Result.{result_and}
use Rattle.book.specs.declared.fault.BookFault.{BookFault}
use Rattle.book.specs.declared.window.Window.{Window}
use Rattle.book.specs.Calls.{first_met, unfit, unmet, book_after, changed, lift_answer, lift_after}
use Rattle.book.specs.Holding.{Holds}
use Rattle.book.specs.Meaning.{Meaning, with, empty}
use Rattle.book.specs.Sound.{Stands, Proper, Sound}
use Rattle.book.proofs.Clashing.{Fit, fit, met_none}

-- a book without windows is sound
pub empty_sound : (cycle rest : ℕ → ℕ) → ((l : ℕ) → cycle l ≤ 1000000) → ((l : ℕ) → rest l ≤ 1000000) → Sound (empty cycle rest)
empty_sound cycle rest cycles rests = record {
  cycles = cycles;
  rests = rests;
  proper = λ n w stands. absurd (grind arith);
  apart = λ i j v w other stands. absurd (grind arith);
}

-- what stands under number k after number n got another window or none: the new one, or what stood there
pub stands_with : (m : Meaning) (n : ℕ) (o : Option Window) (k : ℕ) (w : Window) (P : Type 0) → Stands (with n o m) k w → (k ≡ n → o ≡ Some w → P) → ((k ≡ n → ⊥) → Stands m k w → P) → P
stands_with m n o k w P stands new old = go (eqb k n) refl stands
  where
    go : (v : Bool) → eqb k n ≡ v → cond v o (m.windows k) ≡ Some w → P
    go true same is = new ((Decides-eqb k n).0 same) is
    go false other is = old (not_from_Decides _ (Decides-eqb k n) other) is

-- a window that is proper stays so whatever stands under another number
kept_proper : (m : Meaning) (n : ℕ) (o : Option Window) (k : ℕ) (w : Window) → Proper m k w → Proper (with n o m) k w
kept_proper m n o k w was = record { number = was.number; suits = record { link = was.suits.link; form = was.suits.form } }

pub lift_sound : (m : Meaning) (n : ℕ) → Sound m → Sound (lift_after n m)
lift_sound m n sound = go (lift_answer n m)
  where
    stood : (k : ℕ) (w : Window) → Stands (with n None m) k w → Stands m k w
    stood k w stands = stands_with m n None k w _ stands (λ same none. absurd (grind arith)) (λ other was. was)

    go : (r : Result Window BookFault) → Sound (changed r (with n None m) m)
    go (Ok w) = record {
      cycles = sound.cycles;
      rests = sound.rests;
      proper = λ k w stands. kept_proper m n None k w (sound.proper k w (stood k w stands));
      apart = λ i j v w other one two. sound.apart i j v w other (stood i v one) (stood j w two);
    }
    go (Err e) = sound

-- the new window never holds a step with a standing one
new_apart : (m : Meaning) (n : ℕ) (w : Window) → Sound m → Fit m n w → first_met m w ≡ None → (j : ℕ) (v u : Window) → Some w ≡ Some v → Stands m j u → v.link ≡ u.link → (s : ℕ) → Holds v (m.rest v.link) s → Holds u (m.rest u.link) s → ⊥
new_apart m n w sound fits none j v u is stands same s held also =
    let new : v ≡ w = cc in
    let link : u.link ≡ w.link = sym same ∙ ap (λ x. x.link) new in
    let New : Window → Type 0 = λ x. Holds x (m.rest x.link) s in
    let At : ℕ → Type 0 = λ l. Holds u (m.rest l) s in
    met_none sound fits.proper.suits none j (u, (stands, (link, (s, (subst At link also, subst New new held)))))

pub book_sound : (m : Meaning) (n : ℕ) (w : Window) → Sound m → Sound (book_after n w m)
book_sound m n w sound = go (unfit n w m) refl (first_met m w) refl
  where
    go : (u : Result (Unit {0}) BookFault) → unfit n w m ≡ u → (o : Option ℕ) → first_met m w ≡ o → Sound (changed (result_and u (unmet n o)) (with n (Some w) m) m)
    go (Err e) early o met = sound
    go (Ok x) fits (Some k) met = sound
    go (Ok x) fits None none =
        let fitting = fit m n w fits in
        record {
          cycles = sound.cycles;
          rests = sound.rests;
          proper = λ k v stands.
              stands_with m n (Some w) k v _ stands
              (λ same is. let At : ℕ → Type 0 = λ i. Proper m i w in let New : Window → Type 0 = λ x. Proper (with n (Some w) m) k x in let was = subst At (sym same) fitting.proper in let equal : w ≡ v = cc in subst New equal (kept_proper m n (Some w) k w was))
              (λ other was. kept_proper m n (Some w) k v (sound.proper k v was));
          apart = λ i j v u other one two same s held also.
              stands_with m n (Some w) i v ⊥ one
              (λ first is.
              stands_with m n (Some w) j u ⊥ two
              (λ second _. other (first ∙ sym second))
              (λ _ stood. new_apart m n w sound fitting none j v u is stood same s held also))
              (λ _ stood.
              stands_with m n (Some w) j u ⊥ two
              (λ second is. new_apart m n w sound fitting none i u v is stood (sym same) s also held)
              (λ _ stood_too. sound.apart i j v u other stood stood_too same s held also));
        }
