-- No two windows of a script's book ever hold one step, after any number of its lines.
use Rattle.std.proofs.Common.{◌≡◌, ℕ, zero, suc, List, [], ◌∷◌, take, Some, None, Ok, Err, Option, Result, refl}
use Rattle.book.specs.Meaning.{Meaning}
use Rattle.book.specs.Sound.{Sound}
use Rattle.book.specs.declared.BookFault.{BookFault}
use Rattle.book.proofs.Keeping.{book_sound, lift_sound}
use Rattle.bottom.specs.Ledger.{can_make, ground}
use Rattle.bottom.proofs.Grounds.{ground_sound}
use Rattle.script.specs.Reading.{read_line}
use Rattle.script.specs.declared.Call.{Call}
use Rattle.script.specs.declared.Call.TheVariants as call
use Rattle.script.specs.declared.Order.{Order}
use Rattle.script.specs.declared.Order.TheVariants as order
use Rattle.bookrun.specs.Performing.{after}
use Rattle.bookrun.specs.Scripts.{made, after_one, after_all, SoundIfAny, SoundThroughout}

call_sound : (c : Call) (m : Meaning) → Sound m → Sound (after c m)
unfolding after
call_sound (call.Book n w) m sound = book_sound m n w sound
call_sound (call.Lift n) m sound = lift_sound m n sound
call_sound (call.Find n) m sound = sound
call_sound (call.Held l s) m sound = sound
call_sound (call.Span l) m sound = sound

made_sound : (links cycle : ℕ) → SoundIfAny (made (can_make links cycle) (ground links cycle))
made_sound links cycle = go (can_make links cycle) refl
  where
    go : (r : Result (Unit {0}) BookFault) → can_make links cycle ≡ r → SoundIfAny (made r (ground links cycle))
    go (Ok x) can = ground_sound links cycle can
    go (Err e) cannot = tt

line_sound : (o : Option Order) (s : Option Meaning) → SoundIfAny s → SoundIfAny (after_one o s)
line_sound None None sound = tt
line_sound None (Some m) sound = sound
line_sound (Some (order.Make pile links cycle)) None sound = made_sound links cycle
line_sound (Some (order.Make pile links cycle)) (Some m) sound = sound
line_sound (Some (order.Call c)) None sound = tt
line_sound (Some (order.Call c)) (Some m) sound = call_sound c m sound

lines_sound : (ls : List (List ℕ)) (k : ℕ) (s : Option Meaning) → SoundIfAny s → SoundIfAny (after_all s (take k ls))
lines_sound [] zero s sound = sound
lines_sound [] (suc k) s sound = sound
lines_sound (l ∷ ls) zero s sound = sound
lines_sound (l ∷ ls) (suc k) s sound = lines_sound ls k (after_one (read_line l) s) (line_sound (read_line l) s sound)

pub sound_throughout : (ls : List (List ℕ)) → SoundThroughout ls
sound_throughout ls k = lines_sound ls k None tt
