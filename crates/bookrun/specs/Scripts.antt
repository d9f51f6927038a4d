-- What the lines of a script are answered with, one after the other.
use Rattle.std.specs.Prelude.{ℕ, List, [], ◌∷◌, take, IfSome, Some, None, Ok, Err, Option, Result}
use Rattle.book.specs.Meaning.{Meaning}
use Rattle.book.specs.Sound.{Sound}
use Rattle.book.specs.declared.BookFault.{BookFault}
use Rattle.bottom.specs.Ledger.{can_make, ground}
use Rattle.script.specs.declared.Order.{Order}
use Rattle.script.specs.declared.Order.TheVariants.{Make, Call}
use Rattle.bookrun.specs.Performing.{reply, after, book_reply}
use Rattle.bookrun.specs.Replies.{Reply}
use Rattle.script.specs.Reading.{read_line}

-- before there is a book only an order to make one is answered; any other line cannot be read
abbrev pub opening_reply : Option Order → Option Reply
opening_reply None = None
opening_reply (Some (Make pile links cycle)) = Some (book_reply (can_make links cycle))
opening_reply (Some (Call c)) = None

-- the book that was asked for, where it can be made
abbrev pub made : Result (Unit {0}) BookFault → Meaning → Option Meaning
made (Ok x) m = Some m
made (Err e) m = None

-- the book that there is after the line
abbrev pub opened : Option Order → Option Meaning
opened None = None
opened (Some (Make pile links cycle)) = made (can_make links cycle) (ground links cycle)
opened (Some (Call c)) = None

-- once there is a book, calls are answered, and any other line cannot be read
abbrev pub call_reply : Option Order → Meaning → Option Reply
call_reply None m = None
call_reply (Some (Make pile links cycle)) m = None
call_reply (Some (Call c)) m = Some (reply c m)

-- what the book means after the line
abbrev pub called : Option Order → Meaning → Meaning
called None m = m
called (Some (Make pile links cycle)) m = m
called (Some (Call c)) m = after c m

-- the reply to a line by what the book means, if there is one; none where the line cannot be read
abbrev pub reply_to : Option Order → Option Meaning → Option Reply
reply_to o None = opening_reply o
reply_to o (Some m) = call_reply o m

-- what the book means after the line, if there is one
abbrev pub after_one : Option Order → Option Meaning → Option Meaning
after_one o None = opened o
after_one o (Some m) = Some (called o m)

-- the replies to the lines of a script
abbrev pub replies : Option Meaning → List (List ℕ) → List (Option Reply)
replies s [] = []
replies s (l ∷ ls) = reply_to (read_line l) s ∷ replies (after_one (read_line l) s) ls

-- what the book means after them
abbrev pub after_all : Option Meaning → List (List ℕ) → Option Meaning
after_all s [] = s
after_all s (l ∷ ls) = after_all (after_one (read_line l) s) ls

-- the book is sound, if there is one
abbrev pub SoundIfAny : Option Meaning → Type 0
SoundIfAny s = IfSome s Sound

-- after any number of lines of a script no two windows of its book ever hold one step
abbrev pub SoundThroughout : List (List ℕ) → Type 0
SoundThroughout ls = (k : ℕ) → SoundIfAny (after_all None (take k ls))
