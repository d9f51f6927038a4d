-- The texts of replies.
use Rattle.std.specs.Prelude.{ℕ, List, ◌++◌, Some, None, Ok, Err, codes, decimal, Option, Result}
use Rattle.book.specs.declared.Cause.{Cause}
use Rattle.book.specs.declared.Window.{Window}
use Rattle.bookrun.specs.declared.reply.Accepted.{Accepted}
use Rattle.bookrun.specs.declared.reply.Accepted.TheVariants.{Done, Stands, Holds, Spans}

-- the answer to a call, none where there is no such window, or why the call was refused
abbrev pub Reply : Type 0
Reply = Result (Option Accepted) Cause

-- a window by its four numbers
abbrev pub window_text : Window → List ℕ
window_text w = codes "link=" ++ (decimal w.link ++ (codes " start=" ++ (decimal w.start ++ (codes " length=" ++ (decimal w.length ++ (codes " period=" ++ decimal w.period))))))

-- what is said of an accepted call
abbrev pub accepted_text : Accepted → List ℕ
accepted_text Done = codes "done"
accepted_text (Stands w) = window_text w
accepted_text (Holds n) = codes "number=" ++ decimal n
accepted_text (Spans s) = codes "cycle=" ++ (decimal s.cycle ++ (codes " rest=" ++ decimal s.rest))

-- the line of a reply
abbrev pub reply_text : Reply → List ℕ
reply_text (Ok None) = codes "none"
reply_text (Ok (Some a)) = accepted_text a
reply_text (Err c) = codes "refused=" ++ (decimal c.number ++ (codes " a=" ++ (decimal c.a ++ (codes " b=" ++ decimal c.b))))

-- the text of the reply to line n
abbrev pub answer_text : ℕ → Option Reply → List ℕ
answer_text n None = codes "unread line=" ++ decimal n
answer_text n (Some r) = reply_text r
