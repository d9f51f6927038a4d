-- What a call on a book is answered with, and what the book means after it.
use Rattle.std.specs.Prelude.{ℕ, Some, None, Ok, Err, Option, Result}
use Rattle.book.specs.Calls.{book_answer, book_after, lift_answer, lift_after, find_answer, held_answer, span_answer}
use Rattle.book.specs.Causes.{cause_of}
use Rattle.book.specs.Meaning.{Meaning}
use Rattle.book.specs.declared.BookFault.{BookFault}
use Rattle.book.specs.declared.Span as link
use Rattle.book.specs.declared.Window.{Window}
use Rattle.script.specs.declared.Call.{Call}
use Rattle.script.specs.declared.Call.TheVariants as call
use Rattle.bookrun.specs.declared.reply.Accepted.TheVariants.{Done, Stands, Holds, Spans}
use Rattle.bookrun.specs.Replies.{Reply}

abbrev pub book_reply : Result (Unit {0}) BookFault → Reply
book_reply (Ok x) = Ok (Some Done)
book_reply (Err e) = Err (cause_of e)

abbrev pub lift_reply : Result Window BookFault → Reply
lift_reply (Ok w) = Ok (Some (Stands w))
lift_reply (Err e) = Err (cause_of e)

abbrev pub find_reply : Option Window → Reply
find_reply None = Ok None
find_reply (Some w) = Ok (Some (Stands w))

abbrev pub held_reply : Option ℕ → Reply
held_reply None = Ok None
held_reply (Some n) = Ok (Some (Holds n))

abbrev pub span_reply : link.Span → Reply
span_reply s = Ok (Some (Spans s))

-- the reply to a call on a book that means m
unfoldable pub reply : Call → Meaning → Reply
reply (call.Book n w) m = book_reply (book_answer n w m)
reply (call.Lift n) m = lift_reply (lift_answer n m)
reply (call.Find n) m = find_reply (find_answer n m)
reply (call.Held l s) m = held_reply (held_answer l s m)
reply (call.Span l) m = span_reply (span_answer l m)

-- what the book means after the call
unfoldable pub after : Call → Meaning → Meaning
after (call.Book n w) m = book_after n w m
after (call.Lift n) m = lift_after n m
after (call.Find n) m = m
after (call.Held l s) m = m
after (call.Span l) m = m
