-- The book that a script begins with.
use Rattle.std.specs.Prelude.{Some, Ok, Err, Result}
use Rattle.book.specs.Meaning.{Meaning}
use Rattle.book.specs.declared.Cause.{Cause}
use Rattle.bottom.specs.Ledger.{ground}
use Rattle.bookrun.specs.declared.opening.Opening.{Opening}
use Rattle.bookrun.specs.declared.reply.Accepted.TheVariants.{Done}
use Rattle.bookrun.specs.Replies.{Reply}

-- what it means when it is made
abbrev pub ground_of : Opening → Meaning
ground_of o = ground o.ground.links o.ground.cycle

-- the reply to an order that opens a book, or says why there is none
abbrev pub opened_by : Result Opening Cause → Reply
opened_by (Ok o) = Ok (Some Done)
opened_by (Err c) = Err c
