-- The refusals of a book as they are reported.
use Rattle.book.specs.declared.fault.BookFault.{BookFault}
use Rattle.book.specs.declared.fault.BookFault.TheVariants.{Absent, BadForm, Standing, Clash, NothingThere}
use Rattle.book.specs.declared.fault.Cause.{Cause}
use Rattle.book.specs.declared.fault.MakeFault.{MakeFault}
use Rattle.book.specs.declared.fault.MakeFault.TheVariants.{ShortMemory, RestTooGreat, HoldsWindows, OutOfRange}

-- the number of the cause and its two values
abbrev pub cause_of : BookFault → Cause
cause_of Absent = record { number = 9; a = 0; b = 0 }
cause_of (BadForm window rest) = record { number = 10; a = window; b = rest }
cause_of (Standing window) = record { number = 11; a = window; b = 0 }
cause_of (Clash window other) = record { number = 12; a = window; b = other }
cause_of (NothingThere window) = record { number = 13; a = window; b = 0 }

-- the same where a book cannot be made
abbrev pub make_cause : MakeFault → Cause
make_cause ShortMemory = record { number = 1; a = 0; b = 0 }
make_cause (RestTooGreat link) = record { number = 6; a = link; b = 0 }
make_cause HoldsWindows = record { number = 7; a = 0; b = 0 }
make_cause OutOfRange = record { number = 9; a = 0; b = 0 }
