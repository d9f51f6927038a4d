-- A layer is made only over a book without windows.
use Rattle.std.specs.Prelude.{cond, Ok, Err, Result}
use Rattle.book.specs.Calls.{holds_windows}
use Rattle.book.specs.Meaning.{Meaning}
use Rattle.book.specs.declared.MakeFault.{MakeFault}
use Rattle.book.specs.declared.MakeFault.TheVariants.{HoldsWindows}

abbrev pub vacant : Meaning → Result (Unit {0}) MakeFault
vacant m = cond (holds_windows m) (Err HoldsWindows) (Ok tt)
