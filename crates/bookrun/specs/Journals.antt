-- What the journal of a run tells.
use Rattle.std.specs.Prelude.{◌≡◌, ℕ, List, [], ◌++◌, length, None, Option, MatchOption, string_bytes}
use Rattle.std.specs.Option.{option_map}
use Rattle.bookrun.specs.declared.journal.Journal.{Journal}
use Rattle.bookrun.specs.declared.opening.Opening.{Opening}
use Rattle.bookrun.specs.Openings.{ground_of}
use Rattle.bookrun.specs.Printed.{answer_lines, counted_all, no_tally}
use Rattle.bookrun.specs.Replies.{Reply}
use Rattle.bookrun.specs.Scripts.{replies}

-- the journal tells these replies: its text is a line for each of them, it says how many they are, and it counts them
pub record Records (rs : List (Option Reply)) (j : Journal) : Type 0 where
  pub text : string_bytes j.text ≡ answer_lines 1 rs
  pub lines : j.lines ≡ length rs
  pub tally : j.tally ≡ counted_all rs no_tally

-- the lines ls were answered up to the one that makes a book, or to their end where none does, and rest is left
pub record Began (ls rest : List (List ℕ)) (o : Option Opening) (j : Journal) : Type 0 where
  pub done : List (Option Reply)
  pub all : replies None ls ≡ done ++ replies (option_map ground_of o) rest
  pub records : Records done j
  pub left : MatchOption o (rest ≡ []) (λ _. Unit {0})
