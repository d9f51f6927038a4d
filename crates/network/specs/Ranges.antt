-- The ranges that a network's numbers keep to.
use Rattle.std.specs.Prelude.{ℕ, ◌≤◌}
use Rattle.network.specs.declared.range.Quantity.{Quantity}
use Rattle.network.specs.declared.range.Quantity.TheVariants.{Size, Rate, Grain}
use Rattle.network.specs.declared.range.Range.{Range}

-- n is one of the range's numbers
pub record Within (r : Range) (n : ℕ) : Type 0 where
  pub low : r.least ≤ n
  pub high : n ≤ r.most

-- the bytes of a message, the Mbit/s of a link between two stations, the µs of a link's step
abbrev pub range_of : Quantity → Range
range_of Size = record { least = 1; most = 1471 }
range_of Rate = record { least = 1; most = 1000 }
range_of Grain = record { least = 1; most = 1000000 }
