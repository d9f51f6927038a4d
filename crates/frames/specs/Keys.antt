-- The keys of a line.
use Rattle.std.specs.Prelude.{ℕ, List, codes}
use Rattle.network.specs.Ranges.{range_of as quantity_range}
use Rattle.network.specs.declared.Quantity.{Quantity}
use Rattle.network.specs.declared.Quantity.TheVariants as quantity
use Rattle.network.specs.declared.Range.{Range}
use Rattle.frames.specs.declared.key.Key.{Key}
use Rattle.frames.specs.declared.key.Key.TheVariants.{Size, Rate, Grain}

-- what a line has in front of the key's number
abbrev pub opening : Key → List ℕ
opening Size = codes "size="
opening Rate = codes " rate="
opening Grain = codes " grain="

-- what the key's number says
abbrev pub quantity_of : Key → Quantity
quantity_of Size = quantity.Size
quantity_of Rate = quantity.Rate
quantity_of Grain = quantity.Grain

-- the numbers that the key may have
abbrev pub range_of : Key → Range
range_of k = quantity_range (quantity_of k)
