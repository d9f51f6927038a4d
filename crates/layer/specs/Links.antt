-- A number for each link.
use Rattle.std.specs.Prelude.{ℕ, cond, ◌&&◌, ◌==◌}
use Rattle.std.specs.Option.{unwrap_or}
use Rattle.book.specs.Meaning.{linked}
use Rattle.book.specs.Numbered as numbered
use Rattle.layer.specs.declared.per_link.PerLink.{PerLink}

-- the number of each link, 0 for what is no link
abbrev pub value_at : PerLink → ℕ → ℕ
value_at p l = unwrap_or (numbered.value_at p.values l) 0

-- the same number for every link
abbrev pub alike : ℕ → ℕ → ℕ
alike value l = cond (linked l) value 0

-- the same numbers, but for that of one link
abbrev pub changed_at : ℕ → ℕ → (ℕ → ℕ) → ℕ → ℕ
changed_at l value values k = cond (linked k && k == l) value (values k)
