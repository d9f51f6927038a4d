-- What is printed for a script.
use Rattle.std.specs.Prelude.{ℕ, suc, Bool, true, false, cond, List, [], ◌∷◌, ◌++◌, Some, None, Ok, Err, codes, decimal, Option}
use Rattle.text.specs.Lines.{lines}
use Rattle.bookrun.specs.declared.tally.Tally.{Tally}
use Rattle.bookrun.specs.Replies.{Reply, answer_text}
use Rattle.bookrun.specs.Scripts.{replies}

-- a text with a line feed
abbrev pub line : List ℕ → List ℕ
line bs = bs ++ (10 ∷ [])

-- a line for each reply, where the first is that to line n
abbrev pub answer_lines : ℕ → List (Option Reply) → List ℕ
answer_lines n [] = []
answer_lines n (r ∷ rs) = line (answer_text n r) ++ answer_lines (suc n) rs

-- whether a reply is a refusal
abbrev pub is_refusal : Reply → Bool
is_refusal (Ok a) = false
is_refusal (Err c) = true

-- one reply more: a line that was read is a call, accepted or refused
abbrev pub counted : Option Reply → Tally → Tally
counted None t = record { calls = t.calls; accepted = t.accepted; refused = t.refused; unread = suc t.unread }
counted (Some r) t =
    cond (is_refusal r)
    (record { calls = suc t.calls; accepted = t.accepted; refused = suc t.refused; unread = t.unread })
    (record { calls = suc t.calls; accepted = suc t.accepted; refused = t.refused; unread = t.unread })

-- the count of all replies, one after the other
abbrev pub counted_all : List (Option Reply) → Tally → Tally
counted_all [] t = t
counted_all (r ∷ rs) t = counted_all rs (counted r t)

-- nothing is counted yet
abbrev pub no_tally : Tally
no_tally = record { calls = 0; accepted = 0; refused = 0; unread = 0 }

-- the closing line
abbrev pub tally_text : Tally → List ℕ
tally_text t = codes "calls=" ++ (decimal t.calls ++ (codes " accepted=" ++ (decimal t.accepted ++ (codes " refused=" ++ (decimal t.refused ++ (codes " unread=" ++ decimal t.unread))))))

-- a line for each line of the script, and then the count
abbrev pub answer : List ℕ → List ℕ
answer bs = answer_lines 1 (replies None (lines bs)) ++ line (tally_text (counted_all (replies None (lines bs)) no_tally))
