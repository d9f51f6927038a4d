-- The texts of orders.
use Rattle.std.specs.Prelude.{ℕ, List, ◌++◌, codes, decimal}
use Rattle.script.specs.declared.order.Call.{Call}
use Rattle.script.specs.declared.order.Call.TheVariants.{Book, Lift, Find, Held, Span}
use Rattle.script.specs.declared.order.Order.{Order}
use Rattle.script.specs.declared.order.Order.TheVariants as order
use Rattle.script.specs.declared.order.Pile.{Pile}
use Rattle.script.specs.declared.order.Pile.TheVariants.{Formula}
use Rattle.script.specs.Form.{Word}

-- the number of a pile
abbrev pub pile_number : Pile → ℕ
pile_number Formula = 1

-- the text of a call: its keys, each with its number in decimal
unfoldable pub call_text : Call → List ℕ
call_text (Book n w) = codes "book=" ++ (decimal n ++ (codes " link=" ++ (decimal w.link ++ (codes " start=" ++ (decimal w.start ++ (codes " length=" ++ (decimal w.length ++ (codes " period=" ++ decimal w.period))))))))
call_text (Lift n) = codes "lift=" ++ decimal n
call_text (Find n) = codes "find=" ++ decimal n
call_text (Held l s) = codes "held=" ++ (decimal l ++ (codes " step=" ++ decimal s))
call_text (Span l) = codes "span=" ++ decimal l

-- the text of an order
unfoldable pub order_text : Order → List ℕ
order_text (order.Make p l c) = codes "pile=" ++ (decimal (pile_number p) ++ (codes " links=" ++ (decimal l ++ (codes " cycle=" ++ decimal c))))
order_text (order.Call c) = call_text c

-- the numbers of a call have 32 bits
abbrev pub CallWords : Call → Type 0
CallWords (Book n w) = Word n × (Word w.link × (Word w.start × (Word w.length × Word w.period)))
CallWords (Lift n) = Word n
CallWords (Find n) = Word n
CallWords (Held l s) = Word l × Word s
CallWords (Span l) = Word l

-- the numbers of an order have 32 bits
abbrev pub OrderWords : Order → Type 0
OrderWords (order.Make p l c) = Word l × Word c
OrderWords (order.Call c) = CallWords c
