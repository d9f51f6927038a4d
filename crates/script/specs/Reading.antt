-- The order that a line gives.
use Rattle.std.specs.Prelude.{◌≡◌, ℕ, cond, List, [], ◌∷◌, Some, None, codes, Option, MatchOption, ◌==◌, ◌≢◌}
use Rattle.std.specs.Option.{option_map, option_or}
use Rattle.script.specs.declared.order.Call.{Call}
use Rattle.script.specs.declared.order.Call.TheVariants.{Book, Lift, Find, Held, Span}
use Rattle.script.specs.declared.order.Order.{Order}
use Rattle.script.specs.declared.order.Order.TheVariants as order
use Rattle.script.specs.declared.order.Pile.{Pile}
use Rattle.script.specs.declared.order.Pile.TheVariants.{Formula}
use Rattle.script.specs.Form.{and_then, reads}
use Rattle.script.specs.Orders.{order_text, OrderWords}

-- the pile that has the number n
abbrev pub pile_of : ℕ → Option Pile
pile_of n = cond (n == 1) (Some Formula) None

-- the keys of a line that makes a book
abbrev pub make_keys : List (List ℕ)
make_keys = codes "pile=" ∷ codes " links=" ∷ codes " cycle=" ∷ []

-- the keys of a line that books a window
abbrev pub book_keys : List (List ℕ)
book_keys = codes "book=" ∷ codes " link=" ∷ codes " start=" ∷ codes " length=" ∷ codes " period=" ∷ []

-- the keys of a line that asks who holds a step of a link
abbrev pub held_keys : List (List ℕ)
held_keys = codes "held=" ∷ codes " step=" ∷ []

-- the order of a line that makes a book, of a pile that there is
abbrev pub read_make : List ℕ → Option Order
read_make bs = reads make_keys (λ pile links cycle. and_then (pile_of pile) (λ p. Some (order.Make p links cycle))) bs

-- the call of a line that books a window
abbrev pub read_book : List ℕ → Option Call
read_book bs = reads book_keys (λ number link start length period. Some (Book number (record { link = link; start = start; length = length; period = period }))) bs

-- the call of a line that lifts a window
abbrev pub read_lift : List ℕ → Option Call
read_lift bs = reads (codes "lift=" ∷ []) (λ number. Some (Lift number)) bs

-- the call of a line that asks for the window of a number
abbrev pub read_find : List ℕ → Option Call
read_find bs = reads (codes "find=" ∷ []) (λ number. Some (Find number)) bs

-- the call of a line that asks who holds a step of a link
abbrev pub read_held : List ℕ → Option Call
read_held bs = reads held_keys (λ link step. Some (Held link step)) bs

-- the call of a line that asks for the cycle and the rest of a link
abbrev pub read_span : List ℕ → Option Call
read_span bs = reads (codes "span=" ∷ []) (λ link. Some (Span link)) bs

-- the call that a line makes, whichever it is
unfoldable pub read_call : List ℕ → Option Call
read_call bs = option_or (option_or (option_or (option_or (read_book bs) (read_lift bs)) (read_find bs)) (read_held bs)) (read_span bs)

-- the order that a line gives: a call, or else a book to make
unfoldable pub read_line : List ℕ → Option Order
read_line bs = option_or (option_map order.Call (read_call bs)) (read_make bs)

-- a line is read exactly when it is the text of an order whose numbers have 32 bits, and that order is answered
abbrev pub ReadsExactly : List ℕ → Option Order → Type 0
ReadsExactly bs r = MatchOption r ((o : Order) → OrderWords o → bs ≢ order_text o) (λ o. (bs ≡ order_text o) × OrderWords o)
