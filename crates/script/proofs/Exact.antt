-- A line is read exactly when it is the text of an order whose numbers have 32 bits.
use Rattle.std.proofs.Common.{◌≡◌, ℕ, List, [], ◌∷◌, Some, None, codes, Option, sym, refl, ap, ◌∙◌, subst, append-nil, arith}
use Rattle.std.proofs.lemmas.Bool.Decides.{nat_tests}
use Rattle.std.specs.Option.{option_map, option_or}
use Rattle.book.specs.declared.Window.{Window}
use Rattle.script.specs.declared.order.Call.{Call}
use Rattle.script.specs.declared.order.Call.TheVariants.{Book, Lift, Find, Held, Span}
use Rattle.script.specs.declared.order.Order.{Order}
use Rattle.script.specs.declared.order.Order.TheVariants as order
use Rattle.script.specs.declared.order.Pile.{Pile}
use Rattle.script.specs.declared.order.Pile.TheVariants.{Formula}
use Rattle.script.specs.Form.{and_then, field, Numbers, Maker, form_text, Word}
use Rattle.script.specs.Orders.{pile_number, call_text, order_text, CallWords, OrderWords}
use Rattle.script.specs.Reading.{pile_of, make_keys, book_keys, held_keys, read_make, read_book, read_lift, read_find, read_held, read_span, read_call, read_line, ReadsExactly}
use Rattle.script.proofs.Forms.{then_some, reads_some, reads_back}

-- a line is the text of this call, of this order
abbrev CallRead : List ℕ → Call → Type 0
CallRead bs c = (bs ≡ call_text c) × CallWords c

abbrev OrderRead : List ℕ → Order → Type 0
OrderRead bs o = (bs ≡ order_text o) × OrderWords o

some_same : {A : Type 0} (x y : A) → Some x ≡ Some y → x ≡ y
some_same x y is = cc

-- the first of two that is there
or_first : {A : Type 0} (o p : Option A) (x : A) → o ≡ Some x → option_or o p ≡ Some x
or_first o p x is = ap (λ r. option_or r p) is

or_next : {A : Type 0} (o p : Option A) (x : A) → o ≡ None → p ≡ Some x → option_or o p ≡ Some x
or_next o p x none is = ap (λ r. option_or r p) none ∙ is

or_some : {A P : Type 0} (o p : Option A) (x : A) → (o ≡ Some x → P) → (p ≡ Some x → P) → option_or o p ≡ Some x → P
or_some None p x first next is = next is
or_some (Some y) p x first next is = first is

-- the line that books a window
abbrev book_of : Maker book_keys (Option Call)
book_of = λ n l s g p. Some (Book n (record { link = l; start = s; length = g; period = p }))

book_some : (bs : List ℕ) (c : Call) → read_book bs ≡ Some c → CallRead bs c
unfolding call_text
book_some bs c is =
    let m = reads_some book_keys book_of bs c is in
    let w = m.words in
    subst (CallRead bs) (some_same _ c m.made) (m.text ∙ simp append-nil, (w.0, (w.1.0, (w.1.1.0, (w.1.1.1.0, w.1.1.1.1.0)))))

book_back : (n : ℕ) (w : Window) → CallWords (Book n w) → read_book (call_text (Book n w)) ≡ Some (Book n w)
unfolding call_text
book_back n w h =
    let ns : Numbers book_keys = (n, (w.link, (w.start, (w.length, (w.period, tt))))) in
    ap read_book (simp append-nil) ∙ reads_back book_keys book_of ns ((λ rest. refl), ((λ rest. refl), ((λ rest. refl), ((λ rest. refl), ((λ rest. refl), tt))))) (h.0, (h.1.0, (h.1.1.0, (h.1.1.1.0, (h.1.1.1.1, tt)))))

lift_some : (bs : List ℕ) (c : Call) → read_lift bs ≡ Some c → CallRead bs c
unfolding call_text
lift_some bs c is =
    let m = reads_some (codes "lift=" ∷ []) (λ n. Some (Lift n)) bs c is in
    subst (CallRead bs) (some_same _ c m.made) (m.text ∙ simp append-nil, m.words.0)

lift_back : (n : ℕ) → Word n → read_lift (call_text (Lift n)) ≡ Some (Lift n)
unfolding call_text
lift_back n word = ap read_lift (simp append-nil) ∙ reads_back (codes "lift=" ∷ []) (λ n. Some (Lift n)) (n, tt) ((λ rest. refl), tt) (word, tt)

find_some : (bs : List ℕ) (c : Call) → read_find bs ≡ Some c → CallRead bs c
unfolding call_text
find_some bs c is =
    let m = reads_some (codes "find=" ∷ []) (λ n. Some (Find n)) bs c is in
    subst (CallRead bs) (some_same _ c m.made) (m.text ∙ simp append-nil, m.words.0)

find_back : (n : ℕ) → Word n → read_find (call_text (Find n)) ≡ Some (Find n)
unfolding call_text
find_back n word = ap read_find (simp append-nil) ∙ reads_back (codes "find=" ∷ []) (λ n. Some (Find n)) (n, tt) ((λ rest. refl), tt) (word, tt)

span_some : (bs : List ℕ) (c : Call) → read_span bs ≡ Some c → CallRead bs c
unfolding call_text
span_some bs c is =
    let m = reads_some (codes "span=" ∷ []) (λ n. Some (Span n)) bs c is in
    subst (CallRead bs) (some_same _ c m.made) (m.text ∙ simp append-nil, m.words.0)

span_back : (n : ℕ) → Word n → read_span (call_text (Span n)) ≡ Some (Span n)
unfolding call_text
span_back n word = ap read_span (simp append-nil) ∙ reads_back (codes "span=" ∷ []) (λ n. Some (Span n)) (n, tt) ((λ rest. refl), tt) (word, tt)

held_some : (bs : List ℕ) (c : Call) → read_held bs ≡ Some c → CallRead bs c
unfolding call_text
held_some bs c is =
    let m = reads_some held_keys (λ l s. Some (Held l s)) bs c is in
    subst (CallRead bs) (some_same _ c m.made) (m.text ∙ simp append-nil, (m.words.0, m.words.1.0))

held_back : (l s : ℕ) → Word l × Word s → read_held (call_text (Held l s)) ≡ Some (Held l s)
unfolding call_text
held_back l s h = ap read_held (simp append-nil) ∙ reads_back held_keys (λ l s. Some (Held l s)) (l, (s, tt)) ((λ rest. refl), ((λ rest. refl), tt)) (h.0, (h.1, tt))

call_some : (bs : List ℕ) (c : Call) → read_call bs ≡ Some c → CallRead bs c
unfolding read_call
call_some bs c =
    or_some _ _ c (or_some _ _ c (or_some _ _ c (or_some _ _ c (book_some bs c) (lift_some bs c)) (find_some bs c)) (held_some bs c)) (span_some bs c)

-- the first letter of a text tells its call from those that are tried before it
call_back : (c : Call) → CallWords c → read_call (call_text c) ≡ Some c
unfolding read_call call_text field
call_back (Book n w) h = or_first _ _ _ (or_first _ _ _ (or_first _ _ _ (or_first _ _ _ (book_back n w h))))
call_back (Lift n) h = or_first _ _ _ (or_first _ _ _ (or_first _ _ _ (or_next _ _ _ refl (lift_back n h))))
call_back (Find n) h = or_first _ _ _ (or_first _ _ _ (or_next _ _ _ refl (find_back n h)))
call_back (Held l s) h = or_first _ _ _ (or_next _ _ _ refl (held_back l s h))
call_back (Span l) h = or_next _ _ _ refl (span_back l h)

-- the line that makes a book
abbrev make_of : Maker make_keys (Option Order)
make_of = λ n l c. and_then (pile_of n) (λ p. Some (order.Make p l c))

pile_number_lem : (n : ℕ) (p : Pile) → pile_of n ≡ Some p → n ≡ pile_number p
pile_number_lem n Formula is = grind (arith, nat_tests)

pile_back : (p : Pile) → (pile_of (pile_number p) ≡ Some p) × Word (pile_number p)
pile_back Formula = (refl, omega arith)

make_some : (bs : List ℕ) (o : Order) → read_make bs ≡ Some o → OrderRead bs o
unfolding order_text
make_some bs o is =
    let m = reads_some make_keys make_of bs o is in
    let ns = m.numbers in
    let p = then_some (pile_of ns.0) _ o m.made in
    let text = m.text ∙ ap (λ n. form_text make_keys (n, ns.1)) (pile_number_lem ns.0 p.0 p.1.0) in
    subst (OrderRead bs) (some_same _ o p.1.1) (text ∙ simp append-nil, (m.words.1.0, m.words.1.1.0))

make_back : (p : Pile) (l c : ℕ) → Word l × Word c → read_make (order_text (order.Make p l c)) ≡ Some (order.Make p l c)
unfolding order_text
make_back p l c h =
    let pile = pile_back p in
    ap read_make (simp append-nil) ∙ reads_back make_keys make_of (pile_number p, (l, (c, tt))) ((λ rest. refl), ((λ rest. refl), ((λ rest. refl), tt))) (pile.1, (h.0, (h.1, tt))) ∙ ap (λ r. and_then r (λ q. Some (order.Make q l c))) pile.0

line_some : (bs : List ℕ) (o : Order) → read_line bs ≡ Some o → OrderRead bs o
unfolding read_line order_text
line_some bs o is = go (read_call bs) refl is
  where
    go : (r : Option Call) → read_call bs ≡ r → option_or (option_map order.Call r) (read_make bs) ≡ Some o → OrderRead bs o
    go None none is = make_some bs o is
    go (Some c) some is = subst (OrderRead bs) (some_same (order.Call c) o is) (call_some bs c some)

-- the text of an order gives that order
pub line_back : (o : Order) → OrderWords o → read_line (order_text o) ≡ Some o
unfolding read_line read_call order_text field
line_back (order.Make p l c) h = or_next _ _ _ refl (make_back p l c h)
line_back (order.Call c) h = or_first _ _ _ (ap (option_map order.Call) (call_back c h))

pub exact : (bs : List ℕ) (r : Option Order) → r ≡ read_line bs → ReadsExactly bs r
exact bs None is = λ o words same.
    let read = is ∙ ap read_line same ∙ line_back o words in
    cc
exact bs (Some o) is = line_some bs o (sym is)
