-- A line is accepted exactly when it is the line of an allowed frame.
use Rattle.std.proofs.Common.{◌≡◌, ℕ, ◌^◌, ◌<◌, List, [], ◌∷◌, ◌++◌, Some, None, Ok, Err, decimal, Option, Result, sym, refl, ap, ◌∙◌, subst, append-nil, arith}
use Rattle.std.proofs.lemmas.Bool.Decides.{nat_tests}
use Rattle.network.specs.Ranges.{Within}
use Rattle.network.specs.declared.Frame.{Frame}
use Rattle.text.specs.Front.{after}
use Rattle.text.specs.Number.{number, NoDigit}
use Rattle.text.specs.declared.NumberFault.{NumberFault}
use Rattle.text.proofs.Fronts.{after_front, front_after}
use Rattle.text.proofs.Decimal.{number_ok, number_back}
use Rattle.frames.specs.declared.fault.Fault.{Fault}
use Rattle.frames.specs.declared.key.Key.{Key}
use Rattle.frames.specs.declared.key.Key.TheVariants.{Size, Rate, Grain}
use Rattle.frames.specs.Keys.{opening, range_of}
use Rattle.frames.specs.Line.{and_then, at_key, number_after, field, at_end, form, in_range, allowed, read_line, written, Allowed, ReadsExactly}
use Rattle.frames.specs.Refused.{Field}

-- what was read before something else was accepted
then_ok : {A B E : Type 0} (r : Result A E) (f : A → Result B E) (y : B) → and_then r f ≡ Ok y → (x : A) × ((r ≡ Ok x) × (f x ≡ Ok y))
then_ok (Ok x) f y is = (x, (refl, is))
then_ok (Err e) f y is = (cc)

then_go : {A B E : Type 0} (r : Result A E) (f : A → Result B E) (x : A) → r ≡ Ok x → and_then r f ≡ f x
then_go r f x is = ap (λ q. and_then q f) is

at_key_ok : {A : Type 0} (k : Key) (r : Result A NumberFault) (x : A) → at_key k r ≡ Ok x → r ≡ Ok x
at_key_ok k (Ok y) x is = cc
at_key_ok k (Err why) x is = cc

-- an accepted field is its key, its number and the rest
pub field_read : (k : Key) (bs : List ℕ) (x : ℕ × List ℕ) → field k bs ≡ Ok x → Field k bs x.0 x.1
unfolding field
field_read k bs x is = go (after (opening k) bs) refl is
  where
    go : (o : Option (List ℕ)) → after (opening k) bs ≡ o → number_after k o ≡ Ok x → Field k bs x.0 x.1
    go None none is = (cc)
    go (Some ds) some is =
        let read = number_ok ds x.1 x.0 (at_key_ok k (number ds) x is) in
        record { text = front_after (opening k) bs ds some ∙ ap (λ l. opening k ++ l) read.text; stops = read.stops; fits = read.fits }

field_back : (k : Key) (n : ℕ) (rest : List ℕ) → n < 2 ^ 32 → NoDigit rest → field k (opening k ++ (decimal n ++ rest)) ≡ Ok (n, rest)
unfolding field
field_back k n rest fits stop =
    ap (number_after k) (after_front (opening k) (decimal n ++ rest)) ∙ ap (at_key k) (number_back n rest fits stop)

end_ok : (f g : Frame) (bs : List ℕ) → at_end f bs ≡ Ok g → (bs ≡ []) × (f ≡ g)
end_ok f g [] is = (refl, cc)
end_ok f g (b ∷ bs) is = (cc)

pub form_ok : (bs : List ℕ) (f : Frame) → form bs ≡ Ok f → bs ≡ written f
unfolding written
form_ok bs f is =
    let s = then_ok (field Size bs) _ f is in
    let r = then_ok (field Rate s.0.1) _ f s.1.1 in
    let g = then_ok (field Grain r.0.1) _ f r.1.1 in
    let e = end_ok _ f g.0.1 g.1.1 in
    let last = (field_read Grain r.0.1 g.0 g.1.0).text ∙ ap (λ l. opening Grain ++ (decimal g.0.0 ++ l)) e.0 ∙ ap (λ l. opening Grain ++ l) (append-nil _) in
    let middle = (field_read Rate s.0.1 r.0 r.1.0).text ∙ ap (λ l. opening Rate ++ (decimal r.0.0 ++ l)) last in
    (field_read Size bs s.0 s.1.0).text ∙ ap (λ l. opening Size ++ (decimal s.0.0 ++ l)) middle ∙ ap written e.1

form_back : (f : Frame) → f.size < 2 ^ 32 → f.rate < 2 ^ 32 → f.grain < 2 ^ 32 → form (written f) ≡ Ok f
unfolding written
form_back f s r g =
    let last = opening Grain ++ decimal f.grain in
    let middle = opening Rate ++ (decimal f.rate ++ last) in
    let size = field_back Size f.size middle s refl in
    let rate = field_back Rate f.rate last r refl in
    let grain = ap (λ l. field Grain (opening Grain ++ l)) (sym (append-nil (decimal f.grain))) ∙ field_back Grain f.grain [] g refl in
    then_go _ _ _ size ∙ then_go _ _ _ rate ∙ then_go _ _ _ grain

pub range_ok : (k : Key) (n : ℕ) → in_range k n ≡ Ok tt → Within (range_of k) n
unfolding in_range
range_ok k n is = record { low = grind (arith, nat_tests); high = grind (arith, nat_tests) }

range_back : (k : Key) (n : ℕ) → Within (range_of k) n → in_range k n ≡ Ok tt
unfolding in_range
range_back k n in_it = let low = in_it.low in let high = in_it.high in grind (arith, nat_tests)

allowed_ok : (f g : Frame) → allowed f ≡ Ok g → (f ≡ g) × Allowed f
allowed_ok f g is =
    let s = then_ok (in_range Size f.size) _ g is in
    let r = then_ok (in_range Rate f.rate) _ g s.1.1 in
    let n = then_ok (in_range Grain f.grain) _ g r.1.1 in
    let same = n.1.1 in
    (cc, record { size = range_ok Size f.size s.1.0; rate = range_ok Rate f.rate r.1.0; grain = range_ok Grain f.grain n.1.0 })

allowed_back : (f : Frame) → Allowed f → allowed f ≡ Ok f
allowed_back f a =
    then_go _ _ _ (range_back Size f.size a.size) ∙ then_go _ _ _ (range_back Rate f.rate a.rate) ∙ then_go _ _ _ (range_back Grain f.grain a.grain)

pub exact : (bs : List ℕ) (r : Result Frame Fault) → r ≡ read_line bs → ReadsExactly bs r
exact bs (Ok f) is =
    let read = then_ok (form bs) allowed f (sym is) in
    let kept = allowed_ok read.0 f read.1.1 in
    (form_ok bs read.0 read.1.0 ∙ ap written kept.0, subst Allowed kept.0 kept.1)
exact bs (Err e) is = λ f a same.
    let small = form_back f (omega arith) (omega arith) (omega arith) in
    let accepted = ap read_line same ∙ then_go _ allowed _ small ∙ allowed_back f a in
    cc
