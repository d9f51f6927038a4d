-- A refusal is explained by its line.
use Rattle.std.proofs.Common.{◌≡◌, ℕ, ◌<◌, Bool, true, false, cond, ltb, ◌⊎◌, List, [], ◌∷◌, ◌++◌, length, Some, None, Ok, Err, Option, Result, sym, refl, ap, ◌∙◌, subst, inl, inr, ⊎_elim, arith}
use Rattle.std.proofs.lemmas.Bool.Decides.{nat_tests}
use Rattle.network.specs.declared.Frame.{Frame}
use Rattle.text.specs.Front.{after}
use Rattle.text.specs.Number.{number, BadNumber}
use Rattle.text.specs.declared.NumberFault.{NumberFault}
use Rattle.text.proofs.Fronts.{after_front, front_after}
use Rattle.text.proofs.Decimal.{number_err}
use Rattle.frames.specs.declared.fault.Fault.{Fault}
use Rattle.frames.specs.declared.fault.Reason.{Reason}
use Rattle.frames.specs.declared.fault.Reason.TheVariants.{KeyExpected, Below, Above, EndExpected}
use Rattle.frames.specs.declared.key.Key.{Key}
use Rattle.frames.specs.declared.key.Key.TheVariants.{Size, Rate, Grain}
use Rattle.frames.specs.Keys.{opening, range_of}
use Rattle.frames.specs.Line.{and_then, number_reason, at_key, number_after, field, at_end, form, in_range, allowed, read_line, refuse}
use Rattle.frames.specs.Refused.{At, Malformed, Overlong, Outside, FirstOutside, Explained}
use Rattle.frames.proofs.Exact.{field_read, form_ok, range_ok}

abbrev fault : Key → Reason → Fault
fault k why = record { key = k; reason = why }

-- what is wrong at key k, where the text stands
abbrev Wrong : Key → List ℕ → Reason → Type 0
Wrong k text why = ((why ≡ KeyExpected) × ((rest : List ℕ) → text ≡ opening k ++ rest → ⊥)) ⊎ ((rest : List ℕ) × ((text ≡ opening k ++ rest) × ((bad : NumberFault) × ((why ≡ number_reason bad) × BadNumber rest bad))))

at_key_err : {A : Type 0} (k : Key) (r : Result A NumberFault) (e : Fault) → at_key k r ≡ Err e → (bad : NumberFault) × ((e ≡ fault k (number_reason bad)) × (r ≡ Err bad))
at_key_err k (Ok x) e is = (cc)
at_key_err k (Err bad) e is = (bad, (cc, refl))

field_err : (k : Key) (bs : List ℕ) (e : Fault) → field k bs ≡ Err e → (why : Reason) × ((e ≡ fault k why) × Wrong k bs why)
unfolding field
field_err k bs e is = go (after (opening k) bs) refl is
  where
    go : (o : Option (List ℕ)) → after (opening k) bs ≡ o → number_after k o ≡ Err e → (why : Reason) × ((e ≡ fault k why) × Wrong k bs why)
    go None none is = (KeyExpected, (cc, inl (refl, λ rest same. let found = ap (after (opening k)) same ∙ after_front (opening k) rest in cc)))
    go (Some rest) some is =
        let blamed = at_key_err k (number rest) e is in
        (number_reason blamed.0, (blamed.1.0, inr (rest, (front_after (opening k) bs rest some, (blamed.0, (refl, number_err rest blamed.0 blamed.1.1))))))

-- what was refused, or what was read before something else was refused
then_err : {A B E : Type 0} (r : Result A E) (f : A → Result B E) (e : E) → and_then r f ≡ Err e → (r ≡ Err e) ⊎ ((x : A) × ((r ≡ Ok x) × (f x ≡ Err e)))
then_err (Ok x) f e is = inr (x, (refl, is))
then_err (Err d) f e is = inl (cc)

end_err : (f : Frame) (rest : List ℕ) (e : Fault) → at_end f rest ≡ Err e → (e ≡ fault Grain EndExpected) × (0 < length rest)
end_err f [] e is = (cc)
end_err f (b ∷ rest) e is = (cc, omega arith)

malformed : (line text : List ℕ) (k : Key) (e : Fault) → At k line text → field k text ≡ Err e → Malformed line e
malformed line text k e at is =
    let w = field_err k text e is in
    subst (Malformed line) (sym w.1.0) (record { text = text; at = at; wrong = w.1.1 })

form_err : (line : List ℕ) (e : Fault) → form line ≡ Err e → Malformed line e ⊎ Overlong line e
form_err line e is =
    ⊎_elim
    (λ bad. inl (malformed line line Size e refl bad))
    (λ s.
    let size = field_read Size line s.0 s.1.0 in
    ⊎_elim
    (λ bad. inl (malformed line s.0.1 Rate e (s.0.0, size) bad))
    (λ r.
    let rate = field_read Rate s.0.1 r.0 r.1.0 in
    let at : At Grain line r.0.1 = (s.0.0, (s.0.1, (size, (r.0.0, rate)))) in
    ⊎_elim
    (λ bad. inl (malformed line r.0.1 Grain e at bad))
    (λ g.
    let over = end_err _ g.0.1 e g.1.1 in
    inr (record { is = over.0; text = r.0.1; at = at; grain = g.0.0; rest = g.0.1; last = field_read Grain r.0.1 g.0 g.1.0; some = over.1 }))
    (then_err (field Grain r.0.1) _ e r.1.1))
    (then_err (field Rate s.0.1) _ e s.1.1))
    (then_err (field Size line) _ e is)

range_err : (k : Key) (n : ℕ) (e : Fault) → in_range k n ≡ Err e → (why : Reason) × ((e ≡ fault k why) × Outside (range_of k) n why)
unfolding in_range
range_err k n e is = go (ltb n (range_of k).least) refl (ltb (range_of k).most n) refl is
  where
    go : (u : Bool) → ltb n (range_of k).least ≡ u → (v : Bool) → ltb (range_of k).most n ≡ v → cond u (refuse k (Below (range_of k).least)) (cond v (refuse k (Above (range_of k).most)) (Ok (tt {0}))) ≡ Err e → (why : Reason) × ((e ≡ fault k why) × Outside (range_of k) n why)
    go true eu v ev is = (Below (range_of k).least, (cc, (refl, grind (arith, nat_tests))))
    go false eu true ev is = (Above (range_of k).most, (cc, (refl, grind (arith, nat_tests))))
    go false eu false ev is = (cc)

allowed_err : (f : Frame) (e : Fault) → allowed f ≡ Err e → FirstOutside f e.key e.reason
allowed_err f e is =
    ⊎_elim
    (λ bad. let w = range_err Size f.size e bad in blame w.1.0 w.1.1)
    (λ s.
    let size = range_ok Size f.size s.1.0 in
    ⊎_elim
    (λ bad. let w = range_err Rate f.rate e bad in blame w.1.0 (size, w.1.1))
    (λ r.
    let rate = range_ok Rate f.rate r.1.0 in
    ⊎_elim
    (λ bad. let w = range_err Grain f.grain e bad in blame w.1.0 (size, (rate, w.1.1)))
    (λ g. absurd (let same = g.1.1 in cc))
    (then_err (in_range Grain f.grain) _ e r.1.1))
    (then_err (in_range Rate f.rate) _ e s.1.1))
    (then_err (in_range Size f.size) _ e is)
  where
    blame : {k : Key} {why : Reason} → e ≡ fault k why → FirstOutside f k why → FirstOutside f e.key e.reason
    blame same outside = subst (λ d. FirstOutside f d.key d.reason) (sym same) outside

pub explains : (line : List ℕ) (r : Result Frame Fault) → r ≡ read_line line → Explained line r
explains line (Ok f) is = tt
explains line (Err e) is =
    ⊎_elim
    (λ bad. ⊎_elim inl (λ over. inr (inl over)) (form_err line e bad))
    (λ f. inr (inr (record { frame = f.0; text = form_ok line f.0 f.1.0; outside = allowed_err f.0 e f.1.1 })))
    (then_err (form line) allowed e (sym is))
