-- The number that is answered to held is the one whose window holds the step.
use Rattle.std.proofs.Common.{◌≡◌, ℕ, ◌%◌, ◌<◌, Bool, true, false, cond, ◌&&◌, eqb, ltb, Some, None, Decides, Option, sym, refl, ap, ◌∙◌, subst, arith}
use Rattle.std.proofs.lemmas.Bool.{and_parts, false≢true}
use Rattle.std.proofs.lemmas.Bool.Decides.{nat_tests, Decides-eqb, Decides-like, not_from_Decides, same_from_decides}
use Rattle.book.specs.declared.span.Span.{Span}
use Rattle.book.specs.declared.window.Window.{Window}
use Rattle.book.specs.Calls.{holds_standing, held_answer, span_answer}
use Rattle.book.specs.Form.{GoodForm}
use Rattle.book.specs.Holding.{Holds}
use Rattle.book.specs.Lowest.{lowest}
use Rattle.book.specs.Meaning.{Meaning, linked, present}
use Rattle.book.specs.Sound.{Sound, Stands, HoldsAt, HeldExactly}
use Rattle.book.proofs.Clashing.{number_range, cycle_some}
use Rattle.book.proofs.Lowest.{Found, nowhere, somewhere, found}
use Rattle.book.proofs.Unbounded.{holds_decides, in_first_cycle, in_each_cycle}

-- the test of one number
holds_standing_lem : (m : Meaning) (l s k : ℕ) → Decides (holds_standing m l s (m.windows k)) (HoldsAt m l s k)
holds_standing_lem m l s k = go (m.windows k) refl
  where
    go : (o : Option Window) → m.windows k ≡ o → Decides (holds_standing m l s o) (HoldsAt m l s k)
    go None free = ((λ is. absurd (grind arith)), (λ (w, (stands, more)). absurd (grind arith)))
    go (Some w) stands = (
      (λ is.
          let parts = and_parts (eqb w.link l) _ is in
          (w, (stands, ((Decides-eqb w.link l).0 parts.0, (holds_decides w (m.rest l) s).0 parts.1)))),
      (λ (v, (there, (same, held))).
          let equal : v ≡ w = cc in
          let link = (Decides-eqb w.link l).1 (sym (ap (λ x. x.link) equal) ∙ same) in
          let At : Window → Type 0 = λ x. Holds x (m.rest l) s in
          let tested = (holds_decides w (m.rest l) s).1 (subst At equal held) in
          λ i. link i && tested i),
    )

-- two books answer the same where the same numbers hold
pub held_like : (m m' : Meaning) (l s s' : ℕ) → ((k : ℕ) → HoldsAt m l s k → HoldsAt m' l s' k) → ((k : ℕ) → HoldsAt m' l s' k → HoldsAt m l s k) → held_answer l s m ≡ held_answer l s' m'
held_like m m' l s s' there back =
    let same : (k : ℕ) → holds_standing m l s (m.windows k) ≡ holds_standing m' l s' (m'.windows k) = λ k. same_from_decides _ _ (holds_standing_lem m l s k) (Decides-like _ (back k) (there k) (holds_standing_lem m' l s' k)) in
    λ i. cond (linked l) (lowest (λ k. same k i) 1 256) None

-- no number is answered where none holds
pub held_none : (m : Meaning) (l s : ℕ) → ((k : ℕ) → HoldsAt m l s k → ⊥) → held_answer l s m ≡ None
held_none m l s never = go (linked l)
  where
    search : (o : Option ℕ) → Found (λ k. holds_standing m l s (m.windows k)) 1 256 o → o ≡ None
    search None at = refl
    search (Some k) (somewhere k' low high passes all) = absurd (never k ((holds_standing_lem m l s k).0 passes))

    go : (v : Bool) → cond v (lowest (λ k. holds_standing m l s (m.windows k)) 1 256) None ≡ None
    go true = search (lowest (λ k. holds_standing m l s (m.windows k)) 1 256) (found _ 256 1)
    go false = refl

-- and a book the same in each cycle of the link
pub held_in_cycle : (m : Meaning) → Sound m → (l s : ℕ) → held_answer l s m ≡ held_answer l (s % m.cycle l) m
held_in_cycle m sound l s =
    held_like m m l s (s % m.cycle l)
    (λ k (w, (stands, (link, held))). (w, (stands, (link, in_first_cycle w (m.cycle l) (m.rest l) s (form k w stands link) held))))
    (λ k (w, (stands, (link, held))). (w, (stands, (link, in_each_cycle w (m.cycle l) (m.rest l) s (form k w stands link) held))))
  where
    form : (k : ℕ) (w : Window) → Stands m k w → w.link ≡ l → GoodForm (m.cycle l) (m.rest l) w
    form k w stands link =
        let At : ℕ → Type 0 = λ i. GoodForm (m.cycle i) (m.rest i) w in
        subst At link (sound.proper k w stands).suits.form

module _ (m : Meaning) (sound : Sound m) (l s : ℕ) where
  -- no two windows hold the step
  pub one_holder : (j k : ℕ) → HoldsAt m l s j → HoldsAt m l s k → j ≡ k
  one_holder j k (v, (stands_v, (link_v, held_v))) (w, (stands_w, (link_w, held_w))) = go (eqb j k) refl
    where
      At : Window → ℕ → Type 0
      At x i = Holds x (m.rest i) s

      go : (b : Bool) → eqb j k ≡ b → j ≡ k
      go true same = (Decides-eqb j k).0 same
      go false other =
          absurd (sound.apart j k v w (not_from_Decides _ (Decides-eqb j k) other) stands_v stands_w (link_v ∙ sym link_w) s (subst (At v) (sym link_v) held_v) (subst (At w) (sym link_w) held_w))

  -- the link of a window that holds a step is there
  held_linked : (k : ℕ) → HoldsAt m l s k → linked l ≡ true
  held_linked k (w, (stands, (link, held))) =
      let there = (and_parts (linked w.link) _ (sound.proper k w stands).suits.link).0 in
      ap linked (sym link) ∙ there

  searched : (o : Option ℕ) → Found (λ k. holds_standing m l s (m.windows k)) 1 256 o → (k : ℕ) → (o ≡ Some k → HoldsAt m l s k) × (HoldsAt m l s k → o ≡ Some k)
  searched None (nowhere all) k = (
    (λ is. absurd (grind arith)),
    (λ held.
        let (w, (stands, more)) = held in
        let range = number_range k (sound.proper k w stands).number in
        absurd (not_from_Decides _ (holds_standing_lem m l s k) (all k range.0 (omega (arith, range.1))) held)),
  )
  searched (Some j) (somewhere j' low high passes all) k = (
    (λ is. let same : j ≡ k = cc in subst (HoldsAt m l s) same ((holds_standing_lem m l s j).0 passes)),
    (λ held. ap Some (one_holder j k ((holds_standing_lem m l s j).0 passes) held)),
  )

  pub held_exactly : (r : Option ℕ) → r ≡ held_answer l s m → HeldExactly m l s r
  held_exactly r is k = go (linked l) refl is
    where
      Exactly : Option ℕ → Type 0
      Exactly o = (o ≡ Some k → HoldsAt m l s k) × (HoldsAt m l s k → o ≡ Some k)

      go : (v : Bool) → linked l ≡ v → r ≡ cond v (lowest (λ k. holds_standing m l s (m.windows k)) 1 256) None → Exactly r
      go true there is = subst Exactly (sym is) (searched (lowest (λ k. holds_standing m l s (m.windows k)) 1 256) (found _ 256 1) k)
      go false absent is = (
        (λ some. absurd (grind arith)),
        (λ held. absurd (false≢true (sym absent ∙ held_linked k held))),
      )

  -- a link without a cycle is not there, and no step of it is held
  pub absent_held : (span : Span) → span ≡ span_answer l m → span.cycle ≡ 0 → held_answer l s m ≡ None
  absent_held span is none =
      held_none m l s (λ k at.
      let (w, (stands, (link, held))) = at in
      let some = cycle_some m w.link (sound.proper k w stands).suits.link in
      let cycle : span.cycle ≡ m.cycle l = ap (λ x. x.cycle) (is ∙ ap (λ v. cond v (record { cycle = m.cycle l; rest = m.rest l }) (record { cycle = 0; rest = 0 })) (held_linked k at)) in
      omega (arith, none, cycle, ap m.cycle link))

  -- a step is held as its place in the cycle of the link, which the number r is answered to
  pub placed_held : (span : Span) (r : Option ℕ) → span ≡ span_answer l m → 0 < span.cycle → (present m l ≡ true → r ≡ held_answer l (s % span.cycle) m) → r ≡ held_answer l s m
  placed_held span r is some place = go (linked l) refl is
    where
      go : (v : Bool) → linked l ≡ v → span ≡ cond v (record { cycle = m.cycle l; rest = m.rest l }) (record { cycle = 0; rest = 0 }) → r ≡ held_answer l s m
      go true on same =
          let cycle : span.cycle ≡ m.cycle l = ap (λ x. x.cycle) same in
          let there : ltb 0 (m.cycle l) ≡ true = grind (arith, nat_tests) in
          place (λ i. on i && there i) ∙ ap (λ x. held_answer l (s % x) m) cycle ∙ sym (held_in_cycle m sound l s)
      go false off same = absurd (omega (arith, some, ap (λ x. x.cycle) same))
