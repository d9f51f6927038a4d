-- The numbers from 1 to a last one, as `find` and `any` try them on a closure that answers a test.
use Rattle.std.proofs.Common.{◌≡◌, ℕ, ◌+◌, ◌-◌, ◌<◌, ◌≤◌, Bool, true, false, is_some, Some, None, Option, MatchOption, IfSome, sym, refl, ap, ◌∙◌, subst, ⊎_elim, arith}
use Rattle.std.proofs.lemmas.Bool.{true≢false}
use Rattle.std.proofs.lemmas.Bool.Decides.{leb_tells, eqb_tells}
use mathlib.Core.Logic.{◌⊎◌, inl, inr}
use Rattle.std.proofs.iter.Yields.{nat_range_steps}
use Rattle.std.proofs.iter.runs.Sources.{range_listed, nat_range_inclusive_steps, inclusive_listed}
use Rattle.std.specs.Bool.{MatchBool, IsTrue}
use Rattle.std.specs.Fn.{Called, CalledAt}
use Rattle.std.specs.Iterator.Runs.{Run, SomeRun, CallKeepsClosure, AllItemsGive, AnyItemGives, NoItemPasses, EndsAtFirstPassing, ItemsCountUp}
use Rattle.std.specs.Option.{option_map, IsSomeAnd}
use Rattle.std.specs.Range.{range_inclusive_start, range_inclusive_end, range_inclusive_exhausted}
use Rattle.std.specs.declared.ops.Range.{Range}
use Rattle.std.specs.declared.ops.RangeInclusive.{RangeInclusive}
use denote.Param.Members.{Mut}
use denote.Ref.{Bor}
use Rattle.book.specs.Lowest.{lowest}
use Rattle.book.proofs.Lowest.{Found, nowhere, somewhere, found}

-- what a run of the numbers says of the one at a place
at_item : (o : Option ℕ) (x : ℕ) (P : ℕ → Type 0) → option_map (λ y. y) o ≡ Some x → IfSome o P → P x
at_item None x P is holds = absurd (grind arith)
at_item (Some v) x P is holds = let same : v ≡ x = cc in subst P same holds

some_item : (o : Option ℕ) (P : ℕ → Type 0) → IsSomeAnd o P → IfSome o P
some_item None P holds = absurd holds
some_item (Some v) P holds = holds

-- there is only one lowest number
one_found : (p : ℕ → Bool) (i n : ℕ) (o o' : Option ℕ) → Found p i n o → Found p i n o' → o ≡ o'
one_found p i n None None (nowhere all) (nowhere all') = refl
one_found p i n None (Some k) (nowhere all) (somewhere k' low high passes below) = absurd (true≢false (sym passes ∙ all k low high))
one_found p i n (Some k) None (somewhere k' low high passes below) (nowhere all) = absurd (true≢false (sym passes ∙ all k low high))
one_found p i n (Some j) (Some k) (somewhere j' low high passes below) (somewhere k' low' high' passes' below') =
    ⊎_elim
    (λ fewer. absurd (true≢false (sym passes ∙ below' j low fewer)))
    (λ rest. ⊎_elim
    (λ more. absurd (true≢false (sym passes' ∙ below k low' more)))
    (λ same. ap Some same)
    rest)
    (either j k)
  where
    either : (j k : ℕ) → (j < k) ⊎ ((k < j) ⊎ (j ≡ k))
    either j k = ⊎_elim (λ le. ⊎_elim (λ same. inr (inr same.1)) (λ other. let ne = other.1 in inl (omega (arith, le.1))) (eqb_tells j k)) (λ more. inr (inl more.1)) (leb_tells j k)

-- each run from s counts the numbers up, from 1 to the last
abbrev pub CountsTo : {S : Type 0} → (S → Option ℕ → S → Type 0) → S → ℕ → Type 0
CountsTo steps s last = (u : Run steps) → u.from ≡ s → ItemsCountUp u 1 (last + 1)

pub inclusive : (last : ℕ) (s : RangeInclusive ℕ) → range_inclusive_start s ≡ 1 → range_inclusive_end s ≡ last → range_inclusive_exhausted s ≡ false → CountsTo nat_range_inclusive_steps s last
inclusive last s one end fresh u from =
    let h = inclusive_listed u u.seen in
    let first : h.0 ≡ 1 = h.2 ∙ ap range_inclusive_start from ∙ one in
    let after : h.1 ≡ last + 1 = h.3 ∙ ap (λ t. range_inclusive_end t + 1) from ∙ ap (λ e. e + 1) end in
    subst (λ (q : ℕ × ℕ). ItemsCountUp u q.0 q.1) (λ i. (first i, after i)) (h.4 (ap range_inclusive_exhausted from ∙ fresh)).0

pub half_open : (last : ℕ) (s : Range ℕ) → s.start ≡ 1 → s.end ≡ last + 1 → CountsTo nat_range_steps s last
half_open last s one end u from =
    let h = range_listed u u.seen in
    let first : h.0 ≡ 1 = h.2 ∙ ap (λ t. t.start) from ∙ one in
    let after : h.1 ≡ last + 1 = h.3 ∙ ap (λ t. t.end) from ∙ end in
    subst (λ (q : ℕ × ℕ). ItemsCountUp u q.0 q.1) (λ i. (first i, after i)) h.4

module _ (last : ℕ) (p : ℕ → Bool) {S : Type 0} {steps : S → Option ℕ → S → Type 0} (s : S) (counted : CountsTo steps s last) where
  -- what is said of the number at a place
  at_place : (u : Run steps) → u.from ≡ s → (P : ℕ → Type 0) → (j : ℕ) → 1 ≤ j → j - 1 < u.len → IfSome (u.at (j - 1)) P → P j
  at_place u from P j low within holds =
      let same : 1 + (j - 1) ≡ j = omega arith in
      at_item (u.at (j - 1)) j P ((counted u from).3 (j - 1) within ∙ ap Some same) holds

  -- `find` answers the lowest number that passes
  pub find_lowest : {F : Type 0} {g : Mut F (Bor ℕ × Unit {0}) Bool} {f : F} (r : Option ℕ) → SomeRun steps s (λ u. MatchOption r (IsTrue u.whole × NoItemPasses u g f) (EndsAtFirstPassing u g f)) → CallKeepsClosure g f → ((x : ℕ) → 1 ≤ x → x ≤ last → (b : Bool) → CalledAt g f x b f → b ≡ p x) → r ≡ lowest p 1 last
  find_lowest {F} {g} {f} r (u, from, ends) keeps tests = one_found p 1 last r (lowest p 1 last) (go r ends) (found p last 1)
    where
      fails : (j : ℕ) → 1 ≤ j → j - 1 < u.len → IfSome (u.at (j - 1)) (λ x. CalledAt g f x false f) → p j ≡ false
      fails j low within called = sym (tests j low (omega (arith, (counted u from).0)) false (at_place u from (λ x. CalledAt g f x false f) j low within called))

      go : (o : Option ℕ) → MatchOption o (IsTrue u.whole × NoItemPasses u g f) (EndsAtFirstPassing u g f) → Found p 1 last o
      go None (whole, none) =
          let len : u.len ≡ last + 1 - 1 = (counted u from).1 whole in
          nowhere (λ j low high. let within : j - 1 < u.len = omega arith in fails j low within (none keeps (j - 1)))
      go (Some x) (i, len, at, passes) =
          let place : x ≡ 1 + i = (at_item_is x i at).0 in
          let high = (at_item_is x i at).1 in
          let both = passes keeps in
          somewhere x (omega arith) (omega arith) (sym (tests x (omega arith) (omega arith) true both.0)) (λ j low below. let before : j - 1 < i = omega arith in fails j low (omega arith) (some_item (u.at (j - 1)) (λ x. CalledAt g f x false f) (both.1 (j - 1) before)))
        where
          at_item_is : (x i : ℕ) → u.at i ≡ Some x → (x ≡ 1 + i) × (x < last + 1)
          at_item_is x i at = subst (λ o. IfSome o (λ x. (x ≡ 1 + i) × (x < last + 1))) at ((counted u from).2 i)

  -- `any` answers whether there is one
  pub any_lowest : {F : Type 0} {g : Mut F (ℕ × Unit {0}) Bool} {f : F} (r : Bool) → SomeRun steps s (λ u. MatchBool r (AnyItemGives u g f true) (IsTrue u.whole × AllItemsGive u g f false)) → CallKeepsClosure g f → ((x : ℕ) → 1 ≤ x → x ≤ last → (b : Bool) → Called g f (x, tt) b f → b ≡ p x) → r ≡ is_some (lowest p 1 last)
  any_lowest {F} {g} {f} r (u, from, ends) keeps tests = go r (lowest p 1 last) ends (found p last 1)
    where
      go : (b : Bool) (o : Option ℕ) → MatchBool b (AnyItemGives u g f true) (IsTrue u.whole × AllItemsGive u g f false) → Found p 1 last o → b ≡ is_some o
      go true (Some k) any at = refl
      go false None all at = refl
      go true None any (nowhere all) =
          let (k, within, called) = any keeps in
          let here : k + 1 - 1 ≡ k = omega arith in
          let passes = tests (k + 1) (omega arith) (omega (arith, (counted u from).0)) true (at_place u from (λ x. Called g f (x, tt) true f) (k + 1) (omega arith) (omega arith) (some_item (u.at (k + 1 - 1)) (λ x. Called g f (x, tt) true f) (subst (λ i. IsSomeAnd (u.at i) (λ x. Called g f (x, tt) true f)) (sym here) called))) in
          absurd (true≢false (passes ∙ all (k + 1) (omega arith) (omega (arith, (counted u from).0))))
      go false (Some k) (whole, all) (somewhere k' low high passes below) =
          let len : u.len ≡ last + 1 - 1 = (counted u from).1 whole in
          let fails = tests k low (omega arith) false (at_place u from (λ x. Called g f (x, tt) false f) k low (omega arith) (all keeps (k - 1))) in
          absurd (true≢false (sym passes ∙ sym fails))
