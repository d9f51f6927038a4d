-- Two windows meet exactly where the common divisor of their periods says so.
use mathlib.Core.Bool.{Bool, ◌||◌}
use mathlib.Core.Logic.{inl, inr, ⊎_elim}
use mathlib.Core.Path.{◌≡◌, sym, ◌∙◌}
use Prim.Native.Nat.{ℕ, ◌+◌, ◌-◌, ◌*◌, ◌%◌, ◌≤◌, ◌<◌}
use native.Mathlib.Omega.{arith}
use lib.Dec.{ltb}
use Rattle.std.proofs.lemmas.Bool.Decides.{leb_tells, Decides-at, Decides-ltb, Decides-or, Decides-like, same_from_decides}
use Rattle.std.specs.Bool.{Decides}
use Rattle.book.specs.declared.Window.{Window}
use Rattle.book.specs.Form.{GoodForm}
use Rattle.book.specs.Holding.{Meet, meets}
use Rattle.book.proofs.Times.{Among}
use Rattle.book.proofs.Unbounded.{meets_decides}
use Rattle.periods.specs.Divisors.{Reaches}
use Rattle.bottom.specs.Leading.{Leads}
use Rattle.bottom.proofs.Remainders.{fewest}

-- a step that is among those of both, on a link without rest
abbrev Both : (a p l b q m : ℕ) → Type 0
Both a p l b q m = (s : ℕ) × (Among a p (l + 0) s × Among b q (m + 0) s)

-- the second window begins within the first
first : (a p l b q m g r : ℕ) → 0 < m → Reaches p q g → (a + r) % g ≡ b % g → r < l → Both a p l b q m
first a p l b q m g r long reaches leads less =
    let (j, (k, met)) = (reaches (a + r) b).1 leads in
    (b + k * q, ((j, (omega arith, omega arith)), (k, (omega arith, omega arith))))

swapped : (a p l b q m : ℕ) → Both a p l b q m → Both b q m a p l
swapped a p l b q m (s, (one, other)) = (s, (other, one))

turned : (p q g : ℕ) → Reaches p q g → Reaches q p g
turned p q g reaches x y = (
  (λ (j, (k, met)). sym ((reaches y x).0 (k, (j, sym met)))),
  (λ same. let (j, (k, met)) = (reaches y x).1 (sym same) in (k, (j, sym met))),
)

-- where both hold a step, the one that began later began within the other
within : (a p b q g i t j k r : ℕ) → Reaches p q g → a + j * p + i ≡ b + k * q + t → t ≤ i → (a + r) % g ≡ b % g → r < g → r ≤ i - t
within a p b q g i t j k r reaches same later leads less =
    let here = (reaches (a + (i - t)) b).0 (j, (k, omega arith)) in
    fewest a r (i - t) g less (here ∙ sym leads)

pub common_decides : (a p l b q m g r u : ℕ) → 0 < l → 0 < m → Reaches p q g → r < g → (a + r) % g ≡ b % g → u < g → (b + u) % g ≡ a % g → Decides (ltb r l || ltb u m) (Both a p l b q m)
common_decides a p l b q m g r u long broad reaches rless rleads uless uleads =
    Decides-like _
    (⊎_elim (λ less. first a p l b q m g r broad reaches rleads less) (λ less. swapped b q m a p l (first b q m a p l g u long (turned p q g reaches) uleads less)))
    (λ (s, ((j, (late, early)), (k, (late', early')))).
    let i = s - (a + j * p) in
    let t = s - (b + k * q) in
    ⊎_elim
    (λ le. inr (let few = within b q a p g t i k j u (turned p q g reaches) (omega arith) le.1 uleads uless in omega arith))
    (λ more. inl (let few = within a p b q g i t j k r reaches (omega arith) (omega (arith, more.1)) rleads rless in omega arith))
    (leb_tells i t))
    (Decides-or _ _ (Decides-ltb r l) (Decides-ltb u m))

-- what `meets` promises of its answer v
pub record Formula (one other : Window) (v : Bool) : Type 0 where
  pub always : 0 < one.length → 0 < one.period → 0 < other.length → 0 < other.period → Decides v (Meet 0 one other)
  pub searched : (cycle : ℕ) → 0 < cycle → GoodForm cycle 0 one → GoodForm cycle 0 other → v ≡ meets cycle 0 one other

-- where v is the test by the common divisor g of the two periods
pub formula : (one other : Window) (g r u : ℕ) → (0 < one.period → 0 < g) → (0 < one.period → 0 < other.period → Reaches one.period other.period g) → (0 < g → Leads one.start other.start g r) → (0 < g → Leads other.start one.start g u) → (v : Bool) → v ≡ (ltb r one.length || ltb u other.length) → Formula one other v
formula one other g r u some reaches there back v is = record {
  always = always;
  searched = λ cycle lasts good good'. same_from_decides _ _ (always good.long good.again good'.long good'.again) (meets_decides one other cycle 0 lasts good good');
}
  where
    always : 0 < one.length → 0 < one.period → 0 < other.length → 0 < other.period → Decides v (Meet 0 one other)
    always long again long' again' =
        let ahead = there (some again) in
        let behind = back (some again) in
        Decides-at _ _ is (common_decides one.start one.period one.length other.start other.period other.length g r u long long' (reaches again again') ahead.below ahead.there behind.below behind.there)
