-- The first line of a text and the lines after it.
use Rattle.std.proofs.Common.{◌≡◌, ℕ, suc, ◌+◌, ◌<◌, ◌≤◌, Bool, true, false, cond, not, eqb, List, [], ◌∷◌, length, take, drop, refl, ap, inl, inr, one-add, arith, length-drop}
use Rattle.std.specs.List.{prefix_len}
use Rattle.std.proofs.lemmas.Bool.Decides.{Decides-eqb, not_from_Decides}
use Rattle.text.specs.Lines.{in_front, lines, no_feed, first_line, after_line, LinesOf}

-- a text that is not empty is its first line and the lines after it
pub lines_first : (bs : List ℕ) → 0 < length bs → lines bs ≡ first_line bs ∷ lines (after_line bs)
lines_first [] some = absurd (omega arith)
lines_first (b ∷ []) some = go (eqb b 10)
  where
    go : (v : Bool) → cond v ([] ∷ []) ((b ∷ []) ∷ []) ≡ take (cond (not v) (1 + 0) 0) (b ∷ []) ∷ lines (drop (suc (cond (not v) (1 + 0) 0)) (b ∷ []))
    go true = refl
    go false = refl
lines_first (b ∷ c ∷ bs) some = go (eqb b 10) (lines_first (c ∷ bs) (omega arith))
  where
    go : (v : Bool) → lines (c ∷ bs) ≡ first_line (c ∷ bs) ∷ lines (after_line (c ∷ bs)) → cond v ([] ∷ lines (c ∷ bs)) (in_front b (lines (c ∷ bs))) ≡ take (cond (not v) (1 + prefix_len no_feed (c ∷ bs)) 0) (b ∷ c ∷ bs) ∷ lines (drop (suc (cond (not v) (1 + prefix_len no_feed (c ∷ bs)) 0)) (b ∷ c ∷ bs))
    go true more = refl
    go false more = rw (one-add (prefix_len no_feed (c ∷ bs))) (ap (in_front b) more)

pub after_shorter : (bs : List ℕ) → 0 < length bs → length (after_line bs) < length bs
after_shorter bs some = omega (arith, length-drop (suc (prefix_len no_feed bs)) bs)

-- a text has at most as many lines as bytes
pub lines_few : (bs : List ℕ) → length (lines bs) ≤ length bs
lines_few [] = omega arith
lines_few (b ∷ bs) = go (eqb b 10) (lines_few bs)
  where
    front : (ls : List (List ℕ)) → length ls ≤ length bs → length (in_front b ls) ≤ suc (length bs)
    front [] few = omega arith
    front (l ∷ ls) few = omega arith

    go : (v : Bool) → length (lines bs) ≤ length bs → length (cond v ([] ∷ lines bs) (in_front b (lines bs))) ≤ suc (length bs)
    go true few = omega arith
    go false few = front (lines bs) few

pub lines_are : (bs : List ℕ) → LinesOf (lines bs) bs
lines_are [] = refl
lines_are (b ∷ bs) = go (eqb b 10) refl (lines_are bs)
  where
    longer : (ls : List (List ℕ)) → (b ≡ 10 → ⊥) → LinesOf ls bs → LinesOf (in_front b ls) (b ∷ bs)
    longer [] other none = ((other, tt), inr (ap (λ l. b ∷ l) none, (omega arith, refl)))
    longer (l ∷ ls) other (clean, inl (rest, (text, more))) = ((other, clean), inl (rest, (ap (λ t. b ∷ t) text, more)))
    longer (l ∷ ls) other (clean, inr (text, (some, last))) = ((other, clean), inr (ap (λ t. b ∷ t) text, (omega arith, last)))

    go : (v : Bool) → eqb b 10 ≡ v → LinesOf (lines bs) bs → LinesOf (cond v ([] ∷ lines bs) (in_front b (lines bs))) (b ∷ bs)
    go true is more = (tt, inl (bs, (ap (λ x. x ∷ bs) ((Decides-eqb b 10).0 is), more)))
    go false is more = longer (lines bs) (not_from_Decides (eqb b 10) (Decides-eqb b 10) is) more
