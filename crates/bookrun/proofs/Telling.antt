-- What a journal tells after one reply more.
use Rattle.std.proofs.Common.{◌≡◌, ℕ, suc, ◌+◌, List, [], ◌∷◌, ◌++◌, length, Option, string_bytes, sym, refl, ap, ◌∙◌, subst, append_assoc, append-nil, add-zero, arith}
use Rattle.std.proofs.lemmas.List.{length_push}
use Rattle.book.specs.Meaning.{Meaning}
use Rattle.script.specs.Reading.{read_line}
use Rattle.bookrun.specs.declared.journal.Journal.{Journal}
use Rattle.bookrun.specs.declared.tally.Tally.{Tally}
use Rattle.bookrun.specs.Journals.{Records}
use Rattle.bookrun.specs.Printed.{answer_lines, line, counted, counted_all, no_tally}
use Rattle.bookrun.specs.Replies.{Reply, answer_text}
use Rattle.bookrun.specs.Scripts.{reply_to, after_one, replies}

lines-push : (n : ℕ) (rs : List (Option Reply)) (r : Option Reply) → answer_lines n (rs ++ (r ∷ [])) ≡ answer_lines n rs ++ line (answer_text (n + length rs) r)
lines-push n [] r = append-nil _ ∙ ap (λ k. line (answer_text k r)) (sym (add-zero n))
lines-push n (x ∷ rs) r =
    let number : suc n + length rs ≡ n + suc (length rs) = omega arith in
    ap (λ l. line (answer_text n x) ++ l) (lines-push (suc n) rs r ∙ ap (λ k. answer_lines (suc n) rs ++ line (answer_text k r)) number)
    ∙ sym (append_assoc (line (answer_text n x)) _ _)

counted-push : (rs : List (Option Reply)) (r : Option Reply) (t : Tally) → counted_all (rs ++ (r ∷ [])) t ≡ counted r (counted_all rs t)
counted-push [] r t = refl
counted-push (x ∷ rs) r t = counted-push rs r (counted x t)

-- the reply went behind the text, and is counted
pub told : {j j' : Journal} (rs : List (Option Reply)) → Records rs j → (r : Option Reply) → string_bytes j'.text ≡ string_bytes j.text ++ line (answer_text (j.lines + 1) r) → j'.tally ≡ counted r j.tally → j'.lines ≡ j.lines + 1 → Records (rs ++ (r ∷ [])) j'
told {j} rs was r wrote counts more =
    let number : j.lines + 1 ≡ 1 + length rs = omega (arith, was.lines) in
    record {
      text = wrote ∙ (λ i. was.text i ++ line (answer_text (number i) r)) ∙ sym (lines-push 1 rs r);
      lines = omega (arith, was.lines, more, length_push rs r);
      tally = counts ∙ ap (counted r) was.tally ∙ sym (counted-push rs r no_tally);
    }

-- the lines ls were answered from state s₀ on to state s, behind the replies before, and rest is left
pub record Sofar (s₀ s : Option Meaning) (ls rest : List (List ℕ)) (before : List (Option Reply)) (j : Journal) : Type 0 where
  pub done : List (Option Reply)
  pub all : replies s₀ ls ≡ done ++ replies s rest
  pub records : Records (before ++ done) j

pub sofar_none : (s : Option Meaning) (ls : List (List ℕ)) (before : List (Option Reply)) (j : Journal) → Records before j → Sofar s s ls ls before j
sofar_none s ls before j records = record { done = []; all = refl; records = rw append-nil records }

-- nothing is left
pub sofar_all : {s₀ s : Option Meaning} {ls rest : List (List ℕ)} {before : List (Option Reply)} {j : Journal} → Sofar s₀ s ls rest before j → rest ≡ [] → Records (before ++ replies s₀ ls) j
sofar_all {s₀} {s} {ls} {rest} {before} {j} h none =
    let At : List (Option Reply) → Type 0 = λ rs. Records (before ++ rs) j in
    subst At (sym (h.all ∙ ap (λ l. h.done ++ replies s l) none ∙ append-nil h.done)) h.records

-- one line more
pub sofar_more : {s₀ s : Option Meaning} {ls rest : List (List ℕ)} {before : List (Option Reply)} {j : Journal} → Sofar s₀ s ls rest before j → (l : List ℕ) (later : List (List ℕ)) → rest ≡ l ∷ later → (r : Option Reply) (s' : Option Meaning) (j' : Journal) → r ≡ reply_to (read_line l) s → s' ≡ after_one (read_line l) s → ((rs : List (Option Reply)) → Records rs j → Records (rs ++ (r ∷ [])) j') → Sofar s₀ s' ls later before j'
sofar_more {s₀} {s} {ls} {rest} {before} {j} h l later next r s' j' replied state writes =
    let here : replies s rest ≡ r ∷ replies s' later = ap (replies s) next ∙ (λ i. sym replied i ∷ replies (sym state i) later) in
    let At : List (Option Reply) → Type 0 = λ rs. Records rs j' in
    record {
      done = h.done ++ (r ∷ []);
      all = h.all ∙ ap (λ l. h.done ++ l) here ∙ sym (append_assoc h.done (r ∷ []) (replies s' later));
      records = subst At (append_assoc before h.done (r ∷ [])) (writes (before ++ h.done) h.records);
    }
