-- One line after the other.
use Rattle.std.proofs.Common.{◌≡◌, ℕ, suc, ◌+◌, ◌*◌, ◌^◌, ◌<◌, ◌≤◌, List, [], ◌∷◌, ◌++◌, length, Some, Ok, Err, sum_by, sym, ap, ◌∙◌, append_assoc, append-nil, add-one, arith}
use Rattle.std.proofs.lemmas.List.{length_push, flat_map_more}
use Rattle.std.proofs.lemmas.List.Sums.{sum_by_push}
use Rattle.std.specs.List.{flat_map}
use Rattle.text.specs.Lines.{lines}
use Rattle.frames.specs.declared.fault.Fault.{Fault}
use Rattle.frames.specs.declared.tally.Tally.{Tally}
use Rattle.frames.specs.declared.timed.Timed.{Timed}
use Rattle.frames.specs.Answer.{time_line, accepted_then, accepted, refused_then, refused, tally_of, timed_line, refusal_line, Answered, line}
use Rattle.frames.specs.Texts.{refusal_text}

-- n of the lines ls are answered, each with a frame, and rest is left
pub record Sofar (ls rest : List (List ℕ)) (n : ℕ) (old new : List ℕ) (t : Tally) : Type 0 where
  pub done : List Timed
  pub frames : accepted ls ≡ done ++ accepted rest
  pub refusal : refused 1 ls ≡ refused (suc n) rest
  pub text : new ≡ old ++ flat_map timed_line done
  pub tally : t ≡ tally_of done
  pub count : length done ≡ n
  pub short : n + length rest ≤ length ls
  pub small : sum_by (λ x. x.micros) done ≤ n * 2 ^ 64

pub sofar_none : (ls rest : List (List ℕ)) (n : ℕ) (old : List ℕ) (t : Tally) → rest ≡ ls → n ≡ 0 → t ≡ record { frames = 0; micros = 0 } → Sofar ls rest n old old t
sofar_none ls rest n old t all none zero = record {
  done = [];
  frames = sym (ap accepted all);
  refusal = λ i. refused (suc (sym none i)) (sym all i);
  text = sym (append-nil old);
  tally = zero;
  count = sym none;
  short = omega (arith, none, ap length all);
  small = omega arith;
}

pub sofar_more : {ls rest : List (List ℕ)} {n : ℕ} {old new : List ℕ} {t : Tally} → Sofar ls rest n old new t → (first : List ℕ) (later : List (List ℕ)) → rest ≡ first ∷ later → (x : Timed) (m : ℕ) (new' : List ℕ) (t' : Tally) → time_line first ≡ Ok x → m ≡ n + 1 → x.micros < 2 ^ 64 → new' ≡ new ++ timed_line x → t'.frames ≡ t.frames + 1 → t'.micros ≡ t.micros + x.micros → Sofar ls later m old new' t'
sofar_more {n = n} {old = old} h first later next x m new' t' is one fits wrote more sum =
    let long = length_push h.done x in
    let total = sum_by_push (λ y. y.micros) h.done x in
    let frames : t'.frames ≡ length (h.done ++ (x ∷ [])) = omega (arith, ap (λ u. u.frames) h.tally) in
    let micros : t'.micros ≡ sum_by (λ y. y.micros) (h.done ++ (x ∷ [])) = omega (arith, ap (λ u. u.micros) h.tally) in
    record {
      done = h.done ++ (x ∷ []);
      frames = h.frames ∙ ap (λ l. h.done ++ l) (ap accepted next ∙ ap (λ r. accepted_then r (accepted later)) is) ∙ sym (append_assoc h.done (x ∷ []) (accepted later));
      refusal = h.refusal ∙ ap (refused (suc n)) next ∙ ap (λ r. refused_then (suc n) r (refused (suc (suc n)) later)) is ∙ ap (λ k. refused (suc k) later) (sym (add-one n) ∙ sym one);
      text = wrote ∙ ap (λ l. l ++ timed_line x) h.text ∙ flat_map_more timed_line old h.done x;
      tally = λ i. record { frames = frames i; micros = micros i };
      count = omega (arith, h.count);
      short = omega (arith, h.short, ap length next);
      small = omega (arith, h.small);
    }

module _ {bs : List ℕ} {rest : List (List ℕ)} {n : ℕ} {old new : List ℕ} {t : Tally} (h : Sofar (lines bs) rest n old new t) where
  pub sofar_all : rest ≡ [] → Answered bs old new t
  sofar_all none =
      let all = h.frames ∙ ap (λ l. h.done ++ accepted l) none ∙ append-nil h.done in
      record {
        text = h.text ∙ ap (λ l. old ++ l) (sym ((λ i. flat_map timed_line (all i) ++ refusal_line ((h.refusal ∙ ap (refused (suc n)) none) i)) ∙ append-nil _));
        tally = h.tally ∙ ap tally_of (sym all);
      }

  pub sofar_refused : (first : List ℕ) (later : List (List ℕ)) → rest ≡ first ∷ later → (e : Fault) (new' : List ℕ) → time_line first ≡ Err e → new' ≡ new ++ line (refusal_text (record { line = n + 1; fault = e })) → Answered bs old new' t
  sofar_refused first later next e new' is wrote =
      let all = h.frames ∙ ap (λ l. h.done ++ l) (ap accepted next ∙ ap (λ r. accepted_then r (accepted later)) is) ∙ append-nil h.done in
      let here = h.refusal ∙ ap (refused (suc n)) next ∙ ap (λ r. refused_then (suc n) r (refused (suc (suc n)) later)) is ∙ ap (λ k. Some (record { line = k; fault = e })) (sym (add-one n)) in
      record {
        text = wrote ∙ ap (λ l. l ++ refusal_line (Some (record { line = n + 1; fault = e }))) h.text ∙ append_assoc old _ _ ∙ ap (λ l. old ++ l) (sym (λ i. flat_map timed_line (all i) ++ refusal_line (here i)));
        tally = h.tally ∙ ap tally_of (sym all);
      }
