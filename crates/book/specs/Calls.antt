-- What each call of a book answers, and what the book means after it.
use Rattle.std.specs.Prelude.{ℕ, Bool, false, cond, not, ◌&&◌, is_some, Some, None, Ok, Err, Option, Result, ◌==◌, nat_lt}
use Rattle.std.specs.Result.{result_and}
use Rattle.book.specs.declared.fault.BookFault.{BookFault}
use Rattle.book.specs.declared.fault.BookFault.TheVariants.{Absent, BadForm, Standing, Clash, NothingThere}
use Rattle.book.specs.declared.span.Span.{Span}
use Rattle.book.specs.declared.window.Window.{Window}
use Rattle.book.specs.Form.{well_formed}
use Rattle.book.specs.Holding.{holds, meets}
use Rattle.book.specs.Lowest.{lowest}
use Rattle.book.specs.Meaning.{Meaning, numbered, linked, present, with}

-- whether what stands under a number is a window of w's link that meets w
abbrev pub meets_standing : Meaning → Window → Option Window → Bool
meets_standing m w None = false
meets_standing m w (Some v) = v.link == w.link && meets (m.cycle w.link) (m.rest w.link) v w

-- the lowest number whose window meets w
abbrev pub first_met : Meaning → Window → Option ℕ
first_met m w = lowest (λ k. meets_standing m w (m.windows k)) 1 256

-- why a window cannot have number n on a link with this cycle and this rest, whatever windows there are
abbrev pub misfit : ℕ → Window → ℕ → ℕ → Result (Unit {0}) BookFault
misfit n w cycle rest =
    cond (not (numbered n && nat_lt 0 cycle)) (Err Absent)
    (cond (not (well_formed cycle rest w)) (Err (BadForm n rest)) (Ok tt))

-- why a window cannot stand under number n, whatever the other windows are
unfoldable pub unfit : ℕ → Window → Meaning → Result (Unit {0}) BookFault
unfit n w m =
    cond (not (numbered n && present m w.link)) (Err Absent)
    (cond (not (well_formed (m.cycle w.link) (m.rest w.link) w)) (Err (BadForm n (m.rest w.link)))
    (cond (is_some (m.windows n)) (Err (Standing n)) (Ok tt)))

-- a clash of window n with the number that it meets, if any
abbrev pub unmet : ℕ → Option ℕ → Result (Unit {0}) BookFault
unmet n None = Ok tt
unmet n (Some k) = Err (Clash n k)

-- book: the window may stand, or the first cause that it may not
abbrev pub book_answer : ℕ → Window → Meaning → Result (Unit {0}) BookFault
book_answer n w m = result_and (unfit n w m) (unmet n (first_met m w))

-- what the book means after an answer: another meaning where the call was accepted, and as before where not
abbrev pub changed : {A : Type 0} → Result A BookFault → Meaning → Meaning → Meaning
changed (Ok x) new m = new
changed (Err e) new m = m

abbrev pub book_after : ℕ → Window → Meaning → Meaning
book_after n w m = changed (book_answer n w m) (with n (Some w) m) m

-- the window that stands under number n, or that nothing is there
abbrev pub standing : ℕ → Option Window → Result Window BookFault
standing n None = Err (NothingThere n)
standing n (Some w) = Ok w

-- lift: the window that is gone now
abbrev pub lift_answer : ℕ → Meaning → Result Window BookFault
lift_answer n m = cond (not (numbered n)) (Err Absent) (standing n (m.windows n))

abbrev pub lift_after : ℕ → Meaning → Meaning
lift_after n m = changed (lift_answer n m) (with n None m) m

-- find: the window of a number
abbrev pub find_answer : ℕ → Meaning → Option Window
find_answer n m = cond (numbered n) (m.windows n) None

-- whether what stands under a number is a window of link l that holds step s
abbrev pub holds_standing : Meaning → ℕ → ℕ → Option Window → Bool
holds_standing m l s None = false
holds_standing m l s (Some w) = w.link == l && holds w (m.rest l) s

-- held: the lowest number whose window holds step s of link l
abbrev pub held_answer : ℕ → ℕ → Meaning → Option ℕ
held_answer l s m = cond (linked l) (lowest (λ k. holds_standing m l s (m.windows k)) 1 256) None

-- span: cycle and rest of a link, 0 and 0 where there is no such link
abbrev pub span_answer : ℕ → Meaning → Span
span_answer l m = cond (linked l) (record { cycle = m.cycle l; rest = m.rest l }) (record { cycle = 0; rest = 0 })

-- whether some number has a window
abbrev pub holds_windows : Meaning → Bool
holds_windows m = is_some (lowest (λ k. is_some (m.windows k)) 1 256)
