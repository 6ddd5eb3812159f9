-- The contract of `close` on small contexts of the sheet.
--     p9-zero     rows a, f(a) .. f applied five times; rows 3 and 5 stated equal to row 0: each of the six places holds 0
--     p10-zero    the constant a twice: both places hold 0
-- Assumes nothing.
use mathlib.Core.List.{List, [], ◌∷◌, map}
use mathlib.Core.Path.{◌≡◌, refl}
use Prim.Native.Nat.{ℕ, zero, suc, ◌≤◌, ◌<◌}
use native.Mathlib.Omega.{arith}
use lib.ListN.{length, get_or}
use Rattle.meaning.specs.Context.{Row, Context, same, Term, node, stop, more, pick, grow, terms, term_at, equations_of, equations, differences_of}
use Rattle.meaning.specs.Equality.{EqualIn, given, reflexive, symmetric, transitive, congruent, same_stop, same_more, rep_at, Promise}
use Rattle.meaning.specs.Formed.{Ordered, Within}
use Rattle.meaning.specs.Columns.{context_from, rows_from, statements_from, statement_of, pad, fours, symbols_of, counts_of, arguments_of, kind_of, first_of, second_of}
use Rattle.columns.specs.Fit.{FitContext}
use Rattle.closing.specs.declared.Answer.{Answer}
use Rattle.closing.specs.declared.Answer.TheVariants.{Closed}
use Rattle.closing.specs.Claims.{Closes}
use Rattle.closing.proofs.Answers.{closes-fit}

-- a context in the columns of `close`
abbrev pub ClosesIn : Context → Answer → List ℕ → Type 0
ClosesIn c a t =
    Closes (pad 255 (symbols_of c.rows)) (pad 255 (counts_of c.rows)) (pad 1020 (arguments_of c.rows)) (length c.rows)
    (pad 510 (map kind_of c.statements)) (pad 510 (map first_of c.statements)) (pad 510 (map second_of c.statements)) (length c.statements)
    a t

-- and that they are fit
abbrev pub FitIn : Context → Type 0
FitIn c =
    FitContext (pad 255 (symbols_of c.rows)) (pad 255 (counts_of c.rows)) (pad 1020 (arguments_of c.rows)) (length c.rows)
    (pad 510 (map kind_of c.statements)) (pad 510 (map first_of c.statements)) (pad 510 (map second_of c.statements)) (length c.statements)

abbrev f : ℕ → Row
f i = record { symbol = 1; args = i ∷ [] }

abbrev a : Row
a = record { symbol = 0; args = [] }

abbrev pub p9 : Context
p9 = record { rows = a ∷ f 0 ∷ f 1 ∷ f 2 ∷ f 3 ∷ f 4 ∷ []; statements = same 3 0 ∷ same 5 0 ∷ [] }

abbrev pub p10 : Context
p10 = record { rows = a ∷ a ∷ []; statements = [] }

lowest-zero : (c : Context) (n : ℕ) (t : List ℕ) → Promise c n t → (i : ℕ) → i < length c.rows → 0 < length c.rows
    → EqualIn c (term_at c.rows i) (term_at c.rows 0) → rep_at t i ≡ 0
lowest-zero c n t p i h z e = omega (arith, (p.rows i h).least 0 z e)

-- ---- P9

pub p9-says : context_from (pad 255 (symbols_of p9.rows)) (pad 255 (counts_of p9.rows)) (pad 1020 (arguments_of p9.rows)) 6
    (pad 510 (map kind_of p9.statements)) (pad 510 (map first_of p9.statements)) (pad 510 (map second_of p9.statements)) 2
    ≡ p9
unfolding context_from rows_from statements_from statement_of pad fours
p9-says = refl

p9-ordered : Ordered p9.rows
p9-ordered zero h = tt
p9-ordered (suc zero) h = (omega arith, tt)
p9-ordered (suc (suc zero)) h = (omega arith, tt)
p9-ordered (suc (suc (suc zero))) h = (omega arith, tt)
p9-ordered (suc (suc (suc (suc zero)))) h = (omega arith, tt)
p9-ordered (suc (suc (suc (suc (suc zero))))) h = (omega arith, tt)
p9-ordered (suc (suc (suc (suc (suc (suc i)))))) h = absurd (omega arith)

p9-within : Within 6 (equations p9)
unfolding equations_of
p9-within zero h = (omega arith, omega arith)
p9-within (suc zero) h = (omega arith, omega arith)
p9-within (suc (suc k)) h = absurd (omega arith)

p9-counts : (i : ℕ) → i < 6 → get_or (pad 255 (counts_of p9.rows)) i 0 ≤ 4
unfolding pad
p9-counts zero h = omega arith
p9-counts (suc zero) h = omega arith
p9-counts (suc (suc zero)) h = omega arith
p9-counts (suc (suc (suc zero))) h = omega arith
p9-counts (suc (suc (suc (suc zero)))) h = omega arith
p9-counts (suc (suc (suc (suc (suc zero))))) h = omega arith
p9-counts (suc (suc (suc (suc (suc (suc i)))))) h = absurd (omega arith)

pub p9-fits : FitIn p9
unfolding differences_of
p9-fits =
    record {
      rows_few = omega arith;
      statements-few = omega arith;
      counts-few = p9-counts;
      fit = rw p9-says (record { ordered = p9-ordered; within = p9-within; apart = λ k h. absurd (omega arith) });
    }

-- f applied i times
abbrev t9 : ℕ → Term
t9 i = term_at p9.rows i

abbrev Eq9 : Term → Term → Type 0
Eq9 = EqualIn p9

third : Eq9 (t9 3) (t9 0)
unfolding equations_of
third = given (0, omega arith, refl, refl)

fifth : Eq9 (t9 5) (t9 0)
unfolding equations_of
fifth = given (1, omega arith, refl, refl)

under : {s t : Term} → Eq9 s t → Eq9 (node 1 (more s stop)) (node 1 (more t stop))
under e = congruent (same_more e same_stop)

second : Eq9 (t9 2) (t9 0)
unfolding terms grow pick
second = transitive (symmetric (under (under third))) fifth

once : Eq9 (t9 1) (t9 0)
unfolding terms grow pick
once = transitive (symmetric (under second)) third

fourth : Eq9 (t9 4) (t9 0)
unfolding terms grow pick
fourth = transitive (under third) once

pub p9-equal : (i : ℕ) → i < 6 → EqualIn p9 (term_at p9.rows i) (term_at p9.rows 0)
p9-equal zero h = reflexive
p9-equal (suc zero) h = once
p9-equal (suc (suc zero)) h = second
p9-equal (suc (suc (suc zero))) h = third
p9-equal (suc (suc (suc (suc zero)))) h = fourth
p9-equal (suc (suc (suc (suc (suc zero))))) h = fifth
p9-equal (suc (suc (suc (suc (suc (suc i)))))) h = absurd (omega arith)

pub p9-zero : (x : Answer) (t : List ℕ) → ClosesIn p9 x t → (x ≡ Closed) × ((i : ℕ) → i < 6 → rep_at t i ≡ 0)
p9-zero x t c =
    let w = closes-fit _ _ _ _ _ _ _ _ x t p9-fits c in
    (w.0, λ i h. lowest-zero p9 255 t (rw p9-says at w.1) i h (omega arith) (p9-equal i h))

-- ---- P10

p10-says : context_from (pad 255 (symbols_of p10.rows)) (pad 255 (counts_of p10.rows)) (pad 1020 (arguments_of p10.rows)) 2
    (pad 510 (map kind_of p10.statements)) (pad 510 (map first_of p10.statements)) (pad 510 (map second_of p10.statements)) 0
    ≡ p10
unfolding context_from rows_from statements_from pad fours
p10-says = refl

p10-ordered : Ordered p10.rows
p10-ordered zero h = tt
p10-ordered (suc zero) h = tt
p10-ordered (suc (suc i)) h = absurd (omega arith)

p10-counts : (i : ℕ) → i < 2 → get_or (pad 255 (counts_of p10.rows)) i 0 ≤ 4
unfolding pad
p10-counts zero h = omega arith
p10-counts (suc zero) h = omega arith
p10-counts (suc (suc i)) h = absurd (omega arith)

p10-fits : FitIn p10
unfolding equations_of differences_of
p10-fits =
    record {
      rows_few = omega arith;
      statements-few = omega arith;
      counts-few = p10-counts;
      fit = rw p10-says (record { ordered = p10-ordered; within = λ k h. absurd (omega arith); apart = λ k h. absurd (omega arith) });
    }

p10-equal : (i : ℕ) → i < 2 → EqualIn p10 (term_at p10.rows i) (term_at p10.rows 0)
unfolding terms grow pick
p10-equal zero h = reflexive
p10-equal (suc zero) h = reflexive
p10-equal (suc (suc i)) h = absurd (omega arith)

pub p10-zero : (x : Answer) (t : List ℕ) → ClosesIn p10 x t → (x ≡ Closed) × ((i : ℕ) → i < 2 → rep_at t i ≡ 0)
p10-zero x t c =
    let w = closes-fit _ _ _ _ _ _ _ _ x t p10-fits c in
    (w.0, λ i h. lowest-zero p10 255 t (rw p10-says at w.1) i h (omega arith) (p10-equal i h))
