-- The contract of `close` on small contexts of the sheet.
--     p9-zero     rows a, f(a) .. f applied five times; rows 3 and 5 stated equal to row 0: each of the six places holds 0
--     p10-zero    the constant a twice: both places hold 0
-- Assumes nothing.
use mathlib.Core.List.{List, [], ◌∷◌}
use mathlib.Core.Path.{◌≡◌, refl}
use Prim.Native.Nat.{ℕ, zero, suc, ◌≤◌, ◌<◌}
use native.Mathlib.Omega.{arith}
use lib.ListN.{length}
use Rattle.meaning.specs.Context.{Row, Context, same, Term, node, stop, more, pick, grow, terms, term_at, equations_of, equations, differences_of}
use Rattle.meaning.specs.Equality.{EqualIn, given, reflexive, symmetric, transitive, congruent, same_stop, same_more, rep_at, Promise}
use Rattle.meaning.specs.Formed.{Ordered, Within}
use Rattle.meaning.specs.Columns.{statement_of}
use Rattle.runs.specs.Limits.{most_rows, most_statements}
use Rattle.runs.specs.Runs.{count_in, each, rows_of, statements_of, context_of}
use Rattle.runs.specs.Fit.{FitContext}
use Rattle.classes.specs.declared.Answer.{Answer}
use Rattle.classes.specs.declared.Answer.TheVariants.{Closed}
use Rattle.classes.specs.Claims.{Closes}
use Rattle.classes.proofs.Answers.{closes-fit}

abbrev f : ℕ → Row
f i = record { symbol = 1; args = i ∷ [] }

abbrev a : Row
a = record { symbol = 0; args = [] }

lowest-zero : (c : Context) (n : ℕ) (t : List ℕ) → Promise c n t → (i : ℕ) → i < length c.rows → 0 < length c.rows
    → EqualIn c (term_at c.rows i) (term_at c.rows 0) → rep_at t i ≡ 0
lowest-zero c n t p i h z e = omega (arith, (p.rows i h).least 0 z e)

-- ---- P9

abbrev pub p9 : Context
p9 = record { rows = a ∷ f 0 ∷ f 1 ∷ f 2 ∷ f 3 ∷ f 4 ∷ []; statements = same 3 0 ∷ same 5 0 ∷ [] }

-- its runs
abbrev rows9 : List ℕ
rows9 = 0 ∷ 0 ∷ 0 ∷ 0 ∷ 0 ∷ 0
    ∷ 1 ∷ 1 ∷ 0 ∷ 0 ∷ 0 ∷ 0
    ∷ 1 ∷ 1 ∷ 1 ∷ 0 ∷ 0 ∷ 0
    ∷ 1 ∷ 1 ∷ 2 ∷ 0 ∷ 0 ∷ 0
    ∷ 1 ∷ 1 ∷ 3 ∷ 0 ∷ 0 ∷ 0
    ∷ 1 ∷ 1 ∷ 4 ∷ 0 ∷ 0 ∷ 0
    ∷ []

abbrev said9 : List ℕ
said9 = 2 ∷ 3 ∷ 0 ∷ 2 ∷ 5 ∷ 0 ∷ []

abbrev pub Closes9 : Answer → List ℕ → Type 0
Closes9 x t = Closes most_rows most_statements rows9 said9 x t

pub p9-says : context_of rows9 said9 ≡ p9
unfolding rows_of statements_of statement_of each
p9-says = refl

p9-ordered : Ordered p9.rows
p9-ordered zero h = tt
p9-ordered (suc zero) h = (omega arith, tt)
p9-ordered (suc (suc zero)) h = (omega arith, tt)
p9-ordered (suc (suc (suc zero))) h = (omega arith, tt)
p9-ordered (suc (suc (suc (suc zero)))) h = (omega arith, tt)
p9-ordered (suc (suc (suc (suc (suc zero))))) h = (omega arith, tt)
p9-ordered (suc (suc (suc (suc (suc (suc i)))))) h = absurd (omega arith)

p9-within : Within 6 (equations p9)
unfolding equations_of
p9-within zero h = (omega arith, omega arith)
p9-within (suc zero) h = (omega arith, omega arith)
p9-within (suc (suc k)) h = absurd (omega arith)

p9-counts : (i : ℕ) → i < 6 → count_in rows9 i ≤ 4
p9-counts zero h = omega arith
p9-counts (suc zero) h = omega arith
p9-counts (suc (suc zero)) h = omega arith
p9-counts (suc (suc (suc zero))) h = omega arith
p9-counts (suc (suc (suc (suc zero)))) h = omega arith
p9-counts (suc (suc (suc (suc (suc zero))))) h = omega arith
p9-counts (suc (suc (suc (suc (suc (suc i)))))) h = absurd (omega arith)

pub p9-fits : FitContext most_rows most_statements rows9 said9
unfolding differences_of
p9-fits =
    record {
      rows_few = omega arith;
      said-few = omega arith;
      counts-few = p9-counts;
      fit = rw p9-says (record { ordered = p9-ordered; within = p9-within; apart = λ k h. absurd (omega arith) });
    }

-- f applied i times
abbrev t9 : ℕ → Term
t9 i = term_at p9.rows i

abbrev Eq9 : Term → Term → Type 0
Eq9 = EqualIn p9

third : Eq9 (t9 3) (t9 0)
unfolding equations_of
third = given (0, omega arith, refl, refl)

fifth : Eq9 (t9 5) (t9 0)
unfolding equations_of
fifth = given (1, omega arith, refl, refl)

under : {s t : Term} → Eq9 s t → Eq9 (node 1 (more s stop)) (node 1 (more t stop))
under e = congruent (same_more e same_stop)

second : Eq9 (t9 2) (t9 0)
unfolding terms grow pick
second = transitive (symmetric (under (under third))) fifth

once : Eq9 (t9 1) (t9 0)
unfolding terms grow pick
once = transitive (symmetric (under second)) third

fourth : Eq9 (t9 4) (t9 0)
unfolding terms grow pick
fourth = transitive (under third) once

pub p9-equal : (i : ℕ) → i < 6 → EqualIn p9 (term_at p9.rows i) (term_at p9.rows 0)
p9-equal zero h = reflexive
p9-equal (suc zero) h = once
p9-equal (suc (suc zero)) h = second
p9-equal (suc (suc (suc zero))) h = third
p9-equal (suc (suc (suc (suc zero)))) h = fourth
p9-equal (suc (suc (suc (suc (suc zero))))) h = fifth
p9-equal (suc (suc (suc (suc (suc (suc i)))))) h = absurd (omega arith)

pub p9-zero : (x : Answer) (t : List ℕ) → Closes9 x t → (x ≡ Closed) × ((i : ℕ) → i < 6 → rep_at t i ≡ 0)
p9-zero x t c =
    let w = closes-fit most_rows most_statements rows9 said9 x t p9-fits c in
    (w.0, λ i h. lowest-zero p9 most_rows t (rw p9-says at w.1) i h (omega arith) (p9-equal i h))

-- ---- P10

abbrev p10 : Context
p10 = record { rows = a ∷ a ∷ []; statements = [] }

abbrev rows10 : List ℕ
rows10 = 0 ∷ 0 ∷ 0 ∷ 0 ∷ 0 ∷ 0
    ∷ 0 ∷ 0 ∷ 0 ∷ 0 ∷ 0 ∷ 0
    ∷ []

p10-says : context_of rows10 [] ≡ p10
unfolding rows_of statements_of each
p10-says = refl

p10-ordered : Ordered p10.rows
p10-ordered zero h = tt
p10-ordered (suc zero) h = tt
p10-ordered (suc (suc i)) h = absurd (omega arith)

p10-counts : (i : ℕ) → i < 2 → count_in rows10 i ≤ 4
p10-counts zero h = omega arith
p10-counts (suc zero) h = omega arith
p10-counts (suc (suc i)) h = absurd (omega arith)

p10-fits : FitContext most_rows most_statements rows10 []
unfolding equations_of differences_of
p10-fits =
    record {
      rows_few = omega arith;
      said-few = omega arith;
      counts-few = p10-counts;
      fit = rw p10-says (record { ordered = p10-ordered; within = λ k h. absurd (omega arith); apart = λ k h. absurd (omega arith) });
    }

p10-equal : (i : ℕ) → i < 2 → EqualIn p10 (term_at p10.rows i) (term_at p10.rows 0)
unfolding terms grow pick
p10-equal zero h = reflexive
p10-equal (suc zero) h = reflexive
p10-equal (suc (suc i)) h = absurd (omega arith)

pub p10-zero : (x : Answer) (t : List ℕ) → Closes most_rows most_statements rows10 [] x t → (x ≡ Closed) × ((i : ℕ) → i < 2 → rep_at t i ≡ 0)
p10-zero x t c =
    let w = closes-fit most_rows most_statements rows10 [] x t p10-fits c in
    (w.0, λ i h. lowest-zero p10 most_rows t (rw p10-says at w.1) i h (omega arith) (p10-equal i h))
