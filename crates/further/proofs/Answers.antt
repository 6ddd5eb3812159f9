-- What the answer of closing further says.
--     fit-rows, furthers-closed   fit columns have fit rows; the answer where one can start
--     closes-with-one             two answers that meet one contract are equal
--     marks-of-one                likewise of the marks
--     closes-with-promise         from a context's table, for two of its rows, it is the table of the context with their equation
-- Assumes nothing.
use mathlib.Core.Bool.{Bool, true, false}
use mathlib.Core.List.{List}
use mathlib.Core.Path.{◌≡◌, refl, ap, ap₂, sym, ◌∙◌, subst}
use Prim.Native.Nat.{ℕ, ◌<◌}
use native.Mathlib.Omega.{arith}
use lib.Seq.{ext_get_or}
use Rattle.meaning.specs.Equality.{Promise}
use Rattle.meaning.specs.ByTable.{same_list}
use Rattle.meaning.specs.Columns.{rows_from, context_from}
use Rattle.meaning.specs.Following.{with_equation}
use Rattle.meaning.proofs.Logic.{false-true}
use Rattle.meaning.proofs.Lists.{same_list-true, same_list-self}
use Rattle.meaning.proofs.Promised.{promise-one}
use Rattle.meaning.proofs.Built.{length-rows}
use Rattle.columns.specs.Fit.{Laid, FitContext}
use Rattle.closing.specs.declared.Answer.{Answer}
use Rattle.closing.specs.declared.Answer.TheVariants.{Closed, Unfit}
use Rattle.closing.specs.declared.Classes.{Classes}
use Rattle.further.specs.Claims.{Startable, standing_in, FitRows, Furthers, ClosesWith}
use Rattle.further.specs.Marks.{MarksOf}
use Rattle.further.proofs.Standing.{standing-adds, promise-startable}

pub fit-rows : (symbols counts args : List ℕ) (n : ℕ) (kinds lefts rights : List ℕ) (m : ℕ) → FitContext symbols counts args n kinds lefts rights m → Laid counts args n
    → FitRows symbols counts args n
unfolding context_from
fit-rows symbols counts args n kinds lefts rights m f l =
    record { laid = record { long = l.long; room = f.rows_few; few = f.counts-few }; ordered = f.fit.ordered }

module _ (symbols counts args : List ℕ) (n : ℕ) (kinds lefts rights : List ℕ) (m : ℕ) (t : List ℕ) (x y : ℕ) where
  pub furthers-closed : (u : List ℕ) → FitContext symbols counts args n kinds lefts rights m → Startable n t x y
      → Promise (with_equation (standing_in (rows_from symbols counts args n) t) x y) 255 u → Furthers symbols counts args n kinds lefts rights m t x y Closed u
  unfolding context_from
  furthers-closed u f s p = (f, s, record { stands = p; adds = λ q. standing-adds (context_from symbols counts args n kinds lefts rights m) f.fit t q x y u p })

  same_parts : (a b : Answer) (u v : List ℕ) → Furthers symbols counts args n kinds lefts rights m t x y a u
      → Furthers symbols counts args n kinds lefts rights m t x y b v → (a ≡ b) × (u ≡ v)
  same_parts Closed Closed u v p q = (refl, promise-one _ 255 u v p.2.stands q.2.stands)
  same_parts Closed Unfit u v p q = absurd (q.0 p.0 p.1)
  same_parts Unfit Closed u v p q = absurd (p.0 q.0 q.1)
  same_parts Unfit Unfit u v p q = (refl, p.1 ∙ sym q.1)

  pub closes-with-one : (r s : Classes) → ClosesWith symbols counts args n kinds lefts rights m t x y r → ClosesWith symbols counts args n kinds lefts rights m t x y s → r ≡ s
  closes-with-one r s p q =
      let w : (r.answer ≡ s.answer) × (r.table ≡ s.table) = same_parts r.answer s.answer r.table s.table p.so q.so in
      ap₂ (λ (a : Answer) (u : List ℕ). record { answer = a; table = u }) w.0 w.1

  module _ (fit : FitContext symbols counts args n kinds lefts rights m) (p : Promise (context_from symbols counts args n kinds lefts rights m) 255 t) (hx : x < n) (hy : y < n) where
    startable : Startable n t x y
    unfolding context_from
    startable =
        subst (λ (k : ℕ). Startable k t x y) (length-rows symbols counts args n)
        (promise-startable (context_from symbols counts args n kinds lefts rights m) fit.fit t p x y
        (subst (λ (k : ℕ). x < k) (sym (length-rows symbols counts args n)) hx)
        (subst (λ (k : ℕ). y < k) (sym (length-rows symbols counts args n)) hy))

    by_answer : (a : Answer) (u : List ℕ) → Furthers symbols counts args n kinds lefts rights m t x y a u
        → (a ≡ Closed) × Promise (with_equation (context_from symbols counts args n kinds lefts rights m) x y) 255 u
    by_answer Closed u w = (refl, w.2.adds p)
    by_answer Unfit u w = absurd (w.0 fit startable)

    pub closes-with-promise : (r : Classes) → ClosesWith symbols counts args n kinds lefts rights m t x y r
        → (r.answer ≡ Closed) × Promise (with_equation (context_from symbols counts args n kinds lefts rights m) x y) 255 r.table
    closes-with-promise r w = by_answer r.answer r.table w.so

-- ---- marks

module _ (symbols counts args : List ℕ) (n : ℕ) (kinds lefts rights : List ℕ) (m : ℕ) (t u v : List ℕ) (p : MarksOf symbols counts args n kinds lefts rights m t u)
    (q : MarksOf symbols counts args n kinds lefts rights m t v) where
  by-fit : FitContext symbols counts args n kinds lefts rights m → u ≡ v
  by-fit f =
      ext_get_or 0 u v ((p.fit f).long ∙ sym (q.fit f).long)
      (λ i h. (p.fit f).each i (omega (arith, (p.fit f).long)) ∙ sym ((q.fit f).each i (omega (arith, (p.fit f).long))))

  pub marks-of-one : u ≡ v
  marks-of-one = go (same_list u v) refl
    where
      go : (b : Bool) → same_list u v ≡ b → u ≡ v
      go true e = same_list-true u v e
      go false e =
          let differ : u ≡ v → ⊥ = λ s. false-true (ap (same_list u) (sym s) ∙ same_list-self u) e in
          let unfit : FitContext symbols counts args n kinds lefts rights m → ⊥ = λ f. differ (by-fit f) in
          p.unfit unfit ∙ sym (q.unfit unfit)
