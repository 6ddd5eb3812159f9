-- Differences that follow, by equality alone.
--     adding-more, adding-by, adding-equal   what is equal stays equal; one added equation by another; the equation of equal terms adds nothing
--     apart-differ                            what is kept apart differs
--     clash-differ, consistent-differ          where a context contradicts itself all terms differ, and else no two equal ones
--     differ_self                             a term differs from itself just where there is a clash
--     differ-symmetric, differ-respects        it turns round, and goes with equality
--     differ-over                             where what is equal, and what is kept apart, is so in another context, what differs does too
--     with-fit, with-adding                  such a context is well-formed, and makes equal what the added equation does
--     differ-rows                             two rows differ just where the context with their equation contradicts itself
-- Assumes nothing.
use mathlib.Core.List.{◌∷◌}
use mathlib.Core.Path.{refl, subst₂, sym}
use mathlib.Core.Logic.{inl, ⊎_elim, ◌↔◌}
use Prim.Native.Nat.{ℕ, zero, suc, ◌<◌}
use native.Mathlib.Omega.{arith}
use lib.ListN.{length}
use Rattle.meaning.specs.Context.{Term, Context, term_at, equations_of, equations, differences_of, differences, left_at, right_at}
use Rattle.meaning.specs.Equality.{Stated, Equal, EqualIn, ApartIn, Adding, stated, added, EqualAdding, Clash, Consistent, given, reflexive, symmetric, transitive}
use Rattle.meaning.specs.Rules.{Differ}
use Rattle.meaning.specs.Formed.{Fit}
use Rattle.meaning.specs.Following.{with_equation}
use Rattle.meaning.proofs.Pairs.{same-mono}

-- ---- one equation more

pub adding-more : (c : Context) (t u : Term) {p q : Term} → EqualIn c p q → EqualAdding c t u p q
adding-more c t u = same-mono (λ p q g. given (stated g))

-- what an added equation makes equal, another that makes its sides equal does too
pub adding-by : (c : Context) (t u t' u' : Term) → EqualAdding c t' u' t u → {p q : Term} → EqualAdding c t u p q → EqualAdding c t' u' p q
adding-by c t u t' u' e = same-mono each
  where
    each : (p q : Term) → Adding c.rows (equations c) t u p q → EqualAdding c t' u' p q
    each p q (stated g) = given (stated g)
    each p q added = e

pub adding-equal : (c : Context) (t u : Term) → EqualIn c t u → {p q : Term} → EqualAdding c t u p q → EqualIn c p q
adding-equal c t u e = same-mono each
  where
    each : (p q : Term) → Adding c.rows (equations c) t u p q → EqualIn c p q
    each p q (stated g) = given g
    each p q added = e

-- ---- what differs

pub apart-differ : (c : Context) (t u : Term) → ApartIn c t u → Differ c t u
apart-differ c t u a = (
  a.0,
  a.1,
  ⊎_elim
      (λ w. transitive (symmetric (adding-more c t u w.0)) (transitive (given added) (adding-more c t u w.1)))
      (λ w. transitive (symmetric (adding-more c t u w.0)) (transitive (symmetric (given added)) (adding-more c t u w.1)))
      a.2,
)

pub clash-differ : (c : Context) (n : ℕ) → Clash c n → (t u : Term) → Differ c t u
clash-differ c n w t u = (n, w.0, adding-more c t u w.1)

equal-clash : (c : Context) (t u : Term) → EqualIn c t u → Differ c t u → (n : ℕ) × Clash c n
equal-clash c t u e w = (w.0, (w.1, adding-equal c t u e w.2))

pub consistent-differ : (c : Context) → Consistent c → (t u : Term) → EqualIn c t u → Differ c t u → ⊥
consistent-differ c k t u e w = let x : (n : ℕ) × Clash c n = equal-clash c t u e w in k x.0 x.1

pub differ_self : (c : Context) (t : Term) → Differ c t t ↔ ((n : ℕ) × Clash c n)
differ_self c t = (equal-clash c t t reflexive, λ w. clash-differ c w.0 w.1 t t)

differ-by : (c : Context) (t u t' u' : Term) → EqualAdding c t' u' t u → Differ c t u → Differ c t' u'
differ-by c t u t' u' e w = (w.0, w.1, adding-by c t u t' u' e w.2)

pub differ-symmetric : (c : Context) (t u : Term) → Differ c t u → Differ c u t
differ-symmetric c t u = differ-by c t u u t (symmetric (given added))

pub differ-respects : (c : Context) (t t' u u' : Term) → EqualIn c t t' → EqualIn c u u' → Differ c t u → Differ c t' u'
differ-respects c t t' u u' d e =
    differ-by c t u t' u' (transitive (adding-more c t' u' d) (transitive (given added) (symmetric (adding-more c t' u' e))))

pub differ-over : (c d : Context) → ((s t : Term) → EqualIn c s t → EqualIn d s t) → ((s t : Term) → ApartIn c s t → ApartIn d s t)
    → (t u : Term) → Differ c t u → Differ d t u
differ-over c d equals aparts t u w = (
  a.0,
  a.1,
  ⊎_elim
      (λ x. transitive (symmetric (adding-more d t u x.0)) (transitive sides (adding-more d t u x.1)))
      (λ x. transitive (symmetric (adding-more d t u x.0)) (transitive (symmetric sides) (adding-more d t u x.1)))
      a.2,
)
  where
    each : (p q : Term) → Adding c.rows (equations c) t u p q → EqualAdding d t u p q
    each p q (stated g) = adding-more d t u (equals p q (given g))
    each p q added = given added

    left : Term
    left = term_at c.rows (left_at (differences c) w.0)

    right : Term
    right = term_at c.rows (right_at (differences c) w.0)

    sides : EqualAdding d t u left right
    sides = same-mono each w.2

    a : ApartIn d left right
    a = aparts left right (w.0, w.1, inl (reflexive, reflexive))

-- ---- two rows, and the context that states their equation

pub with-fit : (c : Context) → Fit c → (i j : ℕ) → i < length c.rows → j < length c.rows → Fit (with_equation c i j)
unfolding equations_of differences_of
with-fit c fit i j hi hj = record { ordered = fit.ordered; within = each; apart = fit.apart }
  where
    each : (k : ℕ) → k < suc (length (equations c)) → (left_at ((i, j) ∷ equations c) k < length c.rows) × (right_at ((i, j) ∷ equations c) k < length c.rows)
    each zero h = (hi, hj)
    each (suc k) h = fit.within k (omega arith)

-- by row numbers and by terms
pub with-adding : (c : Context) (i j : ℕ) (p q : Term) → EqualIn (with_equation c i j) p q ↔ EqualAdding c (term_at c.rows i) (term_at c.rows j) p q
unfolding equations_of
with-adding c i j p q = (same-mono to, same-mono back)
  where
    to : (s t : Term) → Stated c.rows ((i, j) ∷ equations c) s t → EqualAdding c (term_at c.rows i) (term_at c.rows j) s t
    to s t (zero, h, e, f) = subst₂ (EqualAdding c (term_at c.rows i) (term_at c.rows j)) (sym e) (sym f) (given added)
    to s t (suc k, h, e, f) = given (stated (k, omega arith, e, f))

    back : (s t : Term) → Adding c.rows (equations c) (term_at c.rows i) (term_at c.rows j) s t → Equal c.rows ((i, j) ∷ equations c) s t
    back s t (stated g) = given (suc g.0, omega (arith, g.1), g.2, g.3)
    back s t added = given (0, omega arith, refl, refl)

pub differ-rows : (c : Context) (i j : ℕ)
    → Differ c (term_at c.rows i) (term_at c.rows j) ↔ ((n : ℕ) × Clash (with_equation c i j) n)
unfolding differences_of
differ-rows c i j = (λ w. (w.0, (w.1, (with-adding c i j _ _).1 w.2)), λ w. (w.0, w.1.0, (with-adding c i j _ _).0 w.1.1))
