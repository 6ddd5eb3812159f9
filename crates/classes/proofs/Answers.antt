-- The contracts of the public functions determine their answers.
--     closes-one, clash-one, apart-one   two answers of `close`, of `clash` or of `apart` that meet one contract are equal
--     closes-fit                         fit runs are closed
--     closes-promise                     any table that another closing promises for the same context is the same table
--     widths-agree                       tables of two widths for one context agree place for place
--     clash-small                        a clash's number is below the number of statements
-- Assumes nothing.
use mathlib.Core.Bool.{Bool, true, false}
use mathlib.Core.List.{List, [], ◌∷◌}
use mathlib.Core.Path.{◌≡◌, refl, ap, ap₂, sym, ◌∙◌, subst}
use Prim.Native.Nat.{ℕ, zero, suc, ◌+◌, ◌≤◌, ◌<◌}
use native.Mathlib.Omega.{arith}
use lib.Dec.{eqb, ltb}
use borrow.Author.Tests.{ltb-true, ltb-false}
use lib.ListN.{length, length-append}
use lib.Seq.{ext_get_or}
use Rattle.meaning.specs.Context.{Context, differences_of}
use Rattle.meaning.specs.Equality.{rep_at, Promise}
use Rattle.meaning.specs.ByTable.{Clashing, first, clash_from, clash_of}
use Rattle.meaning.proofs.Promised.{representatives-one, promise-one}
use Rattle.classes.specs.declared.Answer.{Answer}
use Rattle.classes.specs.declared.Answer.TheVariants.{Closed, Unfit}
use Rattle.classes.specs.declared.Classes.{Classes}
use Rattle.std.specs.Prelude.{Option, Some, None}
use Rattle.runs.specs.Runs.{said_count, statements_of, context_of}
use Rattle.runs.specs.Fit.{FitContext}
use Rattle.classes.specs.Claims.{Own, Closes, clashing}
use Rattle.classes.proofs.Pairs.{pair_at, kept, pairs_from, is_difference, differences-are}

own-one : (w : ℕ) (t u : List ℕ) → Own w t → Own w u → t ≡ u
own-one w t u o p = ext_get_or 0 t u (o.long ∙ sym p.long) (λ i h. o.own i (omega (arith, o.long)) ∙ sym (p.own i (omega (arith, o.long))))

module _ (w m : ℕ) (rows said : List ℕ) where
  same_parts : (a b : Answer) (t u : List ℕ) → Closes w m rows said a t → Closes w m rows said b u → (a ≡ b) × (t ≡ u)
  same_parts Closed Closed t u p q = (refl, promise-one (context_of rows said) w t u p.1 q.1)
  same_parts Closed Unfit t u p q = absurd (q.0 p.0)
  same_parts Unfit Closed t u p q = absurd (p.0 q.0)
  same_parts Unfit Unfit t u p q = (refl, own-one w t u p.1 q.1)

  pub closes-one : (r s : Classes) → Closes w m rows said r.answer r.table → Closes w m rows said s.answer s.table → r ≡ s
  closes-one r s p q =
      let e : (r.answer ≡ s.answer) × (r.table ≡ s.table) = same_parts r.answer s.answer r.table s.table p q in
      ap₂ (λ (a : Answer) (t : List ℕ). record { answer = a; table = t }) e.0 e.1

  pub closes-fit : (a : Answer) (t : List ℕ) → FitContext w m rows said → Closes w m rows said a t → (a ≡ Closed) × Promise (context_of rows said) w t
  closes-fit Closed t f p = (refl, p.1)
  closes-fit Unfit t f p = absurd (p.0 f)

  pub closes-promise : (c : Context) (t u : List ℕ) → Closes w m rows said Closed t → context_of rows said ≡ c → Promise c w u → t ≡ u
  closes-promise c t u p e q = promise-one c w t u (subst (λ (x : Context). Promise x w t) e p.1) q

pub widths-agree : (w v : ℕ) (c : Context) (t u : List ℕ) → Promise c w t → Promise c v u → (i : ℕ) → i < w → i < v → rep_at t i ≡ rep_at u i
widths-agree w v c t u p q i h l = go (ltb i (length c.rows)) refl
  where
    go : (b : Bool) → ltb i (length c.rows) ≡ b → rep_at t i ≡ rep_at u i
    go true e = representatives-one c (rep_at t) (rep_at u) p.rows q.rows i (ltb-true i (length c.rows) e)
    go false e = p.others i (ltb-false i (length c.rows) e) h ∙ sym (q.others i (ltb-false i (length c.rows) e) l)

pub clash-one : (r s : Option ℕ) (x : Clashing) → clashing r ≡ x → clashing s ≡ x → r ≡ s
clash-one (Some n) (Some k) x p q = cc
clash-one (Some n) None x p q = absurd (let z : ◌≡◌ {A = ℕ} 0 1 = cc in omega arith)
clash-one None (Some k) x p q = absurd (let z : ◌≡◌ {A = ℕ} 0 1 = cc in omega arith)
clash-one None None x p q = refl

pub apart-one : (r s x : Bool) → r ≡ x → s ≡ x → r ≡ s
apart-one r s x p q = p ∙ sym q

-- ---- how high a clash's number is

from-small : (rep : ℕ → ℕ) (i n : ℕ) (ds : List (ℕ × ℕ)) → clash_from rep i ds ≡ first n → n < i + length ds
unfolding clash_from
from-small rep i n [] e = absurd (let z : ◌≡◌ {A = ℕ} 0 1 = cc in omega arith)
from-small rep i n (d ∷ ds) e = go (eqb (rep d.0) (rep d.1)) refl (from-small rep (suc i) n ds)
  where
    go : (b : Bool) → eqb (rep d.0) (rep d.1) ≡ b → (clash_from rep (suc i) ds ≡ first n → n < suc i + length ds) → n < i + suc (length ds)
    go true q ih = let y : first i ≡ first n = sym (rw (q, clash_from)) ∙ e in let z : i ≡ n = cc in omega arith
    go false q ih = omega (arith, ih (sym (rw (q, clash_from)) ∙ e))

few-pairs : (keep : ℕ → Bool) (said : List ℕ) (m : ℕ) → length (pairs_from keep said m) ≤ m
unfolding pairs_from
few-pairs keep said zero = omega arith
few-pairs keep said (suc m) = omega (arith, few-pairs keep said m, length-append (pairs_from keep said m) (kept (keep m) (pair_at said m)), one (keep m))
  where
    one : (b : Bool) → length (kept b (pair_at said m)) ≤ 1
    one true = omega arith
    one false = omega arith

pub clash-small : (rep : ℕ → ℕ) (said : List ℕ) (n : ℕ) → clash_of rep (differences_of (statements_of said)) ≡ first n → n < said_count said
unfolding clash_of
clash-small rep said n e =
    omega (arith, from-small rep 0 n (differences_of (statements_of said)) e, ap length (differences-are said), few-pairs (is_difference said) said (said_count said))
